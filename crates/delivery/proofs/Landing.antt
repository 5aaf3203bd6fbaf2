-- An arrival at which nothing is refused: each piece that the packet says is taken, or ignored as old or held. Assumes nothing.
use Prim.Native.Nat.{ℕ, ◌≤◌}
use mathlib.Core.Path.{◌≡◌, refl, sym, ap, ◌∙◌, subst}
use mathlib.Core.Bool.{Bool, false}
use mathlib.Core.List.{List, [], ◌∷◌, map}
use mathlib.Core.Logic.{◌⊎◌, inl, inr}
use mathlib.Core.Option.{Option, some}
use native.Mathlib.Omega.{arith}
use lib.ListN.{length, get_elem?, length-append}
use Rattle.words.specs.Choice.{pick}
use Rattle.words.specs.Lists.{reached}
use Rattle.words.proofs.Tables.{by-test}
use Rattle.octets.specs.Reader.{Res, ok, fault}
use Rattle.packet.specs.Packet as reader
use Rattle.receive_reliable.specs.Receive as r
use Rattle.delivery.specs.World.{Bytes, Part, whole, piece, Handed, message, slice, Receiving, World, new, handed, read_with, fault_of, noting, receives, took_now, ignored_now, refused_now, arriving, arrives, step}
use Rattle.delivery.specs.Window.{In, here, there, parts_said}
use Rattle.delivery.specs.Statements.{after, Arrived, Landing}
use Rattle.delivery.proofs.Lists.{in_left, in_right}
use Rattle.delivery.proofs.Read.{part_handed}
use Rattle.delivery.proofs.Good.{WireHas, Good, wire-at, new-good, run-good}
use Rattle.delivery.proofs.Logged.{all-took}

-- ---- the logs grow

ignored-more : (o : r.Outcome) (p x : Part) (ps : List Part) → In p ps → In p (ignored_now o x ps)
ignored-more r.taken p x ps h = h
ignored-more r.ignored p x ps h = in_left (x ∷ []) h
ignored-more (r.refused e) p x ps h = h

receives-ignored : (e : Receiving) (x : Handed) (p : Part) → In p e.ignored → In p (receives e x).ignored
unfolding receives
receives-ignored e (message id bs) p h = ignored-more (r.message_answer_of (r.message_spot e.state id (length bs) (length e.small) (length e.lanes))) p (whole id) e.ignored h
receives-ignored e (slice id num i bs) p h = ignored-more (r.slice_answer_of (r.slice_spot e.state id num i (length bs) (length e.small) (length e.lanes))) p (piece id i) e.ignored h

all-ignored : (xs : List Handed) (e : Receiving) (p : Part) → In p e.ignored → In p (reached receives e xs).ignored
unfolding reached
all-ignored [] e p h = h
all-ignored (x ∷ xs) e p h = all-ignored xs (receives e x) p (receives-ignored e x p h)

-- ---- an answer: the piece is in a log, or the refusals are one more

abbrev pub Landed : Part → Receiving → Type 0
Landed p e = In p e.took ⊎ In p e.ignored

answered : (o : r.Outcome) (p : Part) (took ignored : List Part) (refused : List ℕ)
    → (length refused ≤ length (refused_now o refused)) × (length (refused_now o refused) ≤ length refused → In p (took_now o p took) ⊎ In p (ignored_now o p ignored))
answered r.taken p took ignored refused = (omega arith, λ _. inl (in_right took (here refl)))
answered r.ignored p took ignored refused = (omega arith, λ _. inr (in_right ignored (here refl)))
answered (r.refused n) p took ignored refused =
    let z = length-append refused (n ∷ []) in (omega arith, λ h. absurd (omega arith))

one-landed : (e : Receiving) (x : Handed) → (length e.refused ≤ length (receives e x).refused) × (length (receives e x).refused ≤ length e.refused → Landed (part_handed x) (receives e x))
unfolding receives
one-landed e (message id bs) = answered (r.message_answer_of (r.message_spot e.state id (length bs) (length e.small) (length e.lanes))) (whole id) e.took e.ignored e.refused
one-landed e (slice id num i bs) = answered (r.slice_answer_of (r.slice_spot e.state id num i (length bs) (length e.small) (length e.lanes))) (piece id i) e.took e.ignored e.refused

refusals-grow : (xs : List Handed) (e : Receiving) → length e.refused ≤ length (reached receives e xs).refused
unfolding reached
refusals-grow [] e = omega arith
refusals-grow (x ∷ xs) e = let a = (one-landed e x).0 in let b = refusals-grow xs (receives e x) in omega arith

pub landed-on : (xs : List Handed) (e : Receiving) (p : Part) → Landed p e → Landed p (reached receives e xs)
landed-on xs e p (inl h) = inl (all-took xs e p h)
landed-on xs e p (inr h) = inr (all-ignored xs e p h)

all-landed : (xs : List Handed) (e : Receiving) → length (reached receives e xs).refused ≤ length e.refused → (p : Part) → In p (map part_handed xs) → Landed p (reached receives e xs)
unfolding reached
all-landed [] e h p x'' = elim x'' [ ]
all-landed (x ∷ xs) e h p (here q) =
    let a = refusals-grow xs (receives e x) in
    landed-on xs (receives e x) p (subst (λ (y : Part). Landed y (receives e x)) (sym q) ((one-landed e x).1 (omega arith)))
all-landed (x ∷ xs) e h p (there i) = let a = (one-landed e x).0 in all-landed xs (receives e x) (omega arith) p i

-- ---- a packet that was read

fault-noted : (bs : Bytes) (ms rs : List ℕ) (p : reader.Packet) (used : ℕ) → reader.packet bs 0 ≡ ok p used → reader.holds p (length ms) (length rs) ≡ false → fault_of (read_with bs ms rs) ≡ 11 ∷ []
unfolding reader.judged
fault-noted bs ms rs p used e t =
    ap (λ (x : Res reader.Packet). fault_of (reader.judged x (length ms) (length rs))) e ∙ ap (λ (b : Bool). fault_of (pick b (ok p used) (fault 11))) t

arrive-landed : (bs : Bytes) (ms rs : List ℕ) (w : World) → WireHas w.queued bs → (arriving (some bs) ms rs w).receiver.refused ≡ w.receiver.refused
    → Arrived (parts_said (reader.packet bs 0)) (arriving (some bs) ms rs w)
unfolding arriving
arrive-landed bs ms rs w h same p i =
    let e = noting (fault_of (read_with bs ms rs)) w.receiver in
    let g = refusals-grow (handed bs ms rs) e in
    let n = length-append w.receiver.refused (fault_of (read_with bs ms rs)) in
    let k = ap length same in
    by-test (reader.holds h.back.packet-read (length ms) (length rs))
    (λ t. all-landed (handed bs ms rs) e (omega arith) p (rw (h.back.hands ms rs t) (rw h.back.parts at i)))
    (λ t. let z = ap length (fault-noted bs ms rs h.back.packet-read h.back.used h.back.reads t) in absurd (omega arith))

pub land-good : (w : World) → Good w → (k : ℕ) (ms rs : List ℕ) (bs : Bytes) → get_elem? w.wire k ≡ some bs
    → (step (arrives k ms rs) w).receiver.refused ≡ w.receiver.refused → Arrived (parts_said (reader.packet bs 0)) (step (arrives k ms rs) w)
unfolding step
land-good w g k ms rs bs e same =
    subst (λ (o : Option Bytes). Arrived (parts_said (reader.packet bs 0)) (arriving o ms rs w)) (sym e)
    (arrive-landed bs ms rs w (wire-at w.queued w.wire k e g.wire) (subst (λ (o : Option Bytes). (arriving o ms rs w).receiver.refused ≡ w.receiver.refused) e same))

pub landing : Landing
landing u a past k ms rs bs e same = land-good (after u past) (run-good past (new u) (new-good u a)) k ms rs bs e same
