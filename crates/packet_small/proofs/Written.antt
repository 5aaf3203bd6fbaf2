-- What is written is a spelling, where varints can say its numbers; and they can, where the writer doesn't refuse. Assumes nothing.
use Prim.Native.Nat.{ℕ, ◌+◌, ◌*◌, ◌≤◌, ◌<◌}
use mathlib.Core.Path.{◌≡◌, refl, sym, subst}
use mathlib.Core.Bool.{Bool, true, false, not}
use mathlib.Core.List.{List, [], ◌∷◌, map}
use native.Mathlib.Omega.{arith}
use borrow.Author.Tests.{ltb-false, leb-false, eqb-true, not-false}
use lib.Dec.{eqb, ltb, leb}
use lib.ListN.{length, length-take}
use Rattle.words.specs.Sizes.{LIMIT, MAX_MESSAGES}
use Rattle.words.specs.Choice.{pick}
use Rattle.words.specs.Lists.{All, all}
use Rattle.words.proofs.Lists.{none-refused}
use Rattle.octets.specs.Varint.{run_bytes}
use Rattle.octets.specs.Writer.{done, refused, outcome}
use Rattle.octets.proofs.Forms.{var-spelt, run-spelt}
use Rattle.packet_small.specs.Small.{Message, RECORD}
use Rattle.packet_small.specs.Write.{Said, message_bytes, messages_bytes, listed, said_of, stored, sayable, small_of, small_refusal, put_small_of}
use Rattle.packet_small.specs.Layout.{MessageSpelt, with-id, without-id, MessagesSpelt, none_left, one_more}
use Rattle.packet_small.specs.Laws.{Sayable}
use Rattle.packet_small.proofs.Wrote.{first_of, sayable-parts}
use Rattle.packet_small.proofs.Encode.{named}

message-spelt : (ids : Bool) (m : Said) → Sayable ids m → MessageSpelt ids m (message_bytes ids m)
unfolding message_bytes
message-spelt true m h = with-id (var-spelt m.id h.0) (run-spelt m.bytes h.1)
message-spelt false m h =
    subst (λ (x : ℕ). MessageSpelt false (record { id = x; bytes = m.bytes }) (run_bytes m.bytes)) (sym h.0) (without-id (run-spelt m.bytes h.1))

pub messages-spelt : (ids : Bool) (ms : List Said) → All (Sayable ids) ms → MessagesSpelt ids ms (messages_bytes ids ms)
unfolding messages_bytes All
messages-spelt ids [] h = none_left
messages-spelt ids (m ∷ ms) h = one_more (message-spelt ids m h.0) (messages-spelt ids ms h.1)

-- ---- what the writer doesn't refuse

said-sayable : (ids : Bool) (src : List ℕ) (e : Message) → sayable ids e ≡ true → Sayable ids (said_of ids src e)
said-sayable true src e h = let p = sayable-parts true e h in (p.0, simp length-take (omega arith))
said-sayable false src e h = let p = sayable-parts false e h in (refl, simp length-take (omega arith))

all-said-sayable : (ids : Bool) (src : List ℕ) (es : List Message) → all (sayable ids) es ≡ true → All (Sayable ids) (map (said_of ids src) es)
unfolding All
all-said-sayable ids src [] h = tt
all-said-sayable ids src (e ∷ es) h =
    let p = first_of (sayable ids) e es h in (said-sayable ids src e p.0, all-said-sayable ids src es p.1)

outcome-done : (e k : ℕ) {next : ℕ} → outcome e k ≡ done next → (e ≡ 0) × (k ≡ next)
outcome-done e k {next} h = go (eqb e 0) refl h
  where
    go : (t : Bool) → eqb e 0 ≡ t → pick t (done k) (refused e) ≡ done next → (e ≡ 0) × (k ≡ next)
    go true q h = (eqb-true e 0 q, cc)
    go false q h = let z : ◌≡◌ {A = ℕ} 0 1 = cc in absurd (omega arith)

pub record Accepts (ids : Bool) (seq channel : ℕ) (t : List ℕ) (n : ℕ) (src : List ℕ) (at m next : ℕ) : Type 0 where
  pub sequence : seq < LIMIT
  pub count : length (map (said_of ids src) (listed t 0 n)) ≤ MAX_MESSAGES
  pub messages : All (Sayable ids) (map (said_of ids src) (listed t 0 n))
  pub room : at + length (small_of ids seq channel t n src) ≤ m
  pub end : next ≡ at + length (small_of ids seq channel t n src)

pub accepts : (ids : Bool) (seq channel : ℕ) (t : List ℕ) (n : ℕ) (src : List ℕ) (at m : ℕ) {next : ℕ} → put_small_of ids seq channel t n src at m ≡ done next
    → Accepts ids seq channel t n src at m next
unfolding put_small_of small_refusal All
accepts ids seq channel t n src at m e =
    let said : Bool = all (sayable ids) (listed t 0 n) in
    let next : ℕ = at + length (small_of ids seq channel t n src) in
    let o = outcome-done (small_refusal ids seq channel t n src at m) next e in
    let r = none-refused ((ltb (length t) (RECORD * n), 10) ∷ (not (all (stored (length src)) (listed t 0 n)), 10) ∷ (leb LIMIT seq, 13) ∷ (not said, 13) ∷ (ltb MAX_MESSAGES n, 12) ∷ (ltb m next, 1) ∷ []) refl o.0 in
    record {
      sequence = leb-false LIMIT seq r.1.1.0;
      count = rw (named ids seq channel t n src) (ltb-false MAX_MESSAGES n r.1.1.1.1.0);
      messages = all-said-sayable ids src (listed t 0 n) (not-false said r.1.1.1.0);
      room = ltb-false m next r.1.1.1.1.1.0;
      end = sym o.1;
    }
