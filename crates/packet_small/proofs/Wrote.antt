-- What the writing functions make of the buffer. Assumes nothing.
use Prim.Native.Nat.{ℕ, suc, ◌+◌, ◌-◌, ◌≤◌, ◌<◌}
use mathlib.Core.Path.{◌≡◌, refl, sym, ap, ◌∙◌}
use mathlib.Core.Bool.{Bool, true, false}
use mathlib.Core.List.{List, ◌∷◌, ◌++◌, map}
use native.Mathlib.Omega.{arith}
use native.Mathlib.Numerals.{add-one}
use borrow.Author.Tests.{ltb-true, leb-true}
use lib.ListN.{length, set, take, drop, length-append, length-take, length-drop}
use lib.Dec.{ltb}
use Rattle.words.specs.Sizes.{LIMIT}
use Rattle.words.specs.Lists.{splice, all, total}
use Rattle.words.proofs.Splice.{splice-splice}
use Rattle.octets.specs.Varint.{var_len, var_bytes, pair_bytes, run_bytes}
use Rattle.octets.proofs.Back.{length-var}
use Rattle.octets.proofs.Runs.{length_run}
use Rattle.packet_small.specs.Small.{Message}
use Rattle.packet_small.specs.Write.{type_byte_of, id_bytes, id_said, message_bytes, messages_bytes, head_bytes, record_at, listed, said_of, stored, sayable}
use Rattle.packet_small.specs.Steps.{head_len, id_len_of, message_len, size, said}
use Rattle.packet_small.proofs.Judge.{listed-none, listed_more}

-- what is written after a run that is written
pub splice-next : (at : ℕ) (xs bs s : List ℕ) {n : ℕ} → n ≡ at + length xs → splice n bs (splice at xs s) ≡ splice at (xs ++ bs) s
splice-next at xs bs s e = rw e (splice-splice at xs bs s)

-- ---- what stands before the messages

pub length-head : (ids : Bool) (seq channel n : ℕ) → length (head_bytes ids seq channel n) ≡ head_len seq
unfolding head_bytes
length-head ids seq channel n = simp (length-append, length-var) (omega arith)

pub head-wrote : (at : ℕ) (ids : Bool) (seq channel n : ℕ) (s0 : List ℕ) {a b : ℕ} {s1 s2 : List ℕ}
    → s2 ≡ splice (a + 1) (pair_bytes n) (set s1 a channel) → a ≡ at + 1 + var_len seq → s1 ≡ splice (at + 1) (var_bytes seq) (set s0 at b) → b ≡ type_byte_of ids
    → s2 ≡ splice at (head_bytes ids seq channel n) s0
unfolding head_bytes splice
head-wrote at ids seq channel n s0 {a} {b} {s1} {s2} e2 ea e1 eb =
    let l = length-var seq in
    let g : a ≡ suc at + length (var_bytes seq) = omega arith in
    let v : splice a (channel ∷ pair_bytes n) (splice (suc at) (var_bytes seq) (set s0 at (type_byte_of ids))) ≡ splice at (head_bytes ids seq channel n) s0 =
    splice-next (suc at) (var_bytes seq) (channel ∷ pair_bytes n) (set s0 at (type_byte_of ids)) g in
    e2 ∙ simp (e1, eb, add-one) v

-- ---- one message

pub length-id : (ids : Bool) (id : ℕ) → length (id_bytes ids (id_said ids id)) ≡ id_len_of ids id
length-id true id = length-var id
length-id false id = refl

pub length-message : (ids : Bool) (id : ℕ) (bs : List ℕ) → length (message_bytes ids (said ids id bs)) ≡ message_len ids id (length bs)
unfolding message_bytes
length-message ids id bs = simp (length-append, length-id, length_run)

pub message-wrote : (at : ℕ) (ids : Bool) (id : ℕ) (bs s0 : List ℕ) {a : ℕ} {s1 s2 : List ℕ}
    → s2 ≡ splice a (run_bytes bs) s1 → a ≡ at + id_len_of ids id → s1 ≡ splice at (id_bytes ids (id_said ids id)) s0
    → s2 ≡ splice at (message_bytes ids (said ids id bs)) s0
unfolding message_bytes
message-wrote at ids id bs s0 {a} e2 ea e1 =
    let l = length-id ids id in
    e2 ∙ ap (splice a (run_bytes bs)) e1 ∙ splice-next at (id_bytes ids (id_said ids id)) (run_bytes bs) s0 (omega arith)

-- ---- a turn of the loop that writes messages

pub first_of : (p : Message → Bool) (e : Message) (es : List Message) → all p (e ∷ es) ≡ true → (p e ≡ true) × (all p es ≡ true)
unfolding all
first_of p e es h = go (p e) refl
  where
    go : (b : Bool) → p e ≡ b → (p e ≡ true) × (all p es ≡ true)
    go true q = (q, simp q at h)
    go false q = let k : false ≡ true = simp q at h in let z : ◌≡◌ {A = ℕ} 0 1 = cc in absurd (omega arith)

pub sayable-parts : (ids : Bool) (e : Message) → sayable ids e ≡ true → (id_said ids e.id < LIMIT) × (e.len < LIMIT)
sayable-parts ids e h = go (ltb (id_said ids e.id) LIMIT) refl
  where
    go : (b : Bool) → ltb (id_said ids e.id) LIMIT ≡ b → (id_said ids e.id < LIMIT) × (e.len < LIMIT)
    go true q = (ltb-true (id_said ids e.id) LIMIT q, ltb-true e.len LIMIT (simp q at h))
    go false q = let k : false ≡ true = simp q at h in let z : ◌≡◌ {A = ℕ} 0 1 = cc in absurd (omega arith)

-- the part of the store that a turn writes
abbrev pub part : List ℕ → ℕ → ℕ → List ℕ
part src p l = take (p + l - p) (drop p src)

-- what is known of the message e of a turn, and of those after it
pub record Turn (ids : Bool) (src t : List ℕ) (n i : ℕ) (e : Message) : Type 0 where
  pub place : e.place + e.len ≤ length src
  pub id : id_said ids e.id < LIMIT
  pub len : e.len < LIMIT
  pub bytes : length (part src e.place e.len) ≡ e.len
  pub form : var_len (length (part src e.place e.len)) ≡ var_len e.len
  pub sizes : total (size ids) (listed t i (n - i)) ≡ message_len ids e.id e.len + total (size ids) (listed t (i + 1) (n - (i + 1)))
  pub all-stored : all (stored (length src)) (listed t (i + 1) (n - (i + 1))) ≡ true
  pub all-sayable : all (sayable ids) (listed t (i + 1) (n - (i + 1))) ≡ true

-- the message and those after it
next : (t : List ℕ) (n i : ℕ) {e : Message} → e ≡ record_at t i → i < n → listed t i (n - i) ≡ e ∷ listed t (i + 1) (n - (i + 1))
next t n i r h = listed_more t n i h ∙ ap (λ (x : Message). x ∷ listed t (i + 1) (n - (i + 1))) (sym r)

pub turn : (ids : Bool) (src t : List ℕ) (n i : ℕ) (e : Message) → e ≡ record_at t i → i < n → all (stored (length src)) (listed t i (n - i)) ≡ true
    → all (sayable ids) (listed t i (n - i)) ≡ true → Turn ids src t n i e
unfolding total size
turn ids src t n i e r h s y =
    let more = next t n i r h in
    let s' = first_of (stored (length src)) e _ (simp more at s) in
    let y' = first_of (sayable ids) e _ (simp more at y) in
    let f : e.place + e.len ≤ length src = leb-true (e.place + e.len) (length src) s'.0 in
    let b : length (part src e.place e.len) ≡ e.len = simp (length-take, length-drop) (omega arith) in
    let q = sayable-parts ids e y'.0 in
    record { place = f; id = q.0; len = q.1; bytes = b; form = ap var_len b; sizes = simp more; all-stored = s'.1; all-sayable = y'.1 }

pub turn-wrote : (ids : Bool) (src t : List ℕ) (n i : ℕ) (e : Message) (at : ℕ) (out : List ℕ) {at' : ℕ} {out' X : List ℕ} → e ≡ record_at t i → i < n
    → out' ≡ splice at (message_bytes ids (said ids e.id (part src e.place e.len))) out
    → at' ≡ at + message_len ids e.id (length (part src e.place e.len))
    → splice at (messages_bytes ids (map (said_of ids src) (listed t i (n - i)))) out ≡ X
    → splice at' (messages_bytes ids (map (said_of ids src) (listed t (i + 1) (n - (i + 1))))) out' ≡ X
unfolding messages_bytes
turn-wrote ids src t n i e at out {at'} {out'} {X} r h o a inv =
    let z : e.place + e.len - e.place ≡ e.len = omega arith in
    let bs : List ℕ = message_bytes ids (said ids e.id (part src e.place e.len)) in
    let rest : List ℕ = messages_bytes ids (map (said_of ids src) (listed t (i + 1) (n - (i + 1)))) in
    let g : at' ≡ at + length bs = a ∙ ap (λ (k : ℕ). at + k) (sym (length-message ids e.id (part src e.place e.len))) in
    let w : splice at' rest out' ≡ splice at (bs ++ rest) out = ap (splice at' rest) o ∙ splice-next at bs rest out g in
    let v : splice at (message_bytes ids (said ids e.id (take e.len (drop e.place src))) ++ rest) out ≡ X = simp (next t n i r h) at inv in
    w ∙ ap (λ (k : ℕ). splice at (message_bytes ids (said ids e.id (take k (drop e.place src))) ++ rest) out) z ∙ v

module _ (ids : Bool) (t : List ℕ) (n i : ℕ) (h : n ≤ i) where
  pub wrote_none : (src : List ℕ) (at : ℕ) (out : List ℕ) {X : List ℕ} → splice at (messages_bytes ids (map (said_of ids src) (listed t i (n - i)))) out ≡ X → out ≡ X
  unfolding messages_bytes splice
  wrote_none src at out inv = simp (listed-none t n i h) at inv

  pub sizes-none : total (size ids) (listed t i (n - i)) ≡ 0
  unfolding total
  sizes-none = simp (listed-none t n i h)
