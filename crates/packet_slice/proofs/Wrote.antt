-- What the writing functions make of the buffer, and how long it is. Assumes nothing.
use Prim.Native.Nat.{ℕ, suc, ◌+◌, ◌-◌, ◌≤◌}
use mathlib.Core.Path.{◌≡◌, refl, ◌∙◌}
use mathlib.Core.Bool.{Bool}
use mathlib.Core.List.{List, [], ◌∷◌, ◌++◌, append_assoc}
use native.Mathlib.Omega.{arith}
use native.Mathlib.Numerals.{add-one}
use lib.ListN.{length, set, take, drop, length-append, length-take, length-drop}
use Rattle.words.specs.Lists.{splice}
use Rattle.words.proofs.Splice.{splice-splice}
use Rattle.octets.specs.Varint.{var_len, var_bytes, run_bytes}
use Rattle.octets.proofs.Back.{length-var}
use Rattle.octets.proofs.Runs.{length_run}
use Rattle.packet_slice.specs.Slice.{Slice}
use Rattle.packet_slice.specs.Write.{SliceSaid, type_byte_of, slice_bytes, slice_said}
use Rattle.packet_slice.specs.Steps.{front_bytes, label_bytes, slice_len_of}

-- what is written after what was written
wrote-next : (at : ℕ) (xs bs s : List ℕ) {a : ℕ} {s1 s2 : List ℕ} → s2 ≡ splice a bs s1 → a ≡ at + length xs → s1 ≡ splice at xs s → s2 ≡ splice at (xs ++ bs) s
wrote-next at xs bs s e2 ea e1 = e2 ∙ rw (e1, ea) (splice-splice at xs bs s)

-- ---- lengths

length_front : (reliable : Bool) (seq channel : ℕ) → length (front_bytes reliable seq channel) ≡ var_len seq + 2
unfolding front_bytes
length_front reliable seq channel = simp (length-append, length-var) (omega arith)

length_label : (id index n : ℕ) → length (label_bytes id index n) ≡ var_len id + var_len index + var_len n
unfolding label_bytes
length_label id index n = simp (length-append, length-var) (omega arith)

pub length_part : (place len : ℕ) (store : List ℕ) → place + len ≤ length store → length (take len (drop place store)) ≡ len
length_part place len store h = simp (length-take, length-drop) (omega arith)

-- the payload is what stands in the store from its place to its end
span : (place len : ℕ) (store : List ℕ) → take (place + len - place) (drop place store) ≡ take len (drop place store)
span place len store = let n : place + len - place ≡ len = omega arith in rw n

pub length-span : (place len : ℕ) (store : List ℕ) → place + len ≤ length store → length (take (place + len - place) (drop place store)) ≡ len
length-span place len store h = rw (span, length_part place len store h)

-- the three parts of a packet
pub parts : (reliable : Bool) (said : SliceSaid)
    → front_bytes reliable said.sequence said.channel ++ (label_bytes said.id said.index said.num-slices ++ run_bytes said.bytes) ≡ slice_bytes reliable said
unfolding front_bytes label_bytes slice_bytes
parts reliable said = simp append_assoc

pub length-slice : (reliable : Bool) (store : List ℕ) (p : Slice) → p.place + p.len ≤ length store → length (slice_bytes reliable (slice_said store p)) ≡ slice_len_of p
unfolding slice_len_of
length-slice reliable store p h =
    rw (← parts reliable (slice_said store p)) (simp (length-append, length_front, length_label, length_run, length_part p.place p.len store h) (omega arith))

-- ---- what stands in the buffer

pub wrote-front : (reliable : Bool) (at seq channel : ℕ) (s : List ℕ) {t a : ℕ} {s1 : List ℕ} → t ≡ type_byte_of reliable → a ≡ at + 1 + var_len seq
    → s1 ≡ splice (at + 1) (var_bytes seq) (set s at t) → set s1 a channel ≡ splice at (front_bytes reliable seq channel) s
unfolding front_bytes splice
wrote-front reliable at seq channel s {t} {a} {s1} et ea e1 =
    let la = length-var seq in
    let g : a ≡ suc at + length (var_bytes seq) = omega arith in
    let w : set s1 a channel ≡ splice a (channel ∷ []) s1 = refl in
    rw (← et) (wrote-next (suc at) (var_bytes seq) (channel ∷ []) (set s at t) w g (rw add-one at e1))

pub wrote-label : (at id index n : ℕ) (s : List ℕ) {a b : ℕ} {s1 s2 s3 : List ℕ} → s3 ≡ splice b (var_bytes n) s2 → b ≡ a + var_len index → s2 ≡ splice a (var_bytes index) s1
    → a ≡ at + var_len id → s1 ≡ splice at (var_bytes id) s → s3 ≡ splice at (label_bytes id index n) s
unfolding label_bytes
wrote-label at id index n s {a} {b} {s1} e3 eb e2 ea e1 =
    let la = length-var id in
    let lb = length-var index in
    wrote-next at (var_bytes id) (var_bytes index ++ var_bytes n) s (wrote-next a (var_bytes index) (var_bytes n) s1 e3 (omega arith) e2) (omega arith) e1

pub wrote-slice : (reliable : Bool) (store : List ℕ) (p : Slice) (at : ℕ) (s : List ℕ) {a b : ℕ} {s1 s2 s3 : List ℕ}
    → s3 ≡ splice b (run_bytes (take (p.place + p.len - p.place) (drop p.place store))) s2
    → b ≡ a + (var_len p.id + var_len p.index + var_len p.num-slices) → s2 ≡ splice a (label_bytes p.id p.index p.num-slices) s1
    → a ≡ at + (var_len p.sequence + 2) → s1 ≡ splice at (front_bytes reliable p.sequence p.channel) s
    → s3 ≡ splice at (slice_bytes reliable (slice_said store p)) s
wrote-slice reliable store p at s {a} {b} {s1} e3 eb e2 ea e1 =
    let lf = length_front reliable p.sequence p.channel in
    let ll = length_label p.id p.index p.num-slices in
    rw (← parts reliable (slice_said store p))
    (wrote-next at _ _ s (wrote-next a _ (run_bytes (take p.len (drop p.place store))) s1 (rw span at e3) (omega arith) e2) (omega arith) e1)
