-- Packets of one piece: the reader accepts exactly the spellings; what is written is read back, or refused where document 01 does not allow it;
-- and each promise admits one outcome. Assumes nothing.
use Prim.Native.Nat.{ℕ, suc, ◌+◌, ◌≤◌, ◌<◌}
use mathlib.Core.Path.{◌≡◌, refl, sym, ap, ◌∙◌}
use mathlib.Core.Logic.{◌⊎◌, ⊎_elim}
use mathlib.Core.Bool.{Bool, true, false}
use mathlib.Core.List.{List, [], ◌∷◌, ◌++◌}
use native.Mathlib.Omega.{arith}
use native.Mathlib.Nat.{zero-add}
use native.Mathlib.Numerals.{add-one}
use lib.ListN.{length, get_or, take, drop}
use Rattle.words.specs.Sizes.{SLICE_SIZE, MAX_NUM_SLICES}
use Rattle.words.specs.Lists.{splice}
use Rattle.words.proofs.Suffix as suffix
use Rattle.words.proofs.Unique.{told-apart, refusal_of, refusal-undone}
use Rattle.octets.specs.Reader.{Res, ok, fault}
use Rattle.octets.specs.Writer.{done, put_of, left}
use Rattle.octets.specs.Spelling.{Bytes}
use Rattle.std.specs.Prelude.{Result, Ok, Err}
use Rattle.words.specs.declared.Refusal.{Refusal}
use Rattle.octets.proofs.Forms.{var-spelt, run-spelt}
use Rattle.octets.proofs.Theorems as octets
use Rattle.octets.proofs.Exact.{Here, here-fits, here-taken}
use Rattle.packet_slice.specs.declared.Slice as code
use Rattle.packet_slice.specs.Slice.{Slice, slice, read_of}
use Rattle.packet_slice.specs.Write.{SliceSaid, type_byte_of, slice_bytes, slice_said, put_slice_of}
use Rattle.packet_slice.specs.Layout.{Payload, SliceSpelt, packet}
use Rattle.packet_slice.proofs.Read.{count-zero, count-above, payload-empty, payload-above}
use Rattle.packet_slice.proofs.Wrote.{length-slice}
use Rattle.packet_slice.proofs.Judge.{accepted}
use Rattle.packet_slice.proofs.Spelt.{exact-slice, laid-says, laid_out}
use Rattle.packet_slice.proofs.Written.{Sayable, sayable, Met, met}

-- ---- the reader accepts exactly the spellings

-- a list that begins with a byte above 0
begins : (s : List ℕ) (b : ℕ) → 0 < b → get_or s 0 0 ≡ b → s ≡ b ∷ drop 1 s
begins [] b h e = absurd (omega arith)
begins (x ∷ s) b h e = ap (λ (y : ℕ). y ∷ s) e

type-above-0 : (reliable : Bool) → 0 < type_byte_of reliable
type-above-0 true = omega arith
type-above-0 false = omega arith

-- a packet that is read is spelt by the bytes that were used
pub sound : (reliable : Bool) (s : List ℕ) {p : Slice} {used : ℕ} → Bytes s → get_or s 0 0 ≡ type_byte_of reliable → slice reliable s 1 ≡ ok p used
    → SliceSpelt reliable (slice_said s p) (take used s) × (used ≤ length s)
sound reliable s {p} {used} w b e =
    let f = begins s (type_byte_of reliable) (type-above-0 reliable) b in
    let x = (exact-slice reliable).sound s 1 w e in
    let i : 1 ≤ length s = omega (arith, ap length f) in
    let n : used ≡ suc (length x.spelling) = omega (arith, x.ends) in
    let t : take used s ≡ type_byte_of reliable ∷ x.spelling =
    ap (λ (n : ℕ). take n s) n ∙ ap (take (suc (length x.spelling))) f ∙ ap (λ (l : List ℕ). type_byte_of reliable ∷ l) (here-taken x.stands) in
    (rw t (laid-says x.stands x.says), omega (arith, x.ends, here-fits x.stands i))

-- at place `at` of s stands a packet that says `said`, and the place after it is `next`
pub record Reads (reliable : Bool) (s : List ℕ) (at : ℕ) (said : SliceSaid) (next : ℕ) : Type 0 where
  pub packet : Slice
  pub read : slice reliable s (at + 1) ≡ ok packet next
  pub says : slice_said s packet ≡ said

-- every spelling is read, wherever it stands and whatever follows it
pub complete-at : (s : List ℕ) (at : ℕ) (q : List ℕ) {reliable : Bool} {said : SliceSaid} {bs : List ℕ} → SliceSpelt reliable said bs → drop at s ≡ bs ++ q
    → Reads reliable s at said (at + length bs)
complete-at s at q {reliable} {said} {bs} r e =
    let y = laid_out (at + 1) r in
    let f : drop at s ≡ type_byte_of reliable ∷ (y.body ++ q) = e ∙ ap (λ (l : List ℕ). l ++ q) y.whole in
    let i = suffix.here_in s at f in
    let h : Here s (at + 1) y.body = record { rest = q; goes_on = ap (λ (n : ℕ). drop n s) (add-one at) ∙ suffix.next s at f } in
    let n : at + 1 + length y.body ≡ at + length bs = omega (arith, ap length y.whole) in
    record {
      packet = y.part;
      read = (exact-slice reliable).complete s (at + 1) (omega arith) h y.laid ∙ ap (ok y.part) n;
      says = y.same s h;
    }

pub complete : {reliable : Bool} {said : SliceSaid} {bs : List ℕ} → SliceSpelt reliable said bs → (q : List ℕ) → Reads reliable (bs ++ q) 0 said (length bs)
complete r q = rw zero-add at (complete-at _ 0 q r refl)

-- ---- what is written is read back

-- what document 01 lets a reader take of what a writer may write
pub record Allowed (reliable : Bool) (said : SliceSaid) : Type 0 where
  pub some : 1 ≤ said.num-slices
  pub few : said.num-slices ≤ MAX_NUM_SLICES
  pub payload : Payload reliable (length said.bytes)

-- the writer writes a spelling
pub written : (reliable : Bool) (said : SliceSaid) → Sayable said → Allowed reliable said → SliceSpelt reliable said (slice_bytes reliable said)
unfolding slice_bytes
written reliable said w a =
    packet {reliable = reliable} (var-spelt _ w.sequence) w.channel (var-spelt _ w.id) (var-spelt _ w.index) (var-spelt _ w.num-slices) a.some a.few (run-spelt _ w.bytes) a.payload

-- the same packet and length, with anything after it
pub written_read : (reliable : Bool) (said : SliceSaid) → Sayable said → Allowed reliable said → (q : List ℕ)
    → Reads reliable (slice_bytes reliable said ++ q) 0 said (length (slice_bytes reliable said))
written_read reliable said w a q = complete (written reliable said w a) q

-- and so in the buffer, for every packet that `put_slice` accepts
pub put-read : (reliable : Bool) (p : Slice) (store out : List ℕ) (at : ℕ) {next : ℕ} → p.channel < 256 → put_slice_of reliable p store at (length out) ≡ done next → Allowed reliable (slice_said store p)
    → Reads reliable (splice at (slice_bytes reliable (slice_said store p)) out) at (slice_said store p) next
put-read reliable p store out at {next} c e a =
    let x = accepted reliable p store at (length out) e in
    let l = length-slice reliable store p x.0.stored in
    let r : at + length (slice_bytes reliable (slice_said store p)) ≤ length out = omega (arith, x.0.room) in
    rw x.1 (complete-at _ at _ (written reliable (slice_said store p) (sayable p store c x.0) a) (suffix.drop-at-splice at (slice_bytes reliable (slice_said store p)) out r))

-- ---- what is written and not allowed is refused

module _ (s : List ℕ) (at : ℕ) (q : List ℕ) (reliable : Bool) (said : SliceSaid) (w : Sayable said) (e : drop at s ≡ slice_bytes reliable said ++ q) where
  m : Met s (at + 1) said
  m = met s at q reliable said w e

  -- 2 for a number of slices that is 0 or above the largest
  pub number-refused : (said.num-slices < 1) ⊎ (MAX_NUM_SLICES < said.num-slices) → slice reliable s (at + 1) ≡ fault 2
  number-refused h =
      sym (⊎_elim (λ k. count-zero reliable s (at + 1) m.front-met m.label-met k)
      (λ k. count-above reliable s (at + 1) m.front-met m.label-met (omega arith) k)
      h)

  module _ (t : reliable ≡ true) (some : 1 ≤ said.num-slices) (few : said.num-slices ≤ MAX_NUM_SLICES) where
    -- 4 for an empty payload of type 2
    pub empty-refused : length said.bytes < 1 → slice reliable s (at + 1) ≡ fault 4
    empty-refused h = sym (payload-empty reliable s (at + 1) m.front-met m.label-met some few m.run-met t h)

    -- 3 for one above 1,200
    pub long-refused : SLICE_SIZE < length said.bytes → slice reliable s (at + 1) ≡ fault 3
    long-refused h = sym (payload-above reliable s (at + 1) m.front-met m.label-met some few m.run-met t (omega arith) h)

-- ---- one outcome only

abbrev pub slice_from : Slice → code.Slice
slice_from p =
    record {
      sequence = record { 0 = p.sequence };
      channel_id = p.channel;
      message_id = record { 0 = p.id };
      slice_index = record { 0 = p.index };
      num_slices = p.num-slices;
      place = p.place;
      len = p.len;
    }

abbrev read_from : Res Slice → Result (code.Slice × ℕ) Refusal
read_from (ok p next) = Ok (slice_from p, next)
read_from (fault e) = Err (refusal_of e)

read-undone : (r : Result (code.Slice × ℕ) Refusal) → read_from (read_of r) ≡ r
read-undone (Ok (p, next)) = refl
read-undone (Err e) = ap Err (refusal-undone e)

-- the promise of `read_slice` admits one answer
pub one-read : (reliable : Bool) (s : List ℕ) (at : ℕ) (r q : Result (code.Slice × ℕ) Refusal) → read_of r ≡ slice reliable s at → read_of q ≡ slice reliable s at → r ≡ q
one-read reliable s at r q e f = told-apart read_of read_from read-undone r q (e ∙ sym f)

-- and that of `put_slice` one answer and one buffer
module _ (reliable : Bool) (p : Slice) (store : List ℕ) (at : ℕ) (out : List ℕ) where
  pub record Put-slice (r : Result ℕ Refusal) (after : List ℕ) : Type 0 where
    pub answers : put_of r ≡ put_slice_of reliable p store at (length out)
    pub leaves : after ≡ left (put_of r) at (slice_bytes reliable (slice_said store p)) out

  pub one-put : (r q : Result ℕ Refusal) (a b : List ℕ) → Put-slice r a → Put-slice q b → (r ≡ q) × (a ≡ b)
  one-put r q a b x y = (octets.one-put r q x.answers y.answers, octets.one_left at _ out r q x.answers y.answers x.leaves y.leaves)
