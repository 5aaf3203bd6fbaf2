-- What a packet that the writer accepts has, and how a reader meets its bytes. Assumes nothing.
use Prim.Native.Nat.{ℕ, ◌+◌, ◌<◌}
use mathlib.Core.Path.{◌≡◌, refl, sym, ap, ◌∙◌}
use mathlib.Core.Bool.{Bool}
use mathlib.Core.List.{List, [], ◌∷◌, ◌++◌}
use native.Mathlib.Omega.{arith}
use native.Mathlib.Numerals.{add-one}
use lib.ListN.{length, drop, length-append}
use Rattle.words.specs.Sizes.{LIMIT}
use Rattle.words.proofs.Suffix as suffix
use Rattle.octets.specs.Reader.{ok}
use Rattle.octets.specs.Varint.{run, var_bytes, run_bytes}
use Rattle.octets.specs.Spelling.{Varint}
use Rattle.octets.proofs.Forms.{var-spelt}
use Rattle.octets.proofs.Exact.{Here, here-front, here_back, here-fits, Exact, Then, both, exact-then, Made, made, exact-made, ByteSpelt, one_byte, exact-byte, exact-var, run_at, exact-run}
use Rattle.packet_slice.specs.Slice.{Slice}
use Rattle.packet_slice.specs.Write.{SliceSaid, type_byte_of, slice_bytes, slice_said}
use Rattle.packet_slice.specs.Steps.{front, label, front_bytes, label_bytes, Judged}
use Rattle.packet_slice.proofs.Wrote.{length_part, parts}

-- every number of a packet can be said
pub record Sayable (said : SliceSaid) : Type 0 where
  pub sequence : said.sequence < LIMIT
  pub channel : said.channel < 256
  pub id : said.id < LIMIT
  pub index : said.index < LIMIT
  pub num-slices : said.num-slices < LIMIT
  pub bytes : length said.bytes < LIMIT

pub sayable : (p : Slice) (store : List ℕ) {at m : ℕ} → p.channel < 256 → Judged p (length store) at m → Sayable (slice_said store p)
sayable p store c j =
    let l = length_part p.place p.len store j.stored in
    record { sequence = j.sequence; channel = c; id = j.id; index = j.index; num-slices = j.num-slices; bytes = rw l j.len }

-- ---- where the front, the label and the payload are read of what was written

exact-front : Exact front (Then (λ at. Varint) (λ seq. Made (λ channel. (seq, channel)) (λ at. ByteSpelt)))
unfolding front
exact-front = exact-then exact-var (λ seq. exact-made _ exact-byte)

exact-label : Exact label (Then (λ at. Varint) (λ id. Then (λ at. Varint) (λ index. Made (λ n. (id, index, n)) (λ at. Varint))))
unfolding label
exact-label = exact-then exact-var (λ id. exact-then exact-var (λ index. exact-made _ exact-var))

-- what the three readers give, one after the other
pub record Met (s : List ℕ) (at : ℕ) (said : SliceSaid) : Type 0 where
  pub a : ℕ
  pub b : ℕ
  pub place : ℕ
  pub front-met : ok (said.sequence, said.channel) a ≡ front s at
  pub label-met : ok (said.id, said.index, said.num-slices) b ≡ label s a
  pub run-met : ok (record { place = place; len = length said.bytes }) (place + length said.bytes) ≡ run s b

pub met : (s : List ℕ) (at : ℕ) (q : List ℕ) (reliable : Bool) (said : SliceSaid) → Sayable said → drop at s ≡ slice_bytes reliable said ++ q → Met s (at + 1) said
unfolding front_bytes label_bytes run_bytes
met s at q reliable said w e =
    let fs = var_bytes said.sequence ++ (said.channel ∷ []) in
    let ls = label_bytes said.id said.index said.num-slices in
    let ns = var_bytes (length said.bytes) in
    let d : drop at s ≡ type_byte_of reliable ∷ ((fs ++ (ls ++ run_bytes said.bytes)) ++ q) = e ∙ ap (λ (l : List ℕ). l ++ q) (sym (parts reliable said)) in
    let i = suffix.here_in s at d in
    let h : Here s (at + 1) (fs ++ (ls ++ run_bytes said.bytes)) = record { rest = q; goes_on = ap (λ (n : ℕ). drop n s) (add-one at) ∙ suffix.next s at d } in
    let hf = here-front fs (ls ++ run_bytes said.bytes) h in
    let h2 = here_back fs (ls ++ run_bytes said.bytes) h in
    let hl = here-front ls (run_bytes said.bytes) h2 in
    let hr = here_back ls (run_bytes said.bytes) h2 in
    let i2 = here-fits hf (omega arith) in
    let i3 = here-fits hl i2 in
    let n : at + 1 + length fs + length ls + length (ns ++ said.bytes) ≡ at + 1 + length fs + length ls + length ns + length said.bytes = omega (arith, length-append ns said.bytes) in
    record {
      a = at + 1 + length fs;
      b = at + 1 + length fs + length ls;
      place = at + 1 + length fs + length ls + length ns;
      front-met = sym (exact-front.complete s (at + 1) (omega arith) hf (both (var-spelt _ w.sequence) (made (one_byte w.channel))));
      label-met = sym (exact-label.complete s (at + 1 + length fs) i2 hl (both (var-spelt _ w.id) (both (var-spelt _ w.index) (made (var-spelt _ w.num-slices)))));
      run-met = ap (ok (record { place = at + 1 + length fs + length ls + length ns; len = length said.bytes })) (sym n) ∙ sym (exact-run.complete s (at + 1 + length fs + length ls) i3 hr (run_at said.bytes (var-spelt _ w.bytes) refl));
    }
