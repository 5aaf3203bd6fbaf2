-- The reader of packets of one piece and their layout: what it accepts is spelt so, and all that is spelt so it accepts. Assumes nothing.
use Prim.Native.Nat.{ℕ, ◌+◌, ◌≤◌}
use mathlib.Core.Path.{◌≡◌, refl, sym, ap, subst}
use mathlib.Core.Bool.{Bool, true, false}
use mathlib.Core.List.{List, [], ◌∷◌, ◌++◌}
use lib.ListN.{length}
use Rattle.words.specs.Sizes.{SLICE_SIZE, MAX_NUM_SLICES}
use Rattle.octets.specs.Spelling.{Varint}
use Rattle.octets.proofs.Exact.{Spelling, Here, Exact, here_back, ByteSpelt, one_byte, exact-byte, exact-var, Then, both, exact-then, If, judged, exact-if, Kept, kept, exact-kept, Only, exact-le, exact_and, exact-pass, RunAt, exact-run, run-says, run_len, run-heard}
use Rattle.packet_slice.specs.Slice.{Slice, payload, slice}
use Rattle.packet_slice.specs.Write.{SliceSaid, type_byte_of, slice_said}
use Rattle.packet_slice.specs.Layout.{Payload, SliceSpelt, packet}

-- what follows the type byte, in the order in which it is read, with the place of the payload
abbrev pub Laid : Bool → Spelling Slice
Laid reliable =
    Then (λ at. Varint) (λ seq.
    Then (λ at. ByteSpelt) (λ channel.
    Then (λ at. Varint) (λ id.
    Then (λ at. Varint) (λ index.
    Then (λ at. Varint) (λ n.
    If (1 ≤ n)
    (If (n ≤ MAX_NUM_SLICES)
    (Kept (λ p. record { sequence = seq; channel = channel; id = id; index = index; num-slices = n; place = p.place; len = p.len }) (λ p. Payload reliable p.len) RunAt)))))))

exact-payload : (reliable : Bool) (n : ℕ) → Exact (payload reliable n) (Only (Payload reliable n))
unfolding payload
exact-payload true n = exact_and (exact-le 1 n 4) (exact-le n SLICE_SIZE 3)
exact-payload false n = exact-pass

pub exact-slice : (reliable : Bool) → Exact (slice reliable) (Laid reliable)
unfolding slice
exact-slice reliable =
    exact-then exact-var (λ seq.
    exact-then exact-byte (λ channel.
    exact-then exact-var (λ id.
    exact-then exact-var (λ index.
    exact-then exact-var (λ n.
    exact-if (exact-le 1 n 2)
    (exact-if (exact-le n MAX_NUM_SLICES 2)
    (exact-kept _ exact-run (λ p. exact-payload reliable p.len))))))))

-- where the last of the parts stands
payload-here : {s : List ℕ} {at : ℕ} (a : List ℕ) (channel : ℕ) (b c d e : List ℕ) → Here s at (a ++ (channel ∷ (b ++ (c ++ (d ++ e)))))
    → Here s (at + length a + 1 + length b + length c + length d) e
payload-here a channel b c d e h =
    here_back d e (here_back c (d ++ e) (here_back b (c ++ (d ++ e)) (here_back (channel ∷ []) (b ++ (c ++ (d ++ e))) (here_back a (channel ∷ (b ++ (c ++ (d ++ e)))) h))))

-- what is laid out in s is a spelling of what it says there
pub laid-says : {reliable : Bool} {s : List ℕ} {at : ℕ} {p : Slice} {l : List ℕ} → Here s at l → Laid reliable at p l → SliceSpelt reliable (slice_said s p) (type_byte_of reliable ∷ l)
laid-says {reliable} h (both {xs = a} seq (both (one_byte {b = channel} x) (both {xs = b} id (both {xs = c} index (both {xs = d} n (judged low (judged high (kept {bs = e} r fits)))))))) =
    let k = payload-here a channel b c d e h in
    packet {reliable = reliable} seq x id index n low high (run-says k r) (subst (Payload reliable) (sym (run_len k r)) fits)

-- and what is spelt can be laid out at any place
pub record Layout (reliable : Bool) (at : ℕ) (said : SliceSaid) (bs : List ℕ) : Type 0 where
  pub body : List ℕ
  pub whole : bs ≡ type_byte_of reliable ∷ body
  pub part : Slice
  pub laid : Laid reliable at part body
  pub same : (s : List ℕ) → Here s at body → slice_said s part ≡ said

pub laid_out : (at : ℕ) {reliable : Bool} {said : SliceSaid} {bs : List ℕ} → SliceSpelt reliable said bs → Layout reliable at said bs
laid_out at (packet {seq = q} {channel = channel} {id = i} {index = x} {n = m} {a = a} {b = b} {c = c} {d = d} {e = e} seq byte id index n low high r fits) =
    let k = run-heard (at + length a + 1 + length b + length c + length d) r in
    record {
      body = a ++ (channel ∷ (b ++ (c ++ (d ++ e))));
      whole = refl;
      part = record { sequence = q; channel = channel; id = i; index = x; num-slices = m; place = k.part.place; len = k.part.len };
      laid = both seq (both (one_byte byte) (both id (both index (both n (judged low (judged high (kept k.there (rw k.long fits))))))));
      same = λ s h.
          ap (λ (l : List ℕ). record { sequence = q; channel = channel; id = i; index = x; num-slices = m; bytes = l })
          (k.said s (payload-here a channel b c d e h));
    }
