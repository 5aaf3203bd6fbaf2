-- Packets of one piece, written. Document 01, "Packet layouts" and the order of refusals in encoding. Assumes nothing.
use Rattle.std.specs.Prelude.{ℕ, ◌+◌, Bool, true, false, List, [], ◌∷◌, ◌++◌, length, take, drop, ltb, leb}
use Rattle.words.specs.Sizes.{LIMIT}
use Rattle.words.specs.Choice.{refusal}
use Rattle.octets.specs.Varint.{var_bytes, run_bytes}
use Rattle.octets.specs.Writer.{Outcome, outcome}
use Rattle.packet_slice.specs.Slice.{Slice}

-- ---- bytes

-- a packet with what its piece says
pub record SliceSaid : Type 0 where
  pub sequence : ℕ
  pub channel : ℕ
  pub id : ℕ
  pub index : ℕ
  pub num-slices : ℕ
  pub bytes : List ℕ

abbrev pub type_byte_of : Bool → ℕ
type_byte_of true = 2
type_byte_of false = 3

-- type byte, v seq, channel byte, v id, v slice index, v num_slices, v length, bytes
unfoldable pub slice_bytes : Bool → SliceSaid → List ℕ
slice_bytes reliable p =
    type_byte_of reliable ∷ (var_bytes p.sequence ++ (p.channel ∷
    (var_bytes p.id ++ (var_bytes p.index ++ (var_bytes p.num-slices ++ run_bytes p.bytes)))))

-- what a packet says whose payload is a part of s: of the input, for a reader; of a store, for a writer
abbrev pub slice_said : List ℕ → Slice → SliceSaid
slice_said s p =
    record {
      sequence = p.sequence;
      channel = p.channel;
      id = p.id;
      index = p.index;
      num-slices = p.num-slices;
      bytes = take p.len (drop p.place s);
    }

-- ---- the refusals, in their order: 10, 13, 1; at place `at` of m bytes

unfoldable pub slice_refusal : Bool → Slice → List ℕ → ℕ → ℕ → ℕ
slice_refusal reliable p src at m =
    refusal (
    (ltb (length src) (p.place + p.len), 10) ∷
    (leb LIMIT p.sequence, 13) ∷
    (leb LIMIT p.id, 13) ∷
    (leb LIMIT p.index, 13) ∷
    (leb LIMIT p.num-slices, 13) ∷
    (leb LIMIT p.len, 13) ∷
    (ltb m (at + length (slice_bytes reliable (slice_said src p))), 1) ∷ []
    )

unfoldable pub put_slice_of : Bool → Slice → List ℕ → ℕ → ℕ → Outcome
put_slice_of reliable p src at m =
    outcome (slice_refusal reliable p src at m) (at + length (slice_bytes reliable (slice_said src p)))
