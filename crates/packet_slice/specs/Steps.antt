-- The steps in which the code reads and writes a packet of one piece, for the contracts of the functions that `read_slice` and `put_slice` call. Assumes nothing.
use Rattle.std.specs.Prelude.{ℕ, ◌+◌, ◌≤◌, ◌<◌, Bool, true, false, List, [], ◌∷◌, ◌++◌, leb, Result, Ok, Err}
use Rattle.words.specs.Sizes.{LIMIT}
use Rattle.words.specs.Choice.{pick}
use Rattle.octets.specs.Reader.{Res, ok, fault, Reader, ◌>>=◌, give, byte}
use Rattle.octets.specs.Varint.{var, var_len, var_bytes}
use Rattle.packet_slice.specs.Slice.{Slice}
use Rattle.packet_slice.specs.Write.{type_byte_of}
use Rattle.words.specs.Refusal.{number_of}
use Rattle.words.specs.declared.Refusal.{Refusal}
use Rattle.packet_slice.specs.declared.Front.{Front}
use Rattle.packet_slice.specs.declared.Label.{Label}

-- ---- reading

-- the sequence and the channel
unfoldable pub front : Reader (ℕ × ℕ)
front = do
  seq ← var
  channel ← byte
  give (seq, channel)

-- the message's id, the slice index and num_slices
unfoldable pub label : Reader (ℕ × ℕ × ℕ)
label = do
  id ← var
  index ← var
  n ← var
  give (id, index, n)

abbrev pub front_of : Result (Front × ℕ) Refusal → Res (ℕ × ℕ)
front_of (Ok (f, next)) = ok (f.sequence.0, f.channel_id) next
front_of (Err e) = fault (number_of e)

abbrev pub label_of : Result (Label × ℕ) Refusal → Res (ℕ × ℕ × ℕ)
label_of (Ok (l, next)) = ok (l.message_id.0, l.slice_index.0, l.num_slices) next
label_of (Err e) = fault (number_of e)

-- ---- writing

-- type byte, v seq, channel byte
unfoldable pub front_bytes : Bool → ℕ → ℕ → List ℕ
front_bytes reliable seq channel = type_byte_of reliable ∷ (var_bytes seq ++ (channel ∷ []))

-- v id, v slice index, v num_slices
unfoldable pub label_bytes : ℕ → ℕ → ℕ → List ℕ
label_bytes id index n = var_bytes id ++ (var_bytes index ++ var_bytes n)

-- whether one of some numbers is too large for a varint
unfoldable pub any_large : List ℕ → Bool
any_large [] = false
any_large (v ∷ vs) = pick (leb LIMIT v) true (any_large vs)

abbrev pub too_large_of : Slice → Bool
too_large_of p = any_large (p.sequence ∷ p.id ∷ p.index ∷ p.num-slices ∷ p.len ∷ [])

-- the length of a packet, written
unfoldable pub slice_len_of : Slice → ℕ
slice_len_of p =
    2 + var_len p.sequence + (var_len p.id + var_len p.index + var_len p.num-slices) + var_len p.len + p.len

-- a packet that may be written, its payload from a store of k bytes, to place `at` of m bytes
pub record Judged (p : Slice) (k at m : ℕ) : Type 0 where
  pub stored : p.place + p.len ≤ k
  pub sequence : p.sequence < LIMIT
  pub id : p.id < LIMIT
  pub index : p.index < LIMIT
  pub num-slices : p.num-slices < LIMIT
  pub len : p.len < LIMIT
  pub room : at + slice_len_of p ≤ m
