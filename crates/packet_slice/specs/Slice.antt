-- Packets of one piece, read. Document 01, "Packet layouts":
--   2 ReliableSlice    v seq, channel byte, v id, v slice index, v num_slices, v length, bytes
--   3 UnreliableSlice  as 2
-- `reliable` tells the two apart. Assumes nothing.
use Rattle.std.specs.Prelude.{ℕ, Bool, true, false, leb, Result, Ok, Err}
use Rattle.words.specs.Sizes.{SLICE_SIZE, MAX_NUM_SLICES}
use Rattle.words.specs.Refusal.{number_of}
use Rattle.octets.specs.Reader.{Res, ok, fault, Reader, ◌>>=◌, ◌>>◌, give, need, byte}
use Rattle.octets.specs.Varint.{var, run}
use Rattle.packet_slice.specs.declared.Slice as code
use Rattle.words.specs.declared.Refusal.{Refusal}

pub record Slice : Type 0 where
  pub sequence : ℕ
  pub channel : ℕ
  pub id : ℕ
  pub index : ℕ
  pub num-slices : ℕ
  pub place : ℕ
  pub len : ℕ

-- type 2 judges its payload empty (4), then above 1,200 (3); type 3 judges neither
unfoldable pub payload : Bool → ℕ → Reader (Unit {0})
payload true n = do
  need (leb 1 n) 4
  need (leb n SLICE_SIZE) 3
payload false n = give tt

-- what follows the type byte; num_slices is judged (2) before the payload's length is read
unfoldable pub slice : Bool → Reader Slice
slice reliable = do
  seq ← var
  channel ← byte
  id ← var
  index ← var
  n ← var
  need (leb 1 n) 2
  need (leb n MAX_NUM_SLICES) 2
  p ← run
  payload reliable p.len
  give (record { sequence = seq; channel = channel; id = id; index = index; num-slices = n; place = p.place; len = p.len })

-- ---- what the code's values say

abbrev pub slice_of : code.Slice → Slice
slice_of p =
    record {
      sequence = p.sequence.0;
      channel = p.channel_id;
      id = p.message_id.0;
      index = p.slice_index.0;
      num-slices = p.num_slices;
      place = p.place;
      len = p.len;
    }

abbrev pub read_of : Result (code.Slice × ℕ) Refusal → Res Slice
read_of (Ok (p, next)) = ok (slice_of p) next
read_of (Err e) = fault (number_of e)
