-- The bytes of a round's packets and their table. Document 01, "Reliable round": sequences rise by one in the order of the packets;
-- packets lie end to end at the front of the lent bytes, start and length in the table; no more is written. Assumes nothing.
use Rattle.std.specs.Prelude.{ℕ, ◌+◌, ◌*◌, Bool, List, [], ◌∷◌, ◌++◌, map, length, take, drop, ltb}
use Rattle.words.specs.Sizes.{LIMIT}
use Rattle.words.specs.Choice.{refusal}
use Rattle.words.specs.Lists.{splice}
use Rattle.packet_small.specs.Write.{Said, small_bytes_of, id_said}
use Rattle.packet_slice.specs.Write.{SliceSaid, slice_bytes}
use Rattle.pack.specs.Pack.{Item, Pack, group, single}

-- where a round's payloads lie and on which channel it goes
pub record Lent : Type 0 where
  pub ids : Bool
  pub channel : ℕ
  pub small : List ℕ
  pub lanes : List ℕ

abbrev pub said_item : Lent → Item → Said
said_item l i = record { id = id_said l.ids i.id; bytes = take i.len (drop i.place l.small) }

abbrev pub said_piece : Lent → ℕ → Item → SliceSaid
said_piece l seq i =
    record {
      sequence = seq;
      channel = l.channel;
      id = i.id;
      index = i.index;
      num-slices = i.num;
      bytes = take i.len (drop i.place l.lanes);
    }

unfoldable pub pack_bytes : Lent → ℕ → Pack → List ℕ
pack_bytes l seq (group is) = small_bytes_of l.ids seq l.channel (map (said_item l) is)
pack_bytes l seq (single i) = slice_bytes l.ids (said_piece l seq i)

-- the packets' bytes, the first with sequence seq
unfoldable pub packets_bytes : Lent → ℕ → List Pack → List (List ℕ)
packets_bytes l seq [] = []
packets_bytes l seq (p ∷ ps) = pack_bytes l seq p ∷ packets_bytes l (seq + 1) ps

unfoldable pub end_to_end : List (List ℕ) → List ℕ
end_to_end [] = []
end_to_end (b ∷ bs) = b ++ end_to_end bs

-- two words for each packet: start and length
abbrev pub ENTRY : ℕ
ENTRY = 2

unfoldable pub entries : ℕ → List (List ℕ) → List ℕ
entries at [] = []
entries at (b ∷ bs) = at ∷ length b ∷ entries (at + length b) bs

-- 13 for a sequence that the round would need; then 15 where the packets exceed the lent bytes or the lent table
unfoldable pub round_refusal : Lent → ℕ → List Pack → ℕ → ℕ → ℕ
round_refusal l seq ps out table =
    refusal (
    (ltb LIMIT (seq + length ps), 13) ∷
    (ltb out (length (end_to_end (packets_bytes l seq ps))), 15) ∷
    (ltb table (ENTRY * length ps), 15) ∷ []
    )

-- the lent bytes and the lent table afterwards; no more is written
unfoldable pub out_after : Lent → ℕ → List Pack → List ℕ → List ℕ
out_after l seq ps out = splice 0 (end_to_end (packets_bytes l seq ps)) out

unfoldable pub table_after : Lent → ℕ → List Pack → List ℕ → List ℕ
table_after l seq ps table = splice 0 (entries 0 (packets_bytes l seq ps)) table
