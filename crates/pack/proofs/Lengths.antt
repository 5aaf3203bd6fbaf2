-- How long packets are: no number takes more than 8 bytes, a message's size for packing is its length in a packet, and the lengths that
-- packing adds up are those of the packets' bytes. Assumes nothing.
use Prim.Native.Nat.{ℕ, ◌+◌, ◌^◌, ◌≤◌}
use mathlib.Core.Path.{◌≡◌, refl, ap}
use mathlib.Core.Bool.{Bool, true, false}
use mathlib.Core.List.{List, [], ◌∷◌, map}
use native.Mathlib.Omega.{arith}
use lib.Dec.{ltb}
use lib.ListN.{length, take, drop, length-append}
use Rattle.words.specs.Sizes.{SLICE_SIZE}
use Rattle.words.specs.Choice.{pick}
use Rattle.words.specs.Lists.{total, All}
use Rattle.octets.specs.Varint.{var_len}
use Rattle.packet_small.specs.Steps.{message_len}
use Rattle.packet_small.specs.Write.{messages_bytes, small_bytes_of}
use Rattle.packet_small.proofs.Wrote.{length-head, length-message}
use Rattle.packet_slice.specs.Steps.{slice_len_of}
use Rattle.packet_slice.proofs.Wrote.{length_part, length-slice}
use Rattle.pack.specs.Pack.{Item, Pack, group, single, packed_len}
use Rattle.pack.specs.Encode.{Lent, said_item, pack_bytes, packets_bytes, end_to_end}
use Rattle.pack.specs.Rows.{slice_item, pack_len, packets_len, Sendable, PackGoes}

pick-le : (t : Bool) (x y n : ℕ) → x ≤ n → y ≤ n → pick t x y ≤ n
pick-le true x y n h l = h
pick-le false x y n h l = l

pub var-most : (v : ℕ) → var_len v ≤ 8
unfolding var_len
var-most v =
    pick-le (ltb v (2 ^ 6)) 1 _ 8 (omega arith) (pick-le (ltb v (2 ^ 14)) 2 _ 8 (omega arith) (pick-le (ltb v (2 ^ 30)) 4 8 8 (omega arith) (omega arith)))

pub message-most : (ids : Bool) (i : Item) → i.len ≤ SLICE_SIZE → packed_len ids i ≤ SLICE_SIZE + 16
unfolding packed_len
message-most true i h = omega (arith, var-most i.len, var-most i.id)
message-most false i h = omega (arith, var-most i.len)

pub slice-most : (seq : ℕ) (i : Item) → i.len ≤ SLICE_SIZE → slice_len_of (slice_item seq 0 i) ≤ SLICE_SIZE + 42
unfolding slice_len_of
slice-most seq i h = omega (arith, var-most seq, var-most i.len, var-most i.id, var-most i.index, var-most i.num)

-- ---- the lengths of bytes

message-len : (ids : Bool) (i : Item) → message_len ids i.id i.len ≡ packed_len ids i
unfolding packed_len
message-len true i = omega arith
message-len false i = omega arith

length-messages : (l : Lent) (is : List Item) → All (Sendable l.small) is → length (messages_bytes l.ids (map (said_item l) is)) ≡ total (packed_len l.ids) is
unfolding messages_bytes total All
length-messages l [] h = refl
length-messages l (i ∷ is) h =
    let b = length_part i.place i.len l.small h.0.stored in
    let v = ap var_len b in
    let m = length-message l.ids i.id (take i.len (drop i.place l.small)) in
    let e = message-len l.ids i in
    let r = length-messages l is h.1 in
    rw length-append (omega arith)

pub length-pack : (l : Lent) (seq : ℕ) (p : Pack) → PackGoes l p → length (pack_bytes l seq p) ≡ pack_len l.ids seq p
unfolding pack_bytes pack_len PackGoes small_bytes_of slice_len_of
length-pack l seq (group is) h =
    let a = length-head l.ids seq l.channel (length (map (said_item l) is)) in
    let b = length-messages l is h in
    rw length-append (omega arith)
length-pack l seq (single i) h = length-slice l.ids l.lanes (slice_item seq l.channel i) h.stored

pub length-packets : (l : Lent) (seq : ℕ) (ps : List Pack) → All (PackGoes l) ps → length (end_to_end (packets_bytes l seq ps)) ≡ packets_len l.ids seq ps
unfolding end_to_end packets_bytes packets_len All
length-packets l seq [] h = refl
length-packets l seq (p ∷ ps) h =
    let a = length-pack l seq p h.0 in
    let b = length-packets l (seq + 1) ps h.1 in
    rw length-append (omega arith)
