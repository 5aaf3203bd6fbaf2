-- `octets::write_varint` meets its contract. In each branch the length of the form is known, so there is room, and `Write` says that
-- the tag and the number are the form. Assumes nothing.
use native.Mathlib.Omega.{arith}
use mathlib.Core.Path.{◌≡◌}
use Rattle.octets.specs.Varint.{var_len}
use Rattle.octets.proofs.Write.{len-1, len-2, len-4, len-8, wrote-1, wrote-2, wrote-4, wrote-8}
use Rattle.octets.proofs.write_varint.Goals as goal
use Rattle.octets.proofs.write_varint.Goals.{Else-v-lt1073741824, Then-v-lt1073741824, Then-v-lt16384, Then-v-lt64}

len-then1 : (c : Then-v-lt64) → var_len c.args.v ≡ 1
len-then1 c = search len-1

len-then2 : (c : Then-v-lt16384) → var_len c.args.v ≡ 2
len-then2 c = search len-2

len-then3 : (c : Then-v-lt1073741824) → var_len c.args.v ≡ 4
len-then3 c = search len-4

len-else3 : (c : Else-v-lt1073741824) → var_len c.args.v ≡ 8
len-else3 c = search len-8

pub bounds-out-at : goal.bounds-out-at
bounds-out-at c = let e = len-then1 (goal.at.bounds-out-at c).Then-v-lt64 in omega arith

pub returns-then-v-lt64 : goal.returns-then-v-lt64
returns-then-v-lt64 c = let e = len-then1 (goal.at.returns-then-v-lt64 c).Then-v-lt64 in (omega arith, search wrote-1)

pub write_u16-requires : goal.write_u16-requires
write_u16-requires c = let e = len-then2 (goal.at.write_u16-requires c).Then-v-lt16384 in omega arith

pub returns-then-v-lt16384 : goal.returns-then-v-lt16384
returns-then-v-lt16384 c = let e = len-then2 (goal.at.returns-then-v-lt16384 c).Then-v-lt16384 in (omega arith, search wrote-2)

pub write_u32-requires : goal.write_u32-requires
write_u32-requires c = let e = len-then3 (goal.at.write_u32-requires c).Then-v-lt1073741824 in omega arith

pub returns-then-v-lt1073741824 : goal.returns-then-v-lt1073741824
returns-then-v-lt1073741824 c = let e = len-then3 (goal.at.returns-then-v-lt1073741824 c).Then-v-lt1073741824 in (omega arith, search wrote-4)

pub write_u32-a-requires : goal.write_u32-a-requires
write_u32-a-requires c = let e = len-else3 (goal.at.write_u32-a-requires c).Else-v-lt1073741824 in omega arith

pub write_u32-requires-2 : goal.write_u32-requires-2
write_u32-requires-2 c = let e = len-else3 (goal.at.write_u32-requires-2 c).Else-v-lt1073741824 in omega arith

pub returns : goal.returns
returns c =
    let low = c.write_u32-2.ensures in
    let high = c.write_u32-a.ensures in
    let e = len-else3 (goal.at.returns c).Else-v-lt1073741824 in
    (omega arith, wrote-8 _ _ _ c.if-v-lt1073741824.false (omega arith) high.1 high.0 low.1)
