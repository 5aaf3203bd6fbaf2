-- `octets::get_varint` meets its contract: `Read` says what `var` is in each of its branches. Assumes nothing.
use native.Mathlib.Omega.{arith}
use Rattle.octets.proofs.Read.{read_none, short-2, short-4, short-8, whole-1, whole-2, whole-4, whole-8}
use Rattle.octets.proofs.get_varint.Goals as goal

pub returns-then-s-at : goal.returns-then-s-at
returns-then-s-at c = search read_none

pub returns-then-b-lt64 : goal.returns-then-b-lt64
returns-then-b-lt64 c = search whole-1

pub returns-then-room-lt2 : goal.returns-then-room-lt2
returns-then-room-lt2 c = search short-2

pub returns-then-b-lt128 : goal.returns-then-b-lt128
returns-then-b-lt128 c = search whole-2

pub returns-then-room-lt4 : goal.returns-then-room-lt4
returns-then-room-lt4 c = search short-4

pub returns-then-b-lt192 : goal.returns-then-b-lt192
returns-then-b-lt192 c = search whole-4

pub returns-then-room-lt8 : goal.returns-then-room-lt8
returns-then-room-lt8 c = search short-8

pub returns : goal.returns
returns c =
    let b = c.type_inv.s c.args.at in
    whole-8 _ _ c.if-s-at.false c.u32_at-high.ensures.0 c.u32_at-2.ensures.0 (omega arith) (omega (arith, b)) (omega arith)
