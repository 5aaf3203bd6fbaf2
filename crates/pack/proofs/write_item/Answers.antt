-- `pack::write_item` meets its contract. Assumes nothing.
use native.Mathlib.Omega.{arith}
use borrow.Author.Tests.{eq-eqb, ne_eqb}
use Rattle.packet_slice.proofs.Wrote.{length-span}
use Rattle.pack.specs.Rows.{Sendable}
use Rattle.pack.specs.Pack.{item_of}
use Rattle.pack.proofs.Wrote.{small-sendable, id-said, piece-next, piece-wrote, small-len, small-wrote}
use Rattle.pack.proofs.write_item.Goals as goal
use Rattle.pack.proofs.write_item.Goals.{Else-item-ne0}

-- what is known of a small message
known : (c : Else-item-ne0) → let a = c.args in Sendable a.lent.now.small.now (item_of a.item)
known c = small-sendable c.args.lent.now.ids _ _ (eq-eqb _ 0 c.if-item-ne0.false) c.requires.all

pub returns-then-item-ne0 : goal.returns-then-item-ne0
returns-then-item-ne0 c = let e = ne_eqb _ 0 c.if-item-ne0.true in (piece-next _ _ _ _ e, piece-wrote _ _ _ _ e _)

pub overflow_add-bytes : goal.overflow_add-bytes
overflow_add-bytes c = let k = known (goal.at.overflow_add-bytes c).Else-item-ne0 in omega arith

pub slice_bounds-bytes-end : goal.slice_bounds-bytes-end
slice_bounds-bytes-end c = let k = known (goal.at.slice_bounds-bytes-end c).Else-item-ne0 in omega arith

pub write_message-requires : goal.write_message-requires
write_message-requires c =
    let a = c.args in
    let l = a.lent.now in
    let x = item_of a.item in
    let k = known (goal.at.write_message-requires c).Else-item-ne0 in
    let n = length-span x.place x.len l.small.now k.stored in
    let m = small-len l.ids l.small.now x a.at (eq-eqb _ 0 c.if-item-ne0.false) in
    record { id_bound = id-said l.ids x.id k.id; bytes_len_bound = omega arith; bytes_in_bounds = omega arith }

pub returns : goal.returns
returns c =
    let a = c.args in
    let l = a.lent.now in
    let x = item_of a.item in
    let e = eq-eqb _ 0 c.if-item-ne0.false in
    let m = small-len l.ids l.small.now x a.at e in
    let w = c.write_message.ensures in
    (omega arith, small-wrote l.ids l.small.now x a.at e a.out.now w.1)
