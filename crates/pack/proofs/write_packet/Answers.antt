-- `pack::write_packet` meets its contract. Assumes nothing.
use native.Mathlib.Omega.{arith}
use borrow.Author.Tests.{eq-eqb, ne_eqb}
use Rattle.pack.specs.Steps.{lent_of}
use Rattle.pack.proofs.Wrote.{group-goes, head-room, rest-room, packet-end, packet-wrote, piece-packet, piece-judged}
use Rattle.pack.proofs.write_packet.Goals as goal

pub bounds-items-row : goal.bounds-items-row
bounds-items-row c =
    let h = c.requires.sound.piece (ne_eqb _ 0 c.if-row-ne0.true) in
    let k = c.requires.sound.within in
    omega arith

pub write_slice-requires : goal.write_slice-requires
write_slice-requires c =
    let p = c.requires in
    rw c.slice-slice.ensures (piece-judged (lent_of c.args.lent.now) _ _ (ne_eqb _ 0 c.if-row-ne0.true) p.pack_goes _ p.sequence_bound p.in_bounds)

pub returns-then-row-ne0 : goal.returns-then-row-ne0
returns-then-row-ne0 c =
    let a = c.args in
    let w = c.write_slice.ensures in
    let e = piece-packet (lent_of a.lent.now) a.items.now a.row (ne_eqb _ 0 c.if-row-ne0.true) _ c.slice-slice.ensures in
    (rw (← e) w.0, rw (← e) w.1)

pub write_head-a-requires : goal.write_head-a-requires
write_head-a-requires c =
    let p = c.requires in
    record { sequence_bound = p.sequence_bound; count_bound = p.sound.few; sequence_in_bounds = head-room (lent_of c.args.lent.now) _ _ (eq-eqb _ 0 c.if-row-ne0.false) _ p.sound _ p.in_bounds }

pub write_group-requires : goal.write_group-requires
write_group-requires c =
    let p = c.requires in
    let e = eq-eqb _ 0 c.if-row-ne0.false in
    let l = lent_of c.args.lent.now in
    let w = rest-room l _ _ e _ p.sound _ c.write_head-a.ensures.0 p.in_bounds in
    record { end_in_bounds = p.sound.within; all = group-goes l _ _ e p.pack_goes; first_in_bounds = omega arith }

pub returns : goal.returns
returns c =
    let p = c.requires in
    let e = eq-eqb _ 0 c.if-row-ne0.false in
    let h = c.write_head-a.ensures in
    let w = c.write_group.ensures in
    let l = lent_of c.args.lent.now in
    (packet-end l _ _ e _ p.sound _ h.0 w.0, packet-wrote l _ _ e _ p.sound _ h.0 _ h.1 w.1)
