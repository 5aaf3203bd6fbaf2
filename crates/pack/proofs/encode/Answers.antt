-- `pack::encode` meets its contract. The loop's invariant: what is left, written from here, makes the bytes and the table that the whole makes. Assumes nothing.
use native.Mathlib.Omega.{arith}
use mathlib.Core.Path.{refl}
use lib.ListN.{length-set}
use Rattle.pack.specs.Steps.{lent_of}
use Rattle.pack.specs.Encode.{out_after, table_after}
use Rattle.pack.proofs.Wrote.{from_start, row-left, pack-left, room-turn, len-turn, out-turn, table-turn, out-done, table_done}
use Rattle.pack.proofs.encode.Goals as goal

pub loop-i-init : goal.loop-i-init
unfolding out_after table_after
loop-i-init c =
    let a = c.args in
    let f = from_start (lent_of a.lent.now) a.sequence.0 a.items.now a.packs.now in
    (refl, refl, c.requires.sound, c.requires.go, rw f (omega arith), rw f, rw f)

pub write_packet-end-requires : goal.write_packet-end-requires
write_packet-end-requires c =
    let a = c.args in
    let l = c.loop-i in
    let h = c.loop-i-test.true in
    let m = room-turn (lent_of a.lent.now) _ _ _ _ h _ l.invariant.4 in
    record {
      sound = (row-left _ _ _ h l.invariant.2).0;
      pack_goes = (pack-left _ _ _ _ h l.invariant.3).0;
      sequence_bound = omega arith;
      in_bounds = omega arith;
    }

pub bounds-table-i-in-loop-i : goal.bounds-table-i-in-loop-i
bounds-table-i-in-loop-i c = simp length-set (omega arith)

pub loop-i-preserved : goal.loop-i-preserved
loop-i-preserved c =
    let a = c.args in
    let l = c.loop-i in
    let h = c.loop-i-test.true in
    let w = c.write_packet-end.ensures in
    let n = lent_of a.lent.now in (
      omega arith,
      simp length-set (omega arith),
      (row-left _ _ _ h l.invariant.2).1,
      (pack-left _ _ _ _ h l.invariant.3).1,
      len-turn n _ _ _ _ h _ w.0 l.invariant.4,
      out-turn n _ _ _ _ h _ w.0 _ w.1 l.invariant.5,
      table-turn n _ _ _ _ h _ w.0 _ l.invariant.6,
    )

pub returns : goal.returns
returns c = let l = c.loop-i in let h = c.loop-i-test.false in let n = lent_of c.args.lent.now in (out-done n _ _ _ _ h _ _ l.invariant.5, table_done n _ _ _ _ h _ _ _ l.invariant.6)
