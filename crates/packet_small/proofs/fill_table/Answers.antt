-- `packet_small::fill_table` meets its contract. The loop's invariant: what is left fills the rest of the table as the whole fills all of it.
-- Assumes nothing.
use Prim.Native.Nat.{◌+◌}
use native.Mathlib.Omega.{arith}
use native.Mathlib.Nat.{sub-zero}
use mathlib.Core.Path.{◌≡◌, refl, sym, ap, ◌∙◌}
use lib.ListN.{length-set}
use Rattle.octets.specs.Reader.{ok}
use Rattle.packet_small.specs.Small.{message, item_of}
use Rattle.packet_small.proofs.Read.{message-fits}
use Rattle.packet_small.proofs.Fill.{fill_none, fill-there, fill-good, fill_more}
use Rattle.packet_small.proofs.fill_table.Goals as goal
use Rattle.packet_small.proofs.fill_table.Goals.{After-unwrap-m}

-- the message of a turn
turn : (c : After-unwrap-m)
    → let m = c.unwrap-m.result in
    ok (record { id = m.id.0; place = m.place; len = m.len }) (m.place + m.len) ≡ message c.args.ids c.args.s.now c.loop-i.at
turn c = sym (ap item_of c.unwrap-m.ensures) ∙ c.get_message.ensures

pub loop-i-init : goal.loop-i-init
loop-i-init c = (refl, rw sub-zero c.requires.good, rw sub-zero refl)

pub unwrap-m-requires : goal.unwrap-m-requires
unwrap-m-requires c = let l = c.loop-i.invariant in fill-there _ _ _ _ _ c.loop-i-test.true l.1 _ c.get_message.ensures

pub bounds-table-j-in-loop-i : goal.bounds-table-j-in-loop-i
bounds-table-j-in-loop-i c = simp length-set (omega arith)

pub bounds-table-j-in-loop-i-2 : goal.bounds-table-j-in-loop-i-2
bounds-table-j-in-loop-i-2 c = simp length-set (omega arith)

pub overflow_add-at : goal.overflow_add-at
overflow_add-at c = message-fits _ _ _ (turn (goal.at.overflow_add-at c).After-unwrap-m) (omega arith)

pub loop-i-preserved : goal.loop-i-preserved
loop-i-preserved c =
    let l = c.loop-i.invariant in
    let m = turn (goal.at.loop-i-preserved c).After-unwrap-m in
    (simp length-set (omega arith), fill-good _ _ _ _ _ c.loop-i-test.true l.1 m, fill_more _ _ _ _ _ c.loop-i-test.true l.1 m _ l.2)

pub returns : goal.returns
returns c = search fill_none
