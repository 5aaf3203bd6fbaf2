-- `page::bytes` meets its contract: what is left, from the index on, gives what the whole gives. Assumes nothing.
use mathlib.Core.Path.{sym, ◌∙◌}
use native.Mathlib.Omega.{arith}
use borrow.Author.Tests.{eqb-true, eqb-false}
use lib.ListN.{length}
use Rattle.page.proofs.Sheets.{spelt-again, spelt-start, spelt-end, spelt-nothing}
use Rattle.page.proofs.bytes.Goals as goal

pub returns-then-is_empty : goal.returns-then-is_empty
returns-then-is_empty c = spelt-nothing _ _ _ (eqb-true _ _ (sym c.is_empty.ensures ∙ c.if-is_empty.true)) c.text.ensures

pub loop-i-init : goal.loop-i-init
loop-i-init c = spelt-start _ _ (omega (arith, eqb-false (length c.args.s.now) 0 (sym c.is_empty.ensures ∙ c.if-is_empty.false)))

pub loop-i-smaller : goal.loop-i-smaller
loop-i-smaller c = omega (arith, c.past_part-i.ensures.1)

pub loop-i-preserved : goal.loop-i-preserved
loop-i-preserved c = spelt-again _ _ _ _ _ _ c.loop-i-test.true c.next_part-p.ensures _ _ _ c.past_part-i.ensures.0 (omega (arith, c.past_part-i.ensures.1)) c.part_kind-before.ensures c.spell-a.ensures c.loop-i.invariant

pub returns : goal.returns
returns c = spelt-end c.args.s.now c.loop-i.i _ _ _ c.loop-i-test.false c.loop-i.invariant
