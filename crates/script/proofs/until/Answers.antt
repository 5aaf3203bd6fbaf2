-- `script::until` meets its contract. The loop's invariant: what is found from here is what is found from the start. Assumes nothing.
use mathlib.Core.Path.{sym, ◌∙◌}
use Rattle.script.proofs.Words.{until-hit, until-miss, until-max}
use Rattle.script.proofs.until.Goals as goal

pub returns-then-passes : goal.returns-then-passes
returns-then-passes g c = λ p h. until-hit p _ _ c.loop-i-test.true (sym (h _ _ c.passes.ensures) ∙ c.if-passes.true) ∙ sym (c.loop-i.invariant p h)

pub loop-i-preserved : goal.loop-i-preserved
loop-i-preserved g c = λ p h. c.loop-i.invariant p h ∙ until-miss p _ _ c.loop-i-test.true (sym (h _ _ c.passes.ensures) ∙ c.if-passes.false)

pub returns : goal.returns
returns g c = λ p h. c.max.ensures ∙ until-max p _ _ _ c.loop-i.auto.i c.loop-i.auto.i-end c.loop-i-test.false (c.loop-i.invariant p h)
