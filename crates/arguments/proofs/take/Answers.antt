-- `arguments::take` meets its contract. The loop's invariant: the letters that are left, from here, give what the whole form gives. Assumes nothing.
use mathlib.Core.Path.{sym, ◌∙◌}
use Rattle.std.proofs.lemmas.Result.{err_from_is_err_and}
use Rattle.arguments.proofs.Laws.{take-end, take-further, take_on, take-off}
use Rattle.arguments.proofs.take.Goals as goal

pub returns-then-c-eq119 : goal.returns-then-c-eq119
returns-then-c-eq119 c = take-further _ _ _ _ _ _ _ _ c.loop-c.invariant c.loop-c-test.true c.if-c-eq119.true _ _ c.further.ensures

pub returns-in_err-t : goal.returns-in_err-t
returns-in_err-t c =
    let p = err_from_is_err_and c.from_residual.result c.from_residual.ensures.1 in
    rw (p.1, p.2) (take-off _ _ _ _ _ _ _ _ c.loop-c.invariant c.loop-c-test.true c.if-c-eq119.false _ _ _ c.argument.ensures _ (sym c.numbered.ensures ∙ c.in_err-t.was))

pub loop-c-preserved : goal.loop-c-preserved
loop-c-preserved c = take_on _ _ _ _ _ _ _ _ c.loop-c.invariant c.loop-c-test.true c.if-c-eq119.false _ _ _ c.argument.ensures _ (sym c.numbered.ensures ∙ c.in_ok-t.was)

pub returns : goal.returns
returns c = take-end _ _ _ _ _ _ _ _ c.loop-c.invariant c.loop-c-test.false _ c.ended.ensures
