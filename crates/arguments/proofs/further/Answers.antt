-- `arguments::further` meets its contract. The loop's invariant: those that are left, from here, give what all give. Assumes nothing.
use Prim.Native.Nat.{◌+◌, ◌-◌}
use mathlib.Core.Path.{◌≡◌, sym, ◌∙◌}
use native.Mathlib.Omega.{arith}
use Rattle.std.proofs.lemmas.Result.{err_from_is_err_and}
use Rattle.arguments.specs.Sizes.{MORE}
use Rattle.arguments.proofs.Laws.{further-end, further-none, further-on, further-off}
use Rattle.arguments.proofs.further.Goals as goal

pub returns-then-not-has : goal.returns-then-not-has
returns-then-not-has c = λ bs. rw c.called.ensures (further-none _ _ _ _ _ bs _ (c.loop.invariant bs) (omega (arith, c.loop-test.true)) _ c.next_word-w.ensures (sym c.has.ensures ∙ c.if-not-has.true))

pub returns-in_err-t : goal.returns-in_err-t
returns-in_err-t c = λ bs.
    let p = err_from_is_err_and c.from_residual.result c.from_residual.ensures.1 in
    rw (p.1, p.2) (further-off _ _ _ _ _ bs _ (c.loop.invariant bs) (omega (arith, c.loop-test.true)) _ c.next_word-w.ensures (sym c.has.ensures ∙ c.if-not-has.false) _ c.letters-text.ensures _ _ c.one_number.ensures _ (sym c.numbered.ensures ∙ c.in_err-t.was))

pub loop-preserved : goal.loop-preserved
loop-preserved c = λ bs.
    let n : MORE - (c.loop.counter + 1) ≡ MORE - c.loop.counter - 1 = omega arith in
    rw n (further-on _ _ _ _ _ bs _ (c.loop.invariant bs) (omega (arith, c.loop-test.true)) _ c.next_word-w.ensures (sym c.has.ensures ∙ c.if-not-has.false) _ c.letters-text.ensures _ _ c.one_number.ensures _ (sym c.numbered.ensures ∙ c.in_ok-t.was))

pub returns : goal.returns
returns c = λ bs. further-end _ _ _ _ _ bs _ (c.loop.invariant bs) (omega (arith, c.loop-test.false)) _ c.ended.ensures
