-- `script::digits` meets its contract. The loop's invariant: the digits that are left, behind what those before stand for, give what the whole gives. Assumes nothing.
use mathlib.Core.Path.{refl, sym, ◌∙◌}
use native.Mathlib.Omega.{arith}
use borrow.Author.Tests.{eqb-true, eqb-false}
use Rattle.std.proofs.lemmas.Result.{err_from_is_err_and}
use Rattle.script.specs.Numbers.{digit}
use Rattle.script.proofs.Words.{all_at}
use Rattle.script.proofs.Numbers.{digits-none, digits-not, digits-all, digits-step, digits-over, digits-done, below-ok}
use Rattle.script.proofs.digits.Goals as goal
use Rattle.script.proofs.digits.Goals.{then-is_empty-via-then-is_empty, then-is_empty-via-else-is_empty+then-not-all_digits}

pub returns-then-is_empty : goal.returns-then-is_empty
returns-then-is_empty c =
    elim c.then-is_empty.branch [
      | then-is_empty-via-then-is_empty w ↦ digits-none _ (eqb-true _ _ (sym c.is_empty.ensures ∙ w.if-is_empty.true))
      | then-is_empty-via-else-is_empty+then-not-all_digits w ↦ digits-not _ (sym w.all_digits.ensures ∙ w.if-not-all_digits.true)
    ]

pub loop-c-init : goal.loop-c-init
loop-c-init c = record {
  gives = refl;
  small = omega arith;
  whole = digits-all _ (eqb-false _ _ (sym c.is_empty.ensures ∙ c.if-is_empty.false)) (sym c.all_digits.ensures ∙ c.if-not-all_digits.false);
}

pub grow-requires : goal.grow-requires
grow-requires c = all_at digit _ _ (sym c.all_digits.ensures ∙ c.if-not-all_digits.false) c.loop-c-test.true

pub returns-in_err-v : goal.returns-in_err-v
returns-in_err-v c =
    let p = err_from_is_err_and c.from_residual.result c.from_residual.ensures.1 in
    rw (p.1, p.2) (digits-over _ _ _ c.loop-c.invariant.gives _ (sym c.in_err-v.was ∙ c.grow.ensures) c.loop-c-test.true ∙ c.loop-c.invariant.whole)

pub loop-c-preserved : goal.loop-c-preserved
loop-c-preserved c =
    let v : _ = below-ok _ _ (sym c.in_ok-v.was ∙ c.grow.ensures) in
    record { gives = rw v.0 (digits-step _ _ _ c.loop-c.invariant.gives c.loop-c-test.true); small = v.1; whole = c.loop-c.invariant.whole }

pub returns : goal.returns
returns c = digits-done _ _ _ c.loop-c.invariant.gives c.loop-c-test.false c.loop-c.invariant.small ∙ c.loop-c.invariant.whole
