-- `script::bytes_of` meets its contract. The loop's invariant: what is left of the parts, from here, gives what the whole gives. Assumes nothing.
use mathlib.Core.Path.{sym, ◌∙◌}
use native.Mathlib.Omega.{arith}
use borrow.Author.Tests.{tests}
use lib.Dec.{eqb}
use Rattle.std.proofs.Common.{rules}
use Rattle.std.proofs.lemmas.Result.{err_from_is_err_and}
use Rattle.std.proofs.lemmas.Iterator.Splits.{YieldsList-from_slice_split}
use Rattle.script.proofs.Parts.{come-none, come-start, split-is, ahead-on, ahead-off, ahead-end}
use Rattle.script.proofs.bytes_of.Goals as goal

pub returns-then-is : goal.returns-then-is
returns-then-is c = come-none _ _ (sym c.is.ensures ∙ c.if-is.true)

pub loop-word-init : goal.loop-word-init
loop-word-init c = record {
  parts = _;
  yields = rw (c.into_iter-word-iterator.ensures.into_iter_gives, ← split-is c.args.text.now) (YieldsList-from_slice_split _ (λ x. eqb x 46) c.args.text.now c.split-word-items.ensures.rest c.split-word-items.ensures.done c.split-word-items.ensures.closure (λ x b q k. search (rules, tests)));
  come = come-start _ _ (sym c.is.ensures ∙ c.if-is.false);
}

pub part-requires : goal.part-requires
part-requires c = omega (arith, c.loop-word.invariant.come.fits, c.loop-word.invariant.come.kept)

pub returns-in_err-at : goal.returns-in_err-at
returns-in_err-at c =
    let p = err_from_is_err_and c.from_residual.result c.from_residual.ensures.1 in
    rw (p.1, p.2) (ahead-off _ _ c.next.new.self _ _ _ _ c.in-Some.word (rw c.in-Some.is at c.next.ensures.steps) _ _ c.loop-word.invariant (rw c.in_err-at.was at c.part.ensures))

pub loop-word-preserved : goal.loop-word-preserved
loop-word-preserved c = ahead-on _ _ c.next.new.self _ _ _ _ c.in-Some.word (rw c.in-Some.is at c.next.ensures.steps) _ _ c.loop-word.invariant c.part.auto.out (rw c.in_ok-at.was at c.part.ensures)

pub returns : goal.returns
returns c = ahead-end _ _ c.next.new.self _ _ _ _ c.loop-word.invariant (rw c.in-None.is at c.next.ensures.steps)
