-- `arguments::find` meets its contract. The loop's invariant: what is found from here is what is found from the start. Assumes nothing.
use native.Mathlib.Nat.{sub-zero}
use mathlib.Core.Path.{refl, sym, ◌∙◌}
use Rattle.arguments.proofs.Laws.{found-end, found_none, found_here, found-on}
use Rattle.arguments.proofs.find.Goals as goal

pub loop-k-init : goal.loop-k-init
loop-k-init c = rw sub-zero refl

pub returns-then-not-has : goal.returns-then-not-has
returns-then-not-has c = found_none _ _ _ _ _ c.loop-k.invariant c.loop-k-test.true _ c.next_word-w.ensures (sym c.has.ensures ∙ c.if-not-has.true)

pub returns-then-is : goal.returns-then-is
returns-then-is c = found_here _ _ _ _ _ c.loop-k.invariant c.loop-k-test.true _ c.next_word-w.ensures (sym c.has.ensures ∙ c.if-not-has.false) _ c.letters.ensures _ c.next_word-form.ensures (sym c.is.ensures ∙ c.if-is.true)

pub loop-k-preserved : goal.loop-k-preserved
loop-k-preserved c = found-on _ _ _ _ _ c.loop-k.invariant c.loop-k-test.true _ c.next_word-w.ensures (sym c.has.ensures ∙ c.if-not-has.false) _ c.letters.ensures _ c.next_word-form.ensures (sym c.is.ensures ∙ c.if-is.false)

pub returns : goal.returns
returns c = found-end c.args.calls.now c.args.name.now _ _ _ c.loop-k.invariant c.loop-k-test.false
