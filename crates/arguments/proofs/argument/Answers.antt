-- `arguments::argument` meets its contract: by the letter of the form, then by the word. Assumes nothing.
use mathlib.Core.Path.{sym, ◌∙◌}
use Rattle.arguments.proofs.Laws.{argument-none, argument-missing, argument-bytes, argument-number}
use Rattle.arguments.proofs.argument.Goals as goal

pub returns-then-form-eq45 : goal.returns-then-form-eq45
returns-then-form-eq45 c = argument-none _ _ _ _ _ c.if-form-eq45.true

pub returns-then-not-has : goal.returns-then-not-has
returns-then-not-has c = argument-missing _ _ _ _ _ c.if-form-eq45.false _ c.next_word-w.ensures (sym c.has.ensures ∙ c.if-not-has.true)

pub returns-then-form-eq98 : goal.returns-then-form-eq98
returns-then-form-eq98 c = argument-bytes _ _ _ _ _ c.if-form-eq45.false _ c.next_word-w.ensures (sym c.has.ensures ∙ c.if-not-has.false) _ c.letters-text.ensures _ c.if-form-eq98.true _ c.some_bytes.ensures

pub returns : goal.returns
returns c = argument-number _ _ _ _ _ c.if-form-eq45.false _ c.next_word-w.ensures (sym c.has.ensures ∙ c.if-not-has.false) _ c.letters-text.ensures _ c.if-form-eq98.false _ c.most.ensures _ c.one_number.ensures
