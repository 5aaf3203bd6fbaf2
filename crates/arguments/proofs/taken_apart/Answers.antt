-- `arguments::taken_apart` meets its contract: the call is found, and its arguments are taken. Assumes nothing.
use mathlib.Core.Path.{sym, ◌∙◌}
use Rattle.std.proofs.lemmas.Result.{err_from_is_err_and}
use Rattle.arguments.proofs.Laws.{line-none, line_taken}
use Rattle.arguments.proofs.taken_apart.Goals as goal

pub returns-in_err-k : goal.returns-in_err-k
returns-in_err-k c =
    let p = err_from_is_err_and c.from_residual.result c.from_residual.ensures.1 in
    rw (p.1, p.2) (line-none _ _ _ _ _ _ c.next_word-w.ensures _ c.letters.ensures _ c.find.ensures _ (sym c.ok_or.ensures.value ∙ c.in_err-k.was))

pub returns : goal.returns
returns c = line_taken _ _ _ _ _ _ c.next_word-w.ensures _ c.letters.ensures _ c.find.ensures c.in_ok-k.k c.in_ok-k.form (sym c.ok_or.ensures.value ∙ c.in_ok-k.was) _ c.letters-2.ensures _ c.take.ensures
