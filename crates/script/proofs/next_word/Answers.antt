-- `script::next_word` meets its contract. Assumes nothing.
use borrow.Author.Tests.{tests}
use Rattle.std.proofs.Common.{rules}
use Rattle.script.proofs.Words.{word-is}
use Rattle.script.proofs.next_word.Goals as goal

pub returns : goal.returns
returns c = word-is _ _ _ _ (c.until-start.ensures _ (λ k r p. search (rules, tests))) (c.until-end.ensures _ (λ k r p. search (rules, tests)))
