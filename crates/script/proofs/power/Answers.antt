-- `script::power` meets its contract. Assumes nothing.
use borrow.Author.Tests.{tests}
use Rattle.std.proofs.Common.{rules}
use Rattle.script.specs.Words.{sign}
use Rattle.script.proofs.Numbers.{power-whole, power-parts}
use Rattle.script.proofs.power.Goals as goal

pub returns-then-s-i : goal.returns-then-s-i
returns-then-s-i c = power-whole _ _ (c.until-i.ensures sign (λ k r p. search (rules, tests))) _ _ c.if-s-i.true c.digits.ensures c.join.ensures

pub returns : goal.returns
returns c = power-parts _ _ (c.until-i.ensures sign (λ k r p. search (rules, tests))) _ _ _ c.if-s-i.false c.digits-k.ensures c.digits-d.ensures c.join-2.ensures
