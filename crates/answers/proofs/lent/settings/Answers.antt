-- `answers::lent::settings` meets its contract: four numbers, one behind the other. Assumes nothing.
use Prim.Native.Nat.{◌+◌}
use native.Mathlib.Omega.{arith}
use Rattle.answers.proofs.Places.{word_at}
use Rattle.answers.proofs.Lines.{settings-read}
use Rattle.answers.proofs.lent.settings.Goals as goal

pub returns : goal.returns
returns c =
    let s = c.args in
    settings-read _ _ _ _ _ _ c.size.ensures
    (word_at s.numbers.now (s.first + 1) _ (omega arith) (omega arith) c.size-2.ensures)
    (word_at s.numbers.now (s.first + 2) _ (omega arith) (omega arith) c.size-3.ensures)
    (word_at s.numbers.now (s.first + 3) _ (omega arith) (omega arith) c.size-4.ensures)
