-- What a writer over lent bytes answers, and what it leaves of them. Assumes nothing.
use Rattle.std.specs.Prelude.{ℕ, List, eqb, Result, Ok, Err}
use Rattle.words.specs.Choice.{pick}
use Rattle.words.specs.Lists.{splice}
use Rattle.words.specs.Refusal.{number_of}
use Rattle.words.specs.declared.Refusal.{Refusal}

-- the place after what was written, or the number of the refusal
pub data Outcome : Type 0 where
  done : ℕ → Outcome
  refused : ℕ → Outcome

abbrev pub put_of : Result ℕ Refusal → Outcome
put_of (Ok next) = done next
put_of (Err e) = refused (number_of e)

-- the answer where e is the number of the refusal, 0 for none, and `next` the place after what is to be written
abbrev pub outcome : ℕ → ℕ → Outcome
outcome e next = pick (eqb e 0) (done next) (refused e)

-- the lent bytes afterwards, where bs is to go to place `at`: a refusal leaves every byte
abbrev pub left : Outcome → ℕ → List ℕ → List ℕ → List ℕ
left (done next) at bs out = splice at bs out
left (refused e) at bs out = out
