-- What the private functions answer. Assumes nothing.
use Rattle.std.specs.Prelude.{ℕ, Result, Ok, Err}
use Rattle.words.specs.Refusal.{number_of}
use Rattle.words.specs.declared.Refusal.{Refusal}

-- the refusal's number, 0 for none
abbrev pub judged_number : Result (Unit {0}) Refusal → ℕ
judged_number (Ok done) = 0
judged_number (Err e) = number_of e
