-- What is set down on a page. Assumes nothing.
use Rattle.std.specs.Prelude.{ℕ, zero, suc, ◌+◌, ◌/◌, ◌≡◌, List, length, ltb, leb}
use Rattle.io.specs.Digits.{last_digits}
use Rattle.words.specs.Choice.{pick}
use Rattle.words.specs.Lists.{splice}

-- s from a place of the page on, and the place after it; where the page has no room for all of it, nothing
pub record Says (page : List ℕ) (at : ℕ) (s page' : List ℕ) (r : ℕ) : Type 0 where
  pub bytes : page' ≡ pick (leb (at + length s) (length page)) (splice at s page) page
  pub place : r ≡ pick (leb (at + length s) (length page)) (at + length s) at

-- a number's decimal digits: as few as hold it, one at least
unfoldable pub places : ℕ → ℕ → ℕ
places zero n = 1
places (suc most) n = pick (ltb n 10) 1 (suc (places most (n / 10)))

abbrev pub decimal_of : ℕ → List ℕ
decimal_of n = last_digits 10 (places 19 n) n
