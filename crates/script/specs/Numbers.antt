-- NUMBER = DIGITS | 2^DIGITS | 2^DIGITS-DIGITS | 2^DIGITS+DIGITS, below 2^64. Assumes nothing.
use Rattle.std.specs.Prelude.{ℕ, ◌+◌, ◌-◌, ◌*◌, ◌^◌, Bool, false, List, [], ◌∷◌, length, get_or, take, drop, eqb, ltb, leb, Result, Ok, Err}
use Prim.Native.Char.{code}
use Rattle.words.specs.Choice.{pick}
use Rattle.words.specs.Lists.{all}
use Rattle.script.specs.Words.{sign, until}
use Rattle.script.specs.declared.NumberFault.{NumberFault}
use Rattle.script.specs.declared.NumberFault.TheVariants.{NotANumber, TooLarge}

-- a number, or why there is none
abbrev pub Number : Type 0
Number = Result ℕ NumberFault

-- one of 0 to 9
abbrev pub digit : ℕ → Bool
digit c = pick (leb (code "0") c) (leb c (code "9")) false

-- what digits stand for, behind those that stand for v
unfoldable pub value_of : ℕ → List ℕ → ℕ
value_of v [] = v
value_of v (c ∷ cs) = value_of (v * 10 + (c - code "0")) cs

-- numbers are below 2^64
abbrev pub below : ℕ → Number
below v = pick (ltb v (2 ^ 64)) (Ok v) (Err TooLarge)

-- DIGITS: nothing but digits, one at least
unfoldable pub digits_of : List ℕ → Number
digits_of s = pick (eqb (length s) 0) (Err NotANumber) (pick (all digit s) (below (value_of 0 s)) (Err NotANumber))

-- 2^k and d more or fewer; k above 64 is too large, and what is below zero is no number
abbrev pub raised : ℕ → ℕ → Number
raised k d = pick (ltb 64 k) (Err TooLarge) (below (2 ^ k + d))

abbrev pub lowered : ℕ → ℕ → Number
lowered k d = pick (ltb 64 k) (Err TooLarge) (pick (ltb (2 ^ k) d) (Err NotANumber) (below (2 ^ k - d)))

abbrev pub moved : Bool → ℕ → ℕ → Number
moved minus k d = pick minus (lowered k d) (raised k d)

-- of two DIGITS: the form of both is judged before the size of either
abbrev pub joined : Bool → Number → Number → Number
joined minus (Err NotANumber) d = Err NotANumber
joined minus (Err TooLarge) (Err NotANumber) = Err NotANumber
joined minus (Err TooLarge) (Err TooLarge) = Err TooLarge
joined minus (Err TooLarge) (Ok d) = Err TooLarge
joined minus (Ok k) (Err NotANumber) = Err NotANumber
joined minus (Ok k) (Err TooLarge) = Err TooLarge
joined minus (Ok k) (Ok d) = moved minus k d

-- what stands behind 2^, up to a sign at i and behind it; without one nothing is added
abbrev pub power_at : List ℕ → ℕ → Number
power_at s i =
    pick (ltb i (length s))
    (joined (eqb (get_or s i 0) (code "-")) (digits_of (take i s)) (digits_of (drop (i + 1) s)))
    (joined false (digits_of s) (Ok 0))

unfoldable pub power_of : List ℕ → Number
power_of s = power_at s (until sign s 0)

-- whether 2^ stands in front
abbrev pub power : List ℕ → Bool
power s = pick (leb 2 (length s)) (pick (eqb (get_or s 0 0) (code "2")) (eqb (get_or s 1 0) (code "^")) false) false

unfoldable pub number_of : List ℕ → Number
number_of s = pick (power s) (power_of (drop 2 s)) (digits_of s)
