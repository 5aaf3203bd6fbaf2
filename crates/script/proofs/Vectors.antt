-- Worked examples of the definitions. Assumes nothing.
use Prim.Native.Nat.{ℕ, ◌-◌, ◌+◌, ◌^◌}
use Prim.Native.String.{String}
use mathlib.Core.Path.{◌≡◌, refl}
use mathlib.Core.List.{List, [], ◌∷◌, map}
use lib.ListN.{replicate}
use Rattle.words.specs.Lists.{first, all}
use Rattle.script.specs.Ascii.{ascii}
use Rattle.script.specs.Words.{until, word_at, same}
use Rattle.script.specs.Numbers.{value_of, digits_of, power_of, number_of, Number}
use Rattle.script.specs.Bytes.{pairs_of, stretch, plain_of, stretch_of, part_of, parts_of, outcome, bytes_of, Bytes}
use Rattle.std.specs.Prelude.{Ok, Err}
use Rattle.script.specs.declared.NumberFault.TheVariants.{NotANumber, TooLarge}
use Rattle.script.specs.declared.BytesFault.TheVariants.{NotBytes, TooMany}

word-vectors : map (word_at (ascii " a\tbc#d e")) (0 ∷ 2 ∷ 5 ∷ 99 ∷ []) ≡ record { start = 1; end = 2 } ∷ record { start = 3; end = 5 } ∷ record { start = 5; end = 5 } ∷ record { start = 99; end = 99 } ∷ []
unfolding until first
word-vectors = refl

abbrev numbers : List String → List Number
numbers = map (λ s. number_of (ascii s))

number-vectors : numbers ("37" ∷ "007" ∷ "2^0" ∷ "2^62" ∷ "2^62-1" ∷ "2^62+1" ∷ []) ≡ Ok 37 ∷ Ok 7 ∷ Ok 1 ∷ Ok (2 ^ 62) ∷ Ok (2 ^ 62 - 1) ∷ Ok (2 ^ 62 + 1) ∷ []
unfolding until first all value_of digits_of power_of number_of
number-vectors = refl

largest-vectors : numbers ("18446744073709551615" ∷ "2^64-1" ∷ "2^63+9223372036854775807" ∷ []) ≡ replicate 3 (Ok (2 ^ 64 - 1))
unfolding until first all value_of digits_of power_of number_of
largest-vectors = refl

too-large-vectors :
    numbers ("18446744073709551616" ∷ "2^64" ∷ "2^65" ∷ "2^99999999999999999999" ∷ "2^63+9223372036854775808" ∷ "2^64-18446744073709551616" ∷ "2^3-18446744073709551616" ∷ [])
    ≡ replicate 7 (Err TooLarge)
unfolding until first all value_of digits_of power_of number_of
too-large-vectors = refl

not-a-number-vectors :
    numbers ("" ∷ "-1" ∷ "x" ∷ "3^2" ∷ "2^" ∷ "2^-1" ∷ "2^3-9" ∷ "2^3-" ∷ "2^3-1-1" ∷ "1e3" ∷ "2^99999999999999999999-x" ∷ []) ≡ replicate 11 (Err NotANumber)
unfolding until first all value_of digits_of power_of number_of
not-a-number-vectors = refl

-- with room for 16 bytes
abbrev answers : List String → List Bytes
answers = map (λ s. (bytes_of 16 (ascii s)).answer)

abbrev told : List String → List (List ℕ)
told = map (λ s. (bytes_of 16 (ascii s)).told)

bytes-vectors :
    told ("-" ∷ "00ff41" ∷ "41x3" ∷ "41x0" ∷ "f9~4" ∷ "fe~4" ∷ "0041.07x2.41" ∷ "41.0g" ∷ "41.00x16" ∷ [])
    ≡ [] ∷ (0 ∷ 255 ∷ 65 ∷ []) ∷ (65 ∷ 65 ∷ 65 ∷ []) ∷ [] ∷ (249 ∷ 250 ∷ 0 ∷ 1 ∷ []) ∷ (254 ∷ 255 ∷ 0 ∷ 1 ∷ []) ∷ (0 ∷ 65 ∷ 7 ∷ 7 ∷ 65 ∷ []) ∷ (65 ∷ []) ∷ (65 ∷ []) ∷ []
unfolding all same value_of pairs_of stretch plain_of stretch_of part_of parts_of outcome bytes_of
bytes-vectors = refl

enough-vectors : answers ("00x16" ∷ "00~15.00" ∷ []) ≡ replicate 2 (Ok 16)
unfolding all same value_of pairs_of stretch plain_of stretch_of part_of parts_of outcome bytes_of
enough-vectors = refl

not-bytes-vectors :
    answers ("0" ∷ "000" ∷ "0g" ∷ "AA" ∷ "" ∷ "." ∷ "00." ∷ ".00" ∷ "--" ∷ "00x" ∷ "00x-1" ∷ "x3" ∷ "0x3" ∷ "0000x3" ∷ "00~" ∷ "00x1x1" ∷ "00x99z" ∷ []) ≡ replicate 17 (Err NotBytes)
unfolding all same value_of pairs_of stretch plain_of stretch_of part_of parts_of outcome bytes_of
not-bytes-vectors = refl

too-many-vectors : answers ("00x17" ∷ "00x16.00" ∷ "00.00x16" ∷ "00x17.zz" ∷ []) ≡ replicate 4 (Err TooMany)
unfolding all same value_of pairs_of stretch plain_of stretch_of part_of parts_of outcome bytes_of
too-many-vectors = refl
