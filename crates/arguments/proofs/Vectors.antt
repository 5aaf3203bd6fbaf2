-- Worked examples of the definitions. Assumes nothing.
use Prim.Native.Nat.{ℕ, ◌-◌, ◌^◌}
use Prim.Native.String.{String}
use mathlib.Core.Path.{◌≡◌, refl}
use mathlib.Core.List.{List, [], ◌∷◌, map}
use lib.ListN.{replicate}
use Rattle.words.specs.Lists.{first, all, splice}
use Rattle.script.specs.Ascii.{ascii}
use Rattle.script.specs.Words.{until, same}
use Rattle.script.specs.Numbers.{value_of, digits_of, power_of, number_of}
use Rattle.script.specs.Bytes.{pairs_of, stretch, plain_of, stretch_of, part_of, parts_of, outcome, bytes_of}
use Rattle.arguments.specs.Arguments.{Leaves, found_from, most_of, argument_taken, ended_of, further_taken, taken_by, taken_apart_of, Read, called}
use Rattle.arguments.specs.declared.Fault.TheVariants.{Missing, NotANumber, TooLarge, NotBytes, TooMany, OneTooMany}
use Rattle.arguments.specs.declared.Fault.{Fault}
use Rattle.arguments.specs.declared.LineFault.TheVariants.{NoCall, Bad}
use Rattle.std.specs.Prelude.{Err}

-- docs/SCRIPT.md's numbers: CHANNEL, N of put-u16, and what there is to be lent
most-vectors : map most_of (ascii "chSLOTEMRWn") ≡ 255 ∷ 65535 ∷ 76800 ∷ 192000 ∷ 280000 ∷ 512 ∷ 48000 ∷ 192 ∷ 128 ∷ 2048 ∷ (2 ^ 64 - 1) ∷ []
unfolding most_of
most-vectors = refl

-- with room for four numbers and four bytes
abbrev apart : String → Leaves Read
apart s = taken_apart_of (ascii "digest - new nn put nh more bw") (ascii s) 0 (replicate 4 9) (replicate 4 7)

abbrev answers : List String → List Read
answers = map (λ s. (apart s).answer)

abbrev bad : ℕ → Fault → Read
bad k e = Err (Bad k e)

call-vectors : answers ("digest" ∷ " new 1 2 # a comment" ∷ "put 0 65535" ∷ "more 00x4" ∷ "more - 5 6 7" ∷ []) ≡ called 0 0 0 ∷ called 1 2 0 ∷ called 2 2 0 ∷ called 3 0 4 ∷ called 3 3 0 ∷ []
unfolding until first all same value_of digits_of power_of number_of pairs_of stretch plain_of stretch_of part_of parts_of outcome bytes_of found_from most_of argument_taken ended_of further_taken taken_by taken_apart_of
call-vectors = refl

no-call-vectors : answers ("" ∷ "# digest" ∷ "dig" ∷ "nn" ∷ "-" ∷ []) ≡ replicate 5 (Err NoCall)
unfolding until first all same found_from taken_apart_of
no-call-vectors = refl

fault-vectors :
    answers ("digest 1" ∷ "new 1" ∷ "new x 2^64" ∷ "new 1 2^64" ∷ "new 1 2 x" ∷ "put 0 65536" ∷ "more 0" ∷ "more 00x5" ∷ "more - 5 x" ∷ [])
    ≡ bad 1 OneTooMany ∷ bad 2 Missing ∷ bad 1 NotANumber ∷ bad 2 TooLarge ∷ bad 3 OneTooMany ∷ bad 2 TooLarge ∷ bad 1 NotBytes ∷ bad 1 TooMany ∷ bad 3 NotANumber ∷ []
unfolding until first all same value_of digits_of power_of number_of pairs_of stretch plain_of stretch_of part_of parts_of outcome bytes_of found_from most_of argument_taken ended_of further_taken taken_by taken_apart_of
fault-vectors = refl

-- what stands in the numbers and in the bytes, also behind a fault
left-vectors :
    (map (λ s. (apart s).numbers) ("new 1 2" ∷ "new 1 x" ∷ "nn 1 2" ∷ []) ≡ (1 ∷ 2 ∷ 9 ∷ 9 ∷ []) ∷ (1 ∷ 9 ∷ 9 ∷ 9 ∷ []) ∷ replicate 4 9 ∷ [])
    × (map (λ s. (apart s).bytes) ("more 41x2" ∷ "more 41.0g" ∷ "more -" ∷ []) ≡ (65 ∷ 65 ∷ 7 ∷ 7 ∷ []) ∷ (65 ∷ 7 ∷ 7 ∷ 7 ∷ []) ∷ replicate 4 7 ∷ [])
unfolding splice until first all same value_of digits_of power_of number_of pairs_of stretch plain_of stretch_of part_of parts_of outcome bytes_of found_from most_of argument_taken ended_of further_taken taken_by taken_apart_of
left-vectors = (refl, refl)
