-- Worked examples of the definitions. Assumes nothing.
use Prim.Native.Nat.{◌-◌, ◌^◌}
use mathlib.Core.Bool.{true}
use mathlib.Core.Path.{◌≡◌, refl}
use mathlib.Core.List.{[], ◌∷◌, ◌++◌, map}
use lib.ListN.{replicate}
use Rattle.words.specs.Lists.{reached}
use Rattle.words.specs.declared.Refusal.TheVariants.{BufferTooShort, BadIndex}
use Rattle.script.specs.Ascii.{ascii}
use Rattle.script.specs.Bytes.{stretch}
use Rattle.say.specs.Say.{places, decimal_of}
use Rattle.say.specs.Refused.{refusal_of}
use Rattle.say.specs.Spelled.{runs, part_at, spelled_from, spelled}
use Rattle.say.specs.Digest.{digest_of}

decimal-vectors : map decimal_of (0 ∷ 9 ∷ 10 ∷ (2 ^ 64 - 1) ∷ []) ≡ ascii "0" ∷ ascii "9" ∷ ascii "10" ∷ ascii "18446744073709551615" ∷ []
unfolding places
decimal-vectors = refl

refusal-vectors : map refusal_of (BufferTooShort ∷ BadIndex ∷ []) ≡ ascii "1 BufferTooShort" ∷ ascii "17 BadIndex" ∷ []
unfolding places
refusal-vectors = refl

spelled-vectors :
    map spelled ([] ∷ (0 ∷ []) ∷ (0 ∷ 255 ∷ 65 ∷ []) ∷ replicate 7 65 ∷ replicate 8 65 ∷ stretch true 0 7 ∷ stretch true 0 8 ∷ stretch true 248 8 ∷ (0 ∷ 65 ∷ replicate 9 7 ++ 65 ∷ []) ∷ (replicate 8 65 ++ replicate 8 66) ∷ [])
    ≡ map ascii ("-" ∷ "00" ∷ "00ff41" ∷ "41414141414141" ∷ "41x8" ∷ "00010203040506" ∷ "00~8" ∷ "f8~8" ∷ "0041.07x9.41" ∷ "41x8.42x8" ∷ [])
unfolding places stretch runs part_at spelled_from spelled
spelled-vectors = refl

digest-vectors : map digest_of ([] ∷ (1 ∷ []) ∷ (1 ∷ 2 ∷ []) ∷ ((2 ^ 64 - 1) ∷ []) ∷ []) ≡ 0 ∷ 1 ∷ 253 ∷ 1279 ∷ []
unfolding reached digest_of
digest-vectors = refl
