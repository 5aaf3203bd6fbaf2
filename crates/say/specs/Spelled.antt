-- Bytes in words, as an argument of a script spells them. Assumes nothing.
use Rattle.std.specs.Prelude.{ℕ, zero, suc, ◌+◌, min, max, ◌≡◌, Bool, true, false, List, [], ◌∷◌, ◌++◌, length, drop, eqb, leb}
use Rattle.io.specs.Digits.{last_digits}
use Rattle.words.specs.Choice.{pick}
use Rattle.words.specs.Lists.{splice}
use Rattle.script.specs.Bytes.{then}
use Rattle.script.specs.Ascii.{ascii}
use Rattle.say.specs.Say.{decimal_of}
use Rattle.say.specs.declared.Part.{Part}
use Rattle.say.specs.declared.Part.TheVariants.{Byte, Stretch}
use Rattle.say.specs.declared.Before.{Before}
use Rattle.say.specs.declared.Before.TheVariants.{Nothing, Bare, Drawn}

-- shorter stretches are spelt byte by byte
abbrev pub LEAST : ℕ
LEAST = 8

-- how many bytes from the front go on as a stretch from b does, up or the same
unfoldable pub runs : Bool → ℕ → List ℕ → ℕ
runs up b [] = 0
runs up b (x ∷ xs) = pick (eqb x b) (suc (runs up (then up b) xs)) 0

-- at each place a stretch of equal bytes, else one that counts up, the longest there is; else one byte
abbrev pub front_of : ℕ → List ℕ → Part
front_of b xs =
    pick (leb LEAST (runs false b xs)) (Stretch false b (runs false b xs))
    (pick (leb LEAST (runs true b xs)) (Stretch true b (runs true b xs)) (Byte b))

unfoldable pub part_at : List ℕ → Part
part_at [] = Byte 0
part_at (b ∷ xs) = front_of b (b ∷ xs)

-- how many bytes a part has
abbrev pub length_of : Part → ℕ
length_of (Byte b) = 1
length_of (Stretch up b n) = n

-- the place after a part of n bytes in a list of `all`
abbrev pub past_of : ℕ → ℕ → ℕ → ℕ
past_of all from n = pick (leb all from) from (min all (from + max 1 n))

abbrev pub kind_of : Part → Before
kind_of (Byte b) = Bare
kind_of (Stretch up b n) = Drawn

-- a byte is two hex digits; HHxN and HH~N are stretches
abbrev pub byte_of : ℕ → List ℕ
byte_of b = last_digits 16 2 b

abbrev pub sign_of : Bool → List ℕ
sign_of up = pick up (ascii "~") (ascii "x")

abbrev pub text_of : Part → List ℕ
text_of (Byte b) = byte_of b
text_of (Stretch up b n) = byte_of b ++ sign_of up ++ decimal_of n

-- a point stands between parts, but not between two bytes
abbrev pub point_of : Before → Part → List ℕ
point_of Nothing p = []
point_of Bare (Byte b) = []
point_of Bare (Stretch up b n) = ascii "."
point_of Drawn p = ascii "."

-- part after part; a list has at most as many parts as bytes
unfoldable pub spelled_from : ℕ → Before → List ℕ → List ℕ
spelled_from zero w xs = []
spelled_from (suc k) w [] = []
spelled_from (suc k) w (x ∷ xs) =
    point_of w (part_at (x ∷ xs)) ++ text_of (part_at (x ∷ xs)) ++ spelled_from k (kind_of (part_at (x ∷ xs))) (drop (length_of (part_at (x ∷ xs))) (x ∷ xs))

-- no bytes are `-`
unfoldable pub spelled : List ℕ → List ℕ
spelled [] = ascii "-"
spelled (x ∷ xs) = spelled_from (length (x ∷ xs)) Nothing (x ∷ xs)

-- ---- one part on a page: it has at most so many letters, and where the page has no room for so many, nothing is set down

abbrev pub WIDEST : ℕ
WIDEST = 24

pub record Puts (page : List ℕ) (at : ℕ) (s page' : List ℕ) (r : ℕ) : Type 0 where
  pub bytes : page' ≡ pick (leb (at + WIDEST) (length page)) (splice at s page) page
  pub place : r ≡ pick (leb (at + WIDEST) (length page)) (at + length s) at
