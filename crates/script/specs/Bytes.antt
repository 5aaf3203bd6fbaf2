-- BYTES = - | PART{.PART}, PART = HEX | HHxDIGITS | HH~DIGITS. Assumes nothing.
use Rattle.std.specs.Prelude.{ℕ, zero, suc, ◌+◌, ◌-◌, ◌*◌, ◌%◌, Bool, true, false, List, [], ◌∷◌, ◌++◌, map, length, get_or, take, drop, eqb, ltb, leb, ◌≡◌, Result, Ok, Err}
use Prim.Native.Char.{code}
use Rattle.words.specs.Choice.{pick}
use Rattle.words.specs.Lists.{all, splice}
use Rattle.script.specs.Ascii.{ascii}
use Rattle.script.specs.Words.{same}
use Rattle.script.specs.Numbers.{digit, value_of}
use Rattle.script.specs.declared.NumberFault.{NumberFault}
use Rattle.script.specs.declared.NumberFault.TheVariants.{NotANumber, TooLarge}
use Rattle.script.specs.declared.BytesFault.{BytesFault}
use Rattle.script.specs.declared.BytesFault.TheVariants.{NotBytes, TooMany}

-- the place after the bytes, or why there are none
abbrev pub Bytes : Type 0
Bytes = Result ℕ BytesFault

-- what a hex digit stands for, in lower case; 16 where there is none
abbrev pub hex_of : ℕ → ℕ
hex_of c = pick (digit c) (c - code "0") (pick (leb (code "a") c) (pick (leb c (code "f")) (c - code "a" + 10) 16) 16)

abbrev pub hex : ℕ → Bool
hex c = ltb (hex_of c) 16

-- the byte of two hex digits
abbrev pub pair_of : ℕ → ℕ → ℕ
pair_of h l = hex_of h * 16 + hex_of l

unfoldable pub pairs_of : List ℕ → List ℕ
pairs_of [] = []
pairs_of (h ∷ []) = []
pairs_of (h ∷ l ∷ s) = pair_of h l ∷ pairs_of s

-- the next byte of a stretch that counts up: after fa and after ff comes 00
abbrev pub after : ℕ → ℕ
after b = pick (eqb b 0xfa) 0 (pick (eqb b 0xff) 0 (b + 1))

-- the next byte of a stretch: up, or the same
abbrev pub then : Bool → ℕ → ℕ
then up b = pick up (after b) b

-- n bytes from b on
unfoldable pub stretch : Bool → ℕ → ℕ → List ℕ
stretch up b zero = []
stretch up b (suc n) = b ∷ stretch up (then up b) n

-- what a part spells
pub data Spelt : Type 0 where
  bytes : List ℕ → Spelt
  faulty : Spelt

-- HEX: an even number of hex digits, two at least
unfoldable pub plain_of : List ℕ → Spelt
plain_of s = pick (eqb (length s) 0) faulty (pick (eqb (length s % 2) 0) (pick (all hex s) (bytes (pairs_of s)) faulty) faulty)

-- HHxDIGITS, HH~DIGITS
unfoldable pub stretch_of : Bool → List ℕ → Spelt
stretch_of up s = pick (leb (length s) 3) faulty (pick (all hex (take 2 s)) (pick (all digit (drop 3 s)) (bytes (stretch up (pair_of (get_or s 0 0) (get_or s 1 0)) (value_of 0 (drop 3 s)))) faulty) faulty)

-- the letter at 2 tells which
unfoldable pub part_of : List ℕ → Spelt
part_of s =
    pick (leb (length s) 2) (plain_of s)
    (pick (eqb (get_or s 2 0) (code "x")) (stretch_of false s)
    (pick (eqb (get_or s 2 0) (code "~")) (stretch_of true s) (plain_of s)))

-- the parts between the points
abbrev pub grown : ℕ → List (List ℕ) → List (List ℕ)
grown c [] = (c ∷ []) ∷ []
grown c (p ∷ ps) = (c ∷ p) ∷ ps

unfoldable pub parts_of : List ℕ → List (List ℕ)
parts_of [] = [] ∷ []
parts_of (c ∷ s) = pick (eqb c (code ".")) ([] ∷ parts_of s) (grown c (parts_of s))

-- the bytes that are set down, and the answer
pub record Outcome : Type 0 where
  pub told : List ℕ
  pub answer : Bytes

abbrev pub behind : List ℕ → Outcome → Outcome
behind bs o = record { told = bs ++ o.told; answer = o.answer }

-- part after part, from place `at` of so much room on; the first that is faulty or has no room ends it
unfoldable pub outcome : ℕ → ℕ → List Spelt → Outcome
outcome room at [] = record { told = []; answer = Ok at }
outcome room at (faulty ∷ ps) = record { told = []; answer = Err NotBytes }
outcome room at (bytes bs ∷ ps) =
    pick (leb (at + length bs) room) (behind bs (outcome room (at + length bs) ps)) (record { told = []; answer = Err TooMany })

-- `-` is no bytes
unfoldable pub bytes_of : ℕ → List ℕ → Outcome
bytes_of room s = pick (same s (ascii "-")) (record { told = []; answer = Ok 0 }) (outcome room 0 (map part_of (parts_of s)))

-- what stands in the lent bytes after the call, and its answer
pub record Fills (o : Outcome) (out out' : List ℕ) (r : Bytes) : Type 0 where
  pub lent : out' ≡ splice 0 o.told out
  pub tells : r ≡ o.answer

-- ---- what promises of private functions cite: one part, set down at a place

-- a count that is no number spells no bytes, and one that is too large spells too many
abbrev pub bytes_fault : NumberFault → BytesFault
bytes_fault NotANumber = NotBytes
bytes_fault TooLarge = TooMany

abbrev pub part_answer : Spelt → ℕ → ℕ → Bytes
part_answer faulty room at = Err NotBytes
part_answer (bytes bs) room at = pick (leb (at + length bs) room) (Ok (at + length bs)) (Err TooMany)

abbrev pub part_left : Spelt → ℕ → List ℕ → List ℕ
part_left faulty at out = out
part_left (bytes bs) at out = pick (leb (at + length bs) (length out)) (splice at bs out) out

pub record Adds (p : Spelt) (at : ℕ) (out out' : List ℕ) (r : Bytes) : Type 0 where
  pub lent : out' ≡ part_left p at out
  pub tells : r ≡ part_answer p (length out) at
