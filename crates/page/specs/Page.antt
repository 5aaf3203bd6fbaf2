-- What is set down on a page that is written out when there is no room. Assumes nothing.
use Rattle.std.specs.Prelude.{ℕ, zero, suc, ◌+◌, max, List, [], ◌∷◌, ◌++◌, length, get_or, drop, eqb, leb}
use Rattle.words.specs.Choice.{pick}
use Rattle.words.specs.Lists.{splice}
use Rattle.words.specs.declared.Refusal.{Refusal}
use Rattle.script.specs.Ascii.{ascii}
use Rattle.say.specs.Say.{decimal_of}
use Rattle.say.specs.Refused.{refusal_of}
use Rattle.say.specs.Spelled.{WIDEST, part_at, length_of, kind_of, point_of, text_of}
use Rattle.say.specs.declared.Before.{Before}
use Rattle.say.specs.declared.Before.TheVariants.{Nothing}

-- the most letters of a number, and of a refusal
abbrev pub DIGITS : ℕ
DIGITS = 20

abbrev pub REFUSAL : ℕ
REFUSAL = 40

-- a page and the place of its next letter
pub record Sheet : Type 0 where
  pub page : List ℕ
  pub at : ℕ

abbrev pub sheet : List ℕ → ℕ → Sheet
sheet p a = record { page = p; at = a }

-- a place with room for n letters: this one, or the front once the page is written out
unfoldable pub place_for : ℕ → Sheet → ℕ
place_for n sh = pick (leb (sh.at + n) (length sh.page)) sh.at 0

-- s from a place on, and the place after it; where n letters have no room there, nothing
abbrev pub put_at : ℕ → List ℕ → List ℕ → ℕ → Sheet
put_at n s p a =
    record { page = pick (leb (a + n) (length p)) (splice a s p) p; at = pick (leb (a + n) (length p)) (a + length s) a }

-- s at a place with room for `wanted` letters
unfoldable pub put : ℕ → ℕ → List ℕ → Sheet → Sheet
put wanted n s sh = put_at n s sh.page (place_for wanted sh)

abbrev pub said : List ℕ → Sheet → Sheet
said s sh = put (length s) (length s) s sh

abbrev pub said_number : ℕ → Sheet → Sheet
said_number v sh = put DIGITS (length (decimal_of v)) (decimal_of v) sh

abbrev pub said_refusal : Refusal → Sheet → Sheet
said_refusal e sh = put REFUSAL (length (refusal_of e)) (refusal_of e) (said (ascii "refused ") sh)

-- the sign for which a number stands
abbrev pub HASH : ℕ
HASH = 35

-- a letter, or at a `#` the k-th number; and which number is next
abbrev pub letter_said : ℕ → List ℕ → ℕ → Sheet → Sheet
letter_said c ns k sh = pick (eqb c HASH) (said_number (get_or ns k 0) sh) (said (c ∷ []) sh)

abbrev pub next_number : ℕ → ℕ → ℕ
next_number c k = pick (eqb c HASH) (k + 1) k

-- letter after letter, with the numbers from the k-th on
unfoldable pub lined_from : List ℕ → List ℕ → ℕ → Sheet → Sheet
lined_from [] ns k sh = sh
lined_from (c ∷ s) ns k sh = lined_from s ns (next_number c k) (letter_said c ns k sh)

abbrev pub lined : List ℕ → List ℕ → Sheet → Sheet
lined s ns sh = lined_from s ns 0 sh

-- part after part; a list has at most as many parts as bytes
unfoldable pub spelt_from : ℕ → Before → List ℕ → Sheet → Sheet
spelt_from zero w xs sh = sh
spelt_from (suc n) w [] sh = sh
spelt_from (suc n) w (x ∷ xs) sh =
    spelt_from n (kind_of (part_at (x ∷ xs))) (drop (max 1 (length_of (part_at (x ∷ xs)))) (x ∷ xs))
    (put WIDEST WIDEST (point_of w (part_at (x ∷ xs)) ++ text_of (part_at (x ∷ xs))) sh)

-- no bytes are `-`
unfoldable pub spelt : List ℕ → Sheet → Sheet
spelt [] sh = said (ascii "-") sh
spelt (x ∷ xs) sh = spelt_from (length (x ∷ xs)) Nothing (x ∷ xs) sh
