-- The lines of a text, and the words of a line. Assumes nothing.
use Rattle.std.specs.Prelude.{ℕ, ◌+◌, ◌-◌, Bool, true, false, not, List, [], ◌∷◌, take, drop, eqb}
use Prim.Native.Char.{code}
use Rattle.words.specs.Choice.{pick}
use Rattle.words.specs.Lists.{first}
use Rattle.script.specs.declared.Word.{Word}

-- what ends a line
abbrev pub newline : ℕ → Bool
newline c = eqb c (code "\n")

-- words are set apart by spaces, tabs or carriage returns
abbrev pub blank : ℕ → Bool
blank c = pick (eqb c (code " ")) true (pick (eqb c (code "\t")) true (eqb c (code "\r")))

-- what ends a word: a blank, or `#`, which begins a comment anywhere in a line
abbrev pub stop : ℕ → Bool
stop c = pick (eqb c (code "#")) true (blank c)

-- + or -
abbrev pub sign : ℕ → Bool
sign c = pick (eqb c (code "+")) true (eqb c (code "-"))

-- the place of the first such letter from a place on, or the end
unfoldable pub until : (ℕ → Bool) → List ℕ → ℕ → ℕ
until p s from = from + first p (drop from s)

-- the next word from a place on; at a comment and at the end it has no letter
abbrev pub word_from : List ℕ → ℕ → Word
word_from s start = record { start = start; end = until stop s start }

abbrev pub word_at : List ℕ → ℕ → Word
word_at s from = word_from s (until (λ c. not (blank c)) s from)

-- the letters of a word
abbrev pub letters_of : List ℕ → Word → List ℕ
letters_of s w = take (w.end - w.start) (drop w.start s)

-- whether two texts are the same
unfoldable pub same : List ℕ → List ℕ → Bool
same [] [] = true
same [] (y ∷ ys) = false
same (x ∷ xs) [] = false
same (x ∷ xs) (y ∷ ys) = pick (eqb x y) (same xs ys) false
