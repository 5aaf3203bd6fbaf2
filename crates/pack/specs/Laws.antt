-- What the laws of packing and encoding speak of. Assumes nothing.
use Rattle.std.specs.Prelude.{ℕ, ◌+◌, ◌≤◌, ◌≡◌, Bool, List, [], ◌∷◌, ◌++◌, ◌⊎◌, length, take, drop}
use Rattle.words.specs.Sizes.{SLICE_SIZE}
use Rattle.words.specs.Choice.{pick}
use Rattle.words.specs.Lists.{total}
use Rattle.pack.specs.Pack.{Item, is_small, Pack, group, single, packed_len}

-- the pieces among some items
unfoldable pub pieces : List Item → List Item
pieces [] = []
pieces (i ∷ is) = pick (is_small i) (pieces is) (i ∷ pieces is)

-- the messages of all groups, one after the other, and the pieces that stand by themselves
unfoldable pub grouped : List Pack → List Item
grouped [] = []
grouped (group is ∷ ps) = is ++ grouped ps
grouped (single i ∷ ps) = grouped ps

unfoldable pub singles : List Pack → List Item
singles [] = []
singles (group is ∷ ps) = singles ps
singles (single i ∷ ps) = i ∷ singles ps

-- a group's sizes come to at most 1,200, or it holds one message or none
abbrev pub WellPacked : Bool → Pack → Type 0
WellPacked ids (group is) = (total (packed_len ids) is ≤ SLICE_SIZE) ⊎ (length is ≤ 1)
WellPacked ids (single i) = Unit

-- no packet is longer: a piece with its type, its channel and five numbers
abbrev pub LONGEST : ℕ
LONGEST = SLICE_SIZE + 42

-- from place `at` of o on lie these runs of bytes, end to end
pub data Lie (o : List ℕ) : ℕ → List (List ℕ) → Type 0 where
  none_lie : {at : ℕ} → Lie o at []
  one_lies : {at : ℕ} {b : List ℕ} {bs : List (List ℕ)} → take (length b) (drop at o) ≡ b → Lie o (at + length b) bs → Lie o at (b ∷ bs)
