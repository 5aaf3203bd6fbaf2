-- The steps of a round's choice, for the contracts of private functions. Assumes nothing.
use Rattle.std.specs.Prelude.{ℕ, zero, suc, ◌+◌, ◌*◌, ◌≤◌, ◌<◌, ◌≡◌, Bool, false, List, [], ◌∷◌, length, get_or, ltb, Option}
use Rattle.words.specs.Sizes.{SLICE_SIZE, PIECES}
use Rattle.words.specs.Choice.{pick}
use Rattle.words.specs.Pieces.{pieces_of}
use Rattle.pack.specs.Pack.{items_in}
use Rattle.pack.specs.declared.Item as code
use Rattle.send_reliable.specs.declared.Kind.{Kind}
use Rattle.send_reliable.specs.declared.Kind.TheVariants.{Small, Sliced}
use Rattle.send_reliable.specs.declared.SendChannelReliable.{SendChannelReliable}
use Rattle.send_reliable.specs.declared.Row.{Row}
use Rattle.send_reliable.specs.declared.Selection.{Selection}
use Rattle.send_reliable.specs.Sender.{kind_of, no_row, Valid}
use Rattle.send_reliable.specs.Select.{Visit, due, Chosen, visit, unvisited, select, with_chosen}

-- f of each of n numbers, from i on
unfoldable pub each : {A : Type 0} → (ℕ → A) → ℕ → ℕ → List A
each f i zero = []
each f i (suc n) = f i ∷ each f (i + 1) n

-- a sliced message of n bytes has a lane's pieces at most, and its cursor stands at one of them or after the last
abbrev pub Ranged : ℕ → Kind → Type 0
Ranged n (Small i t) = Unit
Ranged n (Sliced l a next) = (n ≤ PIECES * SLICE_SIZE) × (next ≤ pieces_of n)

-- whether what needs this much of what is left of the allowance goes
abbrev pub goes : ℕ → ℕ → ℕ → ℕ → Option ℕ → Bool
goes resend now left need t = pick (ltb left need) false (due resend now t)

-- what choosing gives: as many items as it says, in the table, and the state with their sendings
pub record Selects (s : SendChannelReliable) (now allowance n : ℕ) (t : List code.Item) (m : ℕ) (r : SendChannelReliable) : Type 0 where
  pub items : items_in t 0 m ≡ (select s now allowance).items
  pub few : m ≤ n
  pub long : m ≤ length t
  pub state : r ≡ with_chosen s now (select s now allowance)

-- ---- a visit

-- how many pieces a row has, and how many visits
abbrev pub size_of : ℕ → Kind → ℕ
size_of n (Small i t) = 1
size_of n (Sliced l a next) = pieces_of n

abbrev pub size_row : Row → ℕ
size_row r = size_of r.len (kind_of r)

-- a visit is to a row below n, and there to a piece below what f says
abbrev pub Within : ℕ → (ℕ → ℕ) → Visit → Type 0
Within n f v = (v.row < n) × (v.piece < f v.row)

-- a visit at `now` is to a piece of a message that waits
pub record Visitable (s : SendChannelReliable) (now : ℕ) (v : Visit) : Type 0 where
  pub valid : Valid (with_chosen s now (unvisited s 0))
  pub within : Within s.count (λ k. size_row (get_or s.rows k no_row)) v

-- what the code has chosen so far: items in the table, and the state's sendings
abbrev pub chosen_by : Selection → List code.Item → SendChannelReliable → Chosen
chosen_by c items s = record { left = c.left; items = items_in items 0 c.items; rows = s.rows; pieces = s.pieces }

-- what a visit gives: an item at most, and nothing else of the state changes
pub record VisitGives (now : ℕ) (v : Visit) (s : SendChannelReliable) (c : Selection) (items : List code.Item) (s' : SendChannelReliable) (c' : Selection) (items' : List code.Item) : Type 0 where
  pub few : c'.items ≤ c.items + 1
  pub long : length items' ≡ length items
  pub chosen : chosen_by c' items' s' ≡ visit s.settings s.resend_time now (chosen_by c items s) v
  pub state : s' ≡ with_chosen s s.latest (chosen_by c' items' s')
