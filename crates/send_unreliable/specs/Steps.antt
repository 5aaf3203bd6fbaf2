-- What the private functions give. Assumes nothing.
use Rattle.std.specs.Prelude.{ℕ, ◌+◌, ◌*◌, ◌≤◌, List, length, Option, None, Some, Result, Ok, Err}
use Rattle.words.specs.Sizes.{PIECES, LIMIT}
use Rattle.words.specs.Choice.{pick}
use Rattle.words.specs.Lists.{total, All}
use Rattle.words.specs.Refusal.{number_of}
use Rattle.words.specs.declared.Refusal.{Refusal}
use Rattle.channel.specs.Settings.{lane_len_of}
use Rattle.channel.specs.declared.Settings.{Settings}
use Rattle.pack.specs.Pack.{items_in}
use Rattle.pack.specs.declared.Item as code
use Rattle.send_unreliable.specs.Sender.{is_small, Spot, cell, lane, dropped, refused}
use Rattle.send_unreliable.specs.Round.{Chosen}
use Rattle.send_unreliable.specs.declared.Place.{Place}
use Rattle.send_unreliable.specs.declared.Place.TheVariants as place
use Rattle.send_unreliable.specs.declared.Selection.{Selection}

-- ---- queueing

abbrev pub place_of : Result (Option Place) Refusal → Spot
place_of (Ok (Some place.Cell)) = cell
place_of (Ok (Some place.Lane)) = lane
place_of (Ok None) = dropped
place_of (Err e) = refused (number_of e)

-- ---- a round

-- what was chosen so far, its items being the first ones of table t
abbrev pub chosen_at : Selection → List code.Item → Chosen
chosen_at c t = record { left = c.left; small = c.small; sliced = c.sliced; id = c.id; items = items_in t 0 c.items }

abbrev pub small_one : ℕ → ℕ
small_one n = pick (is_small n) 1 0

abbrev pub sliced_one : ℕ → ℕ
sliced_one n = pick (is_small n) 0 1

-- every message to come has its cell or lane, and every item its place in the table
pub record Room (s : Settings) (c : Chosen) (ns : List ℕ) : Type 0 where
  pub small : c.small + total small_one ns ≤ s.slots
  pub sliced : c.sliced + total sliced_one ns ≤ s.lanes
  pub long : All (λ n. n ≤ lane_len_of s) ns
  pub items : length c.items ≤ c.small + c.sliced * PIECES
  pub ids : c.id ≤ LIMIT + c.sliced
