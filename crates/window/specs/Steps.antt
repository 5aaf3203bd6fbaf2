-- What the private functions promise. Assumes nothing.
use Rattle.std.specs.Prelude.{ℕ, ◌+◌, ◌-◌, ◌≤◌, [], ◌∷◌, ◌++◌, eqb, Result, Ok, Err}
use Rattle.words.specs.Sizes.{LIMIT}
use Rattle.words.specs.Choice.{pick, refusal}
use Rattle.words.specs.Refusal.{number_of}
use Rattle.words.specs.declared.Refusal.{Refusal}
use Rattle.channel.specs.declared.Settings.{Settings}
use Rattle.window.specs.Rule.{small_one, sliced_one, charge_of, load_of, rule_tests}
use Rattle.window.specs.Window.{since, queue_refusal}
use Rattle.window.specs.declared.Load.{Load}
use Rattle.window.specs.declared.Window.{Window}
use Rattle.window.specs.declared.Step.{Step}

-- what one message takes
abbrev pub one_of : ℕ → Load
one_of n = record { small = small_one n; sliced = sliced_one n; charge = charge_of n }

pub record Bounded (l : Load) : Type 0 where
  pub small : l.small ≤ LIMIT
  pub sliced : l.sliced ≤ LIMIT
  pub charge : l.charge ≤ LIMIT

abbrev pub plus : Load → Load → Load
plus a b = record { small = a.small + b.small; sliced = a.sliced + b.sliced; charge = a.charge + b.charge }

pub record Holds (a b : Load) : Type 0 where
  pub small : b.small ≤ a.small
  pub sliced : b.sliced ≤ a.sliced
  pub charge : b.charge ≤ a.charge

abbrev pub minus : Load → Load → Load
minus a b = record { small = a.small - b.small; sliced = a.sliced - b.sliced; charge = a.charge - b.charge }

-- a message is counted after so many are gone, with what all take then; or it waits, with a number
pub data Spot : Type 0 where
  goes : ℕ → Load → Spot
  waits : ℕ → Spot

abbrev pub step_of : Result Step Refusal → Spot
step_of (Ok step) = goes step.gone step.load
step_of (Err e) = waits (number_of e)

abbrev pub spot_by : ℕ → ℕ → Load → Spot
spot_by number gone all = pick (eqb number 0) (goes gone all) (waits number)

-- by what all take together with the newcomer
unfoldable pub judged : Settings → ℕ → Load → ℕ → Spot
judged s gone all n = spot_by (refusal (rule_tests s all n)) gone all

unfoldable pub spot_of : Window → ℕ → ℕ → Spot
spot_of w oldest n = spot_by (queue_refusal w oldest n) (oldest - w.first) (load_of (since w oldest ++ (n ∷ [])))
