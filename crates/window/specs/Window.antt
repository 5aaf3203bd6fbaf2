-- A window: the receiver's settings, and the lengths of the messages from a number on. Assumes nothing.
use Rattle.std.specs.Prelude.{ℕ, ◌+◌, ◌-◌, ◌≤◌, ◌≡◌, List, [], ◌∷◌, ◌++◌, length, take, drop, replicate, ltb, leb, eqb, Result, Ok, Err}
use Rattle.words.specs.Sizes.{SLOTS, LANES, LIMIT}
use Rattle.words.specs.Choice.{pick, refusal}
use Rattle.words.specs.Lists.{splice}
use Rattle.words.specs.Refusal.{number_of}
use Rattle.words.specs.declared.Refusal.{Refusal}
use Rattle.words.specs.declared.After.{After}
use Rattle.channel.specs.Settings.{settings_refusal, setup_number, Good, least_settings}
use Rattle.channel.specs.declared.Settings.{Settings}
use Rattle.window.specs.Rule.{load_of, rule_tests}
use Rattle.window.specs.declared.Load.{Load}
use Rattle.window.specs.declared.Window.{Window}

-- what the calls answer, and the window after them
abbrev pub Made : Type 0
Made = After (Result (Unit {0}) Refusal) Window

abbrev pub Counted : Type 0
Counted = After (Result (Unit {0}) Refusal) Window

abbrev pub ROWS : ℕ
ROWS = SLOTS + LANES

-- ---- a window by what it keeps

-- lengths at the front of a table, 0 past them
abbrev pub table : List ℕ → List ℕ
table lens = splice 0 lens (replicate ROWS 0)

-- the messages from number `first` on, of these lengths
unfoldable pub window_of : Settings → ℕ → List ℕ → Window
window_of s first lens = record { settings = s; first = first; count = length lens; lens = table lens; load = load_of lens }

abbrev pub new_of : Settings → Window
new_of s = window_of s 0 []

abbrev pub kept : Window → List ℕ
kept w = take w.count w.lens

-- those of them from the oldest unacknowledged one on
abbrev pub since : Window → ℕ → List ℕ
since w oldest = drop (oldest - w.first) (kept w)

-- the number of the next message
abbrev pub next_of : Window → ℕ
next_of w = w.first + w.count

-- ---- what is always true of a window: the receiver has room for all messages kept

pub record Within (s : Settings) (l : Load) : Type 0 where
  pub small : l.small ≤ s.slots
  pub sliced : l.sliced ≤ s.lanes
  pub charge : l.charge ≤ s.max_memory_usage_bytes

pub record Valid (w : Window) : Type 0 where
  pub settings : Good w.settings
  pub shape : w ≡ window_of w.settings w.first (kept w)
  pub within : Within w.settings (load_of (kept w))
  pub next-most : next_of w ≤ LIMIT

pub record MadeGives (s : Settings) (r : Made) : Type 0 where
  pub number : setup_number r.answer ≡ settings_refusal s
  pub state : r.state ≡ new_of (pick (eqb (settings_refusal s) 0) s least_settings)
  pub valid : Valid r.state

-- ---- may a message of n bytes be queued? 13 where the oldest unacknowledged message would be older than one that was named before, or newer than
-- the next one, or where no number is left; then the rule. 0 for yes

-- after messages up to number `next`, of which those from the oldest unacknowledged one on have these lengths, and where `first` was named before
abbrev pub refusal_in : Settings → ℕ → ℕ → ℕ → List ℕ → ℕ → ℕ
refusal_in s first next oldest lens n =
    refusal (
    (ltb oldest first, 13) ∷
    (ltb next oldest, 13) ∷
    (leb LIMIT next, 13) ∷
    rule_tests s (load_of (lens ++ (n ∷ []))) n
    )

unfoldable pub queue_refusal : Window → ℕ → ℕ → ℕ
queue_refusal w oldest n = refusal_in w.settings w.first (next_of w) oldest (since w oldest) n

abbrev pub room_number : Result (Unit {0}) Refusal → ℕ
room_number (Ok done) = 0
room_number (Err e) = number_of e

-- ---- counting a message: it is kept after those from the oldest unacknowledged one on. A refusal changes nothing

abbrev pub counted : Window → ℕ → ℕ → Window
counted w oldest n = window_of w.settings oldest (since w oldest ++ (n ∷ []))

unfoldable pub after_queued : Window → ℕ → ℕ → Window
after_queued w oldest n = pick (eqb (queue_refusal w oldest n) 0) (counted w oldest n) w

pub record QueuedGives (w : Window) (oldest n : ℕ) (r : Counted) : Type 0 where
  pub number : room_number r.answer ≡ queue_refusal w oldest n
  pub state : r.state ≡ after_queued w oldest n
  pub valid : Valid r.state
