-- Settings of a channel end and the two stores that it asks for. Document 01, "Sizes and settings". Assumes nothing.
use Rattle.std.specs.Prelude.{ℕ, ◌*◌, ◌≤◌, ◌≡◌, Bool, false, [], ◌∷◌, ltb, leb, eqb, Result, Ok, Err}
use Rattle.words.specs.Sizes.{SLICE_SIZE, SLOTS, LANES, PIECES, MAX_MEMORY}
use Rattle.words.specs.Choice.{pick, refusal}
use Rattle.words.specs.Refusal.{number_of}
use Rattle.words.specs.declared.Refusal.{Refusal}
use Rattle.channel.specs.declared.Settings.{Settings}
use Rattle.channel.specs.declared.Settled.{Settled}

-- 9 outside the ranges: slots 1 to 64, lanes 1 to 4, pieces 1 to 40, memory maximum 0 to 1,000,000
unfoldable pub settings_refusal : Settings → ℕ
settings_refusal s =
    refusal (
    (ltb s.slots 1, 9) ∷
    (ltb SLOTS s.slots, 9) ∷
    (ltb s.lanes 1, 9) ∷
    (ltb LANES s.lanes, 9) ∷
    (ltb s.pieces 1, 9) ∷
    (ltb PIECES s.pieces, 9) ∷
    (ltb MAX_MEMORY s.max_memory_usage_bytes, 9) ∷ []
    )

-- the refusal's number, 0 for none
abbrev pub setup_number : Result (Unit {0}) Refusal → ℕ
setup_number (Ok done) = 0
setup_number (Err e) = number_of e

-- settings that were accepted
pub record Good (s : Settings) : Type 0 where
  pub slots-one : 1 ≤ s.slots
  pub slots-most : s.slots ≤ SLOTS
  pub lanes-one : 1 ≤ s.lanes
  pub lanes-most : s.lanes ≤ LANES
  pub pieces-one : 1 ≤ s.pieces
  pub pieces-most : s.pieces ≤ PIECES
  pub max-most : s.max_memory_usage_bytes ≤ MAX_MEMORY

-- the least that stands for settings where a set-up is refused
abbrev pub least_settings : Settings
least_settings = record { slots = 1; lanes = 1; pieces = 1; max_memory_usage_bytes = 0 }

-- the answer, and the settings that a channel end has
pub record SettledGives (s : Settings) (r : Settled) : Type 0 where
  pub number : setup_number r.answer ≡ settings_refusal s
  pub settings : r.settings ≡ pick (eqb (settings_refusal s) 0) s least_settings
  pub good : Good r.settings

-- a store for small messages: slots × 1,200 bytes; cell i starts at i × 1,200
abbrev pub small_len_of : Settings → ℕ
small_len_of s = s.slots * SLICE_SIZE

-- a lane: pieces × 1,200 bytes; and the store of all of them: lane l starts at l times that
abbrev pub lane_len_of : Settings → ℕ
lane_len_of s = s.pieces * SLICE_SIZE

abbrev pub lanes_len_of : Settings → ℕ
lanes_len_of s = s.lanes * lane_len_of s

-- neither lent store is too short (else 10)
abbrev pub stores_hold_of : Settings → ℕ → ℕ → Bool
stores_hold_of s small lane = pick (ltb small (small_len_of s)) false (leb (lanes_len_of s) lane)
