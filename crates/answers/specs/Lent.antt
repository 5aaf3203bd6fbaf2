-- The settings of the channel ends. docs/SCRIPT.md, "Calls" and "At first". Assumes nothing.
use Rattle.std.specs.Prelude.{ℕ, ◌+◌, List, get_or}
use Rattle.words.specs.Sizes.{SLOTS, LANES, PIECES, MAX_MEMORY}
use Rattle.channel.specs.declared.Settings.{Settings}

-- SLOTS LANES PIECES MEMORY, from the i-th argument on
unfoldable pub settings_at : List ℕ → ℕ → Settings
settings_at ns i = record { slots = get_or ns i 0; lanes = get_or ns (i + 1) 0; pieces = get_or ns (i + 2) 0; max_memory_usage_bytes = get_or ns (i + 3) 0 }

-- those at first
abbrev pub whole_settings : Settings
whole_settings = record { slots = SLOTS; lanes = LANES; pieces = PIECES; max_memory_usage_bytes = MAX_MEMORY }
