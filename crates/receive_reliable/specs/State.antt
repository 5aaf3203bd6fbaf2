-- What a contract sees of a receiver. Assumes nothing.
use Rattle.std.specs.Prelude.{ℕ, Bool, List}
use Rattle.channel.specs.declared.Settings.{Settings}
use Rattle.slice_constructor.specs.declared.SliceConstructor.{SliceConstructor}

pub record State : Type 0 where
  pub settings : Settings
  pub oldest_pending_message_id : ℕ
  pub memory_usage_bytes : ℕ
  pub cells : List Bool
  pub cell_ids : List ℕ
  pub cell_lens : List ℕ
  pub lanes : List Bool
  pub whole : List Bool
  pub lane_ids : List ℕ
  pub lane_lens : List ℕ
  pub constructors : List SliceConstructor
