-- What a contract sees of a receiver. Assumes nothing.
use Rattle.std.specs.Prelude.{ℕ, Bool, List}
use Rattle.channel.specs.declared.Settings.{Settings}
use Rattle.slice_constructor.specs.declared.SliceConstructor.{SliceConstructor}

pub record State : Type 0 where
  pub settings : Settings
  pub memory_usage_bytes : ℕ
  pub latest : ℕ
  pub cells : List Bool
  pub cell_lens : List ℕ
  pub lanes : List Bool
  pub lane_lens : List ℕ
  pub opens : List Bool
  pub lane_ids : List ℕ
  pub last_received : List ℕ
  pub constructors : List SliceConstructor
  pub count : ℕ
  pub queue : List ℕ
