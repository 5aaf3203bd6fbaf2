-- What a contract sees of an unreliable sender. Assumes nothing.
use Rattle.std.specs.Prelude.{ℕ, List}
use Rattle.channel.specs.declared.Settings.{Settings}

pub record State : Type 0 where
  pub channel_id : ℕ
  pub settings : Settings
  pub sliced_message_id : ℕ
  pub memory_usage_bytes : ℕ
  pub count : ℕ
  pub small : ℕ
  pub sliced : ℕ
  pub lens : List ℕ
