-- What a contract sees of a reliable sender. Assumes nothing.
use Rattle.std.specs.Prelude.{ℕ, Bool, List}
use Rattle.channel.specs.declared.Settings.{Settings}
use Rattle.send_reliable.specs.declared.Row.{Row}
use Rattle.send_reliable.specs.declared.Piece.{Piece}

pub record State : Type 0 where
  pub channel_id : ℕ
  pub settings : Settings
  pub resend_time : ℕ
  pub next_reliable_message_id : ℕ
  pub memory_usage_bytes : ℕ
  pub latest : ℕ
  pub count : ℕ
  pub rows : List Row
  pub cells : List Bool
  pub lanes : List Bool
  pub pieces : List Piece
