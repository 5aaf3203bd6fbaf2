-- What a contract sees of a reassembly. Assumes nothing.
use Rattle.std.specs.Prelude.{ℕ, Bool, List}
use Rattle.words.specs.declared.MessageId.{MessageId}

pub record State : Type 0 where
  pub message_id : MessageId
  pub num_slices : ℕ
  pub num_received_slices : ℕ
  pub last_len : ℕ
  pub received : List Bool
