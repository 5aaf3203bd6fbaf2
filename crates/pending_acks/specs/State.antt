-- What a contract sees of a gatherer. Assumes nothing.
use Rattle.std.specs.Prelude.{ℕ, Bool, List}
use Rattle.packet_ack.specs.declared.Range.{Range}

pub record State : Type 0 where
  pub count : ℕ
  pub dropped : Bool
  pub ranges : List Range
