-- What a contract sees of a reassembly and its lane. Assumes nothing.
use Rattle.std.specs.Prelude.{ℕ}
use Rattle.slice_constructor.specs.declared.SliceConstructor.{SliceConstructor}

pub record State : Type 0 where
  pub state : SliceConstructor
  pub lane : ℕ
