-- What a contract sees of a window. Assumes nothing.
use Rattle.std.specs.Prelude.{ℕ, List}
use Rattle.channel.specs.declared.Settings.{Settings}
use Rattle.window.specs.declared.Load.{Load}

pub record State : Type 0 where
  pub settings : Settings
  pub first : ℕ
  pub count : ℕ
  pub lens : List ℕ
  pub load : Load
