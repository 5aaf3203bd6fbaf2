-- `Window::new` meets its contract: the settings are settled, and what is made is valid. Assumes nothing.
use Rattle.window.proofs.Valid.{made}
use Rattle.window.proofs.Window.new.Goals as goal

pub returns : goal.returns
returns c = made _ _ _ c.settle-settled.ensures c.empty.ensures
