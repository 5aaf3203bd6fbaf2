-- `SendChannelUnreliable::new` meets its contract: the settings are judged, and what is made is valid. Assumes nothing.
use Rattle.send_unreliable.proofs.Gives.{made-ready, made-refused}
use Rattle.send_unreliable.proofs.SendChannelUnreliable.new.Goals as goal

pub returns-in-Ok : goal.returns-in-Ok
returns-in-Ok c = made-ready _ _ _ c.settle-settled.ensures _ c.in-Ok.is c.empty.ensures

pub returns-in-Err : goal.returns-in-Err
returns-in-Err c = made-refused _ _ _ c.settle-settled.ensures _ _ c.in-Err.is c.empty-in-Err.ensures
