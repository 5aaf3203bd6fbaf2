-- `packet_ack::lower_spot` meets its contract. Assumes nothing.
use mathlib.Core.Path.{◌∙◌}
use Rattle.packet_ack.proofs.Fill.{spot-below}
use Rattle.packet_ack.proofs.lower_spot.Goals as goal

pub returns : goal.returns
returns c = c.unwrap_or.ensures ∙ spot-below _ _ _ c.read_lower.ensures
