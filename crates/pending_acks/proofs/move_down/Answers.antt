-- `pending_acks::move_down` meets its contract: those between are copied. Assumes nothing.
use mathlib.Core.Path.{ap, ◌∙◌}
use mathlib.Core.List.{List}
use native.Mathlib.Omega.{arith}
use lib.ListN.{set}
use Rattle.packet_ack.specs.declared.Range.{Range}
use Rattle.pending_acks.specs.Gather.{range}
use Rattle.pending_acks.proofs.Tables.{closed_down}
use Rattle.pending_acks.proofs.move_down.Goals as goal

pub returns : goal.returns
returns c =
    let a = c.args in
    ap (λ (t : List Range). set t a.to a.r) c.copy_within.ensures.after ∙ closed_down a.table.now a.from a.to a.r (range 0 0) (omega arith) (omega arith)
