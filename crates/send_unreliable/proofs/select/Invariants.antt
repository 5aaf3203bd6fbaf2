-- `send_unreliable::select` meets its contract. The loop's invariant: from what is chosen, the messages to come give what the whole queue
-- gives, and there is room for them. Assumes nothing.
use mathlib.Core.Path.{◌≡◌}
use lib.ListN.{length, drop}
use Rattle.words.specs.Lists.{reached}
use Rattle.send_unreliable.specs.Round.{go, starting}
use Rattle.send_unreliable.specs.Steps.{chosen_at, Room}
use Rattle.send_unreliable.proofs.select.Given as goal

abbrev pub invariant-loop-i : goal.invariant-loop-i
invariant-loop-i l = (length l.items ≡ length l.initial.items)
    × (reached (go l.settings) (chosen_at l.chosen l.items) (drop l.i l.lens) ≡ reached (go l.settings) (starting l.allowance l.id) l.lens)
    × Room l.settings (chosen_at l.chosen l.items) (drop l.i l.lens)
