-- `receive_unreliable::lowest_id` meets its contract: the lowest so far and the open ids from place i on give what all of them give. Assumes nothing.
use mathlib.Core.Path.{◌≡◌}
use lib.ListN.{drop}
use Rattle.words.specs.Sizes.{LIMIT}
use Rattle.receive_unreliable.specs.Receive.{lowest_id_of}
use Rattle.receive_unreliable.proofs.lowest_id.Given as goal

abbrev pub invariant-loop-i : goal.invariant-loop-i
invariant-loop-i l = lowest_id_of l.lowest (drop l.i l.opens) (drop l.i l.ids) ≡ lowest_id_of LIMIT l.opens l.ids
