-- `send_unreliable::put_slices` meets its contract. The loop's invariant: the items so far and the pieces to come are what is asked. Assumes nothing.
use mathlib.Core.Path.{◌≡◌}
use mathlib.Core.List.{◌++◌}
use lib.ListN.{length}
use Rattle.words.specs.Pieces.{pieces_of}
use Rattle.pack.specs.Pack.{items_in}
use Rattle.send_unreliable.specs.Round.{pieces_from}
use Rattle.send_unreliable.proofs.Chosen.{put_from}
use Rattle.send_unreliable.proofs.put_slices.Given as goal

abbrev pub invariant-loop-i : goal.invariant-loop-i
invariant-loop-i l = (length l.items ≡ length l.initial.items) × (put_from l.id l.len l.place l.first l.items l.i ≡ items_in l.initial.items 0 l.first ++ pieces_from l.id l.len l.place 0 (pieces_of l.len))
