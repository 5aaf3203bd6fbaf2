-- `say::next_part` meets its contract. Assumes nothing.
use Rattle.say.proofs.Spelling.{part_none, part_same, part_up, part-byte}
use Rattle.say.proofs.next_part.Goals as goal

pub returns-then-s-from : goal.returns-then-s-from
returns-then-s-from c = part_none _ _ c.if-s-from.true

pub returns-then-same-ge-LEAST : goal.returns-then-same-ge-LEAST
returns-then-same-ge-LEAST c = part_same _ _ c.if-s-from.false _ c.run-same.ensures c.if-same-ge-LEAST.true

pub returns-then-up-ge-LEAST : goal.returns-then-up-ge-LEAST
returns-then-up-ge-LEAST c = part_up _ _ c.if-s-from.false _ c.run-same.ensures c.if-same-ge-LEAST.false _ c.run-up.ensures c.if-up-ge-LEAST.true

pub returns : goal.returns
returns c = part-byte _ _ c.if-s-from.false _ c.run-same.ensures c.if-same-ge-LEAST.false _ c.run-up.ensures c.if-up-ge-LEAST.false
