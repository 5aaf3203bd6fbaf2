-- `pending_acks::halved` meets its contract: the ranges are parted by the test. Assumes nothing.
use borrow.Author.Rules.{rules}
use lib.Dec.{leb}
use Rattle.std.proofs.lemmas.List.Sorted.{IsPartitionPoint-from_clause}
use Rattle.packet_ack.specs.declared.Range.{Range}
use Rattle.pending_acks.proofs.Spots.{parted-by, placed-by}
use Rattle.pending_acks.proofs.halved.Goals as goal

pub returns : goal.returns
returns c =
    let a = c.args in
    let e = c.partition_point.ensures in
    placed-by a.ranges.now a.x _ e.bound (IsPartitionPoint-from_clause (λ (r : Range). leb r.start a.x) _ _ e.partitioned (parted-by a.ranges.now a.x c.requires) (λ b r q k. search rules))
