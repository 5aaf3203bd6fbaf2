-- `pack::write_group` meets its contract. The loop's invariant: what is left, written from here, makes the bytes that the whole makes. Assumes nothing.
use Prim.Native.Nat.{◌+◌, ◌-◌}
use mathlib.Core.Path.{◌≡◌}
use lib.ListN.{length}
use Rattle.words.specs.Lists.{splice, All}
use Rattle.pack.specs.Steps.{items_bytes}
use Rattle.pack.specs.Rows.{smalls, Sendable}
use Rattle.pack.specs.Pack.{items_in}
use Rattle.pack.proofs.write_group.Given as goal

abbrev pub invariant-loop-i : goal.invariant-loop-i
invariant-loop-i l =
    let n = l.lent in
    (length l.out ≡ length l.initial.out)
    × All (Sendable n.small.now) (smalls (items_in l.items l.i (l.end - l.i)))
    × (l.at + length (items_bytes n.ids n.small.now (items_in l.items l.i (l.end - l.i))) ≡ l.from + length (items_bytes n.ids n.small.now (items_in l.items l.first (l.end - l.first))))
    × (splice l.at (items_bytes n.ids n.small.now (items_in l.items l.i (l.end - l.i))) l.out ≡ splice l.from (items_bytes n.ids n.small.now (items_in l.items l.first (l.end - l.first))) l.initial.out)
