-- `pack::payload_bytes` meets its contract. The loop's invariant: the first items are added up. Assumes nothing.
use Prim.Native.Nat.{◌≤◌, ◌*◌}
use mathlib.Core.Path.{◌≡◌}
use lib.ListN.{take}
use Rattle.words.specs.Sizes.{SLICE_SIZE}
use Rattle.words.specs.Lists.{total}
use Rattle.pack.specs.Pack.{Item, items_of}
use Rattle.pack.proofs.payload_bytes.Given as goal

abbrev pub invariant-loop-item : goal.invariant-loop-item
invariant-loop-item l = (l.sum ≡ total (λ (x : Item). x.len) (items_of (take l.item-index l.items))) × (l.sum ≤ SLICE_SIZE * l.item-index)
