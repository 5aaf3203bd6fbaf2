-- `pack::encode` meets its contract. The loop's invariant: what is left, written from here, makes the bytes and the table that the whole makes. Assumes nothing.
use Prim.Native.Nat.{◌+◌, ◌*◌}
use mathlib.Core.Path.{◌≡◌}
use lib.ListN.{length, drop}
use Rattle.words.specs.Lists.{splice, All}
use Rattle.pack.specs.Steps.{lent_of}
use Rattle.pack.specs.Rows.{packs_of, Sound, PackGoes}
use Rattle.pack.specs.Encode.{packets_bytes, end_to_end, ENTRY, entries, out_after, table_after}
use Rattle.pack.proofs.Wrote.{bytes_from}
use Rattle.pack.proofs.encode.Given as goal

abbrev pub invariant-loop-i : goal.invariant-loop-i
invariant-loop-i l =
    let n = lent_of l.lent in
    let seq = l.sequence.0 in
    let left = bytes_from n seq l.items l.packs l.i in
    let all = packs_of l.items l.packs in
    (length l.out ≡ length l.initial.out)
    × (length l.table ≡ length l.initial.table)
    × All (Sound l.items) (drop l.i l.packs)
    × All (PackGoes n) (packs_of l.items (drop l.i l.packs))
    × (l.at + length (end_to_end left) ≡ length (end_to_end (packets_bytes n seq all)))
    × (splice l.at (end_to_end left) l.out ≡ out_after n seq all l.initial.out)
    × (splice (ENTRY * l.i) (entries l.at left) l.table ≡ table_after n seq all l.initial.table)
