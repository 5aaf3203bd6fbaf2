-- `script::bytes_of` meets its contract. The loop's invariant: what is left of the parts, from here, gives what the whole gives. Assumes nothing.
use lib.ListN.{length}
use Rattle.script.specs.Bytes.{bytes_of}
use Rattle.script.proofs.Parts.{Ahead}
use Rattle.script.proofs.bytes_of.Given as goal

abbrev pub invariant-loop-word : goal.invariant-loop-word
invariant-loop-word l = Ahead (goal.iterator-loop-word).next_gives l.word-iterator (bytes_of (length l.initial.out) l.text) l.initial.out l.out l.at
