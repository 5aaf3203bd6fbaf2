-- `script::write_pairs` meets its contract. The loop's invariant: what is left to set down, from here, gives what the whole gives. Assumes nothing.
use Rattle.script.proofs.Parts.{Paired}
use Rattle.script.proofs.write_pairs.Given as goal

abbrev pub invariant-loop-i : goal.invariant-loop-i
invariant-loop-i l = Paired l.s l.initial.out l.at l.out l.i
