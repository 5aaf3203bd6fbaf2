-- `script::write_stretch` meets its contract. The loop's invariant: what is left to set down, from here, gives what the whole gives. Assumes nothing.
use Rattle.script.proofs.Parts.{Drawn}
use Rattle.script.proofs.write_stretch.Given as goal

abbrev pub invariant-loop-i : goal.invariant-loop-i
invariant-loop-i l = Drawn l.up l.b l.n l.initial.out l.at l.out l.x l.i
