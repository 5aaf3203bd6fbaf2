-- `arguments::take` meets its contract. The loop's invariant: the letters that are left, from here, give what the whole form gives. Assumes nothing.
use mathlib.Core.Path.{◌≡◌}
use lib.ListN.{drop}
use Rattle.arguments.specs.Arguments.{taken_by}
use Rattle.arguments.proofs.take.Given as goal

abbrev pub invariant-loop-c : goal.invariant-loop-c
invariant-loop-c l = taken_by l.k (drop l.c-index l.form) l.line l.t l.numbers l.bytes ≡ taken_by l.k l.form l.line l.initial.t l.initial.numbers l.initial.bytes
