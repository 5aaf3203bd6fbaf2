-- `arguments::further` meets its contract. The loop's invariant: those that are left, from here, give what all give. Assumes nothing.
use Prim.Native.Nat.{ℕ, ◌-◌}
use mathlib.Core.Path.{◌≡◌}
use mathlib.Core.List.{List}
use Rattle.arguments.specs.Sizes.{MORE}
use Rattle.arguments.specs.Arguments.{further_taken}
use Rattle.arguments.proofs.further.Given as goal

abbrev pub invariant-loop : goal.invariant-loop
invariant-loop l = (bs : List ℕ) → further_taken (MORE - l.counter) l.k l.line l.t l.numbers bs ≡ further_taken MORE l.k l.line l.initial.t l.initial.numbers bs
