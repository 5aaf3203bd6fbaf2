-- `script::digits` meets its contract. The loop's invariant: the digits that are left, behind what those before stand for, give what the whole gives. Assumes nothing.
use Prim.Native.Nat.{◌<◌, ◌^◌}
use mathlib.Core.Path.{◌≡◌}
use lib.ListN.{drop}
use Rattle.script.specs.Numbers.{value_of, below, digits_of}
use Rattle.script.proofs.digits.Given as goal

abbrev pub invariant-loop-c : goal.invariant-loop-c
invariant-loop-c l = record { gives : value_of l.v (drop l.c-index l.s) ≡ value_of 0 l.s; small : l.v < 2 ^ 64; whole : below (value_of 0 l.s) ≡ digits_of l.s }
