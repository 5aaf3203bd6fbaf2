-- `script::until` meets its contract. The loop's invariant: what is found from here is what is found from the start. Assumes nothing.
use Prim.Native.Nat.{ℕ}
use mathlib.Core.Path.{◌≡◌}
use mathlib.Core.Bool.{Bool}
use Rattle.script.specs.Words.{until}
use Rattle.script.proofs.until.Given as goal

abbrev pub invariant-loop-i : goal.invariant-loop-i
invariant-loop-i g l = (p : ℕ → Bool) → ((c : ℕ) (r : Bool) → goal.P-post g l.passes c r → r ≡ p c) → until p l.s l.fn.from ≡ until p l.s l.i
