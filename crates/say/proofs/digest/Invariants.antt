-- `say::digest` meets its contract. The loop's invariant: the digest of what was passed. Assumes nothing.
use Prim.Native.Nat.{ℕ, ◌<◌}
use mathlib.Core.Path.{◌≡◌}
use mathlib.Core.List.{map}
use Rattle.say.specs.Digest.{MODULUS}
use Rattle.say.proofs.Digests.{reached_at}
use Rattle.say.proofs.digest.Given as goal

abbrev pub invariant-loop-x : goal.invariant-loop-x
invariant-loop-x g l = (l.h < MODULUS) × ((value : _ → ℕ) → ((x : _) (v : ℕ) → g.T.Into.converts x v → v ≡ value x) → l.h ≡ reached_at (map value l.s) l.x-index)
