-- A number that is read from bytes is below 2^62. Assumes nothing.
use Prim.Native.Nat.{ℕ, suc, ◌<◌}
use mathlib.Core.Path.{◌≡◌, sym}
use mathlib.Core.List.{List, [], ◌∷◌}
use native.Mathlib.Omega.{arith}
use mir.Val.{Fits}
use mir.Syntax.{w8}
use lib.ListN.{get_or}
use Rattle.words.specs.Lists.{All}
use Rattle.words.specs.Sizes.{LIMIT}
use Rattle.octets.specs.Reader.{ok}
use Rattle.octets.specs.Varint.{var}
use Rattle.octets.specs.Spelling.{Bytes}
use Rattle.octets.proofs.Exact.{exact-var}
use Rattle.octets.proofs.Forms.{var-below}

-- a slice of bytes is a list of bytes
pub slice-bytes : (s : List ℕ) → ((i : ℕ) → Fits w8 (get_or s i 0)) → Bytes s
unfolding All
slice-bytes [] f = tt
slice-bytes (x ∷ s) f = (omega (arith, f 0), slice-bytes s (λ i. f (suc i)))

-- as code meets it
pub read_below : (s : List ℕ) → ((i : ℕ) → Fits w8 (get_or s i 0)) → (at : ℕ) {v next : ℕ} → ok v next ≡ var s at → v < LIMIT
read_below s f at e = var-below (exact-var.sound s at (slice-bytes s f) (sym e)).says
