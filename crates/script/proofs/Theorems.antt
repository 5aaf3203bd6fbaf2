-- The promise of `bytes_of` allows one outcome only; the other promises of `script` are equations. Assumes nothing.
use Prim.Native.Nat.{ℕ}
use mathlib.Core.Path.{◌≡◌, sym, ◌∙◌}
use mathlib.Core.List.{List}
use Rattle.script.specs.Bytes.{Bytes, Outcome, Fills}

pub one-filling : (o : Outcome) (out p q : List ℕ) (r t : Bytes) → Fills o out p r → Fills o out q t → (p ≡ q) × (r ≡ t)
one-filling o out p q r t a b = (a.lent ∙ sym b.lent, a.tells ∙ sym b.tells)
