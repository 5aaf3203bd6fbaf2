-- A promise of `say` allows one outcome only. Assumes nothing.
use Prim.Native.Nat.{ℕ}
use mathlib.Core.Path.{◌≡◌, sym, ◌∙◌}
use mathlib.Core.List.{List}
use Rattle.say.specs.Say.{Says}
use Rattle.say.specs.Spelled.{Puts}

module _ (page : List ℕ) (at : ℕ) (s p q : List ℕ) (r t : ℕ) where
  pub one-text : Says page at s p r → Says page at s q t → (p ≡ q) × (r ≡ t)
  one-text a b = (a.bytes ∙ sym b.bytes, a.place ∙ sym b.place)

  pub one-part : Puts page at s p r → Puts page at s q t → (p ≡ q) × (r ≡ t)
  one-part a b = (a.bytes ∙ sym b.bytes, a.place ∙ sym b.place)
