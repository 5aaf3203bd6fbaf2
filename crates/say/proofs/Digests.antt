-- Laws of digests: one value more, as a loop meets it. Assumes nothing.
use Prim.Native.Nat.{ℕ, ◌+◌, ◌≤◌, ◌<◌}
use mathlib.Core.Path.{◌≡◌, refl, ap, sym, ◌∙◌}
use mathlib.Core.List.{List}
use native.Mathlib.Numerals.{add-one}
use lib.ListN.{length, get_or, take}
use lib.Seq.{take_all}
use Rattle.words.specs.Lists.{reached}
use Rattle.words.proofs.Lists.{reached-suc}
use Rattle.say.specs.Digest.{mixed, digest_of}

-- the digest of the first i
abbrev pub reached_at : List ℕ → ℕ → ℕ
reached_at t i = reached mixed 0 (take i t)

module _ (t : List ℕ) where
  pub digest-start : 0 ≡ reached_at t 0
  unfolding reached
  digest-start = refl

  pub digest-more : (h r i v : ℕ) → i < length t → h ≡ reached_at t i → v ≡ get_or t i 0 → r ≡ mixed h v → r ≡ reached_at t (i + 1)
  digest-more h r i v l e f g =
      g ∙ ap (λ (x : ℕ). mixed x v) e ∙ ap (mixed (reached_at t i)) f ∙ rw add-one (sym (reached-suc (λ (s a : ℕ). a) mixed 0 t i 0 l))

  pub digest-all : (h i : ℕ) → length t ≤ i → h ≡ reached_at t i → h ≡ digest_of t
  unfolding digest_of
  digest-all h i l e = e ∙ ap (reached mixed 0) (take_all i t l)
