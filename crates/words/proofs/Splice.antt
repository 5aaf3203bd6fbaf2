-- Laws of `splice`: two in a row, its length, its parts, a part that is written over. Assumes nothing.
use Prim.Native.Nat.{ℕ, suc, ◌+◌, ◌≤◌}
use mathlib.Core.Path.{◌≡◌, refl, sym, ap, ◌∙◌}
use mathlib.Core.List.{List, [], ◌∷◌, ◌++◌}
use native.Mathlib.Omega.{arith}
use native.Mathlib.Nat.{add-zero, add-suc, suc-add}
use lib.ListN.{length, set, take, drop, length-set}
use borrow.Rule.Slice.PartMut.{put_mid}
use Rattle.std.proofs.lemmas.Slice.{put_mid-paste}
use lib.Seq.{take_all, sets, sets-eq, take-set-le, drop-set-lt}
use Rattle.words.specs.Lists.{splice}

module _ {A : Type 0} where
  pub length-splice : (at : ℕ) (bs s : List A) → length (splice at bs s) ≡ length s
  unfolding splice
  length-splice at [] s = refl
  length-splice at (b ∷ bs) s = length-splice (suc at) bs (set s at b) ∙ length-set s at b

  pub splice-nothing : (at : ℕ) (bs s : List A) → length bs ≡ 0 → s ≡ splice at bs s
  unfolding splice
  splice-nothing at [] s e = refl
  splice-nothing at (b ∷ bs) s e = absurd (omega arith)

  -- two in a row are one
  pub splice-splice : (at : ℕ) (xs bs s : List A) → splice (at + length xs) bs (splice at xs s) ≡ splice at (xs ++ bs) s
  unfolding splice
  splice-splice at [] bs s = rw add-zero
  splice-splice at (a ∷ xs) bs s = rw (add-suc, ← suc-add) (splice-splice (suc at) xs bs (set s at a))

  -- what is before it, and what is after it
  pub take-splice : (n at : ℕ) (bs s : List A) → n ≤ at → take n (splice at bs s) ≡ take n s
  unfolding splice
  take-splice n at [] s h = refl
  take-splice n at (b ∷ bs) s h = take-splice n (suc at) bs (set s at b) (omega arith) ∙ take-set-le n s at b h

  pub drop-splice : (n at : ℕ) (bs s : List A) → at + length bs ≤ n → drop n (splice at bs s) ≡ drop n s
  unfolding splice
  drop-splice n at [] s h = refl
  drop-splice n at (b ∷ bs) s h =
      drop-splice n (suc at) bs (set s at b) (omega (arith, add-suc at (length bs), suc-add at (length bs))) ∙ drop-set-lt n s at b (omega (arith, add-suc at (length bs)))

  as-sets : (at : ℕ) (bs s : List A) → splice at bs s ≡ sets s at bs
  unfolding splice
  as-sets at [] s = refl
  as-sets at (b ∷ bs) s = as-sets (suc at) bs (set s at b)

  -- the whole, where it fits
  pub splice-eq : (at : ℕ) (bs s : List A) → at + length bs ≤ length s → splice at bs s ≡ take at s ++ bs ++ drop (at + length bs) s
  splice-eq at bs s h = as-sets at bs s ∙ sets-eq bs s at h

  -- a part that is written over
  pub put_mid-splice : (at k : ℕ) (s ys bs : List A) → ys ≡ bs → k ≡ length bs → at + length bs ≤ length s → put_mid at k s ys ≡ splice at bs s
  put_mid-splice at k s ys bs e n h =
      put_mid-paste at k s ys bs (length bs) e (sym n) refl
      ∙ ap (λ (l : List A). take at s ++ l ++ drop (at + length bs) s) (take_all (length bs) bs (omega arith))
      ∙ sym (splice-eq at bs s h)
