-- What is known of a list where its suffix at a place is written out: `drop at s ≡ b ∷ r` and `drop at s ≡ bs ++ r`. Assumes nothing.
use Prim.Native.Nat.{ℕ, suc, ◌+◌, ◌-◌, ◌≤◌, ◌<◌}
use mathlib.Core.Path.{◌≡◌, sym, ap, ◌∙◌}
use mathlib.Core.List.{List, ◌∷◌, ◌++◌, append_assoc}
use native.Mathlib.Omega.{arith}
use native.Mathlib.Nat.{add-zero}
use native.Mathlib.Numerals.{add-one}
use lib.ListN.{length, get_or, take, drop, length-append, length-drop}
use lib.Seq.{drop-drop, get_or-drop, drop-append_seam, take-append_seam, drop_at, length-take-le}
use Rattle.words.specs.Lists.{splice}
use Rattle.words.proofs.Splice.{splice-eq}

module _ {A : Type 0} (s : List A) (at : ℕ) where
  module _ {b : A} {r : List A} (e : drop at s ≡ b ∷ r) where
    pub here_in : at < length s
    here_in = omega (arith, length-drop at s, ap length e)

    pub here : (d : A) → get_or s at d ≡ b
    here d = rw add-zero at (sym (get_or-drop at s 0 d)) ∙ ap (λ (l : List A). get_or l 0 d) e

    pub next : drop (suc at) s ≡ r
    next = rw add-one at (sym (drop-drop 1 at s)) ∙ ap (drop 1) e

  module _ (bs r : List A) (e : drop at s ≡ bs ++ r) where
    pub run_length : length s - at ≡ length bs + length r
    run_length = sym (length-drop at s) ∙ ap length e ∙ length-append bs r

    pub past : drop (at + length bs) s ≡ r
    past = sym (drop-drop (length bs) at s) ∙ ap (drop (length bs)) e ∙ drop-append_seam bs r

    pub run : take (length bs) (drop at s) ≡ bs
    run = ap (take (length bs)) e ∙ take-append_seam bs r

-- what stands from its place on after a splice that fits
pub drop-at-splice : {A : Type 0} (at : ℕ) (bs s : List A) → at + length bs ≤ length s → drop at (splice at bs s) ≡ bs ++ drop (at + length bs) s
drop-at-splice at bs s h =
    let n : length (take at s) ≡ at = length-take-le at s (omega arith) in
    ap (drop at) (splice-eq at bs s h ∙ append_assoc (take at s) bs (drop (at + length bs) s)) ∙ drop_at (take at s) (bs ++ drop (at + length bs) s) at n
