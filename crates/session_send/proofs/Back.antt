-- A memory of which a part was lent, when the part is back. Assumes nothing.
use Prim.Native.Nat.{ℕ, ◌+◌, ◌-◌, min}
use mathlib.Core.Path.{◌≡◌, refl, sym, ap, ◌∙◌}
use mathlib.Core.Bool.{Bool, true, false}
use mathlib.Core.List.{List}
use native.Mathlib.Omega.{arith}
use borrow.Author.Tests.{leb-true, leb-false}
use borrow.Rule.Slice.PartMut.{mid_of, put_mid, mid_len, same_len_mid, take_put, drop_put}
use lib.Dec.{leb}
use lib.ListN.{length, take, drop, drop_of_length-le}
use lib.Seq.{take_all}
use Rattle.memory.specs.Memory.{SpanGives}
use Rattle.memory.specs.declared.Span.{Span}
use Rattle.session_send.specs.Sound.{Keeps}

-- a place past the end of a list cuts it as its end does
module _ (j a : ℕ) (s : List ℕ) (e : a ≡ min j (length s)) where
  take_by : (t : Bool) → leb j (length s) ≡ t → take a s ≡ take j s
  take_by true t = let f : a ≡ j = omega (arith, leb-true j (length s) t) in ap (λ (n : ℕ). take n s) f
  take_by false t = take_all a s (omega (arith, leb-false j (length s) t)) ∙ sym (take_all j s (omega (arith, leb-false j (length s) t)))

  drop-by : (t : Bool) → leb j (length s) ≡ t → drop a s ≡ drop j s
  drop-by true t = let f : a ≡ j = omega (arith, leb-true j (length s) t) in ap (λ (n : ℕ). drop n s) f
  drop-by false t =
      drop_of_length-le s {i = a} (omega (arith, leb-false j (length s) t)) ∙ sym (drop_of_length-le s {i = j} (omega (arith, leb-false j (length s) t)))

-- what is not in the part is as it was
module _ (from n : ℕ) (xs ys : List ℕ) (p : Span) (g : SpanGives from n (length xs) p) where
  abbrev pub back : List ℕ
  back = put_mid p.start (p.end - p.start) xs ys

  pub keeps : length ys ≡ length (mid_of p.start (p.end - p.start) xs) → Keeps from n xs back
  unfolding Keeps
  keeps l =
      let same = same_len_mid p.start (p.end - p.start) xs ys l in (
        sym (take_by from p.start back (g.starts ∙ ap (λ (k : ℕ). min from k) (sym same)) _ refl)
            ∙ take_put p.start (p.end - p.start) xs ys (omega arith)
            ∙ take_by from p.start xs g.starts _ refl,
        sym (drop-by (from + n) p.end back (g.ends ∙ ap (λ (k : ℕ). min (from + n) k) (sym same)) _ refl)
            ∙ drop_put p.start p.end xs ys g.ordered g.inside (l ∙ mid_len p.start p.end xs g.inside)
            ∙ drop-by (from + n) p.end xs g.ends _ refl,
      )
