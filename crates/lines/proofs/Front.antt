-- Laws of the bytes that go to the front of the buffer. Assumes nothing.
use Prim.Native.Nat.{ℕ, ◌+◌, ◌-◌, ◌≤◌, min}
use mathlib.Core.Path.{◌≡◌, refl, ap, sym, ◌∙◌}
use mathlib.Core.Bool.{Bool, true, false}
use borrow.Author.Tests.{leb-true, leb-false}
use lib.Dec.{leb}
use mathlib.Core.List.{List, [], ◌∷◌, ◌++◌}
use native.Mathlib.Omega.{arith}
use lib.ListN.{length, take, drop, length-take, length-drop}
use lib.Seq.{paste, take_all, length-take-le, take_at}
use Rattle.words.specs.Lists.{splice}
use Rattle.words.proofs.Splice.{length-splice, splice-eq}

empty : (l : List ℕ) → length l ≡ 0 → l ≡ []
empty [] e = refl
empty (x ∷ l) e = absurd (omega arith)

cut_by : (t : Bool) (a b : ℕ) (l : List ℕ) → leb b (length l) ≡ t → a ≡ min (length l) b → take a l ≡ take b l
cut_by true a b l t e = let f : a ≡ b = omega (arith, leb-true b (length l) t) in ap (λ (n : ℕ). take n l) f
cut_by false a b l t e =
    take_all a l (omega (arith, leb-false b (length l) t)) ∙ sym (take_all b l (omega (arith, leb-false b (length l) t)))

module _ (s : List ℕ) (from to : ℕ) where
  -- the bytes from a place to another
  abbrev pub between : List ℕ
  between = take (to - from) (drop from s)

  none_between : min (length s) to ≤ from → between ≡ []
  none_between h = empty between (omega (arith, length-take (to - from) (drop from s), length-drop from s))

  part-is : (t : Bool) (start end : ℕ) → leb from end ≡ t → end ≡ min (length s) to → start ≡ min from end → take (end - start) (drop start s) ≡ between
  part-is true start end t e f =
      let a : start ≡ from = omega (arith, leb-true from end t) in
      rw a (cut_by (leb (to - from) (length (drop from s))) (end - from) (to - from) (drop from s) refl (omega (arith, length-drop from s)))
  part-is false start end t e f =
      let a : end - start ≡ 0 = omega (arith, leb-false from end t) in
      rw a (sym (none_between (omega (arith, leb-false from end t))))

  -- the part that is copied there
  pub moved : (start end : ℕ) (buf : List ℕ) → end ≡ min (length s) to → start ≡ min from end → buf ≡ paste s 0 (drop start s) (end - start)
      → (end - start ≡ length between) × (end - start ≤ length buf) × (buf ≡ splice 0 between s)
  moved start end buf e f h =
      let p : take (end - start) (drop start s) ≡ between = part-is (leb from end) start end refl e f in
      let n : end - start ≡ length between = sym (length-take-le (end - start) (drop start s) (omega (arith, length-drop start s))) ∙ ap length p in
      let b : buf ≡ splice 0 between s = h ∙ rw (p, n) (sym (splice-eq 0 between s (omega arith))) in
      (n, omega (arith, ap length b, length-splice 0 between s), b)

  -- what was read behind them leaves them as they are
  pub front_kept : (back : List ℕ) → length between ≤ length s → take (length between) (take (length between) (splice 0 between s) ++ back) ≡ between
  front_kept back h =
      let n : length (splice 0 between s) ≡ length s = length-splice 0 between s in
      let z : 0 + length between ≡ length between = omega arith in
      let f : take (length between) (splice 0 between s) ≡ between =
      ap (take (length between)) (splice-eq 0 between s (omega arith)) ∙ take_at between (drop (0 + length between) s) (length between) refl in
      take_at (take (length between) (splice 0 between s)) back (length between) (length-take-le (length between) (splice 0 between s) (omega arith)) ∙ f
