-- Laws of tables of which one entry goes and another comes, and of tables that are filled up with blanks. Assumes nothing.
use Prim.Native.Nat.{ℕ, zero, suc, ◌+◌, ◌-◌, ◌≤◌, ◌<◌}
use mathlib.Core.Path.{◌≡◌, refl, sym, ap, ◌∙◌}
use mathlib.Core.List.{List, [], ◌∷◌, ◌++◌, append_assoc}
use native.Mathlib.Nat.{not-suc-le-zero, le_of_suc-le-suc}
use native.Mathlib.Numerals.{add-one}
use native.Mathlib.Omega.{arith}
use lib.ListN.{length, get_or, set, take, drop, length-append, length-drop}
use lib.Seq.{paste, drop-cons, take-suc, drop-drop, take-append-add, drop-append-add, take-append-le, drop-append-le, set_at, length-take-le, take-take}
use Rattle.words.specs.Lists.{without}
use Rattle.words.proofs.Lists.{drop-take}
use Rattle.packet_ack.specs.declared.Range.{Range}
use Rattle.pending_acks.specs.Gather.{range, filled}
use Rattle.pending_acks.specs.Steps.{put_in, moved}

-- ---- one entry goes and another comes, by copying those between

module _ {A : Type 0} where
  pub closed_down : (t : List A) (from to : ℕ) (v d : A) → from ≤ to → to < length t → set (paste t from (drop (from + 1) t) (to + 1 - (from + 1))) to v ≡ put_in to v (without from t)
  unfolding put_in without
  closed_down t from to v d h l =
      let n : to + 1 - (from + 1) ≡ to - from = omega arith in
      let e : from + (to - from) ≡ to = omega arith in
      let f : suc from + (to - from) ≡ suc to = omega arith in
      let a : length (take from t) ≡ from = length-take-le from t (omega arith) in
      let b : length (take (to - from) (drop (suc from) t)) ≡ to - from = length-take-le (to - from) (drop (suc from) t) (omega (arith, length-drop (suc from) t)) in
      let c : length (take from t ++ take (to - from) (drop (suc from) t)) ≡ to = length-append (take from t) (take (to - from) (drop (suc from) t)) ∙ omega arith in
      let g : length (take from t) + (to - from) ≡ to = omega arith in
      let left : take to (take from t ++ drop (suc from) t) ≡ take from t ++ take (to - from) (drop (suc from) t) =
      ap (λ (k : ℕ). take k (take from t ++ drop (suc from) t)) (sym g) ∙ take-append-add (take from t) (drop (suc from) t) (to - from) in
      let right : drop to (take from t ++ drop (suc from) t) ≡ drop (suc to) t =
      ap (λ (k : ℕ). drop k (take from t ++ drop (suc from) t)) (sym g)
      ∙ drop-append-add (take from t) (drop (suc from) t) (to - from)
      ∙ drop-drop (to - from) (suc from) t
      ∙ ap (λ (k : ℕ). drop k t) f in
      ap (λ (k : ℕ). set (paste t from (drop (from + 1) t) k) to v) n
      ∙ ap (λ (k : ℕ). set (take from t ++ take (to - from) (drop k t) ++ drop (from + (to - from)) t) to v) (add-one from)
      ∙ ap (λ (k : ℕ). set (take from t ++ take (to - from) (drop (suc from) t) ++ drop k t) to v) e
      ∙ ap (λ (r : List A). set (take from t ++ take (to - from) (drop (suc from) t) ++ r) to v) (drop-cons t to d l)
      ∙ set_at (take from t ++ take (to - from) (drop (suc from) t)) (get_or t to d) (drop (suc to) t) v to c
      ∙ ap (λ (r : List A). r ++ v ∷ drop (suc to) t) (sym left)
      ∙ ap (λ (r : List A). take to (take from t ++ drop (suc from) t) ++ v ∷ r) (sym right)

  pub opened_up : (t : List A) (from to : ℕ) (v d : A) → to ≤ from → from < length t → set (paste t (to + 1) (drop to t) (from - to)) to v ≡ put_in to v (without from t)
  unfolding put_in without
  opened_up t from to v d h l =
      let a : length (take to t) ≡ to = length-take-le to t (omega arith) in
      let f : to ≤ length (take from t) = omega (arith, length-take-le from t (omega arith)) in
      let e : suc to + (from - to) ≡ suc from = omega arith in
      let left : take to (take from t ++ drop (suc from) t) ≡ take to t = take-append-le to (take from t) (drop (suc from) t) f ∙ take-take to from t h in
      let right : drop to (take from t ++ drop (suc from) t) ≡ take (from - to) (drop to t) ++ drop (suc from) t =
      drop-append-le to (take from t) (drop (suc from) t) f ∙ ap (λ (r : List A). r ++ drop (suc from) t) (drop-take to from t) in
      ap (λ (k : ℕ). set (take k t ++ take (from - to) (drop to t) ++ drop (k + (from - to)) t) to v) (add-one to)
      ∙ ap (λ (k : ℕ). set (take (suc to) t ++ take (from - to) (drop to t) ++ drop k t) to v) e
      ∙ ap (λ (r : List A). set (r ++ take (from - to) (drop to t) ++ drop (suc from) t) to v) (take-suc t to d (omega arith))
      ∙ ap (λ (r : List A). set r to v) (append_assoc (take to t ++ get_or t to d ∷ []) (take (from - to) (drop to t)) (drop (suc from) t) ∙ append_assoc (take to t) (get_or t to d ∷ []) (take (from - to) (drop to t) ++ drop (suc from) t))
      ∙ set_at (take to t) (get_or t to d) (take (from - to) (drop to t) ++ drop (suc from) t) v to a
      ∙ ap (λ (r : List A). r ++ v ∷ (take (from - to) (drop to t) ++ drop (suc from) t)) (sym left)
      ∙ ap (λ (r : List A). take to (take from t ++ drop (suc from) t) ++ v ∷ r) (sym right)

-- ---- tables filled up with blanks

pub length-filled : (m : ℕ) (l : List Range) → length (filled m l) ≡ m
unfolding filled
length-filled zero l = refl
length-filled (suc m) [] = ap suc (length-filled m [])
length-filled (suc m) (x ∷ l) = ap suc (length-filled m l)

-- one comes among them
comes : (bs es : List Range) (v : Range) (m : ℕ) → length bs ≤ m → put_in (length bs) v (filled m (bs ++ es)) ≡ filled (suc m) (bs ++ v ∷ es)
unfolding put_in filled
comes [] es v m h = refl
comes (b ∷ bs) es v zero h = absurd (not-suc-le-zero h)
comes (b ∷ bs) es v (suc m) h = ap (λ (l : List Range). b ∷ l) (comes bs es v m (le_of_suc-le-suc h))

-- one of them goes
goes : (bs es : List Range) (v : Range) (m : ℕ) → length bs ≤ m → without (length bs) (filled (suc m) (bs ++ v ∷ es)) ≡ filled m (bs ++ es)
unfolding without filled
goes [] es v m h = refl
goes (b ∷ bs) es v zero h = absurd (not-suc-le-zero h)
goes (b ∷ bs) es v (suc m) h = ap (λ (l : List Range). b ∷ l) (goes bs es v m (le_of_suc-le-suc h))

-- the first blank comes, and goes
blank-comes : (rs : List Range) (m : ℕ) → length rs ≤ m → put_in (length rs) (range 0 0) (filled m rs) ≡ filled (suc m) rs
unfolding put_in filled
blank-comes [] m h = refl
blank-comes (b ∷ bs) zero h = absurd (not-suc-le-zero h)
blank-comes (b ∷ bs) (suc m) h = ap (λ (l : List Range). b ∷ l) (blank-comes bs m (le_of_suc-le-suc h))

blank-goes : (rs : List Range) (m : ℕ) → length rs ≤ m → without (length rs) (filled (suc m) rs) ≡ filled m rs
unfolding without filled
blank-goes [] m h = refl
blank-goes (b ∷ bs) zero h = absurd (not-suc-le-zero h)
blank-goes (b ∷ bs) (suc m) h = ap (λ (l : List Range). b ∷ l) (blank-goes bs m (le_of_suc-le-suc h))

-- one goes and a blank comes behind them; a blank goes and one comes; the first goes and another comes
pub gone : (bs es : List Range) (v : Range) (m : ℕ) → length (bs ++ es) ≤ m → moved (length bs) (length (bs ++ es)) (range 0 0) (filled (suc m) (bs ++ v ∷ es)) ≡ filled (suc m) (bs ++ es)
gone bs es v m h = let l = length-append bs es in ap (put_in (length (bs ++ es)) (range 0 0)) (goes bs es v m (omega arith)) ∙ blank-comes (bs ++ es) m h

pub come : (bs es : List Range) (v : Range) (m : ℕ) → length (bs ++ es) ≤ m → moved (length (bs ++ es)) (length bs) v (filled (suc m) (bs ++ es)) ≡ filled (suc m) (bs ++ v ∷ es)
come bs es v m h = let l = length-append bs es in ap (put_in (length bs) v) (blank-goes (bs ++ es) m h) ∙ comes bs es v m (omega arith)

pub turned : (y : Range) (bs es : List Range) (v : Range) (m : ℕ) → length bs ≤ m → moved 0 (length bs) v (filled (suc m) (y ∷ bs ++ es)) ≡ filled (suc m) (bs ++ v ∷ es)
turned y bs es v m h = ap (put_in (length bs) v) (goes [] (bs ++ es) y m (omega arith)) ∙ comes bs es v m h

-- one of them is another
pub changes : (bs es : List Range) (v w : Range) (m : ℕ) → set (filled m (bs ++ v ∷ es)) (length bs) w ≡ filled m (bs ++ w ∷ es)
unfolding filled
changes bs es v w zero = refl
changes [] es v w (suc m) = refl
changes (b ∷ bs) es v w (suc m) = ap (λ (l : List Range). b ∷ l) (changes bs es v w m)

pub ranges-filled : (rs : List Range) (m : ℕ) → length rs ≤ m → take (length rs) (filled m rs) ≡ rs
unfolding filled
ranges-filled [] m h = refl
ranges-filled (r ∷ rs) zero h = absurd (not-suc-le-zero h)
ranges-filled (r ∷ rs) (suc m) h = ap (λ (l : List Range). r ∷ l) (ranges-filled rs m (le_of_suc-le-suc h))
