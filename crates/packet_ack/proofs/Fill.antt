-- The table that `fill_ranges` makes: ranges stored from the highest down make the rising table. Assumes nothing.
use Prim.Native.Nat.{ℕ, zero, suc, ◌+◌, ◌≤◌, ◌<◌}
use mathlib.Core.Path.{◌≡◌, refl, sym, ap, ◌∙◌}
use mathlib.Core.List.{List, [], ◌∷◌, reverse, reverse-cons}
use native.Mathlib.Omega.{arith}
use native.Mathlib.Nat.{add-suc, suc-add}
use lib.ListN.{length, set, length-reverse}
use lib.Seq.{set_comm}
use Rattle.std.specs.Prelude.{Result, Ok, Err}
use Rattle.std.specs.Result.{result_unwrap_or}
use Rattle.words.specs.Lists.{splice}
use Rattle.words.specs.declared.Refusal.{Refusal}
use Rattle.words.proofs.Splice.{splice-splice}
use Rattle.octets.specs.Reader.{Res, ok, fault, then}
use Rattle.packet_ack.specs.Ack.{Range, lower, lowers}
use Rattle.packet_ack.specs.declared.Spot.{Spot}
use Rattle.packet_ack.specs.Steps.{lower_of, spot_of, lower_spot_of, filled_from}

-- ---- two stores that don't meet may change places

module _ {A : Type 0} where
  splice-set : (i : ℕ) (v : A) (at : ℕ) (bs s : List A) → i < at → splice at bs (set s i v) ≡ set (splice at bs s) i v
  unfolding splice
  splice-set i v at [] s h = refl
  splice-set i v at (b ∷ bs) s h =
      ap (splice (suc at) bs) (set_comm s i at v b (λ e. omega arith)) ∙ splice-set i v (suc at) bs (set s at b) (omega arith)

  pub splice-comm : (i : ℕ) (xs : List A) (at : ℕ) (bs s : List A) → i + length xs ≤ at → splice i xs (splice at bs s) ≡ splice at bs (splice i xs s)
  unfolding splice
  splice-comm i [] at bs s h = refl
  splice-comm i (a ∷ xs) at bs s h =
      ap (splice (suc i) xs) (sym (splice-set i a at bs s (omega arith))) ∙ splice-comm (suc i) xs at bs (set s i a) (omega (arith, suc-add i (length xs), add-suc i (length xs)))

-- ---- ranges stored from the highest down

abbrev spot : Range → ℕ → Spot
spot r next = record { range = r; next = next }

-- one range more, above those that are stored
stored-top : (r : Range) (rs : List Range) (k : ℕ) (t : List Range) → length rs ≡ k → splice 0 (reverse rs) (set t k r) ≡ splice 0 (reverse (r ∷ rs)) t
unfolding splice
stored-top r rs k t e =
    let l : 0 + length (reverse rs) ≡ k = rw (length-reverse rs) (omega arith) in
    splice-comm 0 (reverse rs) k (r ∷ []) t (omega arith)
    ∙ ap (λ (m : ℕ). splice m (r ∷ []) (splice 0 (reverse rs) t)) (sym l)
    ∙ splice-splice 0 (reverse rs) (r ∷ []) t
    ∙ ap (λ (l : List Range). splice 0 l t) (sym (reverse-cons r rs))

-- what the lower ranges are says what the first of them is, and the rest
lowers-first : (x : Range) (r : Res (List Range)) {rs : List Range} {next : ℕ} → then r (λ xs b. ok (x ∷ xs) b) ≡ ok rs next → (xs : List Range) × (r ≡ ok xs next) × (rs ≡ x ∷ xs)
lowers-first x (ok xs b) e = (xs, cc, cc)
lowers-first x (fault y) e = let z : ◌≡◌ {A = ℕ} 0 1 = cc in absurd (omega arith)

lowers-split : (k : ℕ) (s : List ℕ) (r : Res Range) {rs : List Range} {next : ℕ} → then r (λ x n. then (lowers k x.start s n) (λ xs b. ok (x ∷ xs) b)) ≡ ok rs next
    → (x : Range) × (n : ℕ) × (xs : List Range) × (r ≡ ok x n) × (lowers k x.start s n ≡ ok xs next) × (rs ≡ x ∷ xs)
lowers-split k s (ok x n) e = let f = lowers-first x (lowers k x.start s n) e in (x, n, f.0, refl, f.1, f.2)
lowers-split k s (fault y) e = let z : ◌≡◌ {A = ℕ} 0 1 = cc in absurd (omega arith)

pub filled-rising : (k : ℕ) (s : List ℕ) (r : Range) (at : ℕ) (t : List Range) {rs : List Range} {next : ℕ} → lowers k r.start s at ≡ ok rs next → length rs ≡ k
    → filled_from (suc k) s (spot r at) t ≡ splice 0 (reverse (r ∷ rs)) t
unfolding lowers filled_from splice
filled-rising zero s r at t {rs} e c = one rs c
  where
    one : (rs : List Range) → length rs ≡ 0 → splice 0 (r ∷ []) t ≡ splice 0 (reverse (r ∷ rs)) t
    one [] c = refl
    one (x ∷ xs) c = absurd (omega arith)
filled-rising (suc k) s r at t {rs} e c =
    let f = lowers-split k s (lower r.start s at) e in
    let l : length f.2 ≡ k = omega (arith, ap length f.5) in
    ap (λ (d : Spot). filled_from (suc k) s d (set t (suc k) r)) (ap (spot_of (spot r at)) f.3)
    ∙ filled-rising k s f.0 f.1 (set t (suc k) r) f.4 l
    ∙ ap (λ (q : List Range). splice 0 (reverse q) (set t (suc k) r)) (sym f.5)
    ∙ stored-top r rs (suc k) t c

-- ---- the range below, as code finds it

pub spot-below : (s : List ℕ) (c : Spot) (r : Result Spot Refusal) → lower_of r ≡ lower c.range.start s c.next → result_unwrap_or r c ≡ lower_spot_of s c
spot-below s c (Ok d) e = simp (← e)
spot-below s c (Err x) e = simp (← e)
