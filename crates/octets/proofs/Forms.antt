-- The forms of a number and the numbers that are read: what `var` accepts is a form, every form is accepted, and none is shorter than the one written. Assumes nothing.
use Prim.Native.Nat.{ℕ, zero, suc, ◌+◌, ◌*◌, ◌-◌, ◌/◌, ◌%◌, ◌^◌, ◌≤◌, ◌<◌}
use mathlib.Core.Path.{◌≡◌, refl, sym, ap, ◌∙◌}
use mathlib.Core.Bool.{Bool, true, false}
use mathlib.Core.List.{List, [], ◌∷◌, ◌++◌}
use native.Mathlib.Omega.{arith}
use native.Mathlib.Nat.{div-one, div-div-eq-div-mul, div-lt_iff_lt-mul, pow-suc, add-zero, add-suc, suc-add, one-le-pow, zero-lt-suc}
use lib.ListN.{length, get_or, drop}
use lib.Seq.{drop-cons}
use lib.Pow.{pow_pos, pow-add, pow_mono}
use lib.Dec.{ltb}
use borrow.Author.Tests.{ltb-true, lt-ltb}
use Rattle.words.specs.Choice.{pick}
use Rattle.words.specs.Lists.{All}
use Rattle.words.specs.Sizes.{LIMIT}
use Rattle.octets.specs.Varint.{var, more, var_len, var_bytes, run_bytes, tagged, low_bytes}
use Rattle.octets.specs.Reader.{ok}
use Rattle.octets.specs.Spelling.{Bytes, Varint, form, RunSpelt, spelt}
use Rattle.octets.proofs.Back.{form-back, length-low}

-- an element of a list of bytes is below 256, and so is what stands for one past its end
pub byte-below : (s : List ℕ) (i : ℕ) → Bytes s → get_or s i 0 < 256
unfolding All
byte-below [] i b = omega arith
byte-below (x ∷ s) zero b = b.0
byte-below (x ∷ s) (suc i) b = byte-below s i b.1

-- the n bytes from a place on are the last n of what `more` makes of them, and above those stands what it was given
more-back : (n : ℕ) (s : List ℕ) (at v : ℕ) → Bytes s → at + n ≤ length s
    → (more n s at v / 256 ^ n ≡ v) × (drop at s ≡ low_bytes n (more n s at v) ++ drop (at + n) s)
unfolding more low_bytes
more-back zero s at v b h = (div-one v, rw add-zero)
more-back (suc n) s at v b h =
    let i : at < length s = omega arith in
    let d : get_or s at 0 < 256 = byte-below s at b in
    let r = more-back n s (suc at) (v * 256 + get_or s at 0) b (omega arith) in
    let w : more n s (suc at) (v * 256 + get_or s at 0) / 256 ^ suc n ≡ v = rw (pow-suc, ← div-div-eq-div-mul, r.0) (omega arith) in
    let l : (v * 256 + get_or s at 0) % 256 ≡ get_or s at 0 = omega arith in
    (w, rw (r.0, l) (drop-cons s at 0 i ∙ ap (λ (q : List ℕ). get_or s at 0 ∷ q) (rw (add-suc, ← suc-add) r.1)))

-- a form of n + 1 bytes holds the numbers below 64 · 256^n
room : (k n : ℕ) → 2 ^ k ≡ suc n → 2 ^ (8 * 2 ^ k - 2) ≡ 64 * 256 ^ n
room k n e =
    let i : 8 * 2 ^ k - 2 ≡ 6 + n * 8 = omega arith in
    ap (λ (m : ℕ). 2 ^ m) i ∙ pow-add 2 6 (n * 8) ∙ ap (λ (m : ℕ). 64 * m) (sym (eights n))
  where
    eights : (n : ℕ) → 256 ^ n ≡ 2 ^ (n * 8)
    eights zero = refl
    eights (suc n) =
        let i : suc n * 8 ≡ n * 8 + 8 = omega arith in
        pow-suc 256 n ∙ ap (λ (m : ℕ). m * 256) (eights n) ∙ sym (pow-add 2 (n * 8) 8) ∙ ap (λ (m : ℕ). 2 ^ m) (sym i)

length-tagged : (k n v : ℕ) → length (tagged k n v) ≡ suc n
unfolding tagged
length-tagged k n v = ap suc (length-low n v)

-- the length of the form whose tag is k
pub form-length : (k v : ℕ) → length (tagged k (2 ^ k - 1) v) ≡ 2 ^ k
form-length k v = let p = pow_pos k in let l = length-tagged k (2 ^ k - 1) v in omega arith

-- every form is accepted
pub form-read : {v : ℕ} {bs : List ℕ} (s : List ℕ) (at : ℕ) (q : List ℕ) → Varint v bs → drop at s ≡ bs ++ q → var s at ≡ ok v (at + length bs)
form-read s at q (form k v h b) e =
    let p = pow_pos k in
    let n : 2 ^ k ≡ suc (2 ^ k - 1) = omega arith in
    let t : v < 64 * 256 ^ (2 ^ k - 1) = rw (room k (2 ^ k - 1) n) at b in
    form-back k (2 ^ k - 1) v s at q n ((div-lt_iff_lt-mul (one-le-pow _ 256 (zero-lt-suc 255))).1 t) e ∙ ap (λ (m : ℕ). ok v (at + m)) (sym (form-length k v))

-- what is accepted is a form: where a byte with the tag k stands, and all 2^k bytes
pub form-found : (k v : ℕ) (s : List ℕ) (at : ℕ) → Bytes s → at < length s → get_or s at 0 / 64 ≡ k → at + 2 ^ k ≤ length s → more (2 ^ k - 1) s (suc at) (get_or s at 0 % 64) ≡ v
    → (drop at s ≡ tagged k (2 ^ k - 1) v ++ drop (at + 2 ^ k) s) × (v < 2 ^ (8 * 2 ^ k - 2))
unfolding tagged
form-found k v s at b i t h e =
    let p = pow_pos k in
    let n : 2 ^ k ≡ suc (2 ^ k - 1) = omega arith in
    let r = rw e at (more-back (2 ^ k - 1) s (suc at) (get_or s at 0 % 64) b (omega arith)) in
    let c : k * 64 + v / 256 ^ (2 ^ k - 1) ≡ get_or s at 0 = omega arith in
    let f : v / 256 ^ (2 ^ k - 1) < 64 = omega arith in
    let j : suc at + (2 ^ k - 1) ≡ at + 2 ^ k = omega arith in (
      rw c (drop-cons s at 0 i ∙ ap (λ (l : List ℕ). get_or s at 0 ∷ l) (rw j at r.1)),
      rw (room k (2 ^ k - 1) n) ((div-lt_iff_lt-mul (one-le-pow _ 256 (zero-lt-suc 255))).0 f),
    )

-- ---- the form that is written

pub var-spelt : (v : ℕ) → v < LIMIT → Varint v (var_bytes v)
unfolding var_bytes
var-spelt v h = by-len (ltb v (2 ^ 6)) (ltb v (2 ^ 14)) (ltb v (2 ^ 30)) refl refl refl
  where
    by-len : (a b c : Bool) → ltb v (2 ^ 6) ≡ a → ltb v (2 ^ 14) ≡ b → ltb v (2 ^ 30) ≡ c → Varint v (var_bytes v)
    by-len true b c p q r = simp p (form 0 v (omega arith) (ltb-true v (2 ^ 6) p))
    by-len false true c p q r = simp (p, q) (form 1 v (omega arith) (ltb-true v (2 ^ 14) q))
    by-len false false true p q r = simp (p, q, r) (form 2 v (omega arith) (ltb-true v (2 ^ 30) r))
    by-len false false false p q r = simp (p, q, r) (form 3 v (omega arith) h)

pub run-spelt : (bs : List ℕ) → length bs < LIMIT → RunSpelt bs (run_bytes bs)
unfolding run_bytes
run-spelt bs h = spelt (var-spelt (length bs) h)

-- no form is shorter
pick-le : (t : Bool) (x y n : ℕ) → x ≤ n → y ≤ n → pick t x y ≤ n
pick-le true x y n h l = h
pick-le false x y n h l = l

pub var-shortest : {v : ℕ} {bs : List ℕ} → Varint v bs → var_len v ≤ length bs
unfolding var_len
var-shortest (form k v h b) = rw form-length (by-tag k h b)
  where
    by-tag : (k : ℕ) → k < 4 → v < 2 ^ (8 * 2 ^ k - 2) → var_len v ≤ 2 ^ k
    by-tag zero h b = simp (lt-ltb v (2 ^ 6) b) (omega arith)
    by-tag (suc zero) h b = pick-le (ltb v (2 ^ 6)) 1 _ 2 (omega arith) (simp (lt-ltb v (2 ^ 14) b) (omega arith))
    by-tag (suc (suc zero)) h b =
        pick-le (ltb v (2 ^ 6)) 1 _ 4 (omega arith) (pick-le (ltb v (2 ^ 14)) 2 _ 4 (omega arith) (simp (lt-ltb v (2 ^ 30) b) (omega arith)))
    by-tag (suc (suc (suc zero))) h b =
        pick-le (ltb v (2 ^ 6)) 1 _ 8 (omega arith) (pick-le (ltb v (2 ^ 14)) 2 _ 8 (omega arith) (pick-le (ltb v (2 ^ 30)) 4 8 8 (omega arith) (omega arith)))
    by-tag (suc (suc (suc (suc k)))) h b = absurd (omega arith)

-- and none says a number that can't be written
pub var-below : {v : ℕ} {bs : List ℕ} → Varint v bs → v < LIMIT
var-below (form k v h b) =
    let p : 2 ^ k ≤ 2 ^ 3 = pow_mono {i = k} {j = 3} (omega arith) in
    let q : 2 ^ (8 * 2 ^ k - 2) ≤ 2 ^ 62 = pow_mono {i = 8 * 2 ^ k - 2} {j = 62} (omega arith) in
    omega arith
