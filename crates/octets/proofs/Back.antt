-- A form is read back, at any place and with anything after it. Assumes nothing.
use Prim.Native.Nat.{ℕ, zero, suc, ◌+◌, ◌*◌, ◌-◌, ◌/◌, ◌%◌, ◌^◌, ◌<◌}
use mathlib.Core.Path.{◌≡◌, refl, sym, ap, ◌∙◌}
use mathlib.Core.List.{List, ◌++◌}
use native.Mathlib.Omega.{arith}
use native.Mathlib.Nat.{div-one, div-add-mod', div-div-eq-div-mul, pow-suc}
use mathlib.Core.Bool.{Bool, true, false}
use lib.Dec.{ltb}
use lib.ListN.{length, get_or, drop}
use Rattle.octets.specs.Varint.{var, more, var_len, var_bytes, tagged, low_bytes}
use Rattle.octets.specs.Reader.{ok}
use Rattle.words.proofs.Suffix.{here_in, here, next, run_length}
use Rattle.octets.proofs.Read.{whole}

pub length-low : (k v : ℕ) → length (low_bytes k v) ≡ k
unfolding low_bytes
length-low zero v = refl
length-low (suc k) v = ap suc (length-low k v)

-- a byte of v put to what stands above it
put_low : (k v : ℕ) → v / 256 ^ suc k * 256 + v / 256 ^ k % 256 ≡ v / 256 ^ k
put_low k v =
    ap (λ (n : ℕ). v / n * 256 + v / 256 ^ k % 256) (pow-suc 256 k)
    ∙ ap (λ (n : ℕ). n * 256 + v / 256 ^ k % 256) (sym (div-div-eq-div-mul v (256 ^ k) 256))
    ∙ div-add-mod' _ _

more-low : (k v : ℕ) (s : List ℕ) (at : ℕ) (q : List ℕ) → drop at s ≡ low_bytes k v ++ q → more k s at (v / 256 ^ k) ≡ v
unfolding low_bytes more
more-low zero v s at q e = div-one v
more-low (suc k) v s at q e = rw (here s at e 0, put_low k v) (more-low k v s (suc at) q (next s at e))

-- one form, whose tag is k
pub form-back : (k n v : ℕ) (s : List ℕ) (at : ℕ) (q : List ℕ) → 2 ^ k ≡ suc n → v / 256 ^ n < 64 → drop at s ≡ tagged k n v ++ q
    → var s at ≡ ok v (at + 2 ^ k)
unfolding tagged
form-back k n v s at q p h e =
    let b : get_or s at 0 ≡ k * 64 + v / 256 ^ n = here s at e 0 in
    let i : at < length s = here_in s at e in
    let l : length s - at ≡ suc (length (low_bytes n v)) + length q = run_length s at (tagged k n v) q e in
    let z : length (low_bytes n v) ≡ n = length-low n v in
    let k' : 2 ^ k - 1 ≡ n = omega arith in
    let t : get_or s at 0 % 64 ≡ v / 256 ^ n = omega arith in
    let m : more (2 ^ k - 1) s (suc at) (get_or s at 0 % 64) ≡ v = rw (k', t) (more-low n v s (suc at) q (next s at e)) in
    sym (whole s at k i (omega arith) (omega arith)) ∙ ap (λ (x : ℕ). ok x (at + 2 ^ k)) m

-- the length of the shortest form
pub length-var : (v : ℕ) → length (var_bytes v) ≡ var_len v
unfolding var_bytes var_len tagged
length-var v = by-len (ltb v (2 ^ 6)) (ltb v (2 ^ 14)) (ltb v (2 ^ 30)) refl refl refl
  where
    by-len : (a b c : Bool) → ltb v (2 ^ 6) ≡ a → ltb v (2 ^ 14) ≡ b → ltb v (2 ^ 30) ≡ c → length (var_bytes v) ≡ var_len v
    by-len true b c p p' p'' = simp p
    by-len false true c p p' p'' = simp (p, p')
    by-len false false true p p' p'' = simp (p, p', p'')
    by-len false false false p p' p'' = simp (p, p', p'')
