-- What the stores of `write_varint` make of the buffer, in each of its branches. Assumes nothing.
use Prim.Native.Nat.{ℕ, ◌+◌, ◌*◌, ◌/◌, ◌%◌, ◌^◌, ◌≤◌, ◌<◌}
use mathlib.Core.Path.{◌≡◌, ap, ap₂, ◌∙◌}
use mathlib.Core.Bool.{Bool, true, false}
use mathlib.Core.List.{List, ◌++◌}
use native.Mathlib.Omega.{arith}
use native.Mathlib.Nat.{div-one, div-div-eq-div-mul, zero-add}
use borrow.Author.Tests.{lt-ltb, le-ltb, le-leb, lt-leb}
use lib.Dec.{ltb}
use lib.ListN.{length, set}
use Rattle.words.specs.Choice.{pick}
use Rattle.words.specs.Lists.{splice}
use Rattle.words.specs.Sizes.{LIMIT}
use Rattle.words.proofs.Splice.{splice-splice}
use Rattle.octets.specs.Writer.{done, refused}
use Rattle.octets.specs.Steps.{quad_bytes}
use Rattle.octets.specs.Varint.{var_len, var_bytes, tagged, low_bytes, pair_bytes, var_length, put_var, put_bytes, put_run}

-- what is written after xs
pub wrote-both : (at : ℕ) (xs ys s : List ℕ) {a : ℕ} {o₁ o₂ : List ℕ} → o₁ ≡ splice at xs s → a ≡ at + length xs → o₂ ≡ splice a ys o₁ → o₂ ≡ splice at (xs ++ ys) s
wrote-both at xs ys s e₁ ea e₂ = e₂ ∙ rw (e₁, ea) (splice-splice at xs ys s)

-- a number of two bytes, below a tag; of four; its last four; and of eight, by halves
two : (tag v : ℕ) → v < 16384 → pair_bytes (tag * 16384 + v) ≡ tagged tag 1 v
unfolding tagged low_bytes
two tag v h =
    let e0 : (tag * 16384 + v) / 256 ≡ tag * 64 + v / 256 = omega arith in
    let e1 : (tag * 16384 + v) % 256 ≡ v % 256 = omega arith in
    simp (e0, e1, div-one)

four : (tag v : ℕ) → v < 1073741824 → quad_bytes (tag * 1073741824 + v) ≡ tagged tag 3 v
unfolding tagged low_bytes
four tag v h =
    let e0 : (tag * 1073741824 + v) / 65536 / 256 ≡ tag * 64 + v / 16777216 = omega arith in
    let e1 : (tag * 1073741824 + v) / 65536 % 256 ≡ v / 65536 % 256 = omega arith in
    let e2 : (tag * 1073741824 + v) % 65536 / 256 ≡ v / 256 % 256 = omega arith in
    let e3 : (tag * 1073741824 + v) % 65536 % 256 ≡ v % 256 = omega arith in
    simp (e0, e1, e2, e3, div-one)

last-four : (v : ℕ) → quad_bytes (v % 4294967296) ≡ low_bytes 4 v
unfolding low_bytes
last-four v =
    let e0 : v % 4294967296 / 65536 / 256 ≡ v / 16777216 % 256 = omega arith in
    let e1 : v % 4294967296 / 65536 % 256 ≡ v / 65536 % 256 = omega arith in
    let e2 : v % 4294967296 % 65536 / 256 ≡ v / 256 % 256 = omega arith in
    let e3 : v % 4294967296 % 65536 % 256 ≡ v % 256 = omega arith in
    simp (e0, e1, e2, e3, div-one)

eight : (tag v : ℕ) → tagged tag 3 (v / 4294967296) ++ low_bytes 4 v ≡ tagged tag 7 v
unfolding tagged low_bytes
eight tag v = simp div-div-eq-div-mul

module _ (v : ℕ) where
  pub len-1 : v < 64 → var_len v ≡ 1
  unfolding var_len
  len-1 h = simp (lt-ltb _ _ h)

  pub len-2 : 64 ≤ v → v < 16384 → var_len v ≡ 2
  unfolding var_len
  len-2 h h' = simp (le-ltb _ _ h, lt-ltb _ _ h')

  pub len-4 : 16384 ≤ v → v < 1073741824 → var_len v ≡ 4
  unfolding var_len
  len-4 h h' = let g : 64 ≤ v = omega arith in simp (le-ltb _ _ g, le-ltb _ _ h, lt-ltb _ _ h')

  pub len-8 : 1073741824 ≤ v → var_len v ≡ 8
  unfolding var_len
  len-8 h = let g : 64 ≤ v = omega arith in let g' : 16384 ≤ v = omega arith in simp (le-ltb _ _ g, le-ltb _ _ g', le-ltb _ _ h)

  module _ (s : List ℕ) (at : ℕ) where
    pub wrote-1 : v < 64 → set s at v ≡ splice at (var_bytes v) s
    unfolding splice var_bytes tagged low_bytes
    wrote-1 h = simp (lt-ltb _ _ h, div-one, zero-add)

    pub wrote-2 : {o : List ℕ} → 64 ≤ v → v < 16384 → o ≡ splice at (pair_bytes (16384 + v)) s → o ≡ splice at (var_bytes v) s
    unfolding var_bytes
    wrote-2 h h' e = simp (le-ltb _ _ h, lt-ltb _ _ h') (e ∙ ap (λ (bs : List ℕ). splice at bs s) (two 1 v h'))

    pub wrote-4 : {o : List ℕ} → 16384 ≤ v → v < 1073741824 → o ≡ splice at (quad_bytes (2147483648 + v)) s → o ≡ splice at (var_bytes v) s
    unfolding var_bytes
    wrote-4 h h' e =
        let g : 64 ≤ v = omega arith in
        simp (le-ltb _ _ g, le-ltb _ _ h, lt-ltb _ _ h') (e ∙ ap (λ (bs : List ℕ). splice at bs s) (four 2 v h'))

    pub wrote-8 : {a : ℕ} {o₁ o₂ : List ℕ} → 1073741824 ≤ v → v < LIMIT
        → o₁ ≡ splice at (quad_bytes (3221225472 + v / 4294967296)) s → a ≡ at + 4 → o₂ ≡ splice a (quad_bytes (v % 4294967296)) o₁ → o₂ ≡ splice at (var_bytes v) s
    unfolding var_bytes
    wrote-8 h h' e₁ ea e₂ =
        let g : 64 ≤ v = omega arith in
        let g' : 16384 ≤ v = omega arith in
        let e = ap₂ (λ (x y : List ℕ). x ++ y) (four 3 (v / 4294967296) (omega arith)) (last-four v) ∙ eight 3 v in
        simp (le-ltb _ _ g, le-ltb _ _ g', le-ltb _ _ h) (wrote-both at _ _ s e₁ ea e₂ ∙ ap (λ (bs : List ℕ). splice at bs s) e)

-- no form is empty
pub some_len : (v : ℕ) → 1 ≤ var_len v
unfolding var_len
some_len v = go (ltb v (2 ^ 6)) (ltb v (2 ^ 14)) (ltb v (2 ^ 30))
  where
    go : (a b c : Bool) → 1 ≤ pick a 1 (pick b 2 (pick c 4 8))
    go true b c = omega arith
    go false true c = omega arith
    go false false true = omega arith
    go false false false = omega arith

-- ---- the answers of the calls

pub no-form : (v : ℕ) → LIMIT ≤ v → refused 13 ≡ var_length v
unfolding var_length
no-form v h = simp (le-leb _ _ h)

pub has-form : (v : ℕ) {r : ℕ} → v < LIMIT → r ≡ var_len v → done r ≡ var_length v
unfolding var_length
has-form v h e = simp (e, lt-leb _ _ h)

module _ (v at n : ℕ) where
  pub put-bad : LIMIT ≤ v → refused 13 ≡ put_var v at n
  unfolding put_var
  put-bad h = simp (le-leb _ _ h)

  pub put-no-room : v < LIMIT → n < at + var_len v → refused 1 ≡ put_var v at n
  unfolding put_var
  put-no-room h r = simp (lt-leb _ _ h, lt-ltb _ _ r)

  pub put-to : {r : ℕ} → v < LIMIT → at + var_len v ≤ n → r ≡ at + var_len v → done r ≡ put_var v at n
  unfolding put_var
  put-to h f e = simp (e, lt-leb _ _ h, le-ltb _ _ f)

module _ (k at n : ℕ) where
  pub bytes-no-room : n < at + k → refused 1 ≡ put_bytes k at n
  unfolding put_bytes
  bytes-no-room h = simp (lt-ltb _ _ h)

  pub bytes-to : {r : ℕ} → at + k ≤ n → r ≡ at + k → done r ≡ put_bytes k at n
  unfolding put_bytes
  bytes-to h e = simp (e, le-ltb _ _ h)

  pub run-bad : LIMIT ≤ k → refused 13 ≡ put_run k at n
  unfolding put_run
  run-bad h = simp (le-leb _ _ h)

  pub run-no-room : k < LIMIT → n < at + (var_len k + k) → refused 1 ≡ put_run k at n
  unfolding put_run
  run-no-room h r = simp (lt-leb _ _ h, lt-ltb _ _ r)

  pub run-to : {r : ℕ} → k < LIMIT → at + (var_len k + k) ≤ n → r ≡ at + (var_len k + k) → done r ≡ put_run k at n
  unfolding put_run
  run-to h f e = simp (e, lt-leb _ _ h, le-ltb _ _ f)
