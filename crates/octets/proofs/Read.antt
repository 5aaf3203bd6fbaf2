-- `var` at each of its cases, in the terms in which code meets them. Assumes nothing.
use Prim.Native.Nat.{ℕ, suc, ◌+◌, ◌*◌, ◌-◌, ◌/◌, ◌%◌, ◌^◌, ◌≤◌, ◌<◌}
use mathlib.Core.Path.{◌≡◌}
use mathlib.Core.List.{List}
use native.Mathlib.Omega.{arith}
use native.Mathlib.Numerals.{towards_suc}
use borrow.Author.Tests.{lt-ltb, le-ltb, le-leb, lt-leb}
use lib.ListN.{length, get_or}
use lib.Pow.{pow_mono}
use Rattle.octets.specs.Varint.{var, more, form_len_of}
use Rattle.octets.specs.Reader.{ok, fault, byte, pair}
use Rattle.octets.specs.Steps.{pair_at, quad_at}

module _ (s : List ℕ) (at : ℕ) where
  pub read_none : length s ≤ at → fault 1 ≡ var s at
  unfolding var
  read_none h = simp (le-ltb _ _ h)

  -- the first byte is there, and says 2 ^ k bytes or more, and there are fewer
  short : (k : ℕ) → at < length s → k ≤ get_or s at 0 / 64 → length s < at + 2 ^ k → fault 1 ≡ var s at
  unfolding var form_len_of
  short k i b r =
      let p : 2 ^ k ≤ 2 ^ (get_or s at 0 / 64) = pow_mono b in
      let h : length s < at + 2 ^ (get_or s at 0 / 64) = omega arith in
      simp (lt-ltb _ _ i, lt-leb _ _ h)

  pub short-2 : at < length s → 64 ≤ get_or s at 0 → length s - at < 2 → fault 1 ≡ var s at
  short-2 i b r = short 1 i (omega arith) (omega arith)

  pub short-4 : at < length s → 128 ≤ get_or s at 0 → length s - at < 4 → fault 1 ≡ var s at
  short-4 i b r = short 2 i (omega arith) (omega arith)

  pub short-8 : at < length s → 192 ≤ get_or s at 0 → length s - at < 8 → fault 1 ≡ var s at
  short-8 i b r = short 3 i (omega arith) (omega arith)

  -- the first byte is there, its tag is k, and so are all 2 ^ k bytes
  pub whole : (k : ℕ) → at < length s → get_or s at 0 / 64 ≡ k → at + 2 ^ k ≤ length s
      → ok (more (2 ^ k - 1) s (suc at) (get_or s at 0 % 64)) (at + 2 ^ k) ≡ var s at
  unfolding var form_len_of
  whole k i e r = simp (lt-ltb _ _ i, e, le-leb _ _ r)

  -- as the code gathers the value, by two-byte and four-byte numbers from which the tag is taken off
  module _ (i : at < length s) where
    pub whole-1 : {v : ℕ} → v ≡ get_or s at 0 → get_or s at 0 < 64 → ok v (at + 1) ≡ var s at
    unfolding more
    whole-1 {v} e b = let r : v ≡ get_or s at 0 % 64 = omega arith in rw r (whole 0 i (omega arith) (omega arith))

    pub whole-2 : {v : ℕ} → v ≡ pair_at s at → 64 ≤ get_or s at 0 → get_or s at 0 < 128 → 2 ≤ length s - at → ok (v - 16384) (at + 2) ≡ var s at
    unfolding more
    whole-2 {v} e b b' r =
        let h = simp towards_suc at e in
        let g : v - 16384 ≡ more 1 s (suc at) (get_or s at 0 % 64) = omega arith in
        rw g (whole 1 i (omega arith) (omega arith))

    pub whole-4 : {v : ℕ} → v ≡ quad_at s at → 128 ≤ get_or s at 0 → get_or s at 0 < 192 → 4 ≤ length s - at → ok (v - 2147483648) (at + 4) ≡ var s at
    unfolding more
    whole-4 {v} e b b' r =
        let h = simp towards_suc at e in
        let g : v - 2147483648 ≡ more 3 s (suc at) (get_or s at 0 % 64) = omega arith in
        rw g (whole 2 i (omega arith) (omega arith))

    pub whole-8 : {x y : ℕ} → x ≡ quad_at s at → y ≡ quad_at s (at + 4) → 192 ≤ get_or s at 0 → get_or s at 0 < 256 → 8 ≤ length s - at
        → ok ((x - 3221225472) * 4294967296 + y) (at + 8) ≡ var s at
    unfolding more
    whole-8 {x} {y} e e' b b' r =
        let h = simp towards_suc at e in
        let h' = simp towards_suc at e' in
        let g : (x - 3221225472) * 4294967296 + y ≡ more 7 s (suc at) (get_or s at 0 % 64) = omega arith in
        rw g (whole 3 i (omega arith) (omega arith))

  -- one byte
  pub byte-short : length s ≤ at → fault 1 ≡ byte s at
  unfolding byte
  byte-short h = simp (le-ltb _ _ h)

  pub byte-there : {v : ℕ} → at < length s → v ≡ get_or s at 0 → ok v (at + 1) ≡ byte s at
  unfolding byte
  byte-there h e = simp (e, lt-ltb _ _ h)

  -- two bytes
  pub pair-short : length s < at + 2 → fault 1 ≡ pair s at
  unfolding pair
  pair-short h = simp (lt-leb _ _ h)

  pub pair-whole : {v : ℕ} → at + 2 ≤ length s → v ≡ pair_at s at → ok v (at + 2) ≡ pair s at
  unfolding pair
  pair-whole h e = simp (e, le-leb _ _ h)
