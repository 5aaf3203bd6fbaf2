-- `run` at each of its cases, and what writing a run leaves, in the terms in which code meets them. Assumes nothing.
use Prim.Native.Nat.{ℕ, ◌+◌, ◌-◌, ◌≤◌, ◌<◌}
use mathlib.Core.Path.{◌≡◌, sym, ap, ◌∙◌}
use mathlib.Core.List.{List}
use native.Mathlib.Omega.{arith}
use borrow.Author.Tests.{le-leb, lt-leb}
use lib.ListN.{length, length-append}
use Rattle.words.specs.Lists.{splice}
use Rattle.octets.specs.Reader.{ok, fault, bytes}
use Rattle.octets.specs.Varint.{var, run, var_len, var_bytes, run_bytes}
use Rattle.octets.proofs.Reader.{landed, var-lands}
use Rattle.octets.proofs.Back.{length-var}
use Rattle.octets.proofs.Write.{wrote-both}

module _ (s : List ℕ) (at : ℕ) where
  pub no_length : {x : ℕ} → fault x ≡ var s at → fault x ≡ run s at
  unfolding run
  no_length e = simp (← e)

  module _ {n b : ℕ} (e : ok n b ≡ var s at) where
    pub length-end : b ≤ length s
    length-end = landed var-lands s at e

    pub no_bytes : length s - b < n → fault 1 ≡ run s at
    unfolding run bytes
    no_bytes h = let f : length s < b + n = omega arith in simp (← e, lt-leb _ _ f)

    pub run-there : n ≤ length s - b → ok (record { place = b; len = n }) (b + n) ≡ run s at
    unfolding run bytes
    run-there h = let l = length-end in let f : b + n ≤ length s = omega arith in simp (← e, le-leb _ _ f)

pub length_run : (bs : List ℕ) → length (run_bytes bs) ≡ var_len (length bs) + length bs
unfolding run_bytes
length_run bs = rw (length-append, length-var)

-- a run is written after its length
pub wrote-run : (at : ℕ) (bs out : List ℕ) {a : ℕ} {o1 o2 : List ℕ} → o2 ≡ splice a bs o1 → a ≡ at + var_len (length bs) → o1 ≡ splice at (var_bytes (length bs)) out
    → o2 ≡ splice at (run_bytes bs) out
unfolding run_bytes
wrote-run at bs out e2 ea e1 = wrote-both at (var_bytes (length bs)) bs out e1 (ea ∙ ap (λ (n : ℕ). at + n) (sym (length-var (length bs)))) e2
