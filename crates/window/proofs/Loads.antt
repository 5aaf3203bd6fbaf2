-- What messages may take together: one more, one fewer, and how many they are. Assumes nothing.
use Prim.Native.Nat.{ℕ, zero, suc, ◌+◌, ◌-◌, ◌*◌, ◌≤◌}
use mathlib.Core.Path.{◌≡◌, refl}
use mathlib.Core.Bool.{Bool, true, false}
use mathlib.Core.List.{List, [], ◌∷◌, ◌++◌}
use native.Mathlib.Omega.{arith}
use lib.ListN.{length, drop}
use Rattle.words.specs.Choice.{pick}
use Rattle.words.specs.Sizes.{SLICE_SIZE, PIECES}
use Rattle.words.proofs.Tables.{by-test}
use Rattle.words.specs.Lists.{total}
use Rattle.words.proofs.Lists.{total-snoc}
use Rattle.window.specs.Rule.{is_small, small_one, sliced_one, charge_of, load_of}
use Rattle.window.specs.Steps.{one_of, Bounded, plus, Holds, minus}
use Rattle.window.specs.declared.Load.{Load}

pub load_cons : (n : ℕ) (lens : List ℕ) → load_of (n ∷ lens) ≡ plus (one_of n) (load_of lens)
unfolding load_of total
load_cons n lens = refl

pub load-snoc : (lens : List ℕ) (n : ℕ) → plus (load_of lens) (one_of n) ≡ load_of (lens ++ (n ∷ []))
unfolding load_of
load-snoc lens n = rw (total-snoc small_one lens n, total-snoc sliced_one lens n, total-snoc charge_of lens n)

-- a load holds each of its messages, and without it is the others'
pub plus-holds : (a b : Load) → Holds (plus a b) a
plus-holds a b = record { small = omega arith; sliced = omega arith; charge = omega arith }

pub minus_plus : (a b : Load) → minus (plus a b) a ≡ b
minus_plus a b =
    let e : a.small + b.small - a.small ≡ b.small = omega arith in
    let f : a.sliced + b.sliced - a.sliced ≡ b.sliced = omega arith in
    let g : a.charge + b.charge - a.charge ≡ b.charge = omega arith in
    rw (e, f, g)

-- each message takes a slot or a lane
one-kind : (t : Bool) → pick t 1 0 + pick t 0 1 ≡ 1
one-kind true = refl
one-kind false = refl

pub load-length : (lens : List ℕ) → (load_of lens).small + (load_of lens).sliced ≡ length lens
unfolding load_of total
load-length [] = refl
load-length (n ∷ lens) = let e = load-length lens in let o = one-kind (is_small n) in omega arith

-- what one message takes fits a word
pub one-bounded : (n : ℕ) → n ≤ PIECES * SLICE_SIZE → Bounded (one_of n)
one-bounded n h =
    by-test (is_small n)
    (λ e. record { small = rw e (omega arith); sliced = rw e (omega arith); charge = rw e (omega arith) })
    (λ e. record { small = rw e (omega arith); sliced = rw e (omega arith); charge = rw e (omega arith) })

-- some of the messages take no more than all
pub total-drop : (f : ℕ → ℕ) (k : ℕ) (lens : List ℕ) → total f (drop k lens) ≤ total f lens
unfolding total
total-drop f zero lens = omega arith
total-drop f (suc k) [] = omega arith
total-drop f (suc k) (n ∷ lens) = let d = total-drop f k lens in omega arith
