-- One outcome only: the number of a set-up tells it. Assumes nothing.
use Prim.Native.Nat.{ℕ}
use mathlib.Core.Path.{◌≡◌, refl, ap}
use lib.Dec.{eqb}
use Rattle.words.specs.Choice.{pick}
use Rattle.words.proofs.Unique.{told-apart, refusal_of, refusal-undone}
use Rattle.words.proofs.Unique.{numbered-above}
use Rattle.channel.specs.Settings.{setup_number}
use Rattle.words.specs.declared.Refusal.{Refusal}
use Rattle.std.specs.Prelude.{Result, Ok, Err}

abbrev setup_from : ℕ → Result (Unit {0}) Refusal
setup_from n = pick (eqb n 0) (Ok tt) (Err (refusal_of n))

setup-undone : (a : Result (Unit {0}) Refusal) → setup_from (setup_number a) ≡ a
setup-undone (Ok tt) = refl
setup-undone (Err e) = rw (numbered-above e) (ap Err (refusal-undone e))

pub one-setup : (a b : Result (Unit {0}) Refusal) → setup_number a ≡ setup_number b → a ≡ b
one-setup = told-apart setup_number setup_from setup-undone
