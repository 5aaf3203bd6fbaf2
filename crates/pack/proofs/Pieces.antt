-- Laws of a message in pieces: how many there are, how long each is, and that all lie within the message. Assumes nothing.
use Prim.Native.Nat.{ℕ, ◌+◌, ◌*◌, ◌≤◌, ◌<◌}
use native.Mathlib.Omega.{arith}
use borrow.Author.Tests.{eqb-true, eqb-false}
use lib.Dec.{eqb}
use Rattle.words.specs.Sizes.{SLICE_SIZE}
use Rattle.words.specs.Pieces.{pieces_of, piece_len_of}
use Rattle.words.proofs.Tables.{pick-cases}

-- as many as cover it, and no more
pub pieces-cover : (n : ℕ) → n ≤ pieces_of n * SLICE_SIZE
pieces-cover n = omega arith

pub pieces-needed : (n i : ℕ) → i < pieces_of n → i * SLICE_SIZE < n
pieces-needed n i h = omega arith

pub pieces-most : (n p : ℕ) → n ≤ p * SLICE_SIZE → pieces_of n ≤ p
pieces-most n p h = omega arith

pub pieces-two : (n : ℕ) → SLICE_SIZE < n → 2 ≤ pieces_of n
pieces-two n h = omega arith

-- the last piece, or one before it
module _ (n i : ℕ) (h : i < pieces_of n) where
  pub piece-most : piece_len_of n i ≤ SLICE_SIZE
  piece-most =
      pick-cases (λ k. k ≤ SLICE_SIZE) (eqb (i + 1) (pieces_of n))
      (λ e. let l = eqb-true (i + 1) (pieces_of n) e in omega arith)
      (λ e. omega arith)

  pub piece-within : i * SLICE_SIZE + piece_len_of n i ≤ n
  piece-within =
      pick-cases (λ k. i * SLICE_SIZE + k ≤ n) (eqb (i + 1) (pieces_of n))
      (λ e. omega arith)
      (λ e. let l = eqb-false (i + 1) (pieces_of n) e in omega arith)
