-- What a free place in a valid sender's tables tells, and what a round that is not refused tells. Assumes nothing.
use Prim.Native.Nat.{ℕ, ◌<◌}
use mathlib.Core.Path.{◌≡◌, refl}
use mathlib.Core.Bool.{Bool, true, false}
use native.Mathlib.Omega.{arith}
use lib.Dec.{eqb}
use lib.ListN.{length, get_or}
use borrow.Author.Tests.{eqb-true, eqb-false}
use Rattle.words.specs.Choice.{pick}
use Rattle.words.proofs.Lists.{holds-le, holds-lt}
use Rattle.send_reliable.specs.declared.SendChannelReliable.{SendChannelReliable}
use Rattle.send_reliable.specs.Sender.{Valid}
use Rattle.pack.specs.Encode.{round_refusal}
use Rattle.send_reliable.specs.Round.{Given, entry_refusal, packs, lent, refusal_of}

module _ (s : SendChannelReliable) (v : Valid s) where
  -- where a cell or a lane is free, there is a row more
  pub cell-more : (i : ℕ) → i < s.settings.slots → get_or s.cells i false ≡ false → s.count < length s.rows
  cell-more i low free =
      let a = holds-lt s.cells i (omega (arith, low, v.settings.slots-most, v.cells-long)) free in
      let b = holds-le s.lanes in
      omega (arith, v.counted, v.cells-long, v.lanes-long, v.rows_long)

  pub lane-more : (l : ℕ) → l < s.settings.lanes → get_or s.lanes l false ≡ false → s.count < length s.rows
  lane-more l low free =
      let a = holds-lt s.lanes l (omega (arith, low, v.settings.lanes-most, v.lanes-long)) free in
      let b = holds-le s.cells in
      omega (arith, v.counted, v.cells-long, v.lanes-long, v.rows_long)

-- a round that is not refused
pub round-judged : (s : SendChannelReliable) (g : Given) (out table : ℕ) → refusal_of s g out table ≡ 0
    → (entry_refusal s g ≡ 0) × (round_refusal (lent s g) g.seq (packs s g) out table ≡ 0)
unfolding refusal_of
round-judged s g out table e = at (eqb (entry_refusal s g) 0) refl e
  where
    at : (b : Bool) → eqb (entry_refusal s g) 0 ≡ b → pick b (round_refusal (lent s g) g.seq (packs s g) out table) (entry_refusal s g) ≡ 0
        → (entry_refusal s g ≡ 0) × (round_refusal (lent s g) g.seq (packs s g) out table ≡ 0)
    at true t z = (eqb-true _ _ t, z)
    at false t z = absurd (eqb-false _ _ t z)
