-- `octets::get_u16` meets its contract. Assumes nothing.
use native.Mathlib.Omega.{arith}
use Rattle.octets.proofs.Read.{pair-short, pair-whole}
use Rattle.octets.proofs.get_u16.Goals as goal

pub returns-then-saturating_sub-lt2 : goal.returns-then-saturating_sub-lt2
returns-then-saturating_sub-lt2 c = pair-short _ _ (omega arith)

pub returns : goal.returns
returns c = pair-whole _ _ (omega arith) c.u16_at.ensures.0
