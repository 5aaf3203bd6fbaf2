-- `words::write_bytes` meets its contract: a part that is written over is a splice. Assumes nothing.
use Rattle.std.proofs.Common.{arith, refl}
use Rattle.words.proofs.Splice.{put_mid-splice, splice-nothing}
use Rattle.words.proofs.write_bytes.Goals as goal

pub returns-then-n-eq0 : goal.returns-then-n-eq0
returns-then-n-eq0 c = (omega arith, splice-nothing _ _ _ (omega arith))

pub returns : goal.returns
returns c = (refl, put_mid-splice _ _ _ _ _ c.copy_from_slice.ensures.after (omega arith) c.requires)
