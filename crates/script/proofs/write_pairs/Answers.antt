-- `script::write_pairs` meets its contract. The loop's invariant: what is left to set down, from here, gives what the whole gives. Assumes nothing.
use native.Mathlib.Omega.{arith}
use Rattle.script.specs.Bytes.{hex}
use Rattle.script.proofs.Words.{all_at}
use Rattle.script.proofs.Parts.{paired-start, paired-more, paired-end, length_pairs}
use Rattle.script.proofs.write_pairs.Goals as goal

pub loop-i-init : goal.loop-i-init
loop-i-init c = paired-start _ _ _

pub pair-requires : goal.pair-requires
pair-requires c = (all_at hex _ _ c.requires.1 (omega arith), all_at hex _ _ c.requires.1 (omega arith))

pub bounds-out-at : goal.bounds-out-at
bounds-out-at c = omega (arith, c.requires.2, length_pairs c.args.s.now)

pub loop-i-preserved : goal.loop-i-preserved
loop-i-preserved c = paired-more _ _ _ _ _ c.loop-i.invariant _ c.loop-i-test.true c.pair.ensures

pub returns : goal.returns
returns c = (omega (arith, length_pairs c.args.s.now), paired-end _ _ _ _ _ c.loop-i.invariant (omega (arith, c.requires.0)))
