-- `SliceConstructor::empty` meets its contract: the fields are the definition's. Assumes nothing.
use mathlib.Core.Path.{refl}
use Rattle.slice_constructor.specs.Collect.{blank_of}
use Rattle.slice_constructor.proofs.Valid.{blank-valid}
use Rattle.slice_constructor.proofs.SliceConstructor.empty.Goals as goal

pub returns : goal.returns
unfolding blank_of
returns c = refl

pub invariant_of-result : goal.invariant_of-result
unfolding blank_of
invariant_of-result c = blank-valid c.args.message_id.0 c.args.num_slices c.requires.0 c.requires.1
