-- `part` meets its contract: the range is as long as the part. Assumes nothing.
use Rattle.words.proofs.Tables.{part-size}
use Rattle.channel.proofs.part.Goals as goal

pub returns : goal.returns
returns c = rw (part-size c.args.place c.args.len)
