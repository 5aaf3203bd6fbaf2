-- `answers::packets::taken_apart` meets its contract: the bytes, what is read there, and both in words. Assumes nothing.
use Rattle.answers.proofs.Lines.{apart}
use Rattle.answers.proofs.packets.taken_apart.Goals as goal

pub returns : goal.returns
returns c = apart _ _ _ _ _ _ _ _ _ _ _ c.kept-s.ensures c.start.ensures c.shown-a.ensures c.read-d.ensures c.told-b.ensures c.text.ensures
