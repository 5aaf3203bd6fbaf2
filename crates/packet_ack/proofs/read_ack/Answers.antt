-- `packet_ack::read_ack` meets its contract: what is found fills the table. Assumes nothing.
use mathlib.Core.Path.{◌∙◌}
use Rattle.std.proofs.lemmas.Result.{err_from_is_err_and}
use Rattle.packet_ack.proofs.read_ack.Goals as goal

pub returns-in_err-found : goal.returns-in_err-found
returns-in_err-found c =
    let p = err_from_is_err_and c.from_residual.result c.from_residual.ensures.1 in
    let g = c.in_err-found.ensures in
    rw (p.1, p.2) (g.answer, g.fills _)

pub fill_ranges-requires : goal.fill_ranges-requires
fill_ranges-requires c = let g = c.in_ok-found.ensures in g.within

pub returns : goal.returns
returns c = let g = c.in_ok-found.ensures in (g.answer, c.fill_ranges.ensures ∙ g.fills _)
