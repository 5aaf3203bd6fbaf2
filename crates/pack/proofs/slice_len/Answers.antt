-- `pack::slice_len` meets its contract. Assumes nothing.
use borrow.Author.Tests.{eq-eqb, ne_eqb}
use mathlib.Core.Path.{sym, ◌∙◌}
use Rattle.pack.proofs.slice_len.Goals as goal

pub returns-then-i-num_slices : goal.returns-then-i-num_slices
returns-then-i-num_slices c = simp (eq-eqb _ _ (c.if-i-num_slices.true ∙ c.num_slices.ensures))

pub returns : goal.returns
returns c = simp (ne_eqb _ _ (λ e. c.if-i-num_slices.false (e ∙ sym c.num_slices.ensures)))
