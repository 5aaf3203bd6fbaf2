-- `judge_new` meets its contract: each refusal by the tests that led to it. Assumes nothing.
use borrow.Author.Tests.{le-leb, lt-leb, eq-eqb, ne_eqb, lt-ltb, le-ltb}
use Rattle.slice_constructor.specs.Collect.{begin_refusal}
use Rattle.slice_constructor.proofs.judge_new.Goals as goal

pub returns-then-id-ge-LIMIT : goal.returns-then-id-ge-LIMIT
unfolding begin_refusal
returns-then-id-ge-LIMIT c = simp (le-leb _ _ c.if-id-ge-LIMIT.true)

pub returns-then-num_slices-eq0 : goal.returns-then-num_slices-eq0
unfolding begin_refusal
returns-then-num_slices-eq0 c = simp (lt-leb _ _ c.if-id-ge-LIMIT.false, eq-eqb _ _ c.if-num_slices-eq0.true)

pub returns-then-num_slices : goal.returns-then-num_slices
unfolding begin_refusal
returns-then-num_slices c = simp (lt-leb _ _ c.if-id-ge-LIMIT.false, ne_eqb _ _ c.if-num_slices-eq0.false, lt-ltb _ _ c.if-num_slices.true)

pub returns : goal.returns
unfolding begin_refusal
returns c = simp (lt-leb _ _ c.if-id-ge-LIMIT.false, ne_eqb _ _ c.if-num_slices-eq0.false, le-ltb _ _ c.if-num_slices.false)
