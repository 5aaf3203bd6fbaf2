-- `SliceConstructor::take` meets its contract: a repeat, the last piece, or another. Assumes nothing.
use native.Mathlib.Omega.{arith}
use borrow.Author.Tests.{eq-eqb, ne_eqb}
use lib.ListN.{length}
use Rattle.words.proofs.Lists.{holds-le}
use Rattle.slice_constructor.specs.Collect.{taken, lane_taken}
use Rattle.slice_constructor.specs.Fields.{state_of}
use Rattle.slice_constructor.proofs.Valid.{Good, good, piece-room, more-valid}
use Rattle.slice_constructor.proofs.SliceConstructor.take.Goals as goal
use Rattle.slice_constructor.proofs.SliceConstructor.take.Goals.{After-self}

-- the piece is a good one
fine : (c : After-self) → (let a = c.args in Good (state_of c.self.inside) a.i (length a.bytes.now) (length a.lane.now))
fine c = good _ _ _ _ (rw (← c.self.view_is) at c.requires)

pub bounds-self-inside-i : goal.bounds-self-inside-i
bounds-self-inside-i c = let v = c.self.invariant in omega (arith, (fine c).low, v.num-most)

pub returns-then-self-i : goal.returns-then-self-i
unfolding taken lane_taken
returns-then-self-i c = rw (← c.self.view_is) (simp c.if-self-i.true, simp c.if-self-i.true)

pub overflow_mul-i : goal.overflow_mul-i
overflow_mul-i c = let v = c.self.invariant in omega (arith, (fine (goal.at.overflow_mul-i c).After-self).low, v.num-most)

pub write_bytes-requires : goal.write_bytes-requires
write_bytes-requires c = piece-room _ _ _ _ (fine (goal.at.write_bytes-requires c).After-self)

pub bounds-self-inside-i-2 : goal.bounds-self-inside-i-2
bounds-self-inside-i-2 c = let v = c.self.invariant in omega (arith, (fine (goal.at.bounds-self-inside-i-2 c).After-self).low, v.num-most)

pub overflow_add-self : goal.overflow_add-self
overflow_add-self c = let v = c.self.invariant in omega (arith, holds-le c.self.inside.received, v.counted, v.received-long)

pub invariant_of-self : goal.invariant_of-self
invariant_of-self c =
    let g = fine (goal.at.invariant_of-self c).After-self in
    rw (eq-eqb _ _ c.if-i-self.true) at (more-valid _ c.self.invariant _ _ _ g c.if-self-i.false)

pub invariant_of-self-else-i-self : goal.invariant_of-self-else-i-self
invariant_of-self-else-i-self c =
    let g = fine (goal.at.invariant_of-self-else-i-self c).After-self in
    rw (ne_eqb _ _ c.if-i-self.false) at (more-valid _ c.self.invariant _ _ _ g c.if-self-i.false)

pub returns-then-i-self : goal.returns-then-i-self
unfolding taken lane_taken
returns-then-i-self c =
    rw (← c.self.view_is) (
      simp (c.if-self-i.false, eq-eqb _ _ c.if-i-self.true),
      simp c.if-self-i.false c.write_bytes.ensures.1,
    )

pub returns-else-i-self : goal.returns-else-i-self
unfolding taken lane_taken
returns-else-i-self c =
    rw (← c.self.view_is) (
      simp (c.if-self-i.false, ne_eqb _ _ c.if-i-self.false),
      simp c.if-self-i.false c.write_bytes.ensures.1,
    )
