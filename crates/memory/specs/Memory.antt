-- Parts of a buffer. Assumes nothing.
use Rattle.std.specs.Prelude.{ℕ, ◌+◌, ◌≤◌, min, ◌≡◌}
use Rattle.memory.specs.declared.Span.{Span}

-- the part of n from a place on, as far as a buffer of some length has it
pub record SpanGives (from n len : ℕ) (r : Span) : Type 0 where
  pub starts : r.start ≡ min from len
  pub ends : r.end ≡ min (from + n) len
  pub ordered : r.start ≤ r.end
  pub inside : r.end ≤ len
