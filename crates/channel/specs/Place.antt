-- The lane for a piece. Assumes nothing.
use Rattle.std.specs.Prelude.{ℕ, true, false, Option, Some, None}
use Rattle.channel.specs.declared.Opened.{Opened}
use Rattle.channel.specs.declared.SlicePlace.{SlicePlace}

-- its message's lane where that is open, else lane i, which is free
abbrev pub place_for : Option Opened → ℕ → SlicePlace
place_for (Some o) i = record { lane = o.lane; fresh = false }
place_for None i = record { lane = i; fresh = true }
