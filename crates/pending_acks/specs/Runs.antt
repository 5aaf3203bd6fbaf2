-- Calls one after the other, from a new gatherer on: what was added, and what was dropped. Assumes nothing.
use Rattle.std.specs.Prelude.{ℕ, ◌<◌, ◌≡◌, Bool, false, length, ltb, leb}
use mathlib.Core.List.{List, [], ◌∷◌, Memᴰ}
use Rattle.words.specs.Sizes.{LIMIT}
use Rattle.words.specs.Choice.{pick}
use Rattle.words.specs.Lists.{reached}
use Rattle.packet_ack.specs.Ack.{RANGES}
use Rattle.packet_ack.specs.declared.Range.{Range}
use Rattle.pending_acks.specs.declared.PendingAcks.{PendingAcks}
use Rattle.pending_acks.specs.Gather.{named, gatherer, ranges_of, inserted, added}

-- the gatherer after calls with these sequences, as each call's promise has it
abbrev pub after : List ℕ → PendingAcks
after xs = reached added (gatherer [] false) xs

-- two gatherers name the same set
abbrev pub SameSet : PendingAcks → PendingAcks → Type 0
SameSet g h = (y : ℕ) → named (ranges_of g) y ≡ named (ranges_of h) y

-- a sequence was added: there was a call with it, and it was not refused
pub record WasAdded (y : ℕ) (xs : List ℕ) : Type 0 where
  pub called : Memᴰ y xs
  pub below : y < LIMIT

-- whether adding x drops a range: there would be a 65th
abbrev pub drops : PendingAcks → ℕ → Bool
drops g x = pick (leb LIMIT x) false (ltb RANGES (length (inserted x (ranges_of g))))

-- where the lowest range ends
abbrev pub lowest_end : List Range → ℕ
lowest_end [] = 0
lowest_end (r ∷ rs) = r.end

abbrev larger : ℕ → ℕ → ℕ
larger a b = pick (leb a b) b a

-- one past the highest sequence that was dropped, where it was m before a call
abbrev pub raised : PendingAcks → ℕ → ℕ → ℕ
raised g m x = pick (drops g x) (larger m (lowest_end (inserted x (ranges_of g)))) m

-- the same after calls, and from a new gatherer on: 0 where nothing was dropped
unfoldable pub mark_from : PendingAcks → ℕ → List ℕ → ℕ
mark_from g m [] = m
mark_from g m (x ∷ xs) = mark_from (added g x) (raised g m x) xs

abbrev pub mark : List ℕ → ℕ
mark xs = mark_from (gatherer [] false) 0 xs
