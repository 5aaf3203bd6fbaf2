-- Gathering acks. Document 02, [12]: received packet sequences are collected into ranges. Ranges are half-open, rising, with at least one number
-- missing between two. A sequence extends a range above or below, joins two, opens one, or is named already and changes nothing. Up to 64 ranges are
-- kept; a 65th drops the lowest whole range, which may be the newcomer. A sequence at or above 2^62 gets 13.
--
-- What a reader would check these definitions by: after adding x exactly x is named besides (`only-added`, `still-named`, proofs/Ranges.antt), and ranges that rise
-- and name the same are the same ranges (`canonical`, proofs/Canonical.antt). Assumes nothing.
use Rattle.std.specs.Prelude.{ℕ, zero, suc, ◌+◌, ◌-◌, ◌≤◌, ◌<◌, ◌≡◌, Bool, true, false, List, [], ◌∷◌, length, take, drop, ltb, leb, eqb, Result, Ok, Err}
use Rattle.words.specs.Sizes.{LIMIT}
use Rattle.words.specs.Choice.{pick}
use Rattle.words.specs.Refusal.{number_of}
use Rattle.words.specs.declared.Refusal.{Refusal}
use Rattle.words.specs.declared.After.{After}
use Rattle.packet_ack.specs.Ack.{RANGES}
use Rattle.packet_ack.specs.declared.Range.{Range}
use Rattle.packet_ack.specs.Write.{ack_bytes, put_ack}
use Rattle.octets.specs.Writer.{put_of, left}
use Rattle.pending_acks.specs.declared.PendingAcks.{PendingAcks}

-- ---- ranges

-- the numbers from `start` up to, and without, `end`
abbrev pub range : ℕ → ℕ → Range
range start end = record { start = start; end = end }

-- whether a range holds a number
abbrev pub holds : Range → ℕ → Bool
holds r x = pick (leb r.start x) (ltb x r.end) false

-- looking at every range: whether one of them holds it
unfoldable pub named : List Range → ℕ → Bool
named [] x = false
named (r ∷ rs) x = pick (holds r x) true (named rs x)

-- ranges that start at or above m, none empty, with at least one number missing between two, within 2^62
unfoldable pub Rising : ℕ → List Range → Type 0
Rising m [] = Unit
Rising m (r ∷ rs) = (m ≤ r.start) × (r.start < r.end) × (r.end ≤ LIMIT) × Rising (r.end + 1) rs

-- ---- one sequence more

-- a range that was extended above is one with the next where they touch
unfoldable pub joined : Range → List Range → List Range
joined r [] = r ∷ []
joined r (q ∷ qs) = pick (eqb r.end q.start) (range r.start q.end ∷ qs) (r ∷ q ∷ qs)

-- rising ranges with x among them, from the lowest up: x lies below the range and apart from it, just below it, in it, just above it, or further up
unfoldable pub inserted : ℕ → List Range → List Range
inserted x [] = range x (x + 1) ∷ []
inserted x (r ∷ rs) =
    pick (ltb (x + 1) r.start) (range x (x + 1) ∷ r ∷ rs)
    (pick (eqb (x + 1) r.start) (range x r.end ∷ rs)
    (pick (ltb x r.end) (r ∷ rs)
    (pick (eqb x r.end) (joined (range r.start (x + 1)) rs)
    (r ∷ inserted x rs))))

-- the highest 64 ranges: a 65th drops the lowest
abbrev pub kept : List Range → List Range
kept rs = drop (length rs - RANGES) rs

-- ---- the gatherer

-- a table of m records: these, and blanks behind them
unfoldable pub filled : ℕ → List Range → List Range
filled zero l = []
filled (suc m) [] = range 0 0 ∷ filled m []
filled (suc m) (x ∷ l) = x ∷ filled m l

-- the gatherer of some ranges: they stand in its table; and whether any was ever dropped
unfoldable pub gatherer : List Range → Bool → PendingAcks
gatherer rs dropped = record { count = length rs; dropped = dropped; ranges = filled RANGES rs }

-- the ranges of a gatherer
abbrev pub ranges_of : PendingAcks → List Range
ranges_of g = take g.count g.ranges

-- what is always true of a gatherer: up to 64 ranges, rising, and nothing else in it
pub record Valid (g : PendingAcks) : Type 0 where
  pub few : g.count ≤ RANGES
  pub rises : Rising 0 (ranges_of g)
  pub whole : g ≡ gatherer (ranges_of g) g.dropped

-- ---- adding

-- the gatherer of `rs` as they are kept
unfoldable pub gathered : List Range → Bool → PendingAcks
gathered rs dropped = gatherer (kept rs) (pick (ltb RANGES (length rs)) true dropped)

-- 13 for a sequence at or above 2^62; 0 for none
abbrev pub sequence_refusal : ℕ → ℕ
sequence_refusal x = pick (leb LIMIT x) 13 0

-- the gatherer after a call: a refusal changes nothing
unfoldable pub added : PendingAcks → ℕ → PendingAcks
added g x = pick (leb LIMIT x) g (gathered (inserted x (ranges_of g)) g.dropped)

-- the refusal's number, 0 for none
abbrev pub add_number : Result (Unit {0}) Refusal → ℕ
add_number (Ok done) = 0
add_number (Err e) = number_of e

-- what a call answers, and the gatherer after it
abbrev pub Added : Type 0
Added = After (Result (Unit {0}) Refusal) PendingAcks

pub record AddGives (g : PendingAcks) (x : ℕ) (r : Added) : Type 0 where
  pub answer : add_number r.answer ≡ sequence_refusal x
  pub state : r.state ≡ added g x
  pub valid : Valid r.state

-- ---- asking

-- yes, no, or the number of the refusal
pub data Reply : Type 0 where
  yes : Reply
  no : Reply
  refused : ℕ → Reply

abbrev pub reply_of : Result Bool Refusal → Reply
reply_of (Ok true) = yes
reply_of (Ok false) = no
reply_of (Err e) = refused (number_of e)

unfoldable pub reply : List Range → ℕ → Reply
reply rs x = pick (leb LIMIT x) (refused 13) (pick (named rs x) yes no)

-- ---- the packet, at a place of the lent bytes: what document 01's writer says of these ranges (13, 5, 1)

pub record PacketGives (g : PendingAcks) (seq at : ℕ) (out out' : List ℕ) (r : Result ℕ Refusal) : Type 0 where
  pub answer : put_of r ≡ put_ack seq (ranges_of g) g.count at (length out)
  pub bytes : out' ≡ left (put_of r) at (ack_bytes seq (ranges_of g)) out
