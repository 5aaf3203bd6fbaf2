-- What the private functions answer, and the ranges as a packet has them: from the highest down. Assumes nothing.
use Rattle.std.specs.Prelude.{ℕ, zero, suc, ◌+◌, ◌-◌, ◌≤◌, ◌≡◌, Bool, true, false, ◌&&◌, List, [], ◌∷◌, ◌++◌, length, set, ltb, leb, Result, Ok, Err, Option, Some, None}
use Rattle.words.specs.Sizes.{LIMIT}
use Rattle.words.specs.Choice.{pick}
use Rattle.words.specs.Lists.{splice, reached}
use Rattle.words.specs.Refusal.{number_of}
use Rattle.words.specs.declared.Refusal.{Refusal}
use Rattle.octets.specs.Reader.{Res, ok, fault, Reader, ◌>>=◌, give}
use Rattle.octets.specs.Writer.{put_of, left}
use Rattle.octets.specs.Varint.{var, var_len, var_bytes}
use Rattle.packet_ack.specs.Ack.{Range, sized, lower, ack, judged, tabled, told, read_of}
use Rattle.packet_ack.specs.Write.{sayable, size_less_one, record_at, type_byte_of, lowers_bytes, listed, ack_bytes, put_ack}
use Rattle.packet_ack.specs.declared.Highest.{Highest}
use Rattle.packet_ack.specs.declared.Ack as code
use Rattle.packet_ack.specs.declared.Judgement.{Judgement}
use Rattle.packet_ack.specs.declared.Spot.{Spot}
use Rattle.packet_ack.specs.declared.Found.{Found}
use Rattle.packet_ack.specs.declared.Pen.{Pen}
use Rattle.packet_ack.specs.declared.Front.{Front}

abbrev pub range : ℕ → ℕ → Range
range start end = record { start = start; end = end }

-- ---- reading

abbrev pub lower_of : Result Spot Refusal → Res Range
lower_of (Ok spot) = ok spot.range spot.next
lower_of (Err e) = fault (number_of e)

-- the highest range, and how many are lower
pub record Top : Type 0 where
  pub top : Range
  pub lower : ℕ

unfoldable pub highest : Reader Top
highest = do
  last ← var
  size ← var
  k ← var
  r ← sized last size
  give (record { top = r; lower = k })

abbrev pub highest_of : Result Highest Refusal → Res Top
highest_of (Ok h) = ok (record { top = h.top.range; lower = h.lower }) h.top.next
highest_of (Err e) = fault (number_of e)

-- where the lower ranges end
abbrev pub ended : Res (List Range) → Res (Unit {0})
ended (ok rs next) = ok tt next
ended (fault e) = fault e

abbrev pub walk_of : Result ℕ Refusal → Res (Unit {0})
walk_of (Ok next) = ok tt next
walk_of (Err e) = fault (number_of e)

-- the range below one that is read, and the place after it
abbrev pub spot_of : Spot → Res Range → Spot
spot_of c (ok r next) = record { range = r; next = next }
spot_of c (fault e) = c

abbrev pub lower_spot_of : List ℕ → Spot → Spot
lower_spot_of s c = spot_of c (lower c.range.start s c.next)

-- the table with k ranges, from the one at c down, stored at falling records
unfoldable pub filled_from : ℕ → List ℕ → Spot → List Range → List Range
filled_from zero s c t = t
filled_from (suc k) s c t = filled_from k s (lower_spot_of s c) (set t k c.range)

-- of what is found: the answer, how many records are to be filled, and the table t once they are; none where a packet is refused
abbrev pub answer_of : Result Found Refusal → Result (code.Ack × ℕ) Refusal
answer_of (Ok f) = Ok (f.ack, f.next)
answer_of (Err e) = Err e

abbrev pub count_of : Result Found Refusal → ℕ
count_of (Ok f) = f.ack.count
count_of (Err e) = 0

abbrev pub table_of : Result Found Refusal → List ℕ → List Range → List Range
table_of (Ok f) s t = filled_from f.ack.count s f.top t
table_of (Err e) s t = t

-- what is found for a table of so many records: the answer; and filling it from there makes the table that the definition says, of any table
pub record FindGives (s : List ℕ) (at room : ℕ) (f : Result Found Refusal) : Type 0 where
  pub answer : read_of (answer_of f) ≡ told (judged (ack s at) room)
  pub within : count_of f ≤ room
  pub fills : (t : List Range) → table_of f s t ≡ tabled (judged (ack s at) room) t

-- ---- writing

-- the ranges of the first k records, the highest first
unfoldable pub below : List Range → ℕ → List Range
below t zero = []
below t (suc k) = record_at t k ∷ below t k

-- no range is empty or backward, and each ends below the start of the one above it
unfoldable pub falling_below : ℕ → List Range → Bool
falling_below above [] = true
falling_below above (r ∷ rs) = pick (ltb r.end above) (pick (ltb r.start r.end) (falling_below r.start rs) false) false

-- the same of a list with a highest range
unfoldable pub falling : List Range → Bool
falling [] = false
falling (r ∷ rs) = pick (ltb r.start r.end) (falling_below r.start rs) false

-- type byte, v seq
unfoldable pub start_bytes : ℕ → List ℕ
start_bytes seq = type_byte_of ∷ var_bytes seq

-- v last value of the highest range, or v gap above a lower one; v its size less one
unfoldable pub range_bytes : ℕ → Range → List ℕ
range_bytes before r = var_bytes before ++ var_bytes (size_less_one r)

abbrev pub range_len_of : ℕ → Range → ℕ
range_len_of before r = var_len before + var_len (size_less_one r)

-- all of a packet but its lower ranges, of which there are n
unfoldable pub front_bytes : ℕ → Range → ℕ → List ℕ
front_bytes seq r n = start_bytes seq ++ (range_bytes (r.end - 1) r ++ var_bytes n)

abbrev pub front_len : ℕ → Range → ℕ → ℕ
front_len seq r n = 1 + var_len seq + range_len_of (r.end - 1) r + var_len n

-- the gap between a lower range and the one above it, and what is so once it is written
abbrev pub gap_below : Pen → Range → ℕ
gap_below p r = p.above - r.end - 1

abbrev pub pen_below : Pen → Range → Pen
pen_below p r = record { at = p.at + range_len_of (gap_below p r) r; above = r.start }

-- the ranges of the first n records of t can be written by a pen to m bytes
pub record Writable (t : List Range) (n : ℕ) (p : Pen) (m : ℕ) : Type 0 where
  pub named : n ≤ length t
  pub falls : falling_below p.above (below t n) ≡ true
  pub limit : p.above ≤ LIMIT
  pub room : p.at + length (lowers_bytes p.above (below t n)) ≤ m

-- ---- judging what is to be written

-- nothing is judged, and there is some room
abbrev pub unjudged_in : ℕ → Judgement
unjudged_in room = record { sayable = true; rising = false; top = None; start = 0; spare = room }

-- what is known once the highest range is judged
unfoldable pub begun : ℕ → Range → Judgement
begun room r =
    record {
      sayable = sayable r;
      rising = ltb r.start r.end;
      top = Some r;
      start = r.start;
      spare = room - range_len_of (r.end - 1) r;
    }

-- and once one more is judged, below those
unfoldable pub stepped : Judgement → Range → Judgement
stepped j r =
    record {
      sayable = j.sayable && sayable r;
      rising = j.rising && ltb r.end j.start && ltb r.start r.end;
      top = j.top;
      start = r.start;
      spare = j.spare - range_len_of (j.start - r.end - 1) r;
    }

-- by the highest one so far, if any
abbrev pub judged_by : Option Range → Judgement → Range → Judgement
judged_by None j r = begun j.spare r
judged_by (Some top) j r = stepped j r

abbrev pub judged_next : Judgement → Range → Judgement
judged_next j r = judged_by j.top j r

-- how many ranges are judged: none, where the table doesn't hold so many
abbrev pub to_judge : ℕ → ℕ → ℕ
to_judge count held = pick (leb count held) count 0

-- what is known of the ranges of a packet that stand in the table t
unfoldable pub judged_in : List Range → ℕ → ℕ → Judgement
judged_in t count room = reached judged_next (unjudged_in room) (below t (to_judge count (length t)))

-- j is that of some table of so many records
pub record JudgedOf (j : Judgement) (count held room : ℕ) : Type 0 where
  pub table : List Range
  pub holds : length table ≡ held
  pub judged : j ≡ judged_in table count room

-- ---- all but the lower ranges, written

-- of what is written: the place after the packet; whether the rest can be written to m bytes; and the bytes once it is. A refusal leaves no rest
abbrev pub end_of : Result Front Refusal → Result ℕ Refusal
end_of (Ok f) = Ok f.next
end_of (Err e) = Err e

abbrev pub RestWritable : Result Front Refusal → List Range → ℕ → Type 0
RestWritable (Ok f) t m = Writable t f.left f.pen m
RestWritable (Err e) t m = Unit {0}

abbrev pub rest_wrote : Result Front Refusal → List Range → List ℕ → List ℕ
rest_wrote (Ok f) t out = splice f.pen.at (lowers_bytes f.pen.above (below t f.left)) out
rest_wrote (Err e) t out = out

-- for any table that was judged so: the answer; the lower ranges can be written; and writing them makes the bytes that the definition says
pub record FrontOf (seq count at : ℕ) (t : List Range) (out out' : List ℕ) (f : Result Front Refusal) : Type 0 where
  pub answer : put_of (end_of f) ≡ put_ack seq t count at (length out)
  pub writable : RestWritable f t (length out)
  pub wrote : rest_wrote f t out' ≡ left (put_of (end_of f)) at (ack_bytes seq (listed t 0 count)) out

abbrev pub FrontGives : ℕ → ℕ → ℕ → ℕ → Judgement → List ℕ → List ℕ → Result Front Refusal → Type 0
FrontGives seq count held at j out out' f = (t : List Range) → length t ≡ held → j ≡ judged_in t count (length out - at) → FrontOf seq count at t out out' f
