-- One reassembly. Document 01, part 3, "Sizes and settings" and "Ordered receiver". Assumes nothing.
use Rattle.std.specs.Prelude.{ℕ, ◌+◌, ◌-◌, ◌*◌, ◌≤◌, ◌<◌, ◌≡◌, Bool, true, false, not, List, [], ◌∷◌, length, get_or, set, drop, replicate, ltb, leb, eqb, Result, Ok, Err, Option, Some, None}
use Rattle.words.specs.Sizes.{SLICE_SIZE, PIECES, LIMIT}
use Rattle.words.specs.Choice.{pick, refusal}
use Rattle.words.specs.Lists.{splice, holds}
use Rattle.words.specs.Refusal.{number_of}
use Rattle.words.specs.declared.Refusal.{Refusal}
use Rattle.words.specs.declared.After.{After}
use Rattle.slice_constructor.specs.declared.SliceConstructor.{SliceConstructor}
use Rattle.slice_constructor.specs.declared.Kept.{Kept}

-- ---- what is always true of a reassembly

pub record Valid (c : SliceConstructor) : Type 0 where
  pub id_below : c.message_id.0 < LIMIT
  pub num-most : c.num_slices ≤ PIECES
  pub received-long : length c.received ≡ PIECES
  pub counted : c.num_received_slices ≡ holds c.received
  pub none-past : holds (drop c.num_slices c.received) ≡ 0
  pub last-most : c.last_len ≤ SLICE_SIZE

-- ---- a new one: 13 for its id, 8 for no pieces, 12 for too many

unfoldable pub blank_of : ℕ → ℕ → SliceConstructor
blank_of id n =
    record {
      message_id = record { 0 = id };
      num_slices = n;
      num_received_slices = 0;
      last_len = 0;
      received = replicate PIECES false;
    }

unfoldable pub begin_refusal : ℕ → ℕ → ℕ
begin_refusal id n = refusal ((leb LIMIT id, 13) ∷ (eqb n 0, 8) ∷ (ltb PIECES n, 12) ∷ [])

-- the refusal's number, 0 for none
abbrev pub begin_number : Result (Unit {0}) Refusal → ℕ
begin_number (Ok done) = 0
begin_number (Err e) = number_of e

-- the answer to a beginning, and the state
abbrev pub Begun : Type 0
Begun = After (Result (Unit {0}) Refusal) SliceConstructor

-- a refused one is blank
pub record BeginGives (id n : ℕ) (r : Begun) : Type 0 where
  pub number : begin_number r.answer ≡ begin_refusal id n
  pub state : r.state ≡ pick (eqb (begin_refusal id n) 0) (blank_of id n) (blank_of 0 0)
  pub valid : Valid r.state

-- ---- a piece of n bytes for index i, with a lane of m bytes lent

-- a piece must be 1,200 bytes, the last at most 1,200
abbrev pub sized : SliceConstructor → ℕ → ℕ → Bool
sized c i n = pick (eqb (i + 1) c.num_slices) (leb n SLICE_SIZE) (eqb n SLICE_SIZE)

-- 10 for a lane too short; 8 for an index not below num_slices or a wrong piece size
unfoldable pub collect_refusal : SliceConstructor → ℕ → ℕ → ℕ → ℕ
collect_refusal c i n m =
    refusal (
    (ltb m (c.num_slices * SLICE_SIZE), 10) ∷
    (leb c.num_slices i, 8) ∷
    (not (sized c i n), 8) ∷ []
    )

-- the last piece's length, once it is here
abbrev pub last_len_of : SliceConstructor → ℕ → ℕ → ℕ
last_len_of c i n = pick (eqb (i + 1) c.num_slices) n c.last_len

-- one piece more
abbrev pub more : SliceConstructor → ℕ → ℕ → SliceConstructor
more c i n =
    record {
      message_id = c.message_id;
      num_slices = c.num_slices;
      num_received_slices = c.num_received_slices + 1;
      last_len = last_len_of c i n;
      received = set c.received i true;
    }

-- a repeat has no effect
unfoldable pub taken : SliceConstructor → ℕ → ℕ → SliceConstructor
taken c i n = pick (get_or c.received i false) c (more c i n)

-- piece i goes to i × 1,200; a repeat changes no byte
unfoldable pub lane_taken : SliceConstructor → ℕ → List ℕ → List ℕ → List ℕ
lane_taken c i bs lane = pick (get_or c.received i false) lane (splice (i * SLICE_SIZE) bs lane)

-- the length of the whole message: all pieces but the last are 1,200
abbrev pub whole_len : SliceConstructor → ℕ
whole_len c = (c.num_slices - 1) * SLICE_SIZE + c.last_len

-- ---- what a lane keeps: whole and as long as it is, or open and charged

abbrev pub is_whole : SliceConstructor → Bool
is_whole c = eqb c.num_received_slices c.num_slices

-- 1,200 × num_slices; when complete the charge becomes the exact length
abbrev pub lane_charge : SliceConstructor → ℕ
lane_charge c = pick (is_whole c) (whole_len c) (SLICE_SIZE * c.num_slices)

abbrev pub kept : SliceConstructor → SliceConstructor
kept c = pick (is_whole c) (blank_of 0 0) c

abbrev pub kept_of : SliceConstructor → Kept
kept_of c = record { whole = is_whole c; len = lane_charge c; constructor = kept c }

-- the one that a piece goes to: for a fresh message one of its own
abbrev pub start_of : SliceConstructor → Bool → ℕ → ℕ → SliceConstructor
start_of c fresh id n = pick fresh (blank_of id n) c

-- ---- the answer

-- more pieces are to come; the message is whole, and so long; or the number of the refusal
pub data Collection : Type 0 where
  missing : Collection
  whole : ℕ → Collection
  refused : ℕ → Collection

abbrev pub collect_of : Result (Option ℕ) Refusal → Collection
collect_of (Ok None) = missing
collect_of (Ok (Some n)) = whole n
collect_of (Err e) = refused (number_of e)

-- the answer to a piece, and the state
abbrev pub Collected : Type 0
Collected = After (Result (Option ℕ) Refusal) SliceConstructor

-- whole when as many pieces are here as the message has
unfoldable pub answer_of : SliceConstructor → Collection
answer_of c = pick (is_whole c) (whole (whole_len c)) missing

-- what a piece gives, all of it: a refusal changes no state and no byte
pub record CollectGives (c : SliceConstructor) (i : ℕ) (bs lane lane' : List ℕ) (r : Collected) : Type 0 where
  pub answer : collect_of r.answer ≡ pick (eqb (collect_refusal c i (length bs) (length lane)) 0) (answer_of (taken c i (length bs))) (refused (collect_refusal c i (length bs) (length lane)))
  pub state : r.state ≡ pick (eqb (collect_refusal c i (length bs) (length lane)) 0) (taken c i (length bs)) c
  pub bytes : lane' ≡ pick (eqb (collect_refusal c i (length bs) (length lane)) 0) (lane_taken c i bs lane) lane
  pub valid : Valid r.state
