-- Packets of small messages, written. Document 01, "Packet layouts" and the order of refusals in encoding. Assumes nothing.
use Rattle.std.specs.Prelude.{ℕ, zero, suc, ◌+◌, ◌*◌, Bool, true, false, not, List, [], ◌∷◌, ◌++◌, map, length, get_or, take, drop, ltb, leb}
use Rattle.words.specs.Sizes.{LIMIT, MAX_MESSAGES}
use Rattle.words.specs.Choice.{pick, refusal}
use Rattle.words.specs.Lists.{all}
use Rattle.octets.specs.Varint.{var_bytes, pair_bytes, run_bytes}
use Rattle.octets.specs.Writer.{Outcome, outcome}
use Rattle.packet_small.specs.Small.{Message, RECORD}

-- ---- bytes

-- what a message says: its id (0 where its kind has none) and its bytes
pub record Said : Type 0 where
  pub id : ℕ
  pub bytes : List ℕ

abbrev pub type_byte_of : Bool → ℕ
type_byte_of true = 0
type_byte_of false = 1

abbrev pub id_bytes : Bool → ℕ → List ℕ
id_bytes true id = var_bytes id
id_bytes false id = []

-- v id, v length, bytes
unfoldable pub message_bytes : Bool → Said → List ℕ
message_bytes ids m = id_bytes ids m.id ++ run_bytes m.bytes

unfoldable pub messages_bytes : Bool → List Said → List ℕ
messages_bytes ids [] = []
messages_bytes ids (m ∷ ms) = message_bytes ids m ++ messages_bytes ids ms

-- type byte, v seq, channel byte, two-byte count
unfoldable pub head_bytes : Bool → ℕ → ℕ → ℕ → List ℕ
head_bytes ids seq channel n = type_byte_of ids ∷ (var_bytes seq ++ (channel ∷ pair_bytes n))

unfoldable pub small_bytes_of : Bool → ℕ → ℕ → List Said → List ℕ
small_bytes_of ids seq channel ms = head_bytes ids seq channel (length ms) ++ messages_bytes ids ms

-- ---- the messages that a table names as parts of a store: three words for each, id, place, length

abbrev pub record_at : List ℕ → ℕ → Message
record_at t i = record { id = get_or t (RECORD * i) 0; place = get_or t (RECORD * i + 1) 0; len = get_or t (RECORD * i + 2) 0 }

-- k of them, from the i-th on
unfoldable pub listed : List ℕ → ℕ → ℕ → List Message
listed t i zero = []
listed t i (suc k) = record_at t i ∷ listed t (i + 1) k

-- what it says, with its bytes taken from the store; a kind without ids says none
abbrev pub id_said : Bool → ℕ → ℕ
id_said true id = id
id_said false id = 0

abbrev pub said_of : Bool → List ℕ → Message → Said
said_of ids src m = record { id = id_said ids m.id; bytes = take m.len (drop m.place src) }

-- ---- the refusals, in their order: 10, 13, 12, 1

-- its bytes are within a store of m bytes
abbrev pub stored : ℕ → Message → Bool
stored m e = leb (e.place + e.len) m

-- its numbers can be said by varints
abbrev pub sayable : Bool → Message → Bool
sayable ids e = pick (ltb (id_said ids e.id) LIMIT) (ltb e.len LIMIT) false

-- the packet of n messages that the table t names of the store src, at place `at` of m bytes
abbrev pub small_of : Bool → ℕ → ℕ → List ℕ → ℕ → List ℕ → List ℕ
small_of ids seq channel t n src = small_bytes_of ids seq channel (map (said_of ids src) (listed t 0 n))

unfoldable pub small_refusal : Bool → ℕ → ℕ → List ℕ → ℕ → List ℕ → ℕ → ℕ → ℕ
small_refusal ids seq channel t n src at m =
    refusal (
    (ltb (length t) (RECORD * n), 10) ∷
    (not (all (stored (length src)) (listed t 0 n)), 10) ∷
    (leb LIMIT seq, 13) ∷
    (not (all (sayable ids) (listed t 0 n)), 13) ∷
    (ltb MAX_MESSAGES n, 12) ∷
    (ltb m (at + length (small_of ids seq channel t n src)), 1) ∷ []
    )

unfoldable pub put_small_of : Bool → ℕ → ℕ → List ℕ → ℕ → List ℕ → ℕ → ℕ → Outcome
put_small_of ids seq channel t n src at m =
    outcome (small_refusal ids seq channel t n src at m) (at + length (small_of ids seq channel t n src))
