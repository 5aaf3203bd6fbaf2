-- What the parts of the reader and of the writer answer, and the sizes that they add up. No promise of a public function but those that
-- are for callers that have judged already cites these. Assumes nothing.
use Rattle.std.specs.Prelude.{ℕ, ◌+◌, Bool, true, false, List}
use Rattle.words.specs.Lists.{splice}
use Rattle.octets.specs.Reader.{Res, ok, fault}
use Rattle.octets.specs.Varint.{var_len}
use Rattle.octets.specs.Writer.{Outcome, done, refused}
use Rattle.packet_small.specs.Small.{Message, words}
use Rattle.packet_small.specs.Write.{Said, id_said}

-- ---- reading

-- how a walk over messages ends
abbrev pub walk_of : Res (List Message) → Outcome
walk_of (ok ms next) = done next
walk_of (fault e) = refused e

-- a table with messages written from word j on
abbrev pub filled : Res (List Message) → ℕ → List ℕ → List ℕ
filled (ok ms next) j t = splice j (words ms) t
filled (fault e) j t = t

-- ---- sizes

-- type byte, v seq, channel byte, two-byte count
abbrev pub head_len : ℕ → ℕ
head_len seq = var_len seq + 4

abbrev pub id_len_of : Bool → ℕ → ℕ
id_len_of true id = var_len id
id_len_of false id = 0

-- a message of n bytes
abbrev pub message_len : Bool → ℕ → ℕ → ℕ
message_len ids id n = id_len_of ids id + (var_len n + n)

unfoldable pub size : Bool → Message → ℕ
size ids e = message_len ids e.id e.len

-- ---- what is written, and the messages of a table

abbrev pub said : Bool → ℕ → List ℕ → Said
said ids id bs = record { id = id_said ids id; bytes = bs }

abbrev pub record_of : ℕ → ℕ → ℕ → Message
record_of id place len = record { id = id; place = place; len = len }
