-- What a call on the wire says, and what it leaves in lent memory. docs/SCRIPT.md, "Calls". Calls are numbered as `read` lists them. Assumes nothing.
use Rattle.std.specs.Prelude.{ℕ, ◌/◌, ◌%◌, ◌≤◌, ◌<◌, ◌≡◌, List, [], ◌∷◌, ◌++◌, length, get_or, take, drop, eqb, Result, Ok, Err}
use Rattle.words.specs.Choice.{pick}
use Rattle.words.specs.declared.Refusal.TheVariants.{BufferTooShort, BadNumber}
use Rattle.script.specs.Ascii.{ascii}
use Rattle.say.specs.Digest.{digest_of}
use Rattle.page.specs.Page.{Sheet, said, said_refusal, lined, spelt}
use Rattle.octets.specs.Reader.{Res, ok, fault, byte, pair}
use Rattle.octets.specs.Varint.{Part, var, run, var_length, put_var, put_bytes, put_run, pair_bytes, var_bytes, run_bytes}
use Rattle.octets.specs.Writer.{Outcome, done, refused, put_of, left}
use Rattle.words.specs.declared.Refusal.{Refusal}
use Rattle.packet_ack.specs.declared.Range.{Range}
use Rattle.packet_small.specs.declared.Small.{Small}
use Rattle.packet_slice.specs.declared.Slice.{Slice}
use Rattle.packet.specs.Steps.{lent_of}
use Rattle.packet.specs.Write.{encoded, bytes_of}
use Rattle.packet.specs.declared.Packet.{Packet}
use Rattle.packet.specs.declared.Packet.TheVariants.{SmallReliable, SmallUnreliable, ReliableSlice, UnreliableSlice, Ack}
use Rattle.range_words.specs.Words.{table_of}
use Rattle.answers.specs.Packets.{Reads, decoded_said, bytes_at, bytes_to_of}
use Rattle.session_wire.specs.declared.Lent.{Lent}

-- ---- digest

abbrev pub digest_said : List ℕ → List ℕ → List ℕ → Sheet → Sheet
digest_said ms rs out sh = lined (ascii "messages # ranges # out #") (digest_of ms ∷ digest_of rs ∷ digest_of out ∷ []) sh

-- ---- get-u8, get-u16, get-varint, get-bytes, varint-len: the one fault of each is said by name

abbrev pub value_said : Res ℕ → Sheet → Sheet
value_said (ok v next) sh = lined (ascii "value # next #") (v ∷ next ∷ []) sh
value_said (fault e) sh = said_refusal BufferTooShort sh

abbrev pub part_said : List ℕ → Res Part → Sheet → Sheet
part_said bs (ok p next) sh = spelt (bytes_at bs p.place p.len) (lined (ascii "at # length # ") (p.place ∷ p.len ∷ []) sh)
part_said bs (fault e) sh = said_refusal BufferTooShort sh

abbrev pub length_said : Outcome → Sheet → Sheet
length_said (done n) sh = lined (ascii "length #") (n ∷ []) sh
length_said (refused e) sh = said_refusal BadNumber sh

unfoldable pub get_said : ℕ → List ℕ → List ℕ → Sheet → Sheet
get_said k ns bs sh =
    pick (eqb k 11) (value_said (byte bs (get_or ns 0 0)) sh)
    (pick (eqb k 12) (value_said (pair bs (get_or ns 0 0)) sh)
    (pick (eqb k 13) (value_said (var bs (get_or ns 0 0)) sh)
    (pick (eqb k 14) (part_said bs (run bs (get_or ns 0 0)) sh) (length_said (var_length (get_or ns 0 0)) sh))))

-- ---- read: into the front of each table, as much as is lent; what is behind it stays

pub record Decodes (e : Lent) (bs ms rs : List ℕ) (sh : Sheet) (ms' rs' : List ℕ) (sh' : Sheet) : Type 0 where
  pub answer : Result (Packet × ℕ) Refusal
  pub fronts : List ℕ × List ℕ
  pub reads : Reads bs (take e.messages ms) (take e.ranges rs) fronts.0 fronts.1 answer
  pub messages : ms' ≡ fronts.0 ++ drop e.messages ms
  pub ranges : rs' ≡ fronts.1 ++ drop e.ranges rs
  pub said : sh' ≡ decoded_said answer ms' rs' sh

-- ---- what is written to `out`: the answer o where bs is to go to a place, what stands there then, and what is said

pub record Puts (o : Outcome) (bs : List ℕ) (at : ℕ) (says : Result ℕ Refusal → List ℕ → Sheet → Sheet) (out : List ℕ) (sh : Sheet) (out' : List ℕ) (sh' : Sheet) : Type 0 where
  pub answer : Result ℕ Refusal
  pub tells : put_of answer ≡ o
  pub lent : out' ≡ left o at bs out
  pub said : sh' ≡ says answer out' sh

-- put-u16, put-varint, put-bytes
unfoldable pub put_answer : ℕ → ℕ → ℕ → List ℕ → ℕ → Outcome
put_answer k at v bs n = pick (eqb k 3) (put_bytes 2 at n) (pick (eqb k 4) (put_var v at n) (put_run (length bs) at n))

unfoldable pub put_letters : ℕ → ℕ → List ℕ → List ℕ
put_letters k v bs = pick (eqb k 3) (pair_bytes (v % 65536)) (pick (eqb k 4) (var_bytes v) (run_bytes bs))

abbrev pub put_said : ℕ → Result ℕ Refusal → List ℕ → Sheet → Sheet
put_said at (Ok n) out sh = spelt (bytes_to_of out at n) (lined (ascii "to # ") (n ∷ []) sh)
put_said at (Err e) out sh = said_refusal e sh

abbrev pub PutsBy : ℕ → List ℕ → List ℕ → List ℕ → Sheet → List ℕ → Sheet → Type 0
PutsBy k ns bs out sh out' sh' =
    Puts (put_answer k (get_or ns 0 0) (get_or ns 1 0) bs (length out)) (put_letters k (get_or ns 1 0) bs) (get_or ns 0 0) (put_said (get_or ns 0 0)) out sh out' sh'

-- a packet of the kind of the call, as its numbers say
abbrev pub small_by_of : List ℕ → Small
small_by_of ns = record { sequence = record { 0 = get_or ns 0 0 }; channel_id = get_or ns 1 0 % 256; count = get_or ns 2 0 }

abbrev pub slice_by : List ℕ → Slice
slice_by ns =
    record {
      sequence = record { 0 = get_or ns 0 0 };
      channel_id = get_or ns 1 0 % 256;
      message_id = record { 0 = get_or ns 2 0 };
      slice_index = record { 0 = get_or ns 3 0 };
      num_slices = get_or ns 4 0;
      place = get_or ns 5 0;
      len = get_or ns 6 0;
    }

unfoldable pub packet_by : ℕ → List ℕ → Packet
packet_by k ns =
    pick (eqb k 6) (SmallReliable (small_by_of ns))
    (pick (eqb k 7) (SmallUnreliable (small_by_of ns))
    (pick (eqb k 8) (ReliableSlice (slice_by ns))
    (pick (eqb k 9) (UnreliableSlice (slice_by ns)) (Ack (record { sequence = record { 0 = get_or ns 0 0 }; count = get_or ns 1 0 })))))

-- the words behind its numbers are its table
abbrev pub messages_by : List ℕ → List ℕ
messages_by ns = drop 3 ns

abbrev pub ranges_by : List ℕ → List Range
ranges_by ns = take (lent_of (length (drop 2 ns) / 2)) (table_of (drop 2 ns))

abbrev pub written_said : Result ℕ Refusal → List ℕ → Sheet → Sheet
written_said (Ok n) out sh = spelt (bytes_at out 0 n) (lined (ascii "written # ") (n ∷ []) sh)
written_said (Err e) out sh = said_refusal e sh

abbrev pub WritesBy : ℕ → List ℕ → List ℕ → List ℕ → Sheet → List ℕ → Sheet → Type 0
WritesBy k ns bs out sh out' sh' =
    Puts (encoded (packet_by k ns) (messages_by ns) (ranges_by ns) bs (length out)) (bytes_of (packet_by k ns) (messages_by ns) (ranges_by ns) bs) 0 written_said out sh out' sh'

-- ---- the k-th call: what it leaves in the tables and in `out`, and what is said

-- those that touch no table; of `out` the front is lent, and what is behind it stays
pub data OnOut (lent k : ℕ) (ns bs out : List ℕ) (sh : Sheet) (out' : List ℕ) (sh' : Sheet) : Type 0 where
  puts : k ≤ 5 → (front : List ℕ) → out' ≡ front ++ drop lent out → PutsBy k ns bs (take lent out) sh front sh' → OnOut lent k ns bs out sh out' sh'
  writes : 5 < k → k ≤ 10 → (front : List ℕ) → out' ≡ front ++ drop lent out → WritesBy k ns bs (take lent out) sh front sh' → OnOut lent k ns bs out sh out' sh'
  gets : 10 < k → out' ≡ out → sh' ≡ get_said k ns bs sh → OnOut lent k ns bs out sh out' sh'

-- all but `lend`
pub data Answers (k : ℕ) (e : Lent) (ns bs ms rs out : List ℕ) (sh : Sheet) (ms' rs' out' : List ℕ) (sh' : Sheet) : Type 0 where
  digests : k ≡ 1 → ms' ≡ ms → rs' ≡ rs → out' ≡ out → sh' ≡ digest_said ms rs out sh → Answers k e ns bs ms rs out sh ms' rs' out' sh'
  reads : k ≡ 2 → out' ≡ out → Decodes e bs ms rs sh ms' rs' sh' → Answers k e ns bs ms rs out sh ms' rs' out' sh'
  others : (k ≡ 1 → ⊥) → (k ≡ 2 → ⊥) → ms' ≡ ms → rs' ≡ rs → OnOut e.out k ns bs out sh out' sh' → Answers k e ns bs ms rs out sh ms' rs' out' sh'

-- a newline stands behind each answer
pub data Called (k : ℕ) (e : Lent) (ns bs ms rs out : List ℕ) (sh : Sheet) (ms' rs' out' : List ℕ) (sh' : Sheet) : Type 0 where
  lends :
      k ≡ 0 → ms' ≡ ms → rs' ≡ rs → out' ≡ out → sh' ≡ lined (ascii "lent messages # ranges # out #\n") ns sh
      → Called k e ns bs ms rs out sh ms' rs' out' sh'
  answers : (k ≡ 0 → ⊥) → (mid : Sheet) → Answers k e ns bs ms rs out sh ms' rs' out' mid → sh' ≡ said (ascii "\n") mid → Called k e ns bs ms rs out sh ms' rs' out' sh'
