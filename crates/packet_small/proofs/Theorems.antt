-- The laws of packets of small messages: the reader accepts exactly the spellings of document 01's layout and says what they say; what is
-- written is read back, with anything after it; and an answer of the code says one thing only. Assumes nothing.
use Prim.Native.Nat.{ℕ, suc, ◌+◌, ◌≤◌, ◌<◌}
use mathlib.Core.Path.{◌≡◌, refl, sym, ap, ◌∙◌}
use mathlib.Core.Bool.{Bool}
use mathlib.Core.List.{List, [], ◌∷◌, ◌++◌, map, append_assoc}
use native.Mathlib.Omega.{arith}
use lib.ListN.{length, take, drop}
use Rattle.words.specs.Sizes.{LIMIT, MAX_MESSAGES}
use Rattle.words.specs.Lists.{All}
use Rattle.words.proofs.Suffix.{drop-at-splice}
use Rattle.words.proofs.Unique.{told-apart, refusal_of, refusal-undone}
use Rattle.octets.specs.Reader.{Res, ok, fault}
use Rattle.octets.specs.Varint.{pair_bytes}
use Rattle.octets.specs.Spelling.{Bytes}
use Rattle.octets.specs.Writer.{done, left}
use Rattle.octets.proofs.Exact.{Here, here-both, here-fits, here-taken, exact-byte, ByteSpelt, one_byte}
use Rattle.octets.proofs.Read.{byte-there}
use Rattle.octets.proofs.Forms.{var-spelt}
use Rattle.std.specs.Prelude.{Result, Ok, Err}
use Rattle.words.specs.declared.Refusal.{Refusal}
use Rattle.packet_small.specs.declared.Small.{Small}
use Rattle.packet_small.specs.Small.{Told, read_of}
use Rattle.packet_small.specs.Write.{Said, type_byte_of, head_bytes, small_bytes_of, listed, said_of, small_of, put_small_of}
use Rattle.packet_small.specs.Layout.{SmallSaid, SmallSpelt, packet}
use Rattle.packet_small.specs.Laws.{ReadsAs, Sayable}
use Rattle.packet_small.proofs.Spelt.{exact-small, says-small, is-small}
use Rattle.packet_small.proofs.Written.{messages-spelt, accepts}

-- ---- the reader accepts exactly the spellings

byte-only : {b : ℕ} {bs : List ℕ} → ByteSpelt b bs → bs ≡ b ∷ []
byte-only (one_byte h) = refl

-- what it accepts is a spelling of what it says, and within the input
pub sound : {ids : Bool} {s : List ℕ} {w : SmallSaid} {used : ℕ} → Bytes s → ReadsAs ids s w used → SmallSpelt ids w (take used s) × (used ≤ length s)
sound {ids} {s} {w} {used} bytes r =
    let t = exact-byte.sound s 0 bytes r.type-is in
    let x = (exact-small ids).sound s 1 bytes r.rest-is in
    let first : Here s 0 (type_byte_of ids ∷ []) = rw (byte-only t.says) at t.stands in
    let all : Here s 0 (type_byte_of ids ∷ x.spelling) = here-both (type_byte_of ids ∷ []) x.spelling first x.stands in
    let n : used ≡ suc (length x.spelling) = omega (arith, x.ends) in
    let f = here-fits all (omega arith) in
    let e : take used s ≡ type_byte_of ids ∷ x.spelling = ap (λ (k : ℕ). take k s) n ∙ here-taken all in
    (rw (e, ← r.says) (says-small x.stands x.says), omega arith)

-- and every spelling it accepts, with anything after it, and says what it says
pub complete : {ids : Bool} {w : SmallSaid} {bs : List ℕ} → SmallSpelt ids w bs → (q : List ℕ) → ReadsAs ids (bs ++ q) w (length bs)
complete {ids} (packet {channel = channel} {ms = ms} {a = a} {b = b} v c n u) q =
    let bs : List ℕ = a ++ (channel ∷ (pair_bytes (length ms) ++ b)) in
    let s : List ℕ = type_byte_of ids ∷ (bs ++ q) in
    let k = is-small 1 v c n u in
    let here : Here s 1 bs = record { rest = q; goes_on = refl } in
    let l : 1 + length bs ≡ suc (length bs) = omega arith in
    record {
      packet-read = k.value;
      type-is = sym (byte-there s 0 (omega arith) refl);
      rest-is = (exact-small ids).complete s 1 (omega arith) here k.there ∙ ap (ok k.value) l;
      says = k.says s here;
    }

-- ---- what is written is read back

module _ (ids : Bool) (seq channel : ℕ) (ms : List Said) (s : seq < LIMIT) (c : channel < 256) (n : length ms ≤ MAX_MESSAGES) (h : All (Sayable ids) ms) where
  -- what is written is a spelling
  pub written-spelt : SmallSpelt ids (record { sequence = seq; channel = channel; messages = ms }) (small_bytes_of ids seq channel ms)
  unfolding small_bytes_of head_bytes
  written-spelt = rw append_assoc (packet (var-spelt seq s) c n (messages-spelt ids ms h))

  -- so it is read back, whatever comes after it
  pub written_read : (q : List ℕ) → ReadsAs ids (small_bytes_of ids seq channel ms ++ q) (record { sequence = seq; channel = channel; messages = ms }) (length (small_bytes_of ids seq channel ms))
  written_read = complete written-spelt

-- where `put_small` doesn't refuse, the lent bytes from its place on read as the packet whose messages the table names, and the place that it
-- answers is after the bytes so used
pub put-read : (ids : Bool) (seq channel : ℕ) (t : List ℕ) (n : ℕ) (src : List ℕ) (at : ℕ) (out : List ℕ) {next : ℕ} → channel < 256
    → put_small_of ids seq channel t n src at (length out) ≡ done next
    → (used : ℕ)
    × ReadsAs ids (drop at (left (done next) at (small_of ids seq channel t n src) out)) (record { sequence = seq; channel = channel; messages = map (said_of ids src) (listed t 0 n) }) used
    × (next ≡ at + used)
put-read ids seq channel t n src at out c e =
    let bs : List ℕ = small_of ids seq channel t n src in
    let a = accepts ids seq channel t n src at (length out) e in
    let w = written_read ids seq channel (map (said_of ids src) (listed t 0 n)) a.sequence c a.count a.messages (drop (at + length bs) out) in
    (length bs, rw (drop-at-splice at bs out a.room) w, a.end)

-- ---- an answer of the code says one thing only

read_back_of : Res Told → Result (Small × ℕ) Refusal
read_back_of (ok p next) = Ok (record { sequence = record { 0 = p.sequence }; channel_id = p.channel; count = p.count }, next)
read_back_of (fault e) = Err (refusal_of e)

read-undone : (r : Result (Small × ℕ) Refusal) → read_back_of (read_of r) ≡ r
unfolding read_back_of
read-undone (Ok (p, next)) = refl
read-undone (Err e) = ap Err (refusal-undone e)

pub one-read : (a b : Result (Small × ℕ) Refusal) → read_of a ≡ read_of b → a ≡ b
one-read = told-apart read_of read_back_of read-undone
