-- The marked cases of document 01 as one table, and one fact over all its rows. Assumes nothing.
use Rattle.std.specs.Prelude.{ℕ, zero, suc, ◌≡◌, refl, Bool, true, false, List, [], ◌∷◌, ◌++◌, map, eqb, leb, length, replicate}
use Rattle.words.specs.Choice.{pick}
use Rattle.words.specs.Lists.{all}
use Rattle.words.specs.Sizes.{SLICE_SIZE}
use Rattle.words.specs.Pieces.{pieces_of, piece_of}
use Rattle.octets.specs.Reader.{Res, ok, fault, byte, pair, bytes, need}
use Rattle.octets.specs.Varint.{var, more, form_len_of, run, var_bytes, tagged, low_bytes, var_len, run_bytes}
use Rattle.packet_small.specs.Small as s
use Rattle.packet_small.specs.Write as sw
use Rattle.packet_ack.specs.Ack as a
use Rattle.packet_ack.specs.declared.Range.{Range}
use Rattle.packet_ack.specs.Write as aw
use Rattle.packet.specs.Packet.{Packet, small_reliable, small_unreliable, reliable_slice, unreliable_slice, ack, body, packet}

-- ---- what a row says was read

-- a number: its value and the place after it; or the refusal's number alone
abbrev pub number : Res ℕ → List ℕ
number (ok v next) = v ∷ next ∷ []
number (fault e) = e ∷ []

-- start and end of each range
unfoldable pub ends : List Range → List ℕ
ends [] = []
ends (r ∷ rs) = r.start ∷ r.end ∷ ends rs

-- a packet: its type, its numbers, its table and the bytes used; or the refusal's number alone
abbrev pub numbers : Packet → List ℕ
numbers (small_reliable p) = 0 ∷ p.sequence ∷ p.channel ∷ s.words p.messages
numbers (small_unreliable p) = 1 ∷ p.sequence ∷ p.channel ∷ s.words p.messages
numbers (reliable_slice p) = 2 ∷ p.sequence ∷ []
numbers (unreliable_slice p) = 3 ∷ p.sequence ∷ []
numbers (ack p) = 4 ∷ p.sequence ∷ ends p.ranges

abbrev pub reading : Res Packet → List ℕ
reading (ok p used) = numbers p ++ (used ∷ [])
reading (fault e) = e ∷ []

-- 0 to n - 1
abbrev pub up_to : ℕ → List ℕ
up_to zero = []
up_to (suc n) = up_to n ++ n ∷ []

-- how a message of n bytes goes: 0 and its length if it is small, else 1 and the lengths of its pieces
abbrev pub goes : ℕ → List ℕ
goes n = pick (leb n SLICE_SIZE) (0 ∷ n ∷ []) (1 ∷ map (λ i. length (piece_of (replicate n 0) i)) (up_to (pieces_of n)))

pub record Row : Type 0 where
  pub got : List ℕ
  pub want : List ℕ

abbrev range : ℕ → ℕ → Range
range start end = record { start = start; end = end }

abbrev said : ℕ → List ℕ → sw.Said
said id bs = record { id = id; bytes = bs }

unfoldable pub rows : List Row
rows =
    -- RFC 9000, A.1
    record { got = number (var (0xc2 ∷ 0x19 ∷ 0x7c ∷ 0x5e ∷ 0xff ∷ 0x14 ∷ 0xe8 ∷ 0x8c ∷ []) 0); want = 151288809941952652 ∷ 8 ∷ [] }
    ∷ record { got = number (var (0x9d ∷ 0x7f ∷ 0x3e ∷ 0x7d ∷ []) 0); want = 494878333 ∷ 4 ∷ [] }
    ∷ record { got = number (var (0x7b ∷ 0xbd ∷ []) 0); want = 15293 ∷ 2 ∷ [] }
    ∷ record { got = number (var (0x25 ∷ []) 0); want = 37 ∷ 1 ∷ [] }
    ∷ record { got = number (var (0x40 ∷ 0x25 ∷ []) 0); want = 37 ∷ 2 ∷ [] }
    ∷ record { got = var_bytes 151288809941952652; want = 0xc2 ∷ 0x19 ∷ 0x7c ∷ 0x5e ∷ 0xff ∷ 0x14 ∷ 0xe8 ∷ 0x8c ∷ [] }
    ∷ record { got = var_bytes 494878333; want = 0x9d ∷ 0x7f ∷ 0x3e ∷ 0x7d ∷ [] }
    ∷ record { got = var_bytes 15293; want = 0x7b ∷ 0xbd ∷ [] }
    ∷ record { got = var_bytes 37; want = 0x25 ∷ [] }
    -- ack seq 7, ranges 20010..20020 and 20035..20040
    ∷ record { got = aw.ack_bytes 7 (range 20010 20020 ∷ range 20035 20040 ∷ []); want = 0x04 ∷ 0x07 ∷ 0x80 ∷ 0x00 ∷ 0x4e ∷ 0x47 ∷ 0x04 ∷ 0x01 ∷ 0x0e ∷ 0x09 ∷ [] }
    ∷ record {
      got = reading (packet (0x04 ∷ 0x07 ∷ 0x80 ∷ 0x00 ∷ 0x4e ∷ 0x47 ∷ 0x04 ∷ 0x01 ∷ 0x0e ∷ 0x09 ∷ []) 0);
      want = 4 ∷ 7 ∷ 20010 ∷ 20020 ∷ 20035 ∷ 20040 ∷ 10 ∷ [];
    }
    -- ack seq 0, ranges 0..1 and 2..3; were the upper start 1, answer 5, writing and reading
    ∷ record { got = aw.ack_bytes 0 (range 0 1 ∷ range 2 3 ∷ []); want = 0x04 ∷ 0x00 ∷ 0x02 ∷ 0x00 ∷ 0x01 ∷ 0x00 ∷ 0x00 ∷ [] }
    ∷ record { got = reading (packet (0x04 ∷ 0x00 ∷ 0x02 ∷ 0x00 ∷ 0x01 ∷ 0x00 ∷ 0x00 ∷ []) 0); want = 4 ∷ 0 ∷ 0 ∷ 1 ∷ 2 ∷ 3 ∷ 7 ∷ [] }
    ∷ record { got = aw.ack_refusal 0 (range 0 1 ∷ range 2 3 ∷ []) 2 0 7 ∷ []; want = 0 ∷ [] }
    ∷ record { got = aw.ack_refusal 0 (range 0 1 ∷ range 1 3 ∷ []) 2 0 7 ∷ []; want = 5 ∷ [] }
    ∷ record { got = reading (packet (0x04 ∷ 0x00 ∷ 0x02 ∷ 0x01 ∷ 0x01 ∷ 0x00 ∷ 0x00 ∷ []) 0); want = 5 ∷ [] }
    -- SmallReliable seq 3, channel 1, (0, "A"), (1, empty)
    ∷ record {
      got = sw.small_bytes_of true 3 1 (said 0 (0x41 ∷ []) ∷ said 1 [] ∷ []);
      want = 0x00 ∷ 0x03 ∷ 0x01 ∷ 0x00 ∷ 0x02 ∷ 0x00 ∷ 0x01 ∷ 0x41 ∷ 0x01 ∷ 0x00 ∷ [];
    }
    ∷ record {
      got = reading (packet (0x00 ∷ 0x03 ∷ 0x01 ∷ 0x00 ∷ 0x02 ∷ 0x00 ∷ 0x01 ∷ 0x41 ∷ 0x01 ∷ 0x00 ∷ []) 0);
      want = 0 ∷ 3 ∷ 1 ∷ 0 ∷ 7 ∷ 1 ∷ 1 ∷ 10 ∷ 0 ∷ 10 ∷ [];
    }
    -- 1,200 bytes is small; 1,201 is pieces of 1,200 and 1; 2,401 is three pieces
    ∷ record { got = goes 1200; want = 0 ∷ 1200 ∷ [] }
    ∷ record { got = goes 1201; want = 1 ∷ 1200 ∷ 1 ∷ [] }
    ∷ record { got = goes 2401; want = 1 ∷ 1200 ∷ 1200 ∷ 1 ∷ [] }
    ∷ []

-- ---- and it is so

unfoldable pub same : List ℕ → List ℕ → Bool
same [] [] = true
same [] (y ∷ ys) = false
same (x ∷ xs) [] = false
same (x ∷ xs) (y ∷ ys) = pick (eqb x y) (same xs ys) false

abbrev pub right : Row → Bool
right r = same r.got r.want

pub vectors : all right rows ≡ true
unfolding rows same all need byte pair bytes var more form_len_of run var_bytes tagged low_bytes var_len run_bytes body packet s.message s.messages s.small s.words sw.message_bytes sw.messages_bytes sw.head_bytes sw.small_bytes_of a.sized a.lower a.lowers a.ack ends aw.lowers_bytes aw.falling_bytes aw.ack_bytes aw.listed aw.rising_after aw.rising aw.ack_refusal
vectors = refl
