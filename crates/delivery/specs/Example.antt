-- One run, computed: a lossy line that repeats still delivers, in order and once. Assumes nothing.
use Rattle.std.specs.Prelude.{◌≡◌, refl, List, [], ◌∷◌, replicate}
use Rattle.words.specs.Lists.{splice, first, holds, total, reached}
use Rattle.octets.specs.Reader.{need, byte, pair, bytes}
use Rattle.octets.specs.Varint as varint
use Rattle.packet_small.specs.Small as small
use Rattle.packet_small.specs.Write as small-write
use Rattle.packet_slice.specs.Slice as slice
use Rattle.packet_slice.specs.Write as slice-write
use Rattle.packet.specs.Packet as reader
use Rattle.pack.specs.Pack as pack
use Rattle.pack.specs.Encode as encode
use Rattle.channel.specs.Find.{held_at}
use Rattle.channel.specs.declared.Settings.{Settings}
use Rattle.slice_constructor.specs.Collect as collect
use Rattle.receive_reliable.specs.Receive as r
use Rattle.send_reliable.specs.Sender as s
use Rattle.send_reliable.specs.Queue as q
use Rattle.send_reliable.specs.Ack as a
use Rattle.send_reliable.specs.Select as select
use Rattle.send_reliable.specs.Round as round
use Rattle.delivery.specs.World.{Bytes, Setup, new, Event, queues, rounds, arrives, looks, takes, hears, queueing, cut, written, sending, handed, receives, arriving, taking, hearing, step, run}

-- two slots, one lane of two pieces
abbrev settings : Settings
settings = record { slots = 2; lanes = 1; pieces = 2; max_memory_usage_bytes = 5000 }

-- the resend time is 100
abbrev pub setup : Setup
setup =
    record {
      channel = 1;
      sending = settings;
      resend = 100;
      receiving = settings;
      sender-small = replicate 2400 0;
      sender-lanes = replicate 2400 0;
      receiver-small = replicate 2400 0;
      receiver-lanes = replicate 2400 0;
    }

-- a small message and one of two pieces. At 0 the allowance covers the small message and the first piece, and both packets are lost. At 99 the second
-- piece goes alone, and at 100 the others go again. The pieces arrive in the wrong order, one of them twice, and the small message last
abbrev pub long : Bytes
long = replicate 1201 7

abbrev pub events : List Event
events =
    queues (65 ∷ 66 ∷ [])
    ∷ queues long
    ∷ rounds 0 0 1202 (replicate 1300 0) (replicate 4 0)
    ∷ rounds 2 99 5000 (replicate 3000 0) (replicate 6 0)
    ∷ rounds 3 100 5000 (replicate 3000 0) (replicate 6 0)
    ∷ arrives 2 [] []
    ∷ arrives 2 [] []
    ∷ arrives 3 [] []
    ∷ takes
    ∷ hears 0
    ∷ arrives 4 (replicate 3 0) []
    ∷ takes
    ∷ looks
    ∷ takes
    ∷ takes
    ∷ hears 2
    ∷ hears 3
    ∷ []

pub lossy : (run events (new setup)).out ≡ (65 ∷ 66 ∷ []) ∷ long ∷ []
unfolding splice first holds total reached need byte pair bytes varint.var_len varint.low_bytes varint.tagged varint.var_bytes varint.run_bytes varint.form_len_of varint.more varint.var varint.run small.message small.messages small.small small.words small-write.message_bytes small-write.messages_bytes small-write.head_bytes small-write.small_bytes_of small-write.listed slice.payload slice.slice slice-write.slice_bytes reader.body reader.packet reader.judged pack.packed_len pack.packed pack.pack encode.pack_bytes encode.packets_bytes encode.end_to_end encode.entries encode.round_refusal encode.out_after encode.table_after held_at collect.blank_of collect.collect_refusal collect.taken r.new_of r.ignores r.entry_refusal r.message_refusal r.message_spot r.with_message_of r.count_refusal r.fresh_refusal r.open_spot r.fresh_spot r.slice_spot r.with_lane_of r.waiting r.look_at r.without_cell r.without_lane r.after_take s.new_of q.queue_refusal q.free_spot q.spot_of q.add_small q.add_sliced a.ack_row a.ack_small a.with_ack a.ack_piece select.up_from select.visits_from select.visit select.select round.entry_refusal round.refusal_of round.state_after new queueing cut written sending handed receives arriving taking hearing step run
lossy = refl
