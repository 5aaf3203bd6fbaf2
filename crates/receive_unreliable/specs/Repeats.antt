-- A piece that was taken before, and what it changes. Document 01, part 4, "Ordered receiver". Assumes nothing.
use Rattle.std.specs.Prelude.{ℕ, ◌≡◌, true, false, get_or, set}
use Rattle.receive_unreliable.specs.Receive.{lane_of, is_open_of, constructor_at}
use Rattle.receive_unreliable.specs.declared.ReceiveChannelUnreliable.{ReceiveChannelUnreliable}

-- message id is open and has num pieces, and its piece i is here
pub record Repeats (s : ReceiveChannelUnreliable) (id num i : ℕ) : Type 0 where
  pub lane : is_open_of s id ≡ true
  pub count : (constructor_at s (lane_of s id)).num_slices ≡ num
  pub here : get_or (constructor_at s (lane_of s id)).received i false ≡ true

-- lane l was touched at time t, which is the latest accepted time too; nothing else changes
unfoldable pub renewed : ReceiveChannelUnreliable → ℕ → ℕ → ReceiveChannelUnreliable
renewed s l t =
    record {
      settings = s.settings;
      memory_usage_bytes = s.memory_usage_bytes;
      latest = t;
      cells = s.cells;
      cell_lens = s.cell_lens;
      lanes = s.lanes;
      opens = s.opens;
      lane_ids = s.lane_ids;
      lane_lens = s.lane_lens;
      last_received = set s.last_received l t;
      constructors = s.constructors;
      count = s.count;
      queue = s.queue;
    }
