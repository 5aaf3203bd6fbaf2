-- A piece that was taken before. Document 01, part 4, "Ordered receiver". Assumes nothing.
use Rattle.std.specs.Prelude.{ℕ, ◌≡◌, true, false, get_or}
use Rattle.receive_reliable.specs.Receive.{lane_of, in_lane_of, ignores, constructor_at}
use Rattle.receive_reliable.specs.declared.ReceiveChannelReliable.{ReceiveChannelReliable}

-- message id is open and has num pieces, and its piece i is here
pub record Repeats (s : ReceiveChannelReliable) (id num i : ℕ) : Type 0 where
  pub lane : in_lane_of s id ≡ true
  pub awaited : ignores s id ≡ false
  pub count : (constructor_at s (lane_of s id)).num_slices ≡ num
  pub here : get_or (constructor_at s (lane_of s id)).received i false ≡ true
