-- What the held messages and the open lanes take, one by one. Assumes nothing.
use Rattle.std.specs.Prelude.{ℕ, ◌*◌, false, get_or}
use Rattle.words.specs.Sizes.{SLICE_SIZE}
use Rattle.words.specs.Choice.{pick}
use Rattle.receive_reliable.specs.Receive.{constructor_at}
use Rattle.receive_reliable.specs.declared.ReceiveChannelReliable.{ReceiveChannelReliable}

-- a held small message takes its length
abbrev pub cell_use : ReceiveChannelReliable → ℕ → ℕ
cell_use s i = pick (get_or s.cells i false) (get_or s.cell_lens i 0) 0

-- a whole sliced one takes its length, and one that is open 1,200 × num_slices
abbrev pub lane_use : ReceiveChannelReliable → ℕ → ℕ
lane_use s l =
    pick (get_or s.lanes l false)
    (pick (get_or s.whole l false) (get_or s.lane_lens l 0) (SLICE_SIZE * (constructor_at s l).num_slices))
    0
