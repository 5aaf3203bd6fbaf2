-- What a receiver holds, seen from outside: what each message takes, and the waiting messages themselves. Assumes nothing.
use Rattle.std.specs.Prelude.{ℕ, ◌*◌, false, List, [], ◌∷◌, ◌++◌, map, get_or, take, drop}
use Rattle.words.specs.Sizes.{SLICE_SIZE}
use Rattle.words.specs.Choice.{pick}
use Rattle.channel.specs.Settings.{lane_len_of}
use Rattle.slice_constructor.specs.declared.SliceConstructor.{SliceConstructor}
use Rattle.slice_constructor.specs.Collect as c
use Rattle.receive_unreliable.specs.Receive.{constructor_at, waiters, place_of, MessageSpot, cell, nowhere, SliceSpot, opened, fresh, nothing, is_whole, shown_at, part_at}
use Rattle.receive_unreliable.specs.declared.ReceiveChannelUnreliable.{ReceiveChannelUnreliable}

-- a held small message takes its length
abbrev pub cell_use : ReceiveChannelUnreliable → ℕ → ℕ
cell_use s i = pick (get_or s.cells i false) (get_or s.cell_lens i 0) 0

-- a whole sliced one takes its length, and one that is open 1,200 × num_slices
abbrev pub lane_use : ReceiveChannelUnreliable → ℕ → ℕ
lane_use s l =
    pick (get_or s.lanes l false)
    (pick (get_or s.opens l false) (SLICE_SIZE * (constructor_at s l).num_slices) (get_or s.lane_lens l 0))
    0

-- the bytes of what waits as w, in the stores that are lent
abbrev pub bytes_of : ReceiveChannelUnreliable → List ℕ → List ℕ → ℕ → List ℕ
bytes_of s small lane w = part_at (shown_at s (place_of w)) small lane

-- the waiting messages, byte for byte, in the order in which they come out
unfoldable pub messages : ReceiveChannelUnreliable → List ℕ → List ℕ → List (List ℕ)
messages s small lane = map (bytes_of s small lane) (waiters s)

-- ---- the waiting messages after each call

-- a small message that is taken is the last
abbrev pub after_message_of : ReceiveChannelUnreliable → List ℕ → List ℕ → List ℕ → MessageSpot → List (List ℕ)
after_message_of s bs small lane (cell i) = messages s small lane ++ bs ∷ []
after_message_of s bs small lane (nowhere o) = messages s small lane

-- and so is a sliced one, once the constructor k of its lane l is whole; lane' is the store of lanes then
abbrev pub after_piece_of : ReceiveChannelUnreliable → ℕ → SliceConstructor → List ℕ → List ℕ → List ℕ → List (List ℕ)
after_piece_of s l k small lane lane' = pick (is_whole k) (messages s small lane ++ take (c.whole_len k) (drop (l * lane_len_of s.settings) lane') ∷ []) (messages s small lane)

abbrev pub after_slice : ReceiveChannelUnreliable → ℕ → ℕ → ℕ → ℕ → List ℕ → List ℕ → List ℕ → SliceSpot → List (List ℕ)
after_slice s id num i n small lane lane' (opened l) = after_piece_of s l (c.taken (constructor_at s l) i n) small lane lane'
after_slice s id num i n small lane lane' (fresh l) = after_piece_of s l (c.taken (c.blank_of id num) i n) small lane lane'
after_slice s id num i n small lane lane' (nothing o) = messages s small lane
