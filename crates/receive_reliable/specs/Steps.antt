-- What the private functions give. Assumes nothing.
use Rattle.std.specs.Prelude.{ℕ, ◌+◌, ◌-◌, ◌*◌, ◌≤◌, ◌<◌, ◌≡◌, Bool, false, List, get_or, ltb, eqb, Result, Option, Some, None}
use Rattle.words.specs.Sizes.{SLICE_SIZE, SLOTS, LANES, LIMIT}
use Rattle.words.specs.Choice.{pick}
use Rattle.words.specs.Lists.{lowest_free_of}
use Rattle.channel.specs.Settings.{lane_len_of}
use Rattle.slice_constructor.specs.declared.SliceConstructor.{SliceConstructor}
use Rattle.slice_constructor.specs.Collect as c
use Rattle.receive_reliable.specs.Receive.{cell_of, lane_of, in_lane_of, ignores, Outcome, taken, ignored, refused, arrival_of, judged, entry_refusal, MessageSpot, cell, nowhere, SliceSpot, opened, fresh, nothing, count_refusal, fresh_refusal, constructor_at, Waiting, message}
use Rattle.receive_reliable.specs.declared.ReceiveChannelReliable.{ReceiveChannelReliable}
use Rattle.receive_reliable.specs.declared.Arrival.{Arrival}
use Rattle.words.specs.declared.Refusal.{Refusal}
use Rattle.channel.specs.declared.Store.{Store}
use Rattle.channel.specs.declared.Store.TheVariants.{Small, Lanes}
use Rattle.channel.specs.declared.Opened.{Opened}
use Rattle.channel.specs.declared.SlicePlace.{SlicePlace}
use Rattle.receive_reliable.specs.declared.Held.{Held}
use Rattle.receive_reliable.specs.declared.Held.TheVariants as held

-- where a message is, by its cell and its lane, which are past the tables where it has none
unfoldable pub held_by_of : ℕ → ℕ → List Bool → List ℕ → Option Held
held_by_of i l wholes lens =
    pick (ltb i SLOTS) (Some (held.At Small i))
    (pick (ltb l LANES) (pick (get_or wholes l false) (Some (held.At Lanes l)) (Some (held.Open (record { lane = l; charge = get_or lens l 0 })))) None)

abbrev pub held_in : ReceiveChannelReliable → ℕ → Option Held
held_in s id = held_by_of (cell_of s id) (lane_of s id) s.whole s.lane_lens

-- the cell or lane of a message that is so held, where it is whole
abbrev pub whole_of : Option Held → Option (Store × ℕ)
whole_of (Some (held.At store i)) = Some (store, i)
whole_of (Some (held.Open o)) = None
whole_of None = None

-- its lane, where it is open
abbrev pub open_of : Option Held → Option Opened
open_of (Some (held.Open o)) = Some o
open_of (Some (held.At store i)) = None
open_of None = None

-- the one in a cell or lane, as a look shows it
abbrev pub shown_at : ReceiveChannelReliable → Store → ℕ → Waiting
shown_at s Small i = message s.oldest_pending_message_id Small (i * SLICE_SIZE) (get_or s.cell_lens i 0)
shown_at s Lanes l = message s.oldest_pending_message_id Lanes (l * lane_len_of s.settings) (get_or s.lane_lens l 0)

-- what every arrival is judged by first; `taken` goes on
unfoldable pub entry_of : ReceiveChannelReliable → ℕ → ℕ → ℕ → Outcome
entry_of s id small lane = judged (entry_refusal s id small lane) refused (pick (ignores s id) ignored taken)

-- on to `a` where what arrives may be taken, else told as f says
abbrev pub told : {A : Type 0} → (Outcome → A) → A → Outcome → A
told f a taken = a
told f a ignored = f ignored
told f a (refused e) = f (refused e)

-- where a small message goes that is told so, with cell i free for it
abbrev pub message_to : ℕ → Result Arrival Refusal → MessageSpot
message_to i a = told nowhere (cell i) (arrival_of a)

-- the lane for a piece: its message's where that is open, else lane i, which is free
abbrev pub lane_for_of : Option Held → ℕ → SliceSpot
lane_for_of (Some (held.Open o)) i = opened o.lane
lane_for_of (Some (held.At store j)) i = fresh i
lane_for_of None i = fresh i

abbrev pub slice_place_of : SlicePlace → SliceSpot
slice_place_of p = pick p.fresh (fresh p.lane) (opened p.lane)

-- where a piece goes that is told so, with this lane for it
abbrev pub slice_to : SliceSpot → Result Arrival Refusal → SliceSpot
slice_to lane a = told nothing lane (arrival_of a)

-- the lane for a piece, before its index and size are judged
unfoldable pub open_lane : ReceiveChannelReliable → ℕ → ℕ → SliceSpot
open_lane s l num = pick (eqb (constructor_at s l).num_slices num) (opened l) (nothing (refused 8))

unfoldable pub fresh_lane : ReceiveChannelReliable → ℕ → SliceSpot
fresh_lane s num = judged (fresh_refusal s num) (λ e. nothing (refused e)) (fresh (lowest_free_of s.lanes s.settings.lanes))

unfoldable pub lane_spot : ReceiveChannelReliable → ℕ → ℕ → ℕ → ℕ → SliceSpot
lane_spot s id num small lane =
    judged (entry_refusal s id small lane) (λ e. nothing (refused e))
    (pick (ignores s id) (nothing ignored)
    (judged (count_refusal s num) (λ e. nothing (refused e))
    (pick (in_lane_of s id) (open_lane s (lane_of s id) num) (fresh_lane s num))))

-- k may go on in lane l, for message id
pub record Fits (s : ReceiveChannelReliable) (l id : ℕ) (k : SliceConstructor) : Type 0 where
  pub low : l < s.settings.lanes
  pub below : id < LIMIT
  pub valid : c.Valid k
  pub named : k.message_id.0 ≡ id
  pub one : 1 ≤ k.num_slices
  pub most : k.num_slices ≤ s.settings.pieces
  pub room : s.memory_usage_bytes - get_or s.lane_lens l 0 + SLICE_SIZE * k.num_slices ≤ s.settings.max_memory_usage_bytes

-- the refusal of piece i of n bytes, with the lane's own part of the store lent whole
abbrev pub piece_refusal : ReceiveChannelReliable → SliceConstructor → ℕ → ℕ → ℕ
piece_refusal s k i n = c.collect_refusal k i n (lane_len_of s.settings)
