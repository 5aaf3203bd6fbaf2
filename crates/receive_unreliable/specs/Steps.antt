-- What the private functions give. Assumes nothing.
use Rattle.std.specs.Prelude.{ℕ, ◌+◌, ◌-◌, ◌*◌, ◌≤◌, ◌<◌, ◌≡◌, Bool, false, List, ltb, get_or, Result, Option, Some, None}
use Rattle.words.specs.Sizes.{SLICE_SIZE, LANES}
use Rattle.words.specs.Choice.{pick}
use Rattle.channel.specs.Find.{held_at}
use Rattle.slice_constructor.specs.declared.SliceConstructor.{SliceConstructor}
use Rattle.slice_constructor.specs.Collect as c
use Rattle.receive_unreliable.specs.Receive.{Place, at-cell, at-lane, no_place, Outcome, taken, dropped, refused, arrival_of, MessageSpot, cell, nowhere, SliceSpot, opened, fresh, nothing}
use Rattle.receive_unreliable.specs.declared.ReceiveChannelUnreliable.{ReceiveChannelUnreliable}
use Rattle.receive_unreliable.specs.declared.Arrival.{Arrival}
use Rattle.words.specs.declared.Refusal.{Refusal}
use Rattle.channel.specs.declared.Store.{Store}
use Rattle.channel.specs.declared.Store.TheVariants.{Small, Lanes}
use Rattle.channel.specs.declared.Opened.{Opened}
use Rattle.channel.specs.declared.SlicePlace.{SlicePlace}

abbrev pub held_of : Option (Store × ℕ) → Place
held_of (Some (Small, i)) = at-cell i
held_of (Some (Lanes, l)) = at-lane l
held_of None = no_place

-- where the open message with an id is, by the columns of the table: its lane and its charge
unfoldable pub opened_by : List Bool → List ℕ → List ℕ → ℕ → Option Opened
opened_by opens ids lens id = pick (ltb (held_at opens ids id) LANES) (Some (record { lane = held_at opens ids id; charge = get_or lens (held_at opens ids id) 0 })) None

abbrev pub opened_in : ReceiveChannelUnreliable → ℕ → Option Opened
opened_in s id = opened_by s.opens s.lane_ids s.lane_lens id

-- on to `a` where what arrives may be taken, else told as f says
abbrev pub told : {A : Type 0} → (Outcome → A) → A → Outcome → A
told f a taken = a
told f a dropped = f dropped
told f a (refused e) = f (refused e)

-- where a small message goes that is told so, with cell i free for it
abbrev pub message_to : ℕ → Result Arrival Refusal → MessageSpot
message_to i a = told nowhere (cell i) (arrival_of a)

-- the lane for a piece: its message's where that is open, else lane i, which is free
abbrev pub lane_for_of : Option Opened → ℕ → SliceSpot
lane_for_of (Some o) i = opened o.lane
lane_for_of None i = fresh i

abbrev pub slice_place_of : SlicePlace → SliceSpot
slice_place_of p = pick p.fresh (fresh p.lane) (opened p.lane)

-- where a piece goes that is told so, with this lane for it
abbrev pub slice_to : SliceSpot → Result Arrival Refusal → SliceSpot
slice_to lane a = told nothing lane (arrival_of a)

-- k may go on in lane l at time t: the lane is open already, or free
pub record Fits (s : ReceiveChannelUnreliable) (l : ℕ) (k : SliceConstructor) (t : ℕ) : Type 0 where
  pub low : l < s.settings.lanes
  pub later : s.latest ≤ t
  pub valid : c.Valid k
  pub some : 1 ≤ k.num_slices
  pub most : k.num_slices ≤ s.settings.pieces
  pub room : s.memory_usage_bytes - get_or s.lane_lens l 0 + SLICE_SIZE * k.num_slices ≤ s.settings.max_memory_usage_bytes
  pub not-whole : get_or s.lanes l false ≡ get_or s.opens l false
