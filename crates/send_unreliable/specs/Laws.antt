-- What the laws speak of: cells and lanes taken from the lowest on, and queued messages as they lie in the stores. Assumes nothing.
use Rattle.std.specs.Prelude.{ℕ, ◌+◌, ◌-◌, ◌*◌, ◌≡◌, Bool, true, false, not, List, [], ◌∷◌, map, length, set, take, drop, replicate, ltb}
use Rattle.words.specs.Sizes.{SLICE_SIZE}
use Rattle.words.specs.Choice.{pick}
use Rattle.words.specs.Lists.{lowest_free_of, reached}
use Rattle.channel.specs.Settings.{lane_len_of}
use Rattle.channel.specs.declared.Settings.{Settings}
use Rattle.pack.specs.Pack.{Item}
use Rattle.pack.specs.Pack as packing
use Rattle.send_unreliable.specs.Sender.{waiting, is_small}
use Rattle.send_unreliable.specs.declared.SendChannelUnreliable.{SendChannelUnreliable}

-- ---- the lowest free cell or lane is taken

abbrev pub take_lowest : List Bool → List Bool
take_lowest held = set held (lowest_free_of held (length held)) true

-- n places, all free at first, of which each message that passes the test took the lowest free one
unfoldable pub taken : (ℕ → Bool) → ℕ → List ℕ → List Bool
taken p n ns = reached (λ held x. pick (p x) (take_lowest held) held) (replicate n false) ns

-- the cells and the lanes that the waiting messages hold, since a round frees them all at once
abbrev pub cells_taken : SendChannelUnreliable → List Bool
cells_taken s = taken is_small s.settings.slots (waiting s)

abbrev pub lanes_taken : SendChannelUnreliable → List Bool
lanes_taken s = taken (λ n. not (is_small n)) s.settings.lanes (waiting s)

-- ---- the queued messages in the stores

-- messages lie in cells from the k-th on and in lanes from the l-th on, in the queue's order
pub data Lie (s : Settings) (small lanes : List ℕ) : ℕ → ℕ → List (List ℕ) → Type 0 where
  none_lie : {k l : ℕ} → Lie s small lanes k l []
  small_lies : {k l : ℕ} {m : List ℕ} {ms : List (List ℕ)} → is_small (length m) ≡ true
      → take (length m) (drop (k * SLICE_SIZE) small) ≡ m → Lie s small lanes (k + 1) l ms → Lie s small lanes k l (m ∷ ms)
  sliced-lies : {k l : ℕ} {m : List ℕ} {ms : List (List ℕ)} → is_small (length m) ≡ false
      → take (length m) (drop (l * lane_len_of s) lanes) ≡ m → Lie s small lanes k (l + 1) ms → Lie s small lanes k l (m ∷ ms)

-- these messages wait, the first queued first
pub record Holds (s : SendChannelUnreliable) (small lanes : List ℕ) (ms : List (List ℕ)) : Type 0 where
  pub lens : map length ms ≡ waiting s
  pub lie : Lie s.settings small lanes 0 0 ms

-- those that an allowance covers, in the queue's order: one longer than what is left of it is dropped
unfoldable pub covered : ℕ → List (List ℕ) → List (List ℕ)
covered left [] = []
covered left (m ∷ ms) = pick (ltb left (length m)) (covered left ms) (m ∷ covered (left - length m) ms)

-- the payload of an item
abbrev pub item_bytes : List ℕ → List ℕ → Item → List ℕ
item_bytes small lanes i = take i.len (drop i.place (pick (packing.is_small i) small lanes))
