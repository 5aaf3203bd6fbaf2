-- Packing what a round sends. Document 01, "Reliable round" and "Unreliable". `ids` tells a reliable round from an unreliable one.
-- Assumes nothing.
use Rattle.std.specs.Prelude.{ℕ, zero, suc, ◌+◌, Bool, List, [], ◌∷◌, ◌++◌, map, get_or, ltb, eqb}
use Rattle.words.specs.Sizes.{SLICE_SIZE}
use Rattle.words.specs.Choice.{pick}
use Rattle.words.specs.Lists.{total}
use Rattle.octets.specs.Varint.{var_len}
use Rattle.pack.specs.declared.Item as code

-- ---- what goes, in the order in which the round chose it

-- a small message, where `num` is 0; else piece `index` of `num`. Its bytes start at `place` of the small store or of the lanes
pub record Item : Type 0 where
  pub num : ℕ
  pub id : ℕ
  pub index : ℕ
  pub place : ℕ
  pub len : ℕ

-- an item as the code has it in a table
abbrev pub item_of : code.Item → Item
item_of x = record { num = x.num; id = x.id.0; index = x.index.0; place = x.place; len = x.len }

abbrev pub no_item : code.Item
no_item = record { num = 0; id = record { 0 = 0 }; index = record { 0 = 0 }; place = 0; len = 0 }

abbrev pub items_of : List code.Item → List Item
items_of t = map item_of t

abbrev pub item_at : List code.Item → ℕ → Item
item_at t i = item_of (get_or t i no_item)

-- k of them, from the i-th on
unfoldable pub items_in : List code.Item → ℕ → ℕ → List Item
items_in t i zero = []
items_in t i (suc k) = item_at t i ∷ items_in t (i + 1) k

abbrev pub is_small : Item → Bool
is_small i = eqb i.num 0

-- ---- packets

-- a packet of small messages, or a piece, which is a packet of its own
pub data Pack : Type 0 where
  group : List Item → Pack
  single : Item → Pack

-- a message's size for packing: length + varint lengths of length and id; an unreliable round counts no id
unfoldable pub packed_len : Bool → Item → ℕ
packed_len ids i = i.len + (var_len i.len + pick ids (var_len i.id) 0)

-- the last small packet ends the round, if it holds a message
abbrev pub last_of : List Item → List Pack
last_of [] = []
last_of (i ∷ is) = group (i ∷ is) ∷ []

-- from here on, with the small messages of the packet so far and the sum of their sizes: if the sum would pass 1,200 the packet so far is
-- closed, even if it holds no message, and put out; a piece is put out at once
unfoldable pub packed : Bool → ℕ → List Item → List Item → List Pack
packed ids sum open-group [] = last_of open-group
packed ids sum open-group (i ∷ is) =
    pick (is_small i)
    (pick (ltb SLICE_SIZE (sum + packed_len ids i))
    (group open-group ∷ packed ids (packed_len ids i) (i ∷ []) is)
    (packed ids (sum + packed_len ids i) (open-group ++ (i ∷ [])) is))
    (single i ∷ packed ids sum open-group is)

unfoldable pub pack : Bool → List Item → List Pack
pack ids is = packed ids 0 [] is

-- ---- what it spends: the payload bytes of its packets

abbrev pub payload_of : Pack → ℕ
payload_of (group is) = total (λ i. i.len) is
payload_of (single i) = i.len

abbrev pub payload : List Pack → ℕ
payload ps = total payload_of ps
