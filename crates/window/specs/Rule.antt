-- The rule. A message may be queued while, counted from the oldest unacknowledged one, the small messages, the newcomer included, are at most the
-- receiver's slots, the sliced ones at most its lanes, and their charges fit its maximum. A small message, of up to 1,200 bytes, is charged its
-- length, a sliced one 1,200 for each piece: as the receiver charges it while it is open, and no less than when it is whole. Assumes nothing.
use Rattle.std.specs.Prelude.{ℕ, ◌*◌, Bool, List, [], ◌∷◌, ◌++◌, ltb, leb}
use Rattle.words.specs.Sizes.{SLICE_SIZE}
use Rattle.words.specs.Pieces.{pieces_of}
use Rattle.words.specs.Choice.{pick, refusal}
use Rattle.words.specs.Lists.{total}
use Rattle.channel.specs.declared.Settings.{Settings}
use Rattle.window.specs.declared.Load.{Load}

-- ---- what a message of n bytes may take of a receiver: a slot or a lane, and memory

abbrev pub is_small : ℕ → Bool
is_small n = leb n SLICE_SIZE

abbrev pub small_one : ℕ → ℕ
small_one n = pick (is_small n) 1 0

abbrev pub sliced_one : ℕ → ℕ
sliced_one n = pick (is_small n) 0 1

abbrev pub charge_of : ℕ → ℕ
charge_of n = pick (is_small n) n (SLICE_SIZE * pieces_of n)

-- what messages of these lengths may take together
unfoldable pub load_of : List ℕ → Load
load_of lens = record { small = total small_one lens; sliced = total sliced_one lens; charge = total charge_of lens }

-- ---- the rule, else the number with which the receiver might have to refuse a message: 12 above its piece limit, 7 for memory, 11 for a slot or a lane

-- of a newcomer of n bytes, and of what all take together with it
abbrev pub rule_tests : Settings → Load → ℕ → List (Bool × ℕ)
rule_tests s all n =
    (ltb (s.pieces * SLICE_SIZE) n, 12) ∷
    (ltb s.max_memory_usage_bytes all.charge, 7) ∷
    (ltb s.slots all.small, 11) ∷
    (ltb s.lanes all.sliced, 11) ∷ []

-- of the messages from the oldest unacknowledged one on, and a newcomer
abbrev pub rule_refusal : Settings → List ℕ → ℕ → ℕ
rule_refusal s lens n = refusal (rule_tests s (load_of (lens ++ (n ∷ []))) n)
