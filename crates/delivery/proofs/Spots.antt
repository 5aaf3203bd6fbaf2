-- Where an arriving message or piece goes, with the tests that lead there. Assumes nothing.
use Prim.Native.Nat.{ℕ}
use mathlib.Core.Path.{◌≡◌, refl}
use mathlib.Core.Bool.{Bool, true, false}
use lib.Dec.{eqb}
use borrow.Author.Tests.{eqb-true, le-ltb, le-leb}
use Rattle.words.specs.Choice.{pick}
use Rattle.words.specs.Lists.{lowest_free_of}
use Rattle.channel.specs.Settings.{stores_hold_of}
use Rattle.slice_constructor.specs.Collect as c
use Rattle.receive_reliable.specs.Receive.{lane_of, in_lane_of, ignores, Outcome, ignored, refused, entry_refusal, message_refusal, MessageSpot, cell, nowhere, message_spot, SliceSpot, opened, fresh, nothing, count_refusal, fresh_refusal, constructor_at, open_spot, fresh_spot, slice_spot}
use Rattle.receive_reliable.specs.Steps.{lane_spot, open_lane, fresh_lane, piece_refusal}
use Rattle.receive_reliable.specs.declared.ReceiveChannelReliable.{ReceiveChannelReliable}
use Rattle.receive_reliable.proofs.Spots.{Entered}

-- stores that an arrival entered hold
pub stores-hold : (s : ReceiveChannelReliable) (id small lane : ℕ) → Entered s id small lane → stores_hold_of s.settings small lane ≡ true
stores-hold s id small lane e = rw (le-ltb _ _ e.small-room, le-leb _ _ e.lane_room)

module _ (s : ReceiveChannelReliable) (id : ℕ) where
  -- ---- a small message

  module _ (n small lane : ℕ) where
    pub data Kept : MessageSpot → Type 0 where
      in_cell : (i : ℕ) → ignores s id ≡ false → message_spot s id n small lane ≡ cell i → Kept (cell i)
      held-already : ignores s id ≡ true → Kept (nowhere ignored)
      turned-away : (e : ℕ) → Kept (nowhere (refused e))

    kept-tests : (a b d : Bool) (x y i : ℕ) → ignores s id ≡ b
        → message_spot s id n small lane ≡ pick a (pick b (nowhere ignored) (pick d (cell i) (nowhere (refused y)))) (nowhere (refused x))
        → Kept (pick a (pick b (nowhere ignored) (pick d (cell i) (nowhere (refused y)))) (nowhere (refused x)))
    kept-tests false b d x y i g e = turned-away x
    kept-tests true true d x y i g e = held-already g
    kept-tests true false true x y i g e = in_cell i g e
    kept-tests true false false x y i g e = turned-away y

    pub message-kept : Kept (message_spot s id n small lane)
    unfolding message_spot
    message-kept =
        kept-tests (eqb (entry_refusal s id small lane) 0) (ignores s id) (eqb (message_refusal s id n) 0) (entry_refusal s id small lane) (message_refusal s id n)
        (lowest_free_of s.cells s.settings.slots) refl refl

  -- ---- a piece

  module _ (num i n small lane : ℕ) where
    pub data Placed : SliceSpot → Type 0 where
      in-open : (l : ℕ) → l ≡ lane_of s id → ignores s id ≡ false → in_lane_of s id ≡ true → (constructor_at s l).num_slices ≡ num → lane_spot s id num small lane ≡ opened l
          → piece_refusal s (constructor_at s l) i n ≡ 0 → Placed (opened l)
      in-fresh : (l : ℕ) → l ≡ lowest_free_of s.lanes s.settings.lanes → ignores s id ≡ false → in_lane_of s id ≡ false → lane_spot s id num small lane ≡ fresh l → piece_refusal s (c.blank_of id num) i n ≡ 0 → Placed (fresh l)
      held-already : ignores s id ≡ true → Placed (nothing ignored)
      turned-away : (e : ℕ) → Placed (nothing (refused e))

    -- the tests, read downwards; the last two judge index and size
    abbrev ladder : Bool → Bool → Bool → Bool → Bool → Bool → SliceSpot → SliceSpot → Outcome → Outcome → Outcome → Outcome → SliceSpot
    ladder a b d e f g l m w x y z =
        pick a (pick b (nothing ignored) (pick d (pick e (pick f l (nothing w)) (pick g m (nothing x))) (nothing y))) (nothing z)

    abbrev judged_spot : Bool → SliceSpot → ℕ → SliceSpot
    judged_spot b x e = pick b x (nothing (refused e))

    placed-tests : (a b d e f g p q : Bool) (x y z u v : ℕ) (l m : ℕ) → l ≡ lane_of s id → m ≡ lowest_free_of s.lanes s.settings.lanes → ignores s id ≡ b → in_lane_of s id ≡ e → eqb (constructor_at s l).num_slices num ≡ f
        → eqb (piece_refusal s (constructor_at s l) i n) 0 ≡ p → eqb (piece_refusal s (c.blank_of id num) i n) 0 ≡ q
        → lane_spot s id num small lane ≡ ladder a b d e f g (opened l) (fresh m) (refused 8) (refused x) (refused y) (refused z)
        → Placed (ladder a b d e f g (judged_spot p (opened l) u) (judged_spot q (fresh m) v) (refused 8) (refused x) (refused y) (refused z))
    placed-tests false b d e f g p q x y z u v l m el em eb ee ef ep eq h = turned-away z
    placed-tests true true d e f g p q x y z u v l m el em eb ee ef ep eq h = held-already eb
    placed-tests true false false e f g p q x y z u v l m el em eb ee ef ep eq h = turned-away y
    placed-tests true false true true false g p q x y z u v l m el em eb ee ef ep eq h = turned-away 8
    placed-tests true false true true true g true q x y z u v l m el em eb ee ef ep eq h = in-open l el eb ee (eqb-true _ _ ef) h (eqb-true _ _ ep)
    placed-tests true false true true true g false q x y z u v l m el em eb ee ef ep eq h = turned-away u
    placed-tests true false true false f false p q x y z u v l m el em eb ee ef ep eq h = turned-away x
    placed-tests true false true false f true p true x y z u v l m el em eb ee ef ep eq h = in-fresh m em eb ee h (eqb-true _ _ eq)
    placed-tests true false true false f true p false x y z u v l m el em eb ee ef ep eq h = turned-away v

    pub slice-placed : Placed (slice_spot s id num i n small lane)
    unfolding slice_spot open_spot fresh_spot lane_spot open_lane fresh_lane
    slice-placed =
        placed-tests (eqb (entry_refusal s id small lane) 0) (ignores s id) (eqb (count_refusal s num) 0) (in_lane_of s id) (eqb (constructor_at s (lane_of s id)).num_slices num)
        (eqb (fresh_refusal s num) 0) (eqb (piece_refusal s (constructor_at s (lane_of s id)) i n) 0) (eqb (piece_refusal s (c.blank_of id num) i n) 0)
        (fresh_refusal s num) (count_refusal s num) (entry_refusal s id small lane) (piece_refusal s (constructor_at s (lane_of s id)) i n) (piece_refusal s (c.blank_of id num) i n)
        (lane_of s id) (lowest_free_of s.lanes s.settings.lanes) refl refl refl refl refl refl refl refl
