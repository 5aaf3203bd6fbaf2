-- Settings that were not refused are good, and bound the stores that they ask for. Assumes nothing.
use Prim.Native.Nat.{ℕ, ◌+◌, ◌*◌, ◌≤◌, ◌<◌}
use mathlib.Core.Path.{◌≡◌, refl, sym, ◌∙◌}
use mathlib.Core.Bool.{Bool, true, false}
use mathlib.Core.List.{[], ◌∷◌}
use native.Mathlib.Nat.{suc-mul, mul-le-mul, mul-le-mul_right}
use native.Mathlib.Omega.{arith}
use borrow.Author.Tests.{ltb-false, leb-true}
use lib.Dec.{ltb, leb}
use Rattle.words.specs.Sizes.{SLICE_SIZE, SLOTS, LANES, PIECES, MAX_MEMORY}
use Rattle.words.specs.Choice.{pick}
use Rattle.words.specs.Lists.{All}
use Rattle.words.specs.Refusal.{number_of}
use Rattle.words.specs.declared.Refusal.{Refusal}
use Rattle.words.proofs.Lists.{none-refused}
use Rattle.words.proofs.Unique.{numbered-above}
use Rattle.channel.specs.Settings.{settings_refusal, SettledGives, Good, least_settings, small_len_of, lane_len_of, lanes_len_of, stores_hold_of}
use Rattle.channel.specs.declared.Settings.{Settings}
use Rattle.std.specs.Prelude.{Ok, Err}

pub good : (s : Settings) → settings_refusal s ≡ 0 → Good s
unfolding settings_refusal All
good s e =
    let a =
    none-refused (
    (ltb s.slots 1, 9) ∷
    (ltb SLOTS s.slots, 9) ∷
    (ltb s.lanes 1, 9) ∷
    (ltb LANES s.lanes, 9) ∷
    (ltb s.pieces 1, 9) ∷
    (ltb PIECES s.pieces, 9) ∷
    (ltb MAX_MEMORY s.max_memory_usage_bytes, 9) ∷ []
    )
    refl e in
    record {
      slots-one = ltb-false _ _ a.0;
      slots-most = ltb-false _ _ a.1.0;
      lanes-one = ltb-false _ _ a.1.1.0;
      lanes-most = ltb-false _ _ a.1.1.1.0;
      pieces-one = ltb-false _ _ a.1.1.1.1.0;
      pieces-most = ltb-false _ _ a.1.1.1.1.1.0;
      max-most = ltb-false _ _ a.1.1.1.1.1.1.0;
    }

pub least-good : Good least_settings
least-good = record { slots-one = omega arith; slots-most = omega arith; lanes-one = omega arith; lanes-most = omega arith; pieces-one = omega arith; pieces-most = omega arith; max-most = omega arith }

-- what is settled, by the judgement
module _ (s : Settings) where
  pub settled-ready : settings_refusal s ≡ 0 → SettledGives s (record { answer = Ok tt; settings = s })
  settled-ready e = record { number = sym e; settings = rw e; good = good s e }

  pub settled-refused : (e : Refusal) → settings_refusal s ≡ number_of e → SettledGives s (record { answer = Err e; settings = least_settings })
  settled-refused e h = record { number = sym h; settings = rw (h, numbered-above e); good = least-good }

pub lane-most : (s : Settings) → Good s → lane_len_of s ≤ PIECES * SLICE_SIZE
lane-most s g = omega (arith, g.pieces-most)

pub lanes-most : (s : Settings) → Good s → lanes_len_of s ≤ LANES * (PIECES * SLICE_SIZE)
lanes-most s g = mul-le-mul g.lanes-most (lane-most s g)

-- lane l lies within them
pub lane-within : (s : Settings) (l : ℕ) → l < s.lanes → l * lane_len_of s + lane_len_of s ≤ lanes_len_of s
lane-within s l h = rw suc-mul at (mul-le-mul_right (lane_len_of s) h)

pub lane-end : (s : Settings) → Good s → (l : ℕ) → l < s.lanes → l * lane_len_of s + lane_len_of s ≤ LANES * (PIECES * SLICE_SIZE)
lane-end s g l h = let w = lane-within s l h in let m = lanes-most s g in omega arith

-- stores that hold are as long as they must be
pub stores-room : (s : Settings) (small lane : ℕ) → stores_hold_of s small lane ≡ true → (small_len_of s ≤ small) × (lanes_len_of s ≤ lane)
stores-room s small lane e = room (ltb small (small_len_of s)) (leb (lanes_len_of s) lane) refl refl e where
  room : (t u : Bool) → ltb small (small_len_of s) ≡ t → leb (lanes_len_of s) lane ≡ u → pick t false u ≡ true → (small_len_of s ≤ small) × (lanes_len_of s ≤ lane)
  room true u a b f = absurd (let z : ◌≡◌ {A = ℕ} 0 1 = cc in omega arith)
  room false u a b f = (ltb-false _ _ a, leb-true _ _ (b ∙ f))
