-- Each change of a sender keeps it valid. Assumes nothing.
use Prim.Native.Nat.{ℕ, ◌+◌, ◌≤◌, ◌<◌, zero-le}
use mathlib.Core.Path.{◌≡◌, refl, ap, ◌∙◌}
use mathlib.Core.Bool.{Bool, true, false}
use mathlib.Core.List.{[], ◌∷◌, ◌++◌}
use native.Mathlib.Omega.{arith}
use native.Mathlib.Numerals.{add-one}
use lib.ListN.{length-set}
use lib.Seq.{take-suc-set, get_or-set_other}
use Rattle.words.specs.Sizes.{LIMIT}
use Rattle.words.specs.Choice.{pick}
use Rattle.words.specs.Lists.{total, All}
use Rattle.words.proofs.Lists.{total-snoc, all_snoc}
use Rattle.channel.specs.Settings.{Good, lane_len_of}
use Rattle.channel.specs.declared.Settings.{Settings}
use Rattle.send_unreliable.specs.Sender.{ROWS, empty_of, waiting, is_small, Valid, queued}
use Rattle.send_unreliable.specs.Steps.{small_one, sliced_one}
use Rattle.send_unreliable.specs.declared.SendChannelUnreliable.{SendChannelUnreliable}
use Rattle.send_unreliable.proofs.Lists.{get_or-blank}

pub empty-valid : (channel : ℕ) (s : Settings) (id : ℕ) → Good s → id ≤ LIMIT → Valid (empty_of channel s id)
unfolding empty_of total All
empty-valid channel s id g h =
    record {
      settings = g;
      id-most = h;
      lens-long = refl;
      blank = λ i l. get_or-blank {A = ℕ} ROWS i 0;
      small-most = zero-le;
      sliced-most = zero-le;
      counted = refl;
      small_is = refl;
      long = tt;
      usage = refl;
      usage-most = zero-le;
    }

-- a message is small, or it is not
pub one-kind : (n : ℕ) → small_one n + sliced_one n ≡ 1
one-kind n = by (is_small n) where
  by : (b : Bool) → pick b 1 0 + pick b 0 1 ≡ 1
  by true = refl
  by false = refl

module _ (s : SendChannelUnreliable) (v : Valid s) where
  -- there is a row for each cell and each lane
  pub rows-free : s.small + s.sliced < s.settings.slots + s.settings.lanes → s.count < ROWS
  rows-free h = omega (arith, v.counted, v.settings.slots-most, v.settings.lanes-most)

  module _ (n small sliced : ℕ) (row : s.count < ROWS) where
    -- it waits after the others
    pub grown : waiting (queued s n small sliced) ≡ waiting s ++ (n ∷ [])
    grown = rw add-one (take-suc-set s.lens s.count n (omega (arith, v.lens-long)))

    pub queued-valid : n ≤ lane_len_of s.settings → s.memory_usage_bytes + n ≤ s.settings.max_memory_usage_bytes
        → small ≡ s.small + small_one n → sliced ≡ s.sliced + sliced_one n → small ≤ s.settings.slots → sliced ≤ s.settings.lanes
        → Valid (queued s n small sliced)
    queued-valid q m es el hs hl =
        let k = one-kind n in
        record {
          settings = v.settings;
          id-most = v.id-most;
          lens-long = simp length-set v.lens-long;
          blank = λ i l. get_or-set_other s.lens s.count i n 0 (λ e. omega arith) ∙ v.blank i (omega arith);
          small-most = hs;
          sliced-most = hl;
          counted = omega (arith, v.counted);
          small_is = rw (grown, total-snoc) (es ∙ ap (λ (x : ℕ). x + small_one n) v.small_is);
          long = rw grown (all_snoc (λ x. x ≤ lane_len_of s.settings) (waiting s) n v.long q);
          usage = rw (grown, total-snoc) (ap (λ (x : ℕ). x + n) v.usage);
          usage-most = m;
        }
