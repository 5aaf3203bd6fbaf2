-- The sender's own calls keep its state valid, by what `send_reliable` proves of its definitions. Assumes nothing.
use Prim.Native.Nat.{ℕ, ◌≤◌, ◌<◌}
use mathlib.Core.Path.{◌≡◌, refl, sym}
use mathlib.Core.Bool.{true}
use mathlib.Core.List.{[]}
use lib.ListN.{length}
use Rattle.words.specs.Sizes.{LIMIT}
use Rattle.channel.specs.Settings.{stores_hold_of, small_len_of, lanes_len_of}
use Rattle.channel.proofs.Good.{stores-room}
use Rattle.send_reliable.specs.declared.SendChannelReliable.{SendChannelReliable}
use Rattle.send_reliable.specs.Sender.{Valid}
use Rattle.send_reliable.specs.Queue.{Spot, spot_of, state_at}
use Rattle.send_reliable.specs.Ack.{row_of, ack_small, ack_piece}
use Rattle.send_reliable.specs.Round.{Given, refusal_of, state_after}
use Rattle.send_reliable.proofs.Valid.{add-small-valid, add-sliced-valid, without-small-valid, without-sliced-valid, marked-valid}
use Rattle.send_reliable.proofs.Select.{select-valid}
use Rattle.send_reliable.proofs.Rounds.{entry-tests}
use Rattle.delivery.proofs.Sender.{round-judged}
use Rattle.delivery.proofs.Cases.{spot-cases, found, small_cases, piece-cases}

module _ (s : SendChannelReliable) (v : Valid s) where
  pub queue-valid : (n small lanes : ℕ) → Valid (state_at s n (spot_of s n small lanes))
  queue-valid n small lanes =
      spot-cases s v n small lanes (λ (x : Spot). Valid (state_at s n x)) (λ i c _. add-small-valid s v n i c) (λ l c _. add-sliced-valid s v n l c) (λ _. v)

  pub small-valid : (x : ℕ) → Valid (ack_small s x).state
  small-valid x = small_cases s x Valid v (λ i t low e. without-small-valid s v (row_of s x) (found s x) (record { low = low; row = refl }) i t e)

  pub piece-valid : (x i : ℕ) → Valid (ack_piece s x i).state
  piece-valid x i =
      piece-cases s x Valid v i
      (λ l a next c _. without-sliced-valid s v (row_of s x) (found s x) (record { low = c.low; row = refl }) l a next c.kind)
      (λ l a next c more. marked-valid s v (row_of s x) (found s x) (record { low = c.low; row = refl }) l a next c.kind i c.index c.fresh more)

  -- a round that is not refused: the stores hold, and the time is not before the latest
  module _ (g : Given) (out table : ℕ) (e : refusal_of s g out table ≡ 0) where
    entered : (stores_hold_of s.settings (length g.small) (length g.lanes) ≡ true) × (g.seq < LIMIT) × (s.latest ≤ g.now)
    entered = entry-tests s v g [] [] (sym (round-judged s g out table e).0)

    pub round_room : (small_len_of s.settings ≤ length g.small) × (lanes_len_of s.settings ≤ length g.lanes)
    round_room = stores-room s.settings (length g.small) (length g.lanes) entered.0

    pub round-valid : Valid (state_after s g)
    unfolding state_after
    round-valid = select-valid s v g.now entered.2 g.allowance
