-- What is true of the sender in every world that a new pair can reach: its state is valid, and the time of the last accepted round is its latest
-- time, or nothing was ever sent. Assumes nothing.
use Prim.Native.Nat.{ℕ, suc, ◌+◌, ◌-◌, ◌*◌}
use mathlib.Core.Path.{◌≡◌, refl, sym, ◌∙◌}
use mathlib.Core.Bool.{Bool, false}
use mathlib.Core.List.{List, [], ◌∷◌, ◌++◌}
use mathlib.Core.Option.{Option, none, some}
use lib.ListN.{length, get_elem?, set, take, drop, replicate}
use lib.Seq.{paste}
use borrow.Author.Tests.{eqb-true}
use Rattle.words.specs.Sizes.{PIECES, LANES}
use Rattle.words.specs.Pieces.{pieces_of}
use Rattle.words.specs.Lists.{All}
use Rattle.words.proofs.Lists.{all_append, all_take, all_drop}
use Rattle.words.proofs.Entries.{all_set, all-splice, all_replicate}
use Rattle.words.proofs.Tables.{pick-cases}
use Rattle.channel.specs.declared.Settings.{Settings}
use Rattle.channel.proofs.Good.{good}
use Rattle.std.specs.Prelude.{None, Some}
use Rattle.send_reliable.specs.declared.Row.{Row}
use Rattle.send_reliable.specs.declared.SendChannelReliable.{SendChannelReliable}
use Rattle.send_reliable.specs.Sender.{ROWS, new_of, no_row, no_piece, Valid}
use Rattle.send_reliable.specs.Queue.{Spot, spot_of, add_small, add_sliced, state_at}
use Rattle.send_reliable.specs.Ack.{row_of, closed, without, marked}
use Rattle.send_reliable.specs.Round.{state_after}
use Rattle.delivery.specs.World.{Sent, Bytes, Part, whole, piece, World, Setup, Accepted, new, Event, queues, rounds, arrives, looks, takes, hears, given_now, goes, queueing, sending, arriving, taking, hearing, ack_of, step, run}
use Rattle.send_reliable.proofs.Valid.{new-valid}
use Rattle.delivery.proofs.Cases.{spot-cases, found, small_cases, piece-cases}
use Rattle.delivery.proofs.Keeps.{queue-valid, small-valid, piece-valid, round-valid}
use Rattle.delivery.proofs.Lists.{all_get_d}
use Rattle.delivery.proofs.Turn.{UnsentRow, UnsentPiece, Clocked}

-- ---- the clock

all_closed : (P : Row → Type 0) (rows : List Row) (k n : ℕ) → P no_row → All P rows → All P (closed rows k n)
all_closed P rows k n z a =
    all_set P (paste rows k (drop (suc k) rows) (n - 1 - k)) (n - 1) no_row
    (all_append P (take k rows ++ take (n - 1 - k) (drop (suc k) rows)) (drop (k + (n - 1 - k)) rows)
    (all_append P (take k rows) (take (n - 1 - k) (drop (suc k) rows)) (all_take P k rows a) (all_take P (n - 1 - k) (drop (suc k) rows) (all_drop P (suc k) rows a)))
    (all_drop P (k + (n - 1 - k)) rows a))
    z

clock-new : (channel : ℕ) (st : Settings) (resend : ℕ) → Clocked None (new_of channel st resend)
unfolding new_of
clock-new channel st resend = (all_replicate UnsentRow ROWS no_row refl, all_replicate UnsentPiece (LANES * PIECES) no_piece refl)

module _ (last : Sent) (s : SendChannelReliable) where
  -- a state with the same latest time, and with rows and pieces that were not sent if those before were not
  clock-keeps : (s' : SendChannelReliable) → s'.latest ≡ s.latest → (All UnsentRow s.rows → All UnsentPiece s.pieces → All UnsentRow s'.rows × All UnsentPiece s'.pieces)
      → Clocked last s → Clocked last s'
  clock-keeps s' e f c = at last c
    where
      at : (x : Sent) → Clocked x s → Clocked x s'
      at None c = f c.0 c.1
      at (Some t) c = c ∙ sym e

  clock-queue : Valid s → (n small lanes : ℕ) → Clocked last s → Clocked last (state_at s n (spot_of s n small lanes))
  unfolding add_small add_sliced
  clock-queue v n small lanes c =
      spot-cases s v n small lanes (λ (x : Spot). Clocked last (state_at s n x))
      (λ i _ _. clock-keeps (add_small s i n) refl (λ r p. (all_set UnsentRow s.rows s.count _ r refl, p)) c)
      (λ l _ _.
      clock-keeps (add_sliced s l n) refl
      (λ r p. (all_set UnsentRow s.rows s.count _ r tt, all-splice UnsentPiece _ (replicate (pieces_of n) no_piece) s.pieces (all_replicate UnsentPiece (pieces_of n) no_piece refl) p)) c)
      (λ _. c)

  clock-without : (k n : ℕ) (cs ls : List Bool) → Clocked last s → Clocked last (without s k n cs ls)
  clock-without k n cs ls c =
      clock-keeps (without s k n cs ls) refl (λ r p. (all_closed UnsentRow s.rows k s.count refl r, p)) c

  clock-marked : (k l a next i : ℕ) (r : Row) → Clocked last s → Clocked last (marked s k l a next i r)
  clock-marked k l a next i r c =
      clock-keeps (marked s k l a next i r) refl
      (λ rs p. (all_set UnsentRow s.rows k _ rs tt, all_set UnsentPiece s.pieces (l * PIECES + i) _ p (all_get_d UnsentPiece s.pieces (l * PIECES + i) no_piece p refl))) c

  clock-ack : (p : Option Part) → Clocked last s → Clocked last (ack_of p s)
  clock-ack none c = c
  clock-ack (some (whole x)) c = small_cases s x (Clocked last) c (λ i t low e. clock-without (row_of s x) (found s x).len (set s.cells i false) s.lanes c)
  clock-ack (some (piece x i)) c =
      piece-cases s x (Clocked last) c i
      (λ l a next _ _. clock-without (row_of s x) (found s x).len s.cells (set s.lanes l false) c)
      (λ l a next _ _. clock-marked (row_of s x) l a next i (found s x) c)

-- ---- in every world

pub record SenderGood (w : World) : Type 0 where
  pub valid : Valid w.sender.state
  pub clocked : Clocked w.last w.sender.state

pub good_new : (u : Setup) → Accepted u → SenderGood (new u)
unfolding new
good_new u a = record { valid = new-valid u.channel u.sending u.resend (good u.sending a.sending); clocked = clock-new u.channel u.sending u.resend }

ack-valid : (p : Option Part) (s : SendChannelReliable) → Valid s → Valid (ack_of p s)
ack-valid none s v = v
ack-valid (some (whole x)) s v = small-valid s v x
ack-valid (some (piece x i)) s v = piece-valid s v x i

pub good-step : (ev : Event) (w : World) → SenderGood w → SenderGood (step ev w)
unfolding step queueing sending arriving taking hearing state_after
good-step (queues msg) w g =
    record { valid = queue-valid w.sender.state g.valid (length msg) _ _; clocked = clock-queue w.last w.sender.state g.valid (length msg) _ _ g.clocked }
good-step (rounds seq now allowance out table) w g =
    pick-cases SenderGood (goes w.sender.state (given_now seq now allowance w.sender) out table)
    (λ t. record { valid = round-valid w.sender.state g.valid (given_now seq now allowance w.sender) (length out) (length table) (eqb-true _ _ t); clocked = refl })
    (λ _. g)
good-step (arrives k ms rs) w g = at (get_elem? w.wire k)
  where
    at : (o : Option Bytes) → SenderGood (arriving o ms rs w)
    at none = g
    at (some bs) = record { valid = g.valid; clocked = g.clocked }
good-step looks w g = g
good-step takes w g = record { valid = g.valid; clocked = g.clocked }
good-step (hears k) w g =
    record { valid = ack-valid (get_elem? w.receiver.took k) w.sender.state g.valid; clocked = clock-ack w.last w.sender.state (get_elem? w.receiver.took k) g.clocked }

pub good-run : (evs : List Event) (w : World) → SenderGood w → SenderGood (run evs w)
unfolding run
good-run [] w g = g
good-run (ev ∷ evs) w g = good-run evs (step ev w) (good-step ev w g)
