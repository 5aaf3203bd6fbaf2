-- The sender's calls, case by case: where a message that is queued goes, and what an ack changes. Assumes nothing.
use Prim.Native.Nat.{ℕ, ◌+◌, ◌≤◌, ◌<◌}
use mathlib.Core.Path.{◌≡◌, refl}
use mathlib.Core.Bool.{false}
use lib.Dec.{ltb, leb, eqb}
use lib.ListN.{get_or, set}
use borrow.Author.Tests.{ltb-true, leb-false, eqb-true, eqb-false}
use Rattle.words.specs.Sizes.{LIMIT}
use Rattle.words.specs.Pieces.{pieces_of}
use Rattle.words.proofs.Tables.{pick-cases}
use Rattle.channel.specs.Settings.{small_len_of, lanes_len_of}
use Rattle.send_reliable.specs.declared.Kind.{Kind}
use Rattle.send_reliable.specs.declared.Kind.TheVariants.{Small, Sliced}
use Rattle.send_reliable.specs.declared.Row.{Row}
use Rattle.send_reliable.specs.declared.SendChannelReliable.{SendChannelReliable}
use Rattle.send_reliable.specs.Sender.{Sending, kind_of, no_row, piece_at, Valid}
use Rattle.send_reliable.specs.Queue.{Spot, cell, lane, refused, spot_of}
use Rattle.send_reliable.specs.Ack.{row_of, without, After, ack_row, small_kind, ack_small, marked, with_ack, piece_kind_of, ack_piece}
use Rattle.send_reliable.proofs.Valid.{CellFree, LaneFree}
use Rattle.send_reliable.proofs.Queueing.{spot-cell, spot-lane}

-- ---- queueing: a free cell, a free lane, or a refusal

pub spot-cases :
    (s : SendChannelReliable) → Valid s → (n small lanes : ℕ) (P : Spot → Type 0)
    → ((i : ℕ) → CellFree s n i → small_len_of s.settings ≤ small → P (cell i))
    → ((l : ℕ) → LaneFree s n l → lanes_len_of s.settings ≤ lanes → P (lane l))
    → ((e : ℕ) → P (refused e)) → P (spot_of s n small lanes)
spot-cases s v n small lanes P in_Cell in_lane stays = at (spot_of s n small lanes) refl
  where
    at : (x : Spot) → spot_of s n small lanes ≡ x → P x
    at (cell i) e = let c = spot-cell s v n small lanes i e in in_Cell i c.0 c.1
    at (lane l) e = let c = spot-lane s v n small lanes l e in in_lane l c.0 c.1
    at (refused n) e = stays n

-- ---- an ack of message x: its row is found, or nothing changes

abbrev pub found : SendChannelReliable → ℕ → Row
found s x = get_or s.rows (row_of s x) no_row

-- piece i of it, which is sliced, was not acknowledged before
pub record NewAck (s : SendChannelReliable) (x i l a next : ℕ) : Type 0 where
  pub low : row_of s x < s.count
  pub kind : kind_of (found s x) ≡ Sliced l a next
  pub index : i < pieces_of (found s x).len
  pub fresh : (piece_at s l i).acked ≡ false

module _ (s : SendChannelReliable) (x : ℕ) (P : SendChannelReliable → Type 0) (stays : P s) where
  row-cases : (f : ℕ → Row → After) → (row_of s x < s.count → P (f (row_of s x) (found s x)).state) → P (ack_row s x f).state
  unfolding ack_row
  row-cases f g =
      pick-cases (λ (a : After). P a.state) (leb LIMIT x) (λ _. stays)
      (λ _. pick-cases (λ (a : After). P a.state) (ltb (row_of s x) s.count) (λ t. g (ltb-true _ _ t)) (λ _. stays))

  -- a small message is gone
  pub small_cases :
      ((i : ℕ) (t : Sending) → row_of s x < s.count → kind_of (found s x) ≡ Small i t → P (without s (row_of s x) (found s x).len (set s.cells i false) s.lanes))
      → P (ack_small s x).state
  unfolding ack_small
  small_cases gone = row-cases (λ k r. small_kind s k r (kind_of r)) (λ low. at low (kind_of (found s x)) refl)
    where
      at : row_of s x < s.count → (kd : Kind) → kind_of (found s x) ≡ kd → P (small_kind s (row_of s x) (found s x) kd).state
      at low (Small i t) e = gone i t low e
      at low (Sliced l a next) e = stays

  -- the last piece takes a sliced message away, another one is marked
  module _ (i : ℕ)
      (gone : (l a next : ℕ) → NewAck s x i l a next → a + 1 ≡ pieces_of (found s x).len → P (without s (row_of s x) (found s x).len s.cells (set s.lanes l false)))
      (marks : (l a next : ℕ) → NewAck s x i l a next → (a + 1 ≡ pieces_of (found s x).len → ⊥) → P (marked s (row_of s x) l a next i (found s x))) where
    pub piece-cases : P (ack_piece s x i).state
    unfolding ack_piece with_ack
    piece-cases = row-cases (λ k r. piece_kind_of s k i r (kind_of r)) (λ low. at low (kind_of (found s x)) refl)
      where
        at : row_of s x < s.count → (kd : Kind) → kind_of (found s x) ≡ kd → P (piece_kind_of s (row_of s x) i (found s x) kd).state
        at low (Small j t) e = stays
        at low (Sliced l a next) e =
            pick-cases (λ (z : After). P z.state) (leb (pieces_of (found s x).len) i) (λ _. stays)
            (λ t. pick-cases P (piece_at s l i).acked (λ _. stays)
            (λ u.
            let c : NewAck s x i l a next = record { low = low; kind = e; index = leb-false _ _ t; fresh = u } in
            pick-cases P (eqb (a + 1) (pieces_of (found s x).len)) (λ n. gone l a next c (eqb-true _ _ n)) (λ n. marks l a next c (eqb-false _ _ n))))
