-- The sender's marks: each piece that it has marked as acknowledged is one that the receiver took. Assumes nothing.
use Prim.Native.Nat.{ℕ, ◌+◌, ◌*◌, ◌≤◌, ◌<◌}
use mathlib.Core.Path.{◌≡◌, refl, sym, ap, ◌∙◌, subst}
use mathlib.Core.Bool.{Bool, true, false}
use mathlib.Core.List.{List, []}
use mathlib.Core.Logic.{inl, inr}
use mathlib.Core.Option.{Option, none, some}
use native.Mathlib.Omega.{arith}
use lib.Dec.{ltb}
use lib.ListN.{length, get_or, take, replicate, length-take, length-replicate, get_or-replicate}
use lib.Seq.{get_or-set_other, get_or-take, take-set-lt}
use borrow.Author.Tests.{ltb-true, ltb-false, eqb-true}
use Rattle.words.specs.Sizes.{SLICE_SIZE, PIECES}
use Rattle.words.specs.Pieces.{pieces_of}
use Rattle.words.specs.Lists.{All}
use Rattle.words.proofs.Lists.{all_map, all_both, all_snoc, all-at, all_without, first-hit}
use Rattle.words.proofs.Entries.{all-anew, live-closed}
use Rattle.words.proofs.Tables.{by-test, by_place}
use Rattle.channel.specs.declared.Settings.{Settings}
use Rattle.send_reliable.specs.declared.Kind.{Kind}
use Rattle.send_reliable.specs.declared.Kind.TheVariants.{Small, Sliced}
use Rattle.send_reliable.specs.declared.Row.{Row}
use Rattle.send_reliable.specs.declared.Piece.{Piece}
use Rattle.send_reliable.specs.declared.SendChannelReliable.{SendChannelReliable}
use Rattle.send_reliable.specs.Sender.{kind_of, as_row, new_of, no_row, no_piece, live, PlacedKind, Placed, Apart, Before, Valid}
use Rattle.send_reliable.specs.Queue.{Spot, spot_of, add_small, add_sliced, state_at}
use Rattle.send_reliable.specs.Ack.{has_id, row_of, without, marked}
use Rattle.send_reliable.specs.Select.{visits_from, Chosen, select}
use Rattle.send_reliable.specs.Round.{Given, chosen, state_after}
use Rattle.send_reliable.proofs.Valid.{rows-room, live-long}
use Rattle.delivery.specs.World.{Part, whole, piece, ack_of}
use Rattle.delivery.specs.Window.{In, acked_at}
use Rattle.delivery.proofs.Lists.{all-index, front-snoc, splice-away, splice-here, all-pair, never}
use Rattle.delivery.proofs.Walk.{Told, bare_kind, kept-visits}
use Rattle.delivery.proofs.Sender.{cell-more, lane-more}
use Rattle.delivery.proofs.Cases.{spot-cases, found, small_cases, piece-cases}

abbrev pub AckedKind : List Part → SendChannelReliable → ℕ → ℕ → Kind → Type 0
AckedKind took s id n (Small i t) = Unit
AckedKind took s id n (Sliced l a next) = (i : ℕ) → i < pieces_of n → acked_at s l i ≡ true → In (piece id i) took

abbrev pub AckedRow : List Part → SendChannelReliable → Row → Type 0
AckedRow took s r = AckedKind took s r.id.0 r.len (kind_of r)

pub record AckedIn (took : List Part) (s : SendChannelReliable) : Type 0 where
  pub rows : All (AckedRow took s) (live s)

-- ---- what does not matter

-- the same flags in its lane
abbrev SameFlags : SendChannelReliable → SendChannelReliable → Kind → Type 0
SameFlags s s' (Small i t) = Unit
SameFlags s s' (Sliced l a next) = (i : ℕ) → i < PIECES → acked_at s' l i ≡ acked_at s l i

kind-like : (took : List Part) (s s' : SendChannelReliable) (id n : ℕ) (kd : Kind) → n ≤ PIECES * SLICE_SIZE → SameFlags s s' kd → AckedKind took s id n kd → AckedKind took s' id n kd
kind-like took s s' id n (Small i t) p f h = tt
kind-like took s s' id n (Sliced l a next) p f h = λ i low e. h i low (sym (f i (omega arith)) ∙ e)

same-pieces : (s s' : SendChannelReliable) (kd : Kind) → s'.pieces ≡ s.pieces → SameFlags s s' kd
same-pieces s s' (Small i t) e = tt
same-pieces s s' (Sliced l a next) e = λ i low. ap (λ (ps : List Piece). (get_or ps (l * PIECES + i) no_piece).acked) e

more-kind : (took took' : List Part) (s : SendChannelReliable) (id n : ℕ) (kd : Kind) → ((p : Part) → In p took → In p took') → AckedKind took s id n kd → AckedKind took' s id n kd
more-kind took took' s id n (Small i t) f h = tt
more-kind took took' s id n (Sliced l a next) f h = λ i low e. f (piece id i) (h i low e)

pub acked-more : (took took' : List Part) (s : SendChannelReliable) → ((p : Part) → In p took → In p took') → AckedIn took s → AckedIn took' s
acked-more took took' s f h = record { rows = all_map _ _ (λ r x. more-kind took took' s r.id.0 r.len (kind_of r) f x) (live s) h.rows }

-- a message is no longer than its pieces
placed-short : (s : SendChannelReliable) → Valid s → (n : ℕ) (kd : Kind) → PlacedKind s n kd → n ≤ PIECES * SLICE_SIZE
placed-short s v n (Small i t) p = omega (arith, p.2)
placed-short s v n (Sliced l a next) p = omega (arith, p.3, v.settings.pieces-most)

pub acked-new : (took : List Part) (channel : ℕ) (st : Settings) (resend : ℕ) → AckedIn took (new_of channel st resend)
unfolding new_of All
acked-new took channel st resend = record { rows = tt }

module _ (took : List Part) (s : SendChannelReliable) (v : Valid s) (h : AckedIn took s) where
  -- each row with what is known of its place
  known : All (λ (r : Row). Placed s r × AckedRow took s r) (live s)
  known = all-pair (Placed s) (AckedRow took s) (live s) v.placed h.rows

  -- a state whose flags in the lanes of the rows are the same
  rows-like : (s' : SendChannelReliable) → ((r : Row) → Placed s r → SameFlags s s' (kind_of r)) → All (AckedRow took s') (live s)
  unfolding Placed
  rows-like s' f =
      all_both (Placed s) (AckedRow took s) (AckedRow took s')
      (λ r p x. kind-like took s s' r.id.0 r.len (kind_of r) (placed-short s v r.len (kind_of r) p.1) (f r p) x) (live s) v.placed h.rows

  -- ---- queueing

  small-acked : (i n : ℕ) → i < s.settings.slots → get_or s.cells i false ≡ false → AckedIn took (add_small s i n)
  unfolding add_small
  small-acked i n low free =
      record {
        rows = rw (front-snoc s.count s.rows _ (cell-more s v i low free))
            (all_snoc _ (live s) _ (rows-like (add_small s i n) (λ r p. same-pieces s (add_small s i n) (kind_of r) refl)) tt);
      }

  module _ (m n : ℕ) (low : m < s.settings.lanes) (free : get_or s.lanes m false ≡ false) (most : n ≤ s.settings.pieces * SLICE_SIZE) where
    other-flags : (k : ℕ) (kd : Kind) → PlacedKind s k kd → SameFlags s (add_sliced s m n) kd
    unfolding add_sliced
    other-flags k (Small i t) p = tt
    other-flags k (Sliced l a next) p = λ j lowj.
        let g = v.settings.pieces-most in
        let d : m ≡ l → ⊥ = λ q. never _ p.1 (ap (λ (x : ℕ). get_or s.lanes x false) (sym q) ∙ free) in
        let e = length-replicate (pieces_of n) no_piece in
        ap (λ (x : Piece). x.acked) (splice-away (m * PIECES) (replicate (pieces_of n) no_piece) s.pieces (l * PIECES + j) no_piece
        (by-test (ltb l m) (λ t. inl (omega (arith, ltb-true l m t))) (λ t. inr (omega (arith, ltb-false l m t, d, e)))))

    new-flags : (i : ℕ) → i < pieces_of n → acked_at (add_sliced s m n) m i ≡ false
    unfolding add_sliced
    new-flags i lowi =
        let e = length-replicate (pieces_of n) no_piece in
        ap (λ (x : Piece). x.acked)
        (splice-here (m * PIECES) (replicate (pieces_of n) no_piece) s.pieces i no_piece (omega (arith, v.pieces-long, v.settings.pieces-most, v.settings.lanes-most)) (omega arith)
        ∙ get_or-replicate (pieces_of n) i no_piece no_piece lowi)

    lane-acked : AckedIn took (add_sliced s m n)
    unfolding add_sliced Placed
    lane-acked =
        record {
          rows = rw (front-snoc s.count s.rows _ (lane-more s v m low free))
              (all_snoc _ (live s) _ (rows-like (add_sliced s m n) (λ r p. other-flags r.len (kind_of r) p.1)) (λ i lowi e. never _ e (new-flags i lowi)));
        }

  pub queue-acked : (n small lanes : ℕ) → AckedIn took (state_at s n (spot_of s n small lanes))
  queue-acked n small lanes =
      spot-cases s v n small lanes (λ (x : Spot). AckedIn took (state_at s n x))
      (λ i c _. small-acked i n c.low c.free) (λ l c _. lane-acked l n c.low c.free c.limit) (λ _. h)

  -- ---- an ack of a piece that was taken

  without-acked : (k n : ℕ) (cs ls : List Bool) → k < s.count → AckedIn took (without s k n cs ls)
  without-acked k n cs ls low =
      record {
        rows = rw (live-closed s.rows k s.count no_row low (rows-room s v))
            (all_without _ (live s) k (rows-like (without s k n cs ls) (λ r p. same-pieces s (without s k n cs ls) (kind_of r) refl)));
      }

  module _ (k l a next i : ℕ) (r : Row) (low : k < s.count) (er : get_or s.rows k no_row ≡ r) (f : kind_of r ≡ Sliced l a next) (lowi : i < pieces_of r.len)
      (heard : In (piece r.id.0 i) took) where
    abbrev s' : SendChannelReliable
    s' = marked s k l a next i r

    live-low : k < length (live s)
    live-low = let n = live-long s v in omega arith

    row_is : get_or (live s) k no_row ≡ r
    row_is = get_or-take s.count s.rows k no_row low ∙ er

    row-known : PlacedKind s r.len (Sliced l a next) × AckedKind took s r.id.0 r.len (Sliced l a next)
    unfolding Placed
    row-known =
        let x = subst (λ (y : Row). Placed s y × AckedRow took s y) row_is (all-at _ (live s) k no_row live-low known) in
        (subst (PlacedKind s r.len) f x.0.1, subst (AckedKind took s r.id.0 r.len) f x.1)

    -- another lane
    apart-flags : (n : ℕ) (kd : Kind) → Apart (Sliced l a next) kd → SameFlags s s' kd
    apart-flags n (Small j t) p = tt
    apart-flags n (Sliced m b c) p = λ j lowj.
        ap (λ (x : Piece). x.acked) (get_or-set_other s.pieces (l * PIECES + i) (m * PIECES + j) _ no_piece
        (λ q. p (omega (arith, row-known.0.3, v.settings.pieces-most))))

    flip : (x y : Kind) → Apart x y → Apart y x
    flip (Small i t) (Small j u) p = λ q. p (sym q)
    flip (Small i t) (Sliced m b c) p = tt
    flip (Sliced m b c) (Small i t) p = tt
    flip (Sliced m b c) (Sliced n d e) p = λ q. p (sym q)

    other_row : (x : Row) → Placed s x × AckedRow took s x → Apart (Sliced l a next) (kind_of x) → AckedRow took s' x
    unfolding Placed
    other_row x p q = kind-like took s s' x.id.0 x.len (kind_of x) (placed-short s v x.len (kind_of x) p.0.1) (apart-flags x.len (kind_of x) q) p.1

    own_row : AckedKind took s' r.id.0 r.len (Sliced l (a + 1) next)
    own_row = λ j lowj e.
        by_place i j
        (λ q. subst (λ (m : ℕ). In (piece r.id.0 m) took) (sym q) heard)
        (λ ne. row-known.1 j lowj (sym (ap (λ (x : Piece). x.acked) (get_or-set_other s.pieces (l * PIECES + i) (l * PIECES + j) _ no_piece (λ q. ne (omega arith)))) ∙ e))

    marked-acked : AckedIn took s'
    unfolding Before
    marked-acked =
        record {
          rows = rw (take-set-lt s.count s.rows k (as_row r.id r.len (Sliced l (a + 1) next)) low)
              (all-anew Before (λ (x : Row). Placed s x × AckedRow took s x) (AckedRow took s') (live s) k no_row _ live-low v.rising
              (λ x p b. other_row x p (flip (kind_of x) (Sliced l a next) (at x (subst (λ (y : Row). Apart (kind_of x) (kind_of y)) row_is b.1))))
              (λ x p b. other_row x p (subst (λ (kd : Kind). Apart kd (kind_of x)) f (subst (λ (y : Row). Apart (kind_of y) (kind_of x)) row_is b.1)))
              own_row known);
        }
      where
        at : (x : Row) → Apart (kind_of x) (kind_of r) → Apart (kind_of x) (Sliced l a next)
        at x b = subst (Apart (kind_of x)) f b

  -- the row that is found has the id
  found-id : (x : ℕ) → row_of s x < s.count → (get_or s.rows (row_of s x) no_row).id.0 ≡ x
  found-id x low =
      let n = live-long s v in
      let e = first-hit (has_id x) no_row (live s) (omega arith) in
      ap (λ (r : Row). r.id.0) (sym (get_or-take s.count s.rows (row_of s x) no_row low)) ∙ eqb-true _ _ e

  pub ack-acked : (o : Option Part) → ((p : Part) → o ≡ some p → In p took) → AckedIn took (ack_of o s)
  ack-acked none f = h
  ack-acked (some (whole x)) f = small_cases s x (AckedIn took) h (λ i t low e. without-acked (row_of s x) _ _ _ low)
  ack-acked (some (piece x i)) f =
      piece-cases s x (AckedIn took) h i (λ l a next c _. without-acked (row_of s x) _ _ _ c.low)
      (λ l a next c _.
      marked-acked (row_of s x) l a next i (found s x) c.low refl c.kind c.index
      (subst (λ (m : ℕ). In (piece m i) took) (sym (found-id x c.low)) (f (piece x i) refl)))

  -- ---- a round

  to-bare : (id n : ℕ) (kd : Kind) → AckedKind took s id n kd → AckedKind took s id n (bare_kind kd)
  to-bare id n (Small i t) x = tt
  to-bare id n (Sliced l a next) x = x

  from-bare : (later : SendChannelReliable) (id n : ℕ) (kd : Kind) → ((p : ℕ) → (get_or later.pieces p no_piece).acked ≡ (get_or s.pieces p no_piece).acked) → AckedKind took s id n (bare_kind kd)
      → AckedKind took later id n kd
  from-bare later id n (Small i t) f x = tt
  from-bare later id n (Sliced l a next) f x = λ i low e. x i low (sym (f (l * PIECES + i)) ∙ e)

  pub round-acked : (g : Given) → AckedIn took (state_after s g)
  unfolding state_after select
  round-acked g =
      let before : Chosen = record { left = g.allowance; items = []; rows = s.rows; pieces = s.pieces } in
      let kept = kept-visits s.settings s.resend_time g.now (visits_from 0 (live s)) before in
      let long = live-long s v in
      record {
        rows =
            all-index _ (take s.count (chosen s g).rows) no_row
            (λ k low.
            let n : k < s.count = let z = length-take s.count (chosen s g).rows in omega arith in
            let x = subst (AckedRow took s) (get_or-take s.count s.rows k no_row n) (all-at _ (live s) k no_row (omega arith) h.rows) in
            let y = subst (λ (r : Told). AckedKind took s r.id.0 r.len r.kind) (sym (kept.rows k)) (to-bare (get_or s.rows k no_row).id.0 (get_or s.rows k no_row).len (kind_of (get_or s.rows k no_row)) x) in
            rw (get_or-take s.count (chosen s g).rows k no_row n)
            (from-bare (state_after s g) (get_or (chosen s g).rows k no_row).id.0 (get_or (chosen s g).rows k no_row).len (kind_of (get_or (chosen s g).rows k no_row)) kept.acked y));
      }
