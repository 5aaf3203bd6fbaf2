-- The first of the waiting messages when another is queued and when a piece is acknowledged: its row stays and its queue too, or it loses the
-- piece. Assumes nothing.
use Prim.Native.Nat.{ℕ, zero, suc, ◌+◌, ◌-◌, ◌*◌, ◌≤◌, ◌<◌}
use mathlib.Core.Path.{◌≡◌, refl, sym, ap, ◌∙◌, subst}
use mathlib.Core.Bool.{Bool, true, false}
use mathlib.Core.List.{List, [], ◌∷◌, ◌++◌}
use mathlib.Core.Logic.{◌⊎◌, inl, inr}
use native.Mathlib.Omega.{arith}
use lib.Dec.{ltb, eqb}
use lib.ListN.{length, get_or, set, take, drop, replicate, length-set, length-take, length-replicate}
use lib.Seq.{paste, get_or-set_same, get_or-set_other, get_or-take, drop-cons, take-set-le}
use borrow.Author.Tests.{ltb-true, ltb-false, eqb-true}
use Rattle.words.specs.Sizes.{SLICE_SIZE, PIECES}
use Rattle.words.specs.Choice.{pick}
use Rattle.words.specs.Pieces.{pieces_of}
use Rattle.words.specs.Lists.{first, total}
use Rattle.words.proofs.Lists.{all-at}
use Rattle.words.proofs.Tables.{by-test, pick-cases, by_place}
use Rattle.send_reliable.specs.declared.Kind.{Kind}
use Rattle.send_reliable.specs.declared.Kind.TheVariants.{Small, Sliced}
use Rattle.send_reliable.specs.declared.Row.{Row}
use Rattle.send_reliable.specs.declared.Piece.{Piece}
use Rattle.send_reliable.specs.declared.SendChannelReliable.{SendChannelReliable}
use Rattle.send_reliable.specs.Sender.{Sending, kind_of, as_row, no_row, no_piece, live, piece_at, acked_pieces, PlacedKind, Valid}
use Rattle.send_reliable.specs.Queue.{Spot, spot_of, add_small, add_sliced, state_at}
use Rattle.send_reliable.specs.Ack.{has_id, row_of, closed, without, ack_small, marked, ack_piece}
use Rattle.send_reliable.proofs.Valid.{rows-room}
use Rattle.delivery.specs.World.{Part, whole, piece}
use Rattle.delivery.specs.Window.{In, here, there, open_from, acked_at}
use Rattle.delivery.proofs.Lists.{in_left, in_right, in-cases, in-length, rem, splice-away, head-front}
use Rattle.delivery.proofs.Rotate.{open-append, queue_at, queue-same, queue-rem}
use Rattle.delivery.proofs.Walk.{Other}
use Rattle.delivery.proofs.Turn.{queue_kind, queue_of, part_kind_of, part_at, head-placed, others_apart, first-is}
use Rattle.delivery.proofs.Cases.{spot-cases, found, NewAck, small_cases, piece-cases}

-- ---- the queue and the pieces

pub queue-pieces : (s s' : SendChannelReliable) (n : ℕ) (kd : Kind) → s'.pieces ≡ s.pieces → queue_kind s' n kd ≡ queue_kind s n kd
queue-pieces s s' n (Small i t) e = refl
queue-pieces s s' n (Sliced l a next) e = ap (λ (ps : List Piece). queue_at (λ j. (get_or ps (l * PIECES + j) no_piece).acked) next (pieces_of n)) e

-- an index that is not acknowledged is among them, and only such are
pub in-open : (f : ℕ → Bool) (i n j : ℕ) → i ≤ j → j < i + n → f j ≡ false → In j (open_from f i n)
unfolding open_from
in-open f i zero j a b e = absurd (omega arith)
in-open f i (suc n) j a b e =
    by_place i j
    (λ q. let z : f i ≡ false = ap f (sym q) ∙ e in rw z (here q))
    (λ q. pick-cases (In j) (f i) (λ _. in-open f (i + 1) n j (omega arith) (omega arith) e) (λ _. there (in-open f (i + 1) n j (omega arith) (omega arith) e)))

queue-open : (f : ℕ → Bool) (next n y : ℕ) → next ≤ n → In y (queue_at f next n) → In y (open_from f 0 n)
queue-open f next n y h i =
    rw (open-append f 0 next next (n - next) n (omega arith) (omega arith)) (swap (in-cases (open_from f next (n - next)) (open_from f 0 next) i))
  where
    swap : In y (open_from f next (n - next)) ⊎ In y (open_from f 0 next) → In y (open_from f 0 next ++ open_from f next (n - next))
    swap (inl k) = in_right (open_from f 0 next) k
    swap (inr k) = in_left (open_from f next (n - next)) k

-- the acknowledged and the others are all
pub counted : (ps : List Piece) (at n i : ℕ) → at + i + n ≤ length ps
    → total (λ (p : Piece). pick p.acked 1 0) (take n (drop (at + i) ps)) + length (open_from (λ j. (get_or ps (at + j) no_piece).acked) i n) ≡ n
unfolding total open_from
counted ps at zero i h = refl
counted ps at (suc n) i h =
    let z : at + (i + 1) ≡ suc (at + i) = omega arith in
    let r = rw z at (counted ps at n (i + 1) (omega arith)) in
    rw (drop-cons ps (at + i) no_piece (omega arith)) (tell (get_or ps (at + i) no_piece).acked r)
  where
    tell : (b : Bool) → total (λ (p : Piece). pick p.acked 1 0) (take n (drop (suc (at + i)) ps)) + length (open_from (λ j. (get_or ps (at + j) no_piece).acked) (i + 1) n) ≡ n
        → pick b 1 0 + total (λ (p : Piece). pick p.acked 1 0) (take n (drop (suc (at + i)) ps))
        + length (pick b (open_from (λ j. (get_or ps (at + j) no_piece).acked) (i + 1) n) (i ∷ open_from (λ j. (get_or ps (at + j) no_piece).acked) (i + 1) n)) ≡ suc n
    tell true e = omega arith
    tell false e = omega arith

same-only : {x y : ℕ} (xs : List ℕ) → length xs ≡ 1 → In x xs → In y xs → x ≡ y
same-only {y = y} [] e x4 q = elim x4 [ ]
same-only (z ∷ zs) e (here p) (here q) = p ∙ sym q
same-only (z ∷ zs) e (here p) (there q) = absurd (omega (arith, in-length q))
same-only (z ∷ zs) e (there p) q = absurd (omega (arith, in-length p))

-- ---- what an event may do to the first row

pub record Stays (s s' : SendChannelReliable) (r : Row) : Type 0 where
  pub rest : List Row
  pub head : live s' ≡ r ∷ rest
  pub queue : queue_of s' r ≡ queue_of s r

pub record Loses (s s' : SendChannelReliable) (r : Row) (p : Part) : Type 0 where
  pub row : Row
  pub rest : List Row
  pub head : live s' ≡ row ∷ rest
  pub named : (y : ℕ) → part_at row y ≡ part_at r y
  pub lost : ℕ
  pub is-it : p ≡ part_at r lost
  pub queue : queue_of s' row ≡ rem lost (queue_of s r)

module _ (s : SendChannelReliable) (v : Valid s) (r : Row) (rs : List Row) (h : live s ≡ r ∷ rs) where
  same-state : Stays s s r
  same-state = record { rest = rs; head = h; queue = refl }

  abbrev first-row : (1 ≤ s.count) × (1 ≤ length s.rows) × (get_or s.rows 0 no_row ≡ r)
  first-row = first-is s v r rs h

  -- ---- a message queued

  -- a row set behind the first
  set-behind : (n k : ℕ) (x : Row) → 1 ≤ n → 1 ≤ k → (rest : List Row) × (take n (set s.rows k x) ≡ r ∷ rest)
  set-behind n k x hn hk =
      let f = head-front n (set s.rows k x) no_row hn (rw length-set first-row.1) in
      (f.0, f.1 ∙ ap (λ (y : Row). y ∷ f.0) (get_or-set_other s.rows k 0 x no_row (omega arith) ∙ first-row.2))

  small-queued : (i n : ℕ) → Stays s (add_small s i n) r
  unfolding add_small
  small-queued i n =
      let f = set-behind (s.count + 1) s.count _ (omega arith) (omega (arith, first-row.0)) in
      record { rest = f.0; head = f.1; queue = queue-pieces s (add_small s i n) r.len (kind_of r) refl }

  -- the pieces of another lane
  sliced-flags : (m n : ℕ) (kd : Kind) → PlacedKind s r.len kd → get_or s.lanes m false ≡ false → n ≤ s.settings.pieces * SLICE_SIZE
      → queue_kind (add_sliced s m n) r.len kd ≡ queue_kind s r.len kd
  unfolding add_sliced
  sliced-flags m n (Small i t) p free most = refl
  sliced-flags m n (Sliced l a next) p free most =
      let g = v.settings.pieces-most in
      let d : m ≡ l → ⊥ = λ q. let z : get_or s.lanes l false ≡ false = rw (← q) free in let w = p.1 in let c : ◌≡◌ {A = ℕ} 0 1 = cc in omega arith in
      let e = length-replicate (pieces_of n) no_piece in
      queue-same _ _ next (pieces_of r.len) p.6
      (λ j low. ap (λ (x : Piece). x.acked) (splice-away (m * PIECES) (replicate (pieces_of n) no_piece) s.pieces (l * PIECES + j) no_piece
      (by-test (ltb l m) (λ t. inl (omega (arith, ltb-true l m t, p.3))) (λ t. inr (omega (arith, ltb-false l m t, d, e))))))

  sliced-queued : (m n : ℕ) → get_or s.lanes m false ≡ false → n ≤ s.settings.pieces * SLICE_SIZE → Stays s (add_sliced s m n) r
  unfolding add_sliced
  sliced-queued m n free most =
      let f = set-behind (s.count + 1) s.count _ (omega arith) (omega (arith, first-row.0)) in
      record { rest = f.0; head = f.1; queue = sliced-flags m n (kind_of r) (head-placed s v r rs h) free most }

  pub queue-stays : (n small lanes : ℕ) → Stays s (state_at s n (spot_of s n small lanes)) r
  queue-stays n small lanes =
      spot-cases s v n small lanes (λ (x : Spot). Stays s (state_at s n x) r) (λ i _ _. small-queued i n) (λ l c _. sliced-queued l n c.free c.limit) (λ _. same-state)

  -- ---- an ack

  -- what an ack of p does, where y waits
  abbrev Heard : SendChannelReliable → Part → ℕ → Type 0
  Heard s' p y = (p ≡ part_at r y) ⊎ (Stays s s' r ⊎ Loses s s' r p)

  -- the first row has the id where it is found there, and another row otherwise
  found_first : (x : ℕ) → row_of s x ≡ 0 → r.id.0 ≡ x
  unfolding first
  found_first x e = at (eqb r.id.0 x) refl (sym (ap (first (has_id x)) h) ∙ e)
    where
      at : (b : Bool) → eqb r.id.0 x ≡ b → pick b 0 (suc (first (has_id x) rs)) ≡ 0 → r.id.0 ≡ x
      at true t q = eqb-true _ _ t
      at false t q = absurd (omega arith)

  -- another message is gone
  without-behind : (k n : ℕ) (cs ls : List Bool) → suc k < s.count → Stays s (without s (suc k) n cs ls) r
  without-behind k n cs ls low =
      let f = at s.rows first-row.1 first-row.2 in
      record { rest = f.0; head = f.1; queue = queue-pieces s (without s (suc k) n cs ls) r.len (kind_of r) refl }
    where
      at : (rows : List Row) → 1 ≤ length rows → get_or rows 0 no_row ≡ r → (rest : List Row) × (take (s.count - 1) (closed rows (suc k) s.count) ≡ r ∷ rest)
      at [] l e = absurd (omega arith)
      at (x ∷ xs) l e =
          let low : suc k ≤ s.count - 1 = omega arith in
          let p : List Row = paste (x ∷ xs) (suc k) (drop (suc (suc k)) (x ∷ xs)) (s.count - 1 - suc k) in
          let f = head-front (s.count - 1) p no_row (omega arith) (omega arith) in
          (f.0, take-set-le (s.count - 1) p (s.count - 1) no_row (omega arith) ∙ f.1 ∙ ap (λ (y : Row). y ∷ f.0) e)

  small_at : (x y k n i : ℕ) (t : Sending) → row_of s x ≡ k → k < s.count → (k ≡ 0 → kind_of r ≡ Small i t)
      → Heard (without s k n (set s.cells i false) s.lanes) (whole x) y
  small_at x y zero n i t e low q = inl (ap whole (sym (found_first x e)) ∙ ap (λ (kd : Kind). part_kind_of r.id.0 kd y) (sym (q refl)))
  small_at x y (suc k) n i t e low q = inr (inl (without-behind k n _ _ low))

  -- the row that is found at the first place is the first
  is-first : (x : ℕ) → row_of s x ≡ 0 → found s x ≡ r
  is-first x e = ap (λ (k : ℕ). get_or s.rows k no_row) e ∙ first-row.2

  pub small-heard : (x y : ℕ) → Heard (ack_small s x).state (whole x) y
  small-heard x y =
      small_cases s x (λ (p : SendChannelReliable). Heard p (whole x) y) (inr (inl same-state))
      (λ i t low e. small_at x y (row_of s x) (found s x).len i t refl low (λ z. ap (λ (row : Row). kind_of row) (sym (is-first x z)) ∙ e))

  -- the rows behind, by their places
  at-behind : (k : ℕ) → suc k < s.count → (k < length rs) × (get_or rs k no_row ≡ get_or s.rows (suc k) no_row)
  at-behind k low = (
    let q = length-take s.count s.rows in let m = ap length h in let c = rows-room s v in omega arith,
    sym (ap (λ (l : List Row). get_or l (suc k) no_row) h) ∙ get_or-take s.count s.rows (suc k) no_row low,
  )

  -- a piece of another message is acknowledged
  behind-flags : (k i m b c : ℕ) (kd : Kind) → kind_of r ≡ kd → suc k < s.count → kind_of (get_or s.rows (suc k) no_row) ≡ Sliced m b c
      → i < pieces_of (get_or s.rows (suc k) no_row).len → PlacedKind s r.len kd → (q : Piece)
      → (s' : SendChannelReliable) → s'.pieces ≡ set s.pieces (m * PIECES + i) q → queue_kind s' r.len kd ≡ queue_kind s r.len kd
  behind-flags k i m b c (Small j t) e low g less p q s' ps = refl
  behind-flags k i m b c (Sliced l a next) e low g less p q s' ps =
      let w = at-behind k low in
      let o : Other l (get_or s.rows (suc k) no_row).len (Sliced m b c)
      = subst (Other l (get_or s.rows (suc k) no_row).len) g
      (subst (λ (x : Row). Other l x.len (kind_of x)) w.1 (all-at (λ (x : Row). Other l x.len (kind_of x)) rs k no_row w.0 (others_apart s v r rs h l a next e))) in
      queue-same (acked_at s' l) (acked_at s l) next (pieces_of r.len) p.6
      (λ j below. ap (λ (ys : List Piece). (get_or ys (l * PIECES + j) no_piece).acked) ps
      ∙ ap (λ (x : Piece). x.acked) (get_or-set_other s.pieces (m * PIECES + i) (l * PIECES + j) q no_piece
      (λ z. o.0 (omega (arith, o.2, less, below, p.3, v.settings.pieces-most)))))

  marked-behind : (k i m b c : ℕ) (row : Row) → suc k < s.count → get_or s.rows (suc k) no_row ≡ row → kind_of row ≡ Sliced m b c → i < pieces_of row.len
      → Stays s (marked s (suc k) m b c i row) r
  marked-behind k i m b c row low e f less =
      let x = set-behind s.count (suc k) (as_row row.id row.len (Sliced m (b + 1) c)) first-row.0 (omega arith) in
      record {
        rest = x.0;
        head = x.1;
        queue = behind-flags k i m b c (kind_of r) refl low (ap (λ (z : Row). kind_of z) e ∙ f) (rw e less) (head-placed s v r rs h) _ (marked s (suc k) m b c i row) refl;
      }

  -- a piece of the first message
  module _ (l a next i y : ℕ) (e : kind_of r ≡ Sliced l a next) (low : i < pieces_of r.len) (free : (piece_at s l i).acked ≡ false) where
    here-placed : PlacedKind s r.len (Sliced l a next)
    here-placed = subst (PlacedKind s r.len) e (head-placed s v r rs h)

    room : l * PIECES + pieces_of r.len ≤ length s.pieces
    room = omega (arith, here-placed.0, here-placed.3, v.settings.pieces-most, v.settings.lanes-most, v.pieces-long)

    -- the last one
    last_one : a + 1 ≡ pieces_of r.len → In y (queue_of s r) → y ≡ i
    unfolding acked_pieces
    last_one q w =
        let z : l * PIECES + 0 ≡ l * PIECES = omega arith in
        let c = rw z at (counted s.pieces (l * PIECES) (pieces_of r.len) 0 (omega (arith, room))) in
        same-only (open_from (acked_at s l) 0 (pieces_of r.len)) (omega (arith, here-placed.4, c, q))
        (queue-open (acked_at s l) next (pieces_of r.len) y here-placed.6 (rw e at w))
        (in-open (acked_at s l) 0 (pieces_of r.len) i (omega arith) (omega arith) free)

    marked-first : (x : ℕ) → r.id.0 ≡ x → Loses s (marked s 0 l a next i r) r (piece x i)
    marked-first x q =
        let f = head-front s.count (set s.rows 0 (as_row r.id r.len (Sliced l (a + 1) next))) no_row first-row.0 (rw length-set first-row.1) in
        record {
          row = as_row r.id r.len (Sliced l (a + 1) next);
          rest = f.0;
          head = f.1 ∙ ap (λ (z : Row). z ∷ f.0) (get_or-set_same s.rows 0 _ no_row first-row.1);
          named = λ j. ap (λ (kd : Kind). part_kind_of r.id.0 kd j) (sym e);
          lost = i;
          is-it = ap (λ (k : ℕ). piece k i) (sym q) ∙ ap (λ (kd : Kind). part_kind_of r.id.0 kd i) (sym e);
          queue =
              queue-rem (acked_at s l) (acked_at (marked s 0 l a next i r) l) i next (pieces_of r.len) here-placed.6
              (ap (λ (p : Piece). p.acked) (get_or-set_same s.pieces (l * PIECES + i) _ no_piece (omega (arith, room))))
              (λ k m d. ap (λ (p : Piece). p.acked) (get_or-set_other s.pieces (l * PIECES + i) (l * PIECES + k) _ no_piece (λ z. d (omega arith))))
              ∙ ap (λ (kd : Kind). rem i (queue_kind s r.len kd)) (sym e);
        }

    whole-heard : (x : ℕ) → r.id.0 ≡ x → a + 1 ≡ pieces_of r.len → In y (queue_of s r) → piece x i ≡ part_at r y
    whole-heard x q n w =
        ap (λ (k : ℕ). piece k i) (sym q) ∙ ap (piece r.id.0) (sym (last_one n w)) ∙ ap (λ (kd : Kind). part_kind_of r.id.0 kd y) (sym e)

  module _ (x i y l a next : ℕ) (c : NewAck s x i l a next) where
    -- where its row is the first
    first_kind : row_of s x ≡ 0 → kind_of r ≡ Sliced l a next
    first_kind e = ap (λ (row : Row). kind_of row) (sym (is-first x e)) ∙ c.kind

    first-len : row_of s x ≡ 0 → (found s x).len ≡ r.len
    first-len e = ap (λ (row : Row). row.len) (is-first x e)

    gone_at : (k : ℕ) → row_of s x ≡ k → a + 1 ≡ pieces_of (found s x).len → In y (queue_of s r) → Heard (without s k (found s x).len s.cells (set s.lanes l false)) (piece x i) y
    gone_at zero e n w =
        let z = first-len e in
        inl (whole-heard l a next i y (first_kind e) (rw z at c.index) c.fresh x (found_first x e) (rw z at n) w)
    gone_at (suc k) e n w = inr (inl (without-behind k (found s x).len s.cells (set s.lanes l false) (rw e at c.low)))

    marked-at : (k : ℕ) → row_of s x ≡ k → Heard (marked s k l a next i (found s x)) (piece x i) y
    marked-at zero e =
        subst (λ (row : Row). Heard (marked s 0 l a next i row) (piece x i) y) (sym (is-first x e))
        (inr (inr (marked-first l a next i y (first_kind e) (rw (first-len e) at c.index) c.fresh x (found_first x e))))
    marked-at (suc k) e =
        inr (inl (marked-behind k i l a next (found s x) (rw e at c.low) (ap (λ (j : ℕ). get_or s.rows j no_row) (sym e)) c.kind c.index))

  pub piece-heard : (x i y : ℕ) → In y (queue_of s r) → Heard (ack_piece s x i).state (piece x i) y
  piece-heard x i y w =
      piece-cases s x (λ (p : SendChannelReliable). Heard p (piece x i) y) (inr (inl same-state)) i
      (λ l a next c n. gone_at x i y l a next c (row_of s x) refl n w)
      (λ l a next c _. marked-at x i y l a next c (row_of s x) refl)
