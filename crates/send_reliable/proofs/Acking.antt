-- The row of an id, and what acknowledgements give. Assumes nothing.
use Prim.Native.Nat.{ℕ, suc, ◌-◌, ◌+◌, ◌≤◌, ◌<◌}
use mathlib.Core.Path.{◌≡◌, refl, sym, ap, ◌∙◌}
use mathlib.Core.Bool.{Bool, true, false}
use mathlib.Core.List.{List, [], ◌∷◌, ◌++◌, append_assoc}
use native.Mathlib.Omega.{arith}
use borrow.Author.Tests.{ltb-true, eqb-false, le-leb, lt-leb, eq-eqb, ne_eqb}
use lib.Dec.{ltb, eqb}
use lib.ListN.{length, get_or, set, take, drop, length-drop}
use lib.Seq.{get_or-take, paste, length-paste, length-take-le, take_all}
use Rattle.std.proofs.lemmas.List.{set_split, drop-drop, drop_all}
use Rattle.std.proofs.lemmas.List.Edits.{drop-paste}
use Rattle.words.proofs.Lists.{live-less}
use Rattle.std.specs.Prelude.{Option, None, Some, Result, Ok, Err}
use Rattle.words.specs.Sizes.{LIMIT}
use Rattle.words.specs.Choice.{pick}
use Rattle.words.specs.Pieces.{pieces_of}
use Rattle.words.specs.declared.Refusal.{Refusal}
use Rattle.words.specs.declared.Refusal.TheVariants.{BadNumber, WrongKind, BadIndex}
use Rattle.words.proofs.Tables.{pick-cases}
use Rattle.send_reliable.specs.declared.Kind.TheVariants.{Small, Sliced}
use Rattle.send_reliable.specs.declared.Row.{Row}
use Rattle.send_reliable.specs.declared.SendChannelReliable.{SendChannelReliable}
use Rattle.send_reliable.specs.declared.Ack.{Ack}
use Rattle.send_reliable.specs.declared.Ack.TheVariants as ack
use Rattle.send_reliable.specs.Sender.{Sending, kind_of, no_row, live, piece_at, Valid}
use Rattle.words.specs.Lists.{without as less}
use Rattle.send_reliable.specs.Ack.{row_of, closed, without, ack_of, done, After, after, ack_row, ack_small, marked, with_ack, ack_piece, AckGives}
use Rattle.send_reliable.specs.QueueSteps.{found_of, RowAt, Waits}
use Rattle.send_reliable.proofs.Valid.{rows-room, live-long, without-small-valid, without-sliced-valid, marked-valid}

-- ---- the rows that wait close up, and those after them stay

module _ {A : Type 0} (o : List A) (k n : ℕ) (z : A) where
  closed-parts : k < n → n ≤ length o → set (paste o k (drop (suc k) o) (n - 1 - k)) (n - 1) z ≡ less k (take n o) ++ (z ∷ drop n o)
  closed-parts low long =
      let m : ℕ = n - 1 - k in
      let p : List A = paste o k (drop (suc k) o) m in
      let i : k + m ≡ n - 1 = omega arith in
      let j : suc (n - 1) ≡ n = omega arith in
      let q : n - 1 + 1 ≡ n = omega arith in
      let r : m ≤ length (drop (suc k) o) = simp length-drop (omega arith) in
      let e : drop (n - 1) p ≡ drop (n - 1) o = ap (λ (x : ℕ). drop x p) (sym i) ∙ drop-paste o k (drop (suc k) o) m (omega arith) r ∙ ap (λ (x : ℕ). drop x o) i in
      let f : drop n p ≡ drop n o = ap (λ (x : ℕ). drop x p) (sym q) ∙ sym (drop-drop 1 (n - 1) p) ∙ ap (drop 1) e ∙ drop-drop 1 (n - 1) o ∙ ap (λ (x : ℕ). drop x o) q in
      set_split p (n - 1) z (omega (arith, length-paste o k (drop (suc k) o) m (omega arith) r))
      ∙ rw (live-less o k n low long, j, f)

pub closed-front : (rows : List Row) (k n : ℕ) → k < n → n ≤ length rows → closed (take n rows) k (length (take n rows)) ++ drop n rows ≡ closed rows k n
closed-front rows k n low long =
    let t : List Row = take n rows in
    let l : length t ≡ n = length-take-le n rows long in
    let a : take n t ≡ t = take_all n t (omega arith) in
    let b : drop n t ≡ [] = drop_all n t (omega arith) in
    rw (l, closed-parts t k n no_row low (omega arith), a, b, append_assoc, closed-parts rows k n no_row low long)

-- the state with some other rows, n of them waiting, and these cells and lanes
abbrev pub with_rows : SendChannelReliable → ℕ → List Row → ℕ → List Bool → List Bool → SendChannelReliable
with_rows s used rows n cells lanes =
    record {
      channel_id = s.channel_id;
      settings = s.settings;
      resend_time = s.resend_time;
      next_reliable_message_id = s.next_reliable_message_id;
      memory_usage_bytes = used;
      latest = s.latest;
      count = n;
      rows = rows;
      cells = cells;
      lanes = lanes;
      pieces = s.pieces;
    }

-- where the waiting rows close up
module _ (s : SendChannelReliable) (v : Valid s) (k : ℕ) (r : Row) (at : RowAt s k r) (cells lanes : List Bool) where
  pub taken : (rows : List Row) (n : ℕ) → rows ≡ closed (take s.count s.rows) k (length (take s.count s.rows)) → n ≡ length (take s.count s.rows) - 1
      → with_rows s (s.memory_usage_bytes - r.len) (rows ++ drop s.count s.rows) n cells lanes ≡ without s k r.len cells lanes
  taken rows n e f =
      let room = rows-room s v in
      let m : n ≡ s.count - 1 = f ∙ ap (λ (x : ℕ). x - 1) (length-take-le s.count s.rows room) in
      ap (λ (x : List Row). with_rows s (s.memory_usage_bytes - r.len) (x ++ drop s.count s.rows) n cells lanes) e
      ∙ ap (λ (x : List Row). with_rows s (s.memory_usage_bytes - r.len) x n cells lanes) (closed-front s.rows k s.count at.low room)
      ∙ ap (λ (x : ℕ). with_rows s (s.memory_usage_bytes - r.len) (closed s.rows k s.count) x cells lanes) m

-- ---- the row that is found

pub bad-number : (s : SendChannelReliable) (x : ℕ) → LIMIT ≤ x → Waits s x (Err BadNumber)
unfolding ack_row
bad-number s x h f = rw (le-leb _ _ h)

module _ (s : SendChannelReliable) (v : Valid s) (x : ℕ) where
  module _ (low : x < LIMIT) where
    here : (t : Bool) → ltb (row_of s x) s.count ≡ t → Waits s x (Ok (pick t (Some (row_of s x, get_or (live s) (row_of s x) no_row)) None))
    unfolding ack_row
    here true e =
        let l = ltb-true _ _ e in
        let r = get_or-take s.count s.rows (row_of s x) no_row l in
        (record { low = l; row = sym r }, λ f. rw (lt-leb _ _ low, e, r))
    here false e = λ f. rw (lt-leb _ _ low, e)

    pub waits : (o : Option (ℕ × Row)) → found_of s x ≡ o → Waits s x (Ok o)
    unfolding found_of
    waits o e = rw (← e, live-long s v) (here (ltb (row_of s x) s.count) refl)

    pub row-found : (f : ℕ → Row → After) (k : ℕ) (r : Row) → found_of s x ≡ Some (k, r) → ack_row s x f ≡ f k r
    row-found f k r e = (waits (Some (k, r)) e).1 f

-- ---- a piece acknowledged keeps what is always true

module _ (s : SendChannelReliable) (v : Valid s) (k : ℕ) (r : Row) (at : RowAt s k r) (l a next : ℕ) (e : kind_of r ≡ Sliced l a next) (i : ℕ) where
  pub piece-again : (piece_at s l i).acked ≡ true → s ≡ with_ack s k i r l a next
  unfolding with_ack
  piece-again b = rw b

  module _ (new : (piece_at s l i).acked ≡ false) where
    pub piece-last : a + 1 ≡ pieces_of r.len → without s k r.len s.cells (set s.lanes l false) ≡ with_ack s k i r l a next
    unfolding with_ack
    piece-last m = rw (new, eq-eqb _ _ m)

    pub piece-more : (a + 1 ≡ pieces_of r.len → ⊥) → marked s k l a next i r ≡ with_ack s k i r l a next
    unfolding with_ack
    piece-more m = rw (new, ne_eqb _ _ m)

  pub with-ack-valid : i < pieces_of r.len → Valid (with_ack s k i r l a next)
  unfolding with_ack
  with-ack-valid m =
      pick-cases Valid (piece_at s l i).acked (λ _. v)
      (λ new.
      pick-cases Valid (eqb (a + 1) (pieces_of r.len))
      (λ _. without-sliced-valid s v k r at l a next e)
      (λ some. marked-valid s v k r at l a next e i m new (eqb-false _ _ some)))

-- ---- what an acknowledgement gives, by what was found

-- an answer that leaves the state
pub ack-left : (s : SendChannelReliable) → Valid s → (z : After) (a : Result Ack Refusal) → z ≡ after (ack_of a) s → AckGives z (record { answer = a; state = s })
ack-left s v z a e = record { answer = rw e; state = rw e; valid = v }

module _ (s : SendChannelReliable) (v : Valid s) (x : ℕ) where
  pub small-refused : (e : Refusal) → Waits s x (Err e) → AckGives (ack_small s x) (record { answer = Err e; state = s })
  unfolding ack_small
  small-refused e w = ack-left s v (ack_small s x) (Err e) (w _)

  pub small-unknown : Waits s x (Ok None) → AckGives (ack_small s x) (record { answer = Ok ack.Unknown; state = s })
  unfolding ack_small
  small-unknown w = ack-left s v (ack_small s x) (Ok ack.Unknown) (w _)

  pub piece-refused : (i : ℕ) (e : Refusal) → Waits s x (Err e) → AckGives (ack_piece s x i) (record { answer = Err e; state = s })
  unfolding ack_piece
  piece-refused i e w = ack-left s v (ack_piece s x i) (Err e) (w _)

  pub piece-unknown : (i : ℕ) → Waits s x (Ok None) → AckGives (ack_piece s x i) (record { answer = Ok ack.Unknown; state = s })
  unfolding ack_piece
  piece-unknown i w = ack-left s v (ack_piece s x i) (Ok ack.Unknown) (w _)

  module _ (k : ℕ) (r : Row) (w : Waits s x (Ok (Some (k, r)))) where
    -- the ack of a small message
    pub small-wrong : (l a next : ℕ) → kind_of r ≡ Sliced l a next → AckGives (ack_small s x) (record { answer = Err WrongKind; state = s })
    unfolding ack_small
    small-wrong l a next e = ack-left s v (ack_small s x) (Err WrongKind) (w.1 _ ∙ rw e)

    pub small-done : (i : ℕ) (t : Sending) → kind_of r ≡ Small i t → (s' : SendChannelReliable) → s' ≡ without s k r.len (set s.cells i false) s.lanes
        → AckGives (ack_small s x) (record { answer = Ok ack.Done; state = s' })
    unfolding ack_small
    small-done i t e s' es =
        let z : ack_small s x ≡ after done (without s k r.len (set s.cells i false) s.lanes) = w.1 _ ∙ rw e in
        record { answer = rw z; state = rw z es; valid = rw es (without-small-valid s v k r w.0 i t e) }

    -- the ack of a piece
    module _ (i : ℕ) where
      pub piece-wrong : (j : ℕ) (t : Sending) → kind_of r ≡ Small j t → AckGives (ack_piece s x i) (record { answer = Err WrongKind; state = s })
      unfolding ack_piece
      piece-wrong j t e = ack-left s v (ack_piece s x i) (Err WrongKind) (w.1 _ ∙ rw e)

      module _ (l a next : ℕ) (e : kind_of r ≡ Sliced l a next) where
        pub piece-past : pieces_of r.len ≤ i → AckGives (ack_piece s x i) (record { answer = Err BadIndex; state = s })
        unfolding ack_piece
        piece-past h = ack-left s v (ack_piece s x i) (Err BadIndex) (w.1 _ ∙ rw (e, le-leb _ _ h))

        pub piece-done : i < pieces_of r.len → (s' : SendChannelReliable) → s' ≡ with_ack s k i r l a next → AckGives (ack_piece s x i) (record { answer = Ok ack.Done; state = s' })
        unfolding ack_piece
        piece-done h s' es =
            let z : ack_piece s x i ≡ after done (with_ack s k i r l a next) = w.1 _ ∙ rw (e, lt-leb _ _ h) in
            record { answer = rw z; state = rw z es; valid = rw es (with-ack-valid s v k r w.0 l a next e i h) }
