-- An accepted round, allowed a piece and at least the resend time after the round before, and the first of the waiting messages: the round turns
-- its queue, and what it moves to the end is sent. Assumes nothing.
use Prim.Native.Nat.{ℕ, suc, ◌+◌, ◌-◌, ◌*◌, ◌≤◌, ◌<◌}
use mathlib.Core.Path.{◌≡◌, refl, sym, ap, ◌∙◌, subst}
use mathlib.Core.Bool.{Bool, true, false}
use mathlib.Core.List.{List, [], ◌∷◌, ◌++◌, map}
use mathlib.Core.Logic.{◌⊎◌, inl, inr}
use native.Mathlib.Omega.{arith}
use lib.ListN.{length, get_or, set, length-take}
use lib.Seq.{get_or-set_same, get_or-take}
use borrow.Author.Tests.{le-leb, le-ltb, ne_eqb}
use Rattle.words.specs.Sizes.{SLICE_SIZE, PIECES, LANES}
use Rattle.words.specs.Choice.{pick}
use Rattle.words.specs.Pieces.{pieces_of, piece_len_of}
use Rattle.words.specs.Lists.{reached, All, Pairs}
use Rattle.words.proofs.Lists.{all_both, all_map}
use Rattle.words.proofs.Tables.{by-test, pick-cases}
use Rattle.channel.specs.Settings.{Good}
use Rattle.pack.specs.Pack.{Item, is_small, Pack, group, single, pack}
use Rattle.pack.specs.Rows.{smalls}
use Rattle.pack.specs.Laws.{pieces, grouped, singles}
use Rattle.pack.proofs.Theorems.{smalls-kept, pieces_kept}
use Rattle.std.specs.Prelude.{None, Some}
use Rattle.send_reliable.specs.declared.Kind.{Kind}
use Rattle.send_reliable.specs.declared.Kind.TheVariants.{Small, Sliced}
use Rattle.send_reliable.specs.declared.Row.{Row}
use Rattle.send_reliable.specs.declared.Piece.{Piece}
use Rattle.send_reliable.specs.declared.SendChannelReliable.{SendChannelReliable}
use Rattle.send_reliable.specs.Sender.{Sending, last_sent_of, kind_of, as_row, no_row, no_piece, live, SentBy, PlacedKind, Placed, Apart, Before, Valid}
use Rattle.send_reliable.specs.declared.Visit.{Visit}
use Rattle.send_reliable.specs.Select.{up_from, row_visits, visits_from, due, sent_at, Chosen, visit, visit_kind, select}
use Rattle.send_reliable.specs.Round.{Given, chosen, packs, state_after}
use Rattle.delivery.specs.World.{Sent, Part, whole, piece}
use Rattle.delivery.specs.Window.{In, here, there, acked_at, Spaced}
use Rattle.delivery.proofs.Lists.{in_left, in_right, in-cases, in_map, all_get_d, front-head, head-front, reached-append}
use Rattle.delivery.proofs.Rotate.{Walk, walk, Walked, walked, queue_at, Rotates, turned, queue-same}
use Rattle.delivery.proofs.Walk.{Told, told, bare_kind, Kept, kept-visits, Elsewhere, Away, away-visits, Other, rows_behind, item_at, Followed, followed}

-- ---- the pieces of the items are in the packets

abbrev pub part_of : Item → Part
part_of i = pick (is_small i) (whole i.id) (piece i.id i.index)

abbrev pub parts_in : Pack → List Part
parts_in (group is) = map part_of is
parts_in (single i) = part_of i ∷ []

unfoldable pub all_parts : List Pack → List Part
all_parts [] = []
all_parts (p ∷ ps) = parts_in p ++ all_parts ps

in-grouped : (x : Item) (ps : List Pack) → In x (grouped ps) → In (part_of x) (all_parts ps)
unfolding grouped all_parts
in-grouped x [] h = elim h [ ]
in-grouped x (group is ∷ ps) h = at (in-cases is (grouped ps) h) (λ k. in-grouped x ps k)
  where
    at : In x is ⊎ In x (grouped ps) → (In x (grouped ps) → In (part_of x) (all_parts ps)) → In (part_of x) (map part_of is ++ all_parts ps)
    at (inl k) later = in_left (all_parts ps) (in_map part_of k)
    at (inr k) later = in_right (map part_of is) (later k)
in-grouped x (single i ∷ ps) h = there (in-grouped x ps h)

in-singles : (x : Item) (ps : List Pack) → In x (singles ps) → In (part_of x) (all_parts ps)
unfolding singles all_parts
in-singles x [] h = elim h [ ]
in-singles x (group is ∷ ps) h = in_right (map part_of is) (in-singles x ps h)
in-singles x (single i ∷ ps) (here e) = here (ap part_of e)
in-singles x (single i ∷ ps) (there h) = there (in-singles x ps h)

in-smalls : (x : Item) (is : List Item) → is_small x ≡ true → In x is → In x (smalls is)
unfolding smalls
in-smalls x (i ∷ is) e (here q) = let t : is_small i ≡ true = ap is_small (sym q) ∙ e in rw t (here q)
in-smalls x [] e x3 = elim x3 [ ]
in-smalls x (i ∷ is) e (there h) = pick-cases (In x) (is_small i) (λ _. there (in-smalls x is e h)) (λ _. in-smalls x is e h)

in_pieces : (x : Item) (is : List Item) → is_small x ≡ false → In x is → In x (pieces is)
unfolding pieces
in_pieces x (i ∷ is) e (here q) = let t : is_small i ≡ false = ap is_small (sym q) ∙ e in rw t (here q)
in_pieces x [] e x3 = elim x3 [ ]
in_pieces x (i ∷ is) e (there h) = pick-cases (In x) (is_small i) (λ _. in_pieces x is e h) (λ _. there (in_pieces x is e h))

pub parts-kept : (x : Item) (is : List Item) → In x is → In (part_of x) (all_parts (pack true is))
parts-kept x is h =
    by-test (is_small x)
    (λ e. in-grouped x (pack true is) (rw (smalls-kept true is) (in-smalls x is e h)))
    (λ e. in-singles x (pack true is) (rw (pieces_kept true is) (in_pieces x is e h)))

-- ---- the clock: `last` is the sender's latest time, or nothing was ever sent

abbrev pub UnsentKind : Kind → Type 0
UnsentKind (Small i t) = last_sent_of t ≡ None
UnsentKind (Sliced l a next) = Unit

abbrev pub UnsentRow : Row → Type 0
UnsentRow r = UnsentKind (kind_of r)

abbrev pub UnsentPiece : Piece → Type 0
UnsentPiece p = last_sent_of p.sending ≡ None

abbrev pub Clocked : Sent → SendChannelReliable → Type 0
Clocked None s = All UnsentRow s.rows × All UnsentPiece s.pieces
Clocked (Some t) s = t ≡ s.latest

due-old : (resend now latest : ℕ) (t : Sent) → SentBy latest t → latest + resend ≤ now → due resend now t ≡ true
due-old resend now latest None b h = refl
due-old resend now latest (Some t) b h = le-leb resend (now - t) (omega arith)

due-never : (resend now : ℕ) (t : Sent) → t ≡ None → due resend now t ≡ true
due-never resend now t e = ap (due resend now) e

module _ (s : SendChannelReliable) (v : Valid s) (now : ℕ) where
  pub piece-due : (last : Sent) → Clocked last s → Spaced s.resend_time last now → (p : ℕ)
      → due s.resend_time now (last_sent_of (get_or s.pieces p no_piece).sending) ≡ true
  piece-due None c h p = due-never s.resend_time now _ (all_get_d UnsentPiece s.pieces p no_piece c.1 refl)
  piece-due (Some t) c h p =
      due-old s.resend_time now s.latest (last_sent_of (get_or s.pieces p no_piece).sending)
      (all_get_d (λ (x : Piece). SentBy s.latest (last_sent_of x.sending)) s.pieces p no_piece v.pieces-sent tt) (omega arith)

  pub small-due : (last : Sent) → Clocked last s → Spaced s.resend_time last now → (i : ℕ) (t : Sending) → kind_of (get_or s.rows 0 no_row) ≡ Small i t
      → SentBy s.latest (last_sent_of t) → due s.resend_time now (last_sent_of t) ≡ true
  small-due None c h i t e b = due-never s.resend_time now _ (subst UnsentKind e (all_get_d UnsentRow s.rows 0 no_row c.0 refl))
  small-due (Some u) c h i t e b = due-old s.resend_time now s.latest (last_sent_of t) b (omega arith)

-- ---- the queue of a waiting message

abbrev pub queue_kind : SendChannelReliable → ℕ → Kind → List ℕ
queue_kind s n (Small i t) = 0 ∷ []
queue_kind s n (Sliced l a next) = queue_at (acked_at s l) next (pieces_of n)

abbrev pub queue_of : SendChannelReliable → Row → List ℕ
queue_of s r = queue_kind s r.len (kind_of r)

-- its y-th piece
abbrev pub part_kind_of : ℕ → Kind → ℕ → Part
part_kind_of id (Small i t) y = whole id
part_kind_of id (Sliced l a next) y = piece id y

abbrev pub part_at : Row → ℕ → Part
part_at r y = part_kind_of r.id.0 (kind_of r) y

pub record Turns (s s' : SendChannelReliable) (r : Row) (parts : List Part) : Type 0 where
  pub row : Row
  pub rest : List Row
  pub head : live s' ≡ row ∷ rest
  pub named : (y : ℕ) → part_at row y ≡ part_at r y
  pub sends : List ℕ
  pub rotates : Rotates (queue_of s r) (queue_of s' row) sends
  pub sent : (y : ℕ) → In y sends → In (part_at r y) parts

-- ---- what is known of the rows

other-kind : (s : SendChannelReliable) → Good s.settings → (l n : ℕ) (kd : Kind) → PlacedKind s n kd → Elsewhere s.settings 0 0 l kd → Other l n kd
other-kind s g l n (Small i t) p e = tt
other-kind s g l n (Sliced m a next) p e = (e, p.6, omega (arith, p.3, g.pieces-most))

-- of each row behind the first: not in its lane
apart-kind : (s : SendChannelReliable) (l a next : ℕ) (kd : Kind) → Apart (Sliced l a next) kd → Elsewhere s.settings 0 0 l kd
apart-kind s l a next (Small i t) h = tt
apart-kind s l a next (Sliced m b k) h = λ q. h (sym q)

-- no row is in a lane past the last
past-kind : (s : SendChannelReliable) → Good s.settings → (n : ℕ) (kd : Kind) → PlacedKind s n kd → Elsewhere s.settings 0 0 LANES kd
past-kind s g n (Small i t) p = tt
past-kind s g n (Sliced m a next) p = λ q. omega (arith, p.0, g.lanes-most)

module _ (s : SendChannelReliable) (v : Valid s) (r : Row) (rs : List Row) (h : live s ≡ r ∷ rs) where
  pub head-placed : PlacedKind s r.len (kind_of r)
  unfolding All Placed
  head-placed = (subst (All (Placed s)) h v.placed).0.1

  rest-placed : All (Placed s) rs
  unfolding All
  rest-placed = (subst (All (Placed s)) h v.placed).1

  rest-before : All (Before r) rs
  unfolding All Pairs
  rest-before = (subst (Pairs Before) h v.rising).0

  pub others_apart : (l a next : ℕ) → kind_of r ≡ Sliced l a next → All (λ (x : Row). Other l x.len (kind_of x)) rs
  unfolding Placed Before
  others_apart l a next e =
      all_both (Placed s) (Before r) _
      (λ x p b. other-kind s v.settings l x.len (kind_of x) p.1 (apart-kind s l a next (kind_of x) (subst (λ (kd : Kind). Apart kd (kind_of x)) e b.1)))
      rs rest-placed rest-before

  others-past : All (λ (x : Row). Other LANES x.len (kind_of x)) rs
  unfolding Placed
  others-past =
      all_map (Placed s) _ (λ x p. other-kind s v.settings LANES x.len (kind_of x) p.1 (past-kind s v.settings x.len (kind_of x) p.1)) rs rest-placed

  pub first-is : (1 ≤ s.count) × (1 ≤ length s.rows) × (get_or s.rows 0 no_row ≡ r)
  first-is = front-head s.count s.rows rs r no_row h

  -- the kinds of the rows behind
  abbrev kinds_of : ℕ → Kind
  kinds_of k = bare_kind (kind_of (get_or s.rows k no_row))

  behind-kinds : (j : ℕ) → j < length rs → kinds_of (1 + j) ≡ bare_kind (kind_of (get_or rs j no_row))
  behind-kinds j low =
      let z : 1 + j ≡ suc j = omega arith in
      let n : suc j < s.count = let q = length-take s.count s.rows in let m = ap length h in omega arith in
      rw z (ap (λ (x : Row). bare_kind (kind_of x)) (sym (get_or-take s.count s.rows (suc j) no_row n) ∙ ap (λ (l : List Row). get_or l (suc j) no_row) h))

  module _ (g : Given) where
    abbrev visiting : Chosen → Visit → Chosen
    visiting = visit s.settings s.resend_time g.now

    abbrev c₀ : Chosen
    c₀ = record { left = g.allowance; items = []; rows = s.rows; pieces = s.pieces }

    -- the visits of the first row, then the others
    select-is : chosen s g ≡ reached visiting (reached visiting c₀ (row_visits 0 r.len (kind_of r))) (visits_from 1 rs)
    unfolding select visits_from
    select-is = ap (λ (l : List Row). reached visiting c₀ (visits_from 0 l)) h ∙ reached-append visiting c₀ (row_visits 0 r.len (kind_of r)) (visits_from 1 rs)

    -- the first of the waiting afterwards
    live-after : (x : Row) → get_or (chosen s g).rows 0 no_row ≡ x → (rest : List Row) × (live (state_after s g) ≡ x ∷ rest)
    unfolding state_after
    live-after x e =
        let k = subst (Kept c₀) (sym select-is) (kept-both) in
        let f = head-front s.count (chosen s g).rows no_row first-is.0 (rw k.rows_long first-is.1) in
        (f.0, f.1 ∙ ap (λ (y : Row). y ∷ f.0) e)
      where
        kept-both : Kept c₀ (reached visiting (reached visiting c₀ (row_visits 0 r.len (kind_of r))) (visits_from 1 rs))
        kept-both = subst (Kept c₀) (reached-append visiting c₀ (row_visits 0 r.len (kind_of r)) (visits_from 1 rs))
            (kept-visits s.settings s.resend_time g.now (row_visits 0 r.len (kind_of r) ++ visits_from 1 rs) c₀)

    -- its packets hold what was chosen on the way
    in-packs : (c : Chosen) (x : Item) → Kept c (chosen s g) → In x c.items → In (part_of x) (all_parts (packs s g))
    in-packs c x k i = parts-kept x (chosen s g).items (rw k.items (in_left k.more i))

    kept_on : (c : Chosen) → chosen s g ≡ reached visiting c (visits_from 1 rs) → Kept c (chosen s g)
    kept_on c e = subst (Kept c) (sym e) (kept-visits s.settings s.resend_time g.now (visits_from 1 rs) c)

    away-on : (c : Chosen) (l : ℕ) → Kept c₀ c → All (λ (x : Row). Other l x.len (kind_of x)) rs → Away s.settings s.resend_time g.now l c (reached visiting c (visits_from 1 rs))
    away-on c l k o =
        away-visits s.settings s.resend_time g.now kinds_of l (visits_from 1 rs) c (λ j. ap (λ (x : Told). x.kind) (k.rows j))
        (rows_behind s.settings s.resend_time g.now kinds_of l 1 rs (omega arith) behind-kinds o)

    -- ---- a small message goes

    module _ (i : ℕ) (t : Sending) (e : kind_of r ≡ Small i t) (fits : r.len ≤ g.allowance) (d : due s.resend_time g.now (last_sent_of t) ≡ true) where
      abbrev small-item : Item
      small-item = record { num = 0; id = r.id.0; index = 0; place = i * SLICE_SIZE; len = r.len }

      abbrev small_row : Row
      small_row = as_row r.id r.len (Small i (sent_at g.now))

      abbrev after_small : Chosen
      after_small = record { left = g.allowance - r.len; items = small-item ∷ []; rows = set s.rows 0 small_row; pieces = s.pieces }

      small-visited : reached visiting c₀ (row_visits 0 r.len (kind_of r)) ≡ after_small
      unfolding reached up_from visit
      small-visited =
          ap (λ (kd : Kind). reached visiting c₀ (row_visits 0 r.len kd)) e
          ∙ ap (λ (x : Row). visit_kind s.settings s.resend_time g.now c₀ 0 0 x (kind_of x)) first-is.2
          ∙ ap (λ (kd : Kind). visit_kind s.settings s.resend_time g.now c₀ 0 0 r kd) e
          ∙ rw (le-ltb g.allowance r.len fits, d)

      small-selected : chosen s g ≡ reached visiting after_small (visits_from 1 rs)
      small-selected = select-is ∙ ap (λ (c : Chosen). reached visiting c (visits_from 1 rs)) small-visited

      small-kept : Kept c₀ after_small
      small-kept = subst (Kept c₀) small-visited (kept-visits s.settings s.resend_time g.now (row_visits 0 r.len (kind_of r)) c₀)

      pub small-turns : Turns s (state_after s g) r (all_parts (packs s g))
      small-turns =
          let a = away-on after_small LANES small-kept others-past in
          let h : get_or (chosen s g).rows 0 no_row ≡ small_row
          = ap (λ (c : Chosen). get_or c.rows 0 no_row) small-selected ∙ a.head ∙ get_or-set_same s.rows 0 small_row no_row first-is.1 in
          let f = live-after small_row h in
          record {
            row = small_row;
            rest = f.0;
            head = f.1;
            named = λ y. ap (λ (kd : Kind). part_kind_of r.id.0 kd y) (sym e);
            sends = 0 ∷ [];
            rotates = record { back = []; before = ap (queue_kind s r.len) e; after = refl; moves = inl (omega arith) };
            sent = λ y k. rw e (in-packs after_small small-item (kept_on after_small small-selected) (here refl));
          }

    -- ---- of a sliced one, a part of its queue goes

    module _ (l a next : ℕ) (e : kind_of r ≡ Sliced l a next) (enough : SLICE_SIZE ≤ g.allowance)
        (d : (p : ℕ) → due s.resend_time g.now (last_sent_of (get_or s.pieces p no_piece).sending) ≡ true) where
      abbrev n : ℕ
      n = pieces_of r.len

      abbrev f : ℕ → Bool
      f = acked_at s l

      abbrev item_of : ℕ → Item
      item_of = item_at s.settings s.resend_time g.now r.id r.len l a f

      placed : PlacedKind s r.len (Sliced l a next)
      placed = subst (PlacedKind s r.len) e head-placed

      abbrev w₁ : Walk
      w₁ = walk f (piece_len_of r.len) next (n - next) next g.allowance

      abbrev w₂ : Walk
      w₂ = walk f (piece_len_of r.len) 0 next w₁.next w₁.left

      abbrev c₁ : Chosen
      c₁ = reached visiting c₀ (up_from 0 next (n - next))

      abbrev c₂ : Chosen
      c₂ = reached visiting c₁ (up_from 0 0 next)

      kept₁ : Kept c₀ c₁
      kept₁ = kept-visits s.settings s.resend_time g.now (up_from 0 next (n - next)) c₀

      visited : reached visiting c₀ (row_visits 0 r.len (kind_of r)) ≡ c₂
      visited =
          ap (λ (kd : Kind). reached visiting c₀ (row_visits 0 r.len kd)) e
          ∙ reached-append visiting c₀ (up_from 0 next (n - next)) (up_from 0 0 next)

      kept₂ : Kept c₀ c₂
      kept₂ = subst (Kept c₀) visited (kept-visits s.settings s.resend_time g.now (row_visits 0 r.len (kind_of r)) c₀)

      selected : chosen s g ≡ reached visiting c₂ (visits_from 1 rs)
      selected = select-is ∙ ap (λ (c : Chosen). reached visiting c (visits_from 1 rs)) visited

      follow₁ : Followed s.settings s.resend_time g.now r.id r.len l a f c₀ c₁ next w₁
      follow₁ =
          followed s.settings s.resend_time g.now r.id r.len l a f (n - next) next next c₀ first-is.1
          (ap told first-is.2 ∙ ap (λ (kd : Kind). record { id = r.id; len = r.len; kind = kd }) e) (λ j. refl) (λ j h m. d (l * PIECES + j))

      follow₂ : Followed s.settings s.resend_time g.now r.id r.len l a f c₁ c₂ 0 w₂
      follow₂ =
          subst (λ (k : ℕ). Followed s.settings s.resend_time g.now r.id r.len l a f c₁ c₂ 0 (walk f (piece_len_of r.len) 0 next w₁.next k)) follow₁.left
          (followed s.settings s.resend_time g.now r.id r.len l a f next 0 w₁.next c₁ (rw kept₁.rows_long first-is.1)
          follow₁.row (λ j. kept₁.acked (l * PIECES + j)) (λ j h m. rw (follow₁.before j (omega arith)) (d (l * PIECES + j))))

      walked₁ : Walked f (piece_len_of r.len) next (n - next) next g.allowance w₁
      walked₁ = walked f (piece_len_of r.len) (n - next) next next g.allowance

      walked₂ : Walked f (piece_len_of r.len) 0 next w₁.next w₁.left w₂
      walked₂ = walked f (piece_len_of r.len) next 0 w₁.next w₁.left

      turning : Rotates (queue_at f next n) (queue_at f w₂.next n) (w₁.out ++ w₂.out)
      turning = turned f (piece_len_of r.len) next n g.allowance w₁ w₂ placed.6 walked₁ walked₂ enough

      next_low : w₂.next ≤ n
      next_low = two walked₂.next
        where
          one : ((walked₁.gone ≡ 0) × (w₁.next ≡ next) × (w₁.left ≡ g.allowance)) ⊎ ((w₁.next ≡ next + walked₁.gone) × (1 ≤ length w₁.out) × (SLICE_SIZE ≤ g.allowance)) → w₁.next ≤ n
          one (inl q) = omega (arith, q.1, placed.6)
          one (inr q) = omega (arith, q.0, walked₁.split, placed.6)

          two : ((walked₂.gone ≡ 0) × (w₂.next ≡ w₁.next) × (w₂.left ≡ w₁.left)) ⊎ ((w₂.next ≡ 0 + walked₂.gone) × (1 ≤ length w₂.out) × (SLICE_SIZE ≤ w₁.left)) → w₂.next ≤ n
          two (inl q) = omega (arith, q.1, one walked₁.next)
          two (inr q) = omega (arith, q.0, walked₂.split, placed.6)

      same_flags : (j : ℕ) → f j ≡ acked_at (state_after s g) l j
      unfolding state_after
      same_flags j = sym ((kept_on c₂ selected).acked (l * PIECES + j) ∙ kept₂.acked (l * PIECES + j))

      items-are : c₂.items ≡ map (item_of) w₁.out ++ map (item_of) w₂.out
      items-are = follow₂.items ∙ ap (λ (x : List Item). x ++ map (item_of) w₂.out) follow₁.items

      in-items : (y : ℕ) → In y (w₁.out ++ w₂.out) → In (item_of y) c₂.items
      in-items y k = rw items-are (at (in-cases w₁.out w₂.out k))
        where
          at : In y w₁.out ⊎ In y w₂.out
              → In (item_of y) (map (item_of) w₁.out ++ map (item_of) w₂.out)
          at (inl q) = in_left (map item_of w₂.out) (in_map item_of q)
          at (inr q) = in_right (map item_of w₁.out) (in_map item_of q)

      names-piece : (y : ℕ) → part_of (item_of y) ≡ piece r.id.0 y
      names-piece y = let z : pieces_of r.len ≡ 0 → ⊥ = λ q. omega (arith, placed.2) in rw (ne_eqb (pieces_of r.len) 0 z)

      pub sliced-turns : Turns s (state_after s g) r (all_parts (packs s g))
      sliced-turns =
          let away = away-on c₂ l kept₂ (others_apart l a next e) in
          let q = ap (λ (c : Chosen). told (get_or c.rows 0 no_row)) selected ∙ ap told away.head ∙ follow₂.row in
          let x = live-after (get_or (chosen s g).rows 0 no_row) refl in
          record {
            row = get_or (chosen s g).rows 0 no_row;
            rest = x.0;
            head = x.1;
            named = λ y. ap (λ (z : Told). part_kind_of z.id.0 z.kind y) q ∙ ap (λ (kd : Kind). part_kind_of r.id.0 kd y) (sym e);
            sends = w₁.out ++ w₂.out;
            rotates = record {
              back = turning.back;
              before = ap (queue_kind s r.len) e ∙ turning.before;
              after = ap (λ (z : Told). queue_kind (state_after s g) z.len z.kind) q ∙ sym (queue-same f (acked_at (state_after s g) l) w₂.next n next_low (λ k m. same_flags k)) ∙ turning.after;
              moves = moved turning.moves;
            };
            sent = λ y k. rw e (rw (names-piece y) at (in-packs c₂ _ (kept_on c₂ selected) (in-items y k)));
          }
        where
          moved : (1 ≤ length (w₁.out ++ w₂.out)) ⊎ (queue_at f next n ≡ []) → (1 ≤ length (w₁.out ++ w₂.out)) ⊎ (queue_of s r ≡ [])
          moved (inl m) = inl m
          moved (inr m) = inr (ap (queue_kind s r.len) e ∙ m)

    -- ---- either way

    pub turns : (last : Sent) → Clocked last s → Spaced s.resend_time last g.now → SLICE_SIZE ≤ g.allowance → Turns s (state_after s g) r (all_parts (packs s g))
    turns last c sp enough = at (kind_of r) refl
      where
        at : (kd : Kind) → kind_of r ≡ kd → Turns s (state_after s g) r (all_parts (packs s g))
        at (Small i t) e =
            let p = subst (PlacedKind s r.len) e head-placed in
            small-turns i t e (omega (arith, p.2)) (small-due s v g.now last c sp i t (ap (λ (x : Row). kind_of x) first-is.2 ∙ e) p.3)
        at (Sliced l a next) e = sliced-turns l a next e enough (piece-due s v g.now last c sp)
