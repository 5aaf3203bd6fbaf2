-- The code's choice, turn by turn, is what the definition reaches; and the three answers of a round. Assumes nothing.
use Prim.Native.Nat.{ℕ, ◌+◌, ◌*◌, ◌-◌, ◌≤◌, ◌<◌, zero-le}
use mathlib.Core.Path.{◌≡◌, refl, sym, ap, subst, ◌∙◌}
use mathlib.Core.Bool.{Bool, true, false, not}
use mathlib.Core.List.{List, [], ◌∷◌, ◌++◌}
use native.Mathlib.Omega.{arith}
use native.Mathlib.Numerals.{add-one}
use borrow.Author.Tests.{not-false, leb-false, ltb-false}
use lib.Dec.{ltb, leb, eqb}
use lib.ListN.{length, get_or, set, take, length-set}
use lib.Seq.{take_all}
use Rattle.words.specs.Sizes.{SLICE_SIZE, PIECES, LIMIT}
use Rattle.words.specs.Choice.{pick}
use Rattle.words.specs.Pieces.{pieces_of, piece_len_of}
use Rattle.words.specs.Lists.{All, reached}
use Rattle.words.specs.Refusal.{number_of}
use Rattle.words.specs.declared.Refusal.{Refusal}
use Rattle.words.proofs.Lists.{all-at, reached-suc, none-refused}
use Rattle.words.proofs.Tables.{clash}
use Rattle.channel.specs.Settings.{lane_len_of, stores_hold_of}
use Rattle.channel.proofs.Good.{stores-room}
use Rattle.pack.specs.Pack.{item_of, items_of, items_in, Pack, pack}
use Rattle.pack.specs.Encode.{Lent, round_refusal}
use Rattle.pack.specs.Rows as rows
use Rattle.pack.specs.Round.{Sums, sent, refused, went_of, sums, Gives}
use Rattle.pack.specs.declared.Written.{Written}
use Rattle.std.specs.Prelude.{Result, Ok, Err}
use Rattle.pack.specs.declared.Item as code
use Rattle.pack.proofs.Pieces.{piece-most}
use Rattle.pack.proofs.Tables.{items-put, items-taken}
use Rattle.words.proofs.Unique.{numbered-above}
use Rattle.send_reliable.specs.declared.Kind.TheVariants.{Small, Sliced}
use Rattle.send_reliable.specs.declared.Row.{Row}
use Rattle.send_reliable.specs.declared.Piece.{Piece}
use Rattle.send_reliable.specs.declared.SendChannelReliable.{SendChannelReliable}
use Rattle.send_reliable.specs.declared.Selection.{Selection}
use Rattle.send_reliable.specs.Sender.{Sending, last_sent_of, kind_of, as_row, ROWS, no_row, no_piece, live, Valid}
use Rattle.send_reliable.specs.Select.{Visit, no_visit, visits_from, sent_at, Chosen, visit, unvisited, select, with_chosen}
use Rattle.send_reliable.specs.RoundSteps.{goes, size_row, Within, Selects, Visitable, chosen_by, VisitGives}
use Rattle.send_reliable.specs.Round.{Given, entry_refusal, packs, lent, refusal_of, state_after, RoundGives}
use Rattle.send_reliable.proofs.Visits.{rows-room, visits-within}
use Rattle.send_reliable.proofs.Select.{visit-small, visit-piece, enough, Kept, SmallHere, small-here, PieceHere, piece-here, begun, visit-keeps, up_to, up_to-kept, select-valid, select-goes}

-- after v visits, the code has chosen what the definition reaches, an item for a visit at most, in a table of z items; nothing else of the state
-- changed
pub record ChosenTo (s : SendChannelReliable) (now a z v : ℕ) (c : Selection) (t : SendChannelReliable) (items : List code.Item) : Type 0 where
  pub few : c.items ≤ v
  pub long : length items ≡ z
  pub chosen : chosen_by c items t ≡ up_to s now a v
  pub state : t ≡ with_chosen s s.latest (chosen_by c items t)

pub none-chosen : (s : SendChannelReliable) (now a : ℕ) (items : List code.Item) → ChosenTo s now a (length items) 0 (record { left = a; items = 0 }) s items
unfolding reached items_in
none-chosen s now a items = record { few = zero-le; long = refl; chosen = refl; state = refl }

-- ---- the loop

-- the state once the clock moved on, before the first visit
abbrev pub from_now : SendChannelReliable → ℕ → SendChannelReliable
from_now s now = with_chosen s now (unvisited s 0)

abbrev WithinRows : SendChannelReliable → Visit → Type 0
WithinRows s = Within s.count (λ k. size_row (get_or s.rows k no_row))

abbrev visiting : SendChannelReliable → ℕ → Chosen → Visit → Chosen
visiting s now = visit s.settings s.resend_time now

module _ (s₀ : SendChannelReliable) (f₀ : Valid s₀) (now a : ℕ) (h : s₀.latest ≤ now) (visits : List Visit) (vs : visits ≡ visits_from 0 (live s₀)) (z v : ℕ) (c : Selection) (t : SendChannelReliable)
    (items : List code.Item) (w : ChosenTo (from_now s₀ now) now a z v c t items) where
  abbrev s : SendChannelReliable
  s = from_now s₀ now

  f : Valid s
  f = begun s₀ now f₀ h 0

  abbrev now-chosen : Chosen
  now-chosen = chosen_by c items t

  abbrev the-visit : Visit
  the-visit = get_or visits v no_visit

  -- what is known at the v-th visit
  pub visitable : v < length visits → Visitable t now the-visit
  visitable low =
      let k : Kept s now now-chosen = subst (Kept s now) (sym w.chosen) (up_to-kept s f now (omega arith) a v) in
      let q : WithinRows s the-visit = rw vs (all-at (WithinRows s) (visits_from 0 (live s)) v no_visit (rw vs at low) (visits-within s f)) in
      let e = ap (λ (u : SendChannelReliable). u.count) w.state in
      let n = k.sizes the-visit.row in
      record {
        valid = subst Valid (sym (ap (λ (u : SendChannelReliable). with_chosen u now now-chosen) w.state)) k.valid;
        within = (omega arith, omega arith);
      }

  -- and after it
  pub one-more : v < length visits → (c' : Selection) (t' : SendChannelReliable) (items' : List code.Item) → VisitGives t.latest the-visit t c items t' c' items'
      → ChosenTo (from_now s₀ now) now a z (v + 1) c' t' items'
  one-more low c' t' items' g₀ =
      let g = subst (λ (n : ℕ). VisitGives n the-visit t c items t' c' items') (ap (λ (u : SendChannelReliable). u.latest) w.state) g₀ in
      let l : v < length (visits_from 0 (live s)) = rw vs at low in
      record {
        few = omega (arith, g.few, w.few);
        long = g.long ∙ w.long;
        chosen =
            g.chosen
            ∙ ap (λ (u : SendChannelReliable). visit u.settings u.resend_time now now-chosen the-visit) w.state
            ∙ ap (λ (d : Chosen). visiting s now d the-visit) w.chosen
            ∙ ap (λ (ws : List Visit). visiting s now (up_to s now a v) (get_or ws v no_visit)) vs
            ∙ sym (ap (λ (k : ℕ). reached (visiting s now) (unvisited s a) (take k (visits_from 0 (live s)))) (add-one v) ∙ reached-suc (λ (d : Chosen) (x : Visit). x) (visiting s now) (unvisited s a) (visits_from 0 (live s)) v no_visit l);
        state = g.state ∙ ap (λ (u : SendChannelReliable). with_chosen u u.latest (chosen_by c' items' t')) w.state;
      }

  -- at the end
  pub all-chosen : length visits ≤ v → v ≤ length visits → length visits ≤ z → Selects s₀ now a (length visits) items c.items t
  unfolding select
  all-chosen past within fits =
      let l : length (visits_from 0 (live s)) ≤ v = rw vs at past in
      let e : now-chosen ≡ select s₀ now a = w.chosen ∙ ap (reached (visiting s now) (unvisited s a)) (take_all v (visits_from 0 (live s)) l) in
      record {
        items = ap (λ (d : Chosen). d.items) e;
        few = omega (arith, w.few);
        long = omega (arith, w.few, w.long);
        state = w.state ∙ ap (with_chosen s₀ now) e;
      }

-- ---- a visit

module _ (s : SendChannelReliable) (now : ℕ) (v : Visit) (k : Visitable s now v) (c : Selection) (items : List code.Item) where
  abbrev r : Row
  r = get_or s.rows v.row no_row

  abbrev before : Chosen
  before = chosen_by c items s

  kept : Kept s now before
  kept = record { valid = k.valid; sizes = λ i. refl }

  pub row_low : v.row < ROWS
  row_low = omega (arith, k.within.0, rows-room _ k.valid, k.valid.rows_long)

  -- nothing goes
  passed : visiting s now before v ≡ before → VisitGives now v s c items s c items
  passed e = record { few = omega arith; long = refl; chosen = sym e; state = refl }

  -- an item more, and these tables
  more : c.items < length items → (x : code.Item) (left : ℕ) (rows : List Row) (pieces : List Piece)
      → visiting s now before v ≡ record { left = left; items = items_in items 0 c.items ++ (item_of x ∷ []); rows = rows; pieces = pieces }
      → VisitGives now v s c items (with_chosen s s.latest (record { left = left; items = []; rows = rows; pieces = pieces })) (record { left = left; items = c.items + 1 }) (set items c.items x)
  more room x left rows pieces e =
      record { few = omega arith; long = length-set items c.items x; chosen = rw (items-put items c.items x room) (sym e); state = refl }

  -- a small message: b says whether it goes, and `row` is the row that is put for it
  module _ (cell : ℕ) (last : Sending) (e : kind_of r ≡ Small cell last) where
    pub at_small : SmallHere s now r cell last
    at_small = small-here s now before kept v k.within cell last e

    module _ (b : Bool) (eb : b ≡ goes s.resend_time now c.left r.len (last_sent_of last)) where
      pub small-covered : b ≡ true → r.len ≤ c.left
      small-covered g = enough s.resend_time now c.left r.len (last_sent_of last) (sym eb ∙ g)

      pub small-passed : b ≡ false → VisitGives now v s c items s c items
      small-passed g = passed (visit-small s.settings s.resend_time now before v cell last e ∙ rw (sym eb ∙ g))

      pub small-chosen : b ≡ true → c.items < length items → (row : Row) → row ≡ as_row r.id r.len (Small cell (sent_at now))
          → VisitGives now v s c items (with_chosen s s.latest (record { left = 0; items = []; rows = set s.rows v.row row; pieces = s.pieces }))
          (record { left = c.left - r.len; items = c.items + 1 })
          (set items c.items (record { num = 0; id = r.id; index = record { 0 = 0 }; place = cell * SLICE_SIZE; len = r.len }))
      small-chosen g room row er =
          more room _ _ _ s.pieces (visit-small s.settings s.resend_time now before v cell last e ∙ rw (sym eb ∙ g, er))

  -- a piece
  module _ (l d next : ℕ) (e : kind_of r ≡ Sliced l d next) where
    abbrev p : Piece
    p = get_or s.pieces (l * PIECES + v.piece) no_piece

    pub at_piece : PieceHere s now before r l d v.piece
    at_piece = piece-here s now before kept v k.within l d next e

    piece-passed : pick p.acked false (goes s.resend_time now c.left SLICE_SIZE (last_sent_of p.sending)) ≡ false → VisitGives now v s c items s c items
    piece-passed g = passed (visit-piece s.settings s.resend_time now before v l d next e ∙ rw g)

    -- one that is acked
    pub piece-acked : p.acked ≡ true → VisitGives now v s c items s c items
    piece-acked u = piece-passed (rw u)

    module _ (u : p.acked ≡ false) (b : Bool) (eb : b ≡ goes s.resend_time now c.left SLICE_SIZE (last_sent_of p.sending)) where
      pub piece-covered : b ≡ true → piece_len_of r.len v.piece ≤ c.left
      piece-covered g = omega (arith, enough s.resend_time now c.left SLICE_SIZE (last_sent_of p.sending) (sym eb ∙ g), piece-most r.len v.piece at_piece.piece)

      pub piece-stays : b ≡ false → VisitGives now v s c items s c items
      piece-stays g = piece-passed (rw u (sym eb ∙ g))

      pub piece-chosen : b ≡ true → c.items < length items → (row : Row) → row ≡ as_row r.id r.len (Sliced l d (v.piece + 1))
          → (num size : ℕ) → num ≡ pieces_of r.len → size ≡ piece_len_of r.len v.piece
          → VisitGives now v s c items
          (with_chosen s s.latest (record { left = 0; items = []; rows = set s.rows v.row row; pieces = set s.pieces (l * PIECES + v.piece) (record { acked = p.acked; sending = sent_at now }) }))
          (record { left = c.left - size; items = c.items + 1 })
          (set items c.items (record { num = num; id = r.id; index = record { 0 = v.piece }; place = l * lane_len_of s.settings + v.piece * SLICE_SIZE; len = size }))
      piece-chosen g room row er num size en es =
          more room _ _ _ _ (visit-piece s.settings s.resend_time now before v l d next e ∙ rw (u, sym eb ∙ g, er, en, es))

-- a visit at the latest time keeps what is always true
pub visited-valid : (s : SendChannelReliable) (v : Visit) → Visitable s s.latest v → (c : Selection) (items : List code.Item) (s' : SendChannelReliable) (c' : Selection)
    (items' : List code.Item) → VisitGives s.latest v s c items s' c' items' → Valid s'
visited-valid s v k c items s' c' items' g =
    let w : Kept s s.latest (chosen_by c' items' s') = subst (Kept s s.latest) (sym g.chosen) (visit-keeps s s.latest (chosen_by c items s) (kept s s.latest v k c items) v k.within) in
    subst Valid (sym g.state) w.valid

-- ---- a round

sent-none : (b : Bool) (x y : Sums) (e : ℕ) → sent x ≡ pick b (sent y) (refused e) → b ≡ true
sent-none true x y e h = refl
sent-none false x y e h = clash (cc)

refused-some : (b : Bool) (y : Sums) (n e : ℕ) → refused n ≡ pick b (sent y) (refused e) → b ≡ false
refused-some true y n e h = clash (cc)
refused-some false y n e h = refl

-- by what a round answers it was accepted, or not
module _ {l : Lent} {seq allowance : ℕ} {ps : List Pack} {e : ℕ} {out table out' table' : List ℕ} {a : Result Written Refusal} (w : Gives l seq allowance ps e out table out' table' a) where
  pub accepted : (x : Written) → a ≡ Ok x → eqb e 0 ≡ true
  accepted x h = sent-none (eqb e 0) _ (sums l seq allowance ps) e (sym (ap went_of h) ∙ w.answer)

  pub stopped : (x : Refusal) → a ≡ Err x → eqb e 0 ≡ false
  stopped x h = refused-some (eqb e 0) (sums l seq allowance ps) (number_of x) e (sym (ap went_of h) ∙ w.answer)

module _ (s : SendChannelReliable) (f : Valid s) (g : Given) (out table : List ℕ) where
  abbrev number : ℕ
  number = refusal_of s g (length out) (length table)

  -- refused before anything is chosen
  pub round-refused : (e : Refusal) → number_of e ≡ entry_refusal s g → RoundGives s g out table out table (record { answer = Err e; state = s })
  unfolding refusal_of
  round-refused e h =
      let n : entry_refusal s g ≡ number_of e = sym h in
      let z : refusal_of s g (length out) (length table) ≡ number_of e = rw (n, numbered-above e) in
      record {
        went = record { answer = rw (z, numbered-above e); bytes = rw (z, numbered-above e); entries = rw (z, numbered-above e) };
        state = rw (z, numbered-above e);
        valid = f;
      }

  module _ (entered : 0 ≡ entry_refusal s g) where
    pub entry-tests : (stores_hold_of s.settings (length g.small) (length g.lanes) ≡ true) × (g.seq < LIMIT) × (s.latest ≤ g.now)
    unfolding entry_refusal All
    entry-tests =
        let a =
        none-refused (
        (not (stores_hold_of s.settings (length g.small) (length g.lanes)), 10) ∷
        (leb LIMIT g.seq, 13) ∷
        (ltb g.now s.latest, 14) ∷ []
        )
        refl (sym entered) in
        (not-false _ a.0, leb-false _ _ a.1.0, ltb-false _ _ a.1.1.0)

    -- what was chosen may go
    module _ (n : ℕ) (items : List code.Item) (m : ℕ) (r : SendChannelReliable) (w : Selects s g.now g.allowance n items m r) where
      chosen-items : items_of (take m items) ≡ (select s g.now g.allowance).items
      chosen-items = items-taken items m w.long ∙ w.items

      pub items-go : All (rows.Chosen (lent s g)) (items_of (take m items))
      items-go =
          let t = entry-tests in
          rw chosen-items (select-goes s f g.now t.2 g.allowance g.small g.lanes (stores-room s.settings (length g.small) (length g.lanes) t.0))

      module _ (out' table' : List ℕ) (a : Result Written Refusal)
          (given : Gives (lent s g) g.seq g.allowance (pack true (items_of (take m items)))
          (round_refusal (lent s g) g.seq (pack true (items_of (take m items))) (length out) (length table)) out table out' table' a) where
        gives : Gives (lent s g) g.seq g.allowance (packs s g) number out table out' table' a
        unfolding refusal_of
        gives = let z : entry_refusal s g ≡ 0 = sym entered in rw z (rw chosen-items at given)

        -- it went
        pub round-sent : (x : Written) → a ≡ Ok x → RoundGives s g out table out' table' (record { answer = a; state = r })
        unfolding state_after
        round-sent x e =
            record {
              went = gives;
              state = rw (accepted gives x e) w.state;
              valid = rw w.state (select-valid s f g.now entry-tests.2 g.allowance);
            }

        -- or its packets were refused
        pub round-stopped : (e : Refusal) → a ≡ Err e → RoundGives s g out table out' table' (record { answer = a; state = s })
        round-stopped e h = record { went = gives; state = rw (stopped gives e h); valid = f }
