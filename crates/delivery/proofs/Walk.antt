-- What the visits of a round do: any visit keeps what is no sending; visits of other rows leave the first row alone; and those of the first row,
-- where it is sliced and all its pieces are due, are the walk of `Rotate`. Assumes nothing.
use Prim.Native.Nat.{ℕ, zero, suc, ◌+◌, ◌-◌, ◌*◌, ◌≤◌, ◌<◌}
use mathlib.Core.Path.{◌≡◌, refl, sym, ap, ◌∙◌, subst}
use mathlib.Core.Bool.{Bool, true, false}
use mathlib.Core.List.{List, [], ◌∷◌, ◌++◌, map, append_assoc}
use native.Mathlib.Omega.{arith}
use lib.Dec.{ltb}
use lib.ListN.{length, get_or, set, length-set}
use lib.Seq.{get_or-set_same, get_or-set_other}
use Rattle.words.specs.Sizes.{SLICE_SIZE, PIECES}
use Rattle.words.specs.Choice.{pick}
use Rattle.words.specs.Pieces.{pieces_of, piece_len_of}
use Rattle.words.specs.Lists.{reached, All}
use Rattle.words.specs.declared.MessageId.{MessageId}
use Rattle.words.proofs.Lists.{all_append, all_map}
use Rattle.words.proofs.Tables.{pick-cases, by-test}
use Rattle.channel.specs.Settings.{lane_len_of}
use Rattle.channel.specs.declared.Settings.{Settings}
use Rattle.pack.specs.Pack.{Item}
use Rattle.send_reliable.specs.declared.Kind.{Kind}
use Rattle.send_reliable.specs.declared.Kind.TheVariants.{Small, Sliced}
use Rattle.send_reliable.specs.declared.Row.{Row}
use Rattle.send_reliable.specs.declared.Piece.{Piece}
use Rattle.send_reliable.specs.Sender.{last_sent_of, kind_of, as_row, unsent, no_row, no_piece}
use Rattle.send_reliable.specs.declared.Visit.{Visit}
use Rattle.send_reliable.specs.Select.{up_from, row_visits, visits_from, due, sent_at, Chosen, visit_piece, visit_kind, visit}
use Rattle.std.proofs.lemmas.List.{append-nil}
use Rattle.delivery.proofs.Lists.{set_keeps}
use Rattle.delivery.proofs.Rotate.{Walk, send_one, walk}

-- ---- any visit

-- what a row tells of its message
pub record Told : Type 0 where
  pub id : MessageId
  pub len : ℕ
  pub kind : Kind

abbrev pub told : Row → Told
told r = record { id = r.id; len = r.len; kind = kind_of r }

-- and without its sendings
abbrev pub bare_kind : Kind → Kind
bare_kind (Small i t) = Small i unsent
bare_kind (Sliced l a next) = Sliced l a 0

abbrev pub bare : Row → Told
bare r = record { id = r.id; len = r.len; kind = bare_kind (kind_of r) }

pub record Kept (c c' : Chosen) : Type 0 where
  pub rows : (k : ℕ) → bare (get_or c'.rows k no_row) ≡ bare (get_or c.rows k no_row)
  pub acked : (p : ℕ) → (get_or c'.pieces p no_piece).acked ≡ (get_or c.pieces p no_piece).acked
  pub rows_long : length c'.rows ≡ length c.rows
  pub pieces-long : length c'.pieces ≡ length c.pieces
  pub more : List Item
  pub items : c'.items ≡ c.items ++ more

kept_same : (c : Chosen) → Kept c c
kept_same c = record { rows = λ k. refl; acked = λ p. refl; rows_long = refl; pieces-long = refl; more = []; items = sym (append-nil c.items) }

kept_then : {a b c : Chosen} → Kept a b → Kept b c → Kept a c
kept_then {a} x y =
    record {
      rows = λ k. y.rows k ∙ x.rows k;
      acked = λ p. y.acked p ∙ x.acked p;
      rows_long = y.rows_long ∙ x.rows_long;
      pieces-long = y.pieces-long ∙ x.pieces-long;
      more = x.more ++ y.more;
      items = y.items ∙ ap (λ (l : List Item). l ++ y.more) x.items ∙ append_assoc a.items x.more y.more;
    }

module _ (st : Settings) (resend now : ℕ) where
  kept-kind : (c : Chosen) (k i : ℕ) (r : Row) (kd : Kind) → get_or c.rows k no_row ≡ r → kind_of r ≡ kd → Kept c (visit_kind st resend now c k i r kd)
  kept-kind c k i r (Small cell t) e f =
      pick-cases (Kept c) (ltb c.left r.len) (λ _. kept_same c)
      (λ _. pick-cases (Kept c) (due resend now (last_sent_of t))
      (λ _. record {
        rows = set_keeps bare c.rows k _ no_row (sym (ap bare e ∙ ap (λ (x : Kind). record { id = r.id; len = r.len; kind = bare_kind x }) f));
        acked = λ p. refl;
        rows_long = length-set c.rows k _;
        pieces-long = refl;
        more = _;
        items = refl;
      })
      (λ _. kept_same c))
  kept-kind c k i r (Sliced l a next) e f =
      pick-cases (Kept c) (ltb c.left SLICE_SIZE) (λ _. kept_same c)
      (λ _. pick-cases (Kept c) (get_or c.pieces (l * PIECES + i) no_piece).acked (λ _. kept_same c)
      (λ _. pick-cases (Kept c) (due resend now (last_sent_of (get_or c.pieces (l * PIECES + i) no_piece).sending))
      (λ _. record {
        rows = set_keeps bare c.rows k _ no_row (sym (ap bare e ∙ ap (λ (x : Kind). record { id = r.id; len = r.len; kind = bare_kind x }) f));
        acked = set_keeps (λ (p : Piece). p.acked) c.pieces (l * PIECES + i) _ no_piece refl;
        rows_long = length-set c.rows k _;
        pieces-long = length-set c.pieces (l * PIECES + i) _;
        more = _;
        items = refl;
      })
      (λ _. kept_same c)))

  pub kept-visit : (c : Chosen) (v : Visit) → Kept c (visit st resend now c v)
  unfolding visit
  kept-visit c v = kept-kind c v.row v.piece (get_or c.rows v.row no_row) (kind_of (get_or c.rows v.row no_row)) refl refl

  pub kept-visits : (vs : List Visit) (c : Chosen) → Kept c (reached (visit st resend now) c vs)
  unfolding reached
  kept-visits [] c = kept_same c
  kept-visits (v ∷ vs) c = kept_then (kept-visit c v) (kept-visits vs (visit st resend now c v))

  -- ---- visits of other rows

  -- a row that is not in lane l
  abbrev pub Elsewhere : ℕ → Kind → Type 0
  Elsewhere l (Small i t) = Unit
  Elsewhere l (Sliced m a next) = m ≡ l → ⊥

  -- the first row and the pieces of lane l stay
  pub record Away (l : ℕ) (c c' : Chosen) : Type 0 where
    pub head : get_or c'.rows 0 no_row ≡ get_or c.rows 0 no_row
    pub lane : (j : ℕ) → j < PIECES → get_or c'.pieces (l * PIECES + j) no_piece ≡ get_or c.pieces (l * PIECES + j) no_piece

  away-same : (l : ℕ) (c : Chosen) → Away l c c
  away-same l c = record { head = refl; lane = λ j h. refl }

  away-kind : (l : ℕ) (c : Chosen) (k i : ℕ) (r : Row) (kd : Kind) → i < PIECES → Elsewhere l (bare_kind kd) → Away l c (visit_kind st resend now c (suc k) i r kd)
  away-kind l c k i r (Small cell t) low e =
      pick-cases (Away l c) (ltb c.left r.len) (λ _. away-same l c)
      (λ _. pick-cases (Away l c) (due resend now (last_sent_of t))
      (λ _. record { head = get_or-set_other c.rows (suc k) 0 _ no_row (omega arith); lane = λ j h. refl })
      (λ _. away-same l c))
  away-kind l c k i r (Sliced m a next) low e =
      pick-cases (Away l c) (ltb c.left SLICE_SIZE) (λ _. away-same l c)
      (λ _. pick-cases (Away l c) (get_or c.pieces (m * PIECES + i) no_piece).acked (λ _. away-same l c)
      (λ _. pick-cases (Away l c) (due resend now (last_sent_of (get_or c.pieces (m * PIECES + i) no_piece).sending))
      (λ _. record {
        head = get_or-set_other c.rows (suc k) 0 _ no_row (omega arith);
        lane = λ j h. get_or-set_other c.pieces (m * PIECES + i) (l * PIECES + j) _ no_piece (λ q. e (omega arith));
      })
      (λ _. away-same l c)))

  -- of visits that name rows behind the first, whose kinds are K
  abbrev pub Behind : (ℕ → Kind) → ℕ → Visit → Type 0
  Behind K l v = (1 ≤ v.row) × (v.piece < PIECES) × Elsewhere l (K v.row)

  away-visit : (l : ℕ) (c : Chosen) (k i : ℕ) → 1 ≤ k → i < PIECES → Elsewhere l (bare_kind (kind_of (get_or c.rows k no_row))) → Away l c (visit st resend now c (record { row = k; piece = i }))
  unfolding visit
  away-visit l c zero i one low e = absurd (omega arith)
  away-visit l c (suc k) i one low e = away-kind l c k i (get_or c.rows (suc k) no_row) (kind_of (get_or c.rows (suc k) no_row)) low e

  pub away-visits : (K : ℕ → Kind) (l : ℕ) (vs : List Visit) (c : Chosen) → ((k : ℕ) → (bare (get_or c.rows k no_row)).kind ≡ K k) → All (Behind K l) vs
      → Away l c (reached (visit st resend now) c vs)
  unfolding reached All
  away-visits K l [] c same b = away-same l c
  away-visits K l (v ∷ vs) c same b =
      let a = away-visit l c v.row v.piece b.0.0 b.0.1 (subst (Elsewhere l) (sym (same v.row)) b.0.2) in
      let c₁ = visit st resend now c v in
      let r = away-visits K l vs c₁ (λ k. ap (λ (x : Told). x.kind) ((kept-visit c v).rows k) ∙ same k) b.1 in
      record { head = r.head ∙ a.head; lane = λ j h. r.lane j h ∙ a.lane j h }

-- ---- which visits a round makes

pub up-low : (k i n : ℕ) → All (λ (v : Visit). (v.row ≡ k) × (v.piece < i + n)) (up_from k i n)
unfolding up_from All
up-low k i zero = tt
up-low k i (suc n) = ((refl, omega arith), all_map _ _ (λ v h. (h.0, omega (arith, h.1))) (up_from k (i + 1) n) (up-low k (i + 1) n))

-- a row behind the first: not in lane l, and its pieces are not too many
abbrev pub Other : ℕ → ℕ → Kind → Type 0
Other l n (Small i t) = Unit
Other l n (Sliced m a next) = (m ≡ l → ⊥) × (next ≤ pieces_of n) × (pieces_of n ≤ PIECES)

module _ (st : Settings) (resend now : ℕ) (K : ℕ → Kind) (l : ℕ) where
  row-behind : (k n : ℕ) (kd : Kind) → 1 ≤ k → K k ≡ bare_kind kd → Other l n kd → All (Behind st resend now K l) (row_visits k n kd)
  row-behind k n (Small i t) one e o =
      all_map _ _ (λ v h. (omega (arith, h.0), omega (arith, h.1), subst (λ (j : ℕ). Elsewhere st resend now l (K j)) (sym h.0) (subst (Elsewhere st resend now l) (sym e) tt)))
      (up_from k 0 1) (up-low k 0 1)
  row-behind k n (Sliced m a next) one e o =
      all_append _ (up_from k next (pieces_of n - next)) (up_from k 0 next)
      (all_map _ _ (λ v h. at v h.0 (omega (arith, h.1, o.1, o.2))) (up_from k next (pieces_of n - next)) (up-low k next (pieces_of n - next)))
      (all_map _ _ (λ v h. at v h.0 (omega (arith, h.1, o.1, o.2))) (up_from k 0 next) (up-low k 0 next))
    where
      at : (v : Visit) → v.row ≡ k → v.piece < PIECES → Behind st resend now K l v
      at v q h = (omega arith, h, subst (λ (j : ℕ). Elsewhere st resend now l (K j)) (sym q) (subst (Elsewhere st resend now l) (sym e) o.0))

  pub rows_behind : (k : ℕ) (rs : List Row) → 1 ≤ k → ((j : ℕ) → j < length rs → K (k + j) ≡ bare_kind (kind_of (get_or rs j no_row)))
      → All (λ (r : Row). Other l r.len (kind_of r)) rs → All (Behind st resend now K l) (visits_from k rs)
  unfolding visits_from All
  rows_behind k [] one e o = tt
  rows_behind k (r ∷ rs) one e o =
      let z : k + 0 ≡ k = omega arith in
      all_append _ (row_visits k r.len (kind_of r)) (visits_from (k + 1) rs)
      (row-behind k r.len (kind_of r) one (rw z at (e 0 (omega arith))) o.0)
      (rows_behind (k + 1) rs (omega arith) (λ j h. let q : k + 1 + j ≡ k + suc j = omega arith in rw q (e (suc j) (omega arith))) o.1)

-- ---- visits of the first row, which is sliced: its pieces in lane l are acknowledged as f says

module _ (st : Settings) (resend now : ℕ) (id : MessageId) (len l a : ℕ) (f : ℕ → Bool) where
  abbrev pub row_at : ℕ → Told
  row_at next = record { id = id; len = len; kind = Sliced l a next }

  abbrev pub item_at : ℕ → Item
  item_at i = record { num = pieces_of len; id = id.0; index = i; place = l * lane_len_of st + i * SLICE_SIZE; len = piece_len_of len i }

  abbrev piece_in : Chosen → ℕ → Piece
  piece_in c i = get_or c.pieces (l * PIECES + i) no_piece

  abbrev sent_piece : Chosen → ℕ → Chosen
  sent_piece c i =
      record {
        left = c.left - piece_len_of len i;
        items = c.items ++ (item_at i ∷ []);
        rows = set c.rows 0 (as_row id len (Sliced l a (i + 1)));
        pieces = set c.pieces (l * PIECES + i) (record { acked = (piece_in c i).acked; sending = sent_at now });
      }

  abbrev Due : Piece → Type 0
  Due p = due resend now (last_sent_of p.sending) ≡ true

  visit-is : (c : Chosen) (i next : ℕ) → told (get_or c.rows 0 no_row) ≡ row_at next → (piece_in c i).acked ≡ f i → Due (piece_in c i)
      → visit st resend now c (record { row = 0; piece = i }) ≡ pick (ltb c.left SLICE_SIZE) c (pick (f i) c (sent_piece c i))
  unfolding visit
  visit-is c i next r e d =
      ap (λ (x : Told). visit_kind st resend now c 0 i (get_or c.rows 0 no_row) x.kind) r
      ∙ ap (λ (x : Told). visit_piece st resend now c 0 i (as_row x.id x.len (Sliced l a next)) l a (piece_in c i)) r
      ∙ ap (λ (b : Bool). pick (ltb c.left SLICE_SIZE) c (pick b c (pick (due resend now (last_sent_of (piece_in c i).sending)) (sent_piece c i) c))) e
      ∙ ap (λ (b : Bool). pick (ltb c.left SLICE_SIZE) c (pick (f i) c (pick b (sent_piece c i) c))) d

  pub record Followed (c c' : Chosen) (i : ℕ) (w : Walk) : Type 0 where
    pub row : told (get_or c'.rows 0 no_row) ≡ row_at w.next
    pub left : c'.left ≡ w.left
    pub items : c'.items ≡ c.items ++ map item_at w.out
    pub before : (j : ℕ) → j < i → piece_in c' j ≡ piece_in c j

  -- the visits of n pieces from i on
  abbrev visits : Chosen → ℕ → ℕ → Chosen
  visits c i n = reached (visit st resend now) c (up_from 0 i n)

  abbrev walk_of : ℕ → ℕ → ℕ → ℕ → Walk
  walk_of = walk f (piece_len_of len)

  -- nothing went
  passed_over : (n i next : ℕ) (c : Chosen) → visit st resend now c (record { row = 0; piece = i }) ≡ c
      → walk_of i (suc n) next c.left ≡ walk_of (i + 1) n next c.left
      → Followed c (visits c (i + 1) n) (i + 1) (walk_of (i + 1) n next c.left) → Followed c (visits c i (suc n)) i (walk_of i (suc n) next c.left)
  unfolding reached up_from
  passed_over n i next c v e h =
      let z : reached (visit st resend now) (visit st resend now c (record { row = 0; piece = i })) (up_from 0 (i + 1) n) ≡ visits c (i + 1) n
      = ap (λ (x : Chosen). reached (visit st resend now) x (up_from 0 (i + 1) n)) v in
      record {
        row = ap (λ (x : Chosen). told (get_or x.rows 0 no_row)) z ∙ h.row ∙ ap (λ (w : Walk). row_at w.next) (sym e);
        left = ap (λ (x : Chosen). x.left) z ∙ h.left ∙ ap (λ (w : Walk). w.left) (sym e);
        items = ap (λ (x : Chosen). x.items) z ∙ h.items ∙ ap (λ (w : Walk). c.items ++ map item_at w.out) (sym e);
        before = λ j m. ap (λ (x : Chosen). piece_in x j) z ∙ h.before j (omega arith);
      }

  -- a piece went
  gone-on : (n i next : ℕ) (c : Chosen) → visit st resend now c (record { row = 0; piece = i }) ≡ sent_piece c i
      → walk_of i (suc n) next c.left ≡ send_one i (walk_of (i + 1) n (i + 1) (c.left - piece_len_of len i))
      → Followed (sent_piece c i) (visits (sent_piece c i) (i + 1) n) (i + 1) (walk_of (i + 1) n (i + 1) (c.left - piece_len_of len i))
      → Followed c (visits c i (suc n)) i (walk_of i (suc n) next c.left)
  unfolding reached up_from
  gone-on n i next c v e h =
      let z : reached (visit st resend now) (visit st resend now c (record { row = 0; piece = i })) (up_from 0 (i + 1) n) ≡ visits (sent_piece c i) (i + 1) n
      = ap (λ (x : Chosen). reached (visit st resend now) x (up_from 0 (i + 1) n)) v in
      let o = (walk_of (i + 1) n (i + 1) (c.left - piece_len_of len i)).out in
      record {
        row = ap (λ (x : Chosen). told (get_or x.rows 0 no_row)) z ∙ h.row ∙ ap (λ (w : Walk). row_at w.next) (sym e);
        left = ap (λ (x : Chosen). x.left) z ∙ h.left ∙ ap (λ (w : Walk). w.left) (sym e);
        items = ap (λ (x : Chosen). x.items) z ∙ h.items ∙ append_assoc c.items (item_at i ∷ []) (map item_at o) ∙ ap (λ (w : Walk). c.items ++ map item_at w.out) (sym e);
        before = λ j m. ap (λ (x : Chosen). piece_in x j) z ∙ h.before j (omega arith) ∙ get_or-set_other c.pieces (l * PIECES + i) (l * PIECES + j) _ no_piece (omega arith);
      }

  walk-short : (n i next k : ℕ) → ltb k SLICE_SIZE ≡ true → walk_of i (suc n) next k ≡ walk_of (i + 1) n next k
  unfolding walk
  walk-short n i next k t = rw t

  walk-passed : (n i next k : ℕ) → ltb k SLICE_SIZE ≡ false → f i ≡ true → walk_of i (suc n) next k ≡ walk_of (i + 1) n next k
  unfolding walk
  walk-passed n i next k t e = rw (t, e)

  walk-sent : (n i next k : ℕ) → ltb k SLICE_SIZE ≡ false → f i ≡ false → walk_of i (suc n) next k ≡ send_one i (walk_of (i + 1) n (i + 1) (k - piece_len_of len i))
  unfolding walk
  walk-sent n i next k t e = rw (t, e)

  followed-none : (i next : ℕ) (c : Chosen) → told (get_or c.rows 0 no_row) ≡ row_at next → Followed c (visits c i zero) i (walk_of i zero next c.left)
  unfolding reached up_from walk
  followed-none i next c r = record { row = r; left = refl; items = sym (append-nil c.items); before = λ j h. refl }

  pub followed : (n i next : ℕ) (c : Chosen) → 1 ≤ length c.rows → told (get_or c.rows 0 no_row) ≡ row_at next → ((j : ℕ) → (piece_in c j).acked ≡ f j)
      → ((j : ℕ) → i ≤ j → j < i + n → Due (piece_in c j)) → Followed c (visits c i n) i (walk_of i n next c.left)
  followed zero i next c long r e d = followed-none i next c r
  followed (suc n) i next c long r e d =
      let v = visit-is c i next r (e i) (d i (omega arith) (omega arith)) in
      by-test (ltb c.left SLICE_SIZE)
      (λ t. passed_over n i next c (v ∙ rw t) (walk-short n i next c.left t) (followed n (i + 1) next c long r e (λ j h m. d j (omega arith) (omega arith))))
      (λ t. by-test (f i)
      (λ u. passed_over n i next c (v ∙ rw (t, u)) (walk-passed n i next c.left t u) (followed n (i + 1) next c long r e (λ j h m. d j (omega arith) (omega arith))))
      (λ u. gone-on n i next c (v ∙ rw (t, u)) (walk-sent n i next c.left t u)
      (followed n (i + 1) (i + 1) (sent_piece c i)
      (rw length-set long)
      (ap told (get_or-set_same c.rows 0 (as_row id len (Sliced l a (i + 1))) no_row long))
      (λ j. set_keeps (λ (p : Piece). p.acked) c.pieces (l * PIECES + i) (record { acked = (piece_in c i).acked; sending = sent_at now }) no_piece refl (l * PIECES + j) ∙ e j)
      (λ j h m. rw (get_or-set_other c.pieces (l * PIECES + i) (l * PIECES + j) (record { acked = (piece_in c i).acked; sending = sent_at now }) no_piece (omega arith)) (d j (omega arith) (omega arith))))))
