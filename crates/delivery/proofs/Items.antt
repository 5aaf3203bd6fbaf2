-- What a round chooses and packs: each small message and each piece is one that was queued, and may go. Assumes nothing.
use Prim.Native.Nat.{ℕ, suc, ◌+◌, ◌-◌, ◌*◌, ◌≤◌, ◌<◌}
use mathlib.Core.Path.{◌≡◌, refl, sym, ap, ◌∙◌, subst}
use mathlib.Core.Bool.{true, false}
use mathlib.Core.List.{List, [], ◌∷◌}
use mathlib.Core.Logic.{◌⊎◌, inl, inr}
use mathlib.Core.Option.{some}
use native.Mathlib.Omega.{arith}
use lib.Dec.{eqb, ltb}
use lib.ListN.{length, get_or, take, drop, length-take}
use lib.Seq.{take-take, take_all, drop-drop, get_or-take}
use borrow.Author.Tests.{eqb-true, eqb-false}
use Rattle.words.specs.Sizes.{SLICE_SIZE, PIECES, LIMIT, MAX_MESSAGES}
use Rattle.words.specs.Pieces.{pieces_of, piece_of, piece_len_of}
use Rattle.words.specs.Lists.{reached, total, All}
use Rattle.words.proofs.Lists.{all_map, all_append, all_snoc, drop-take}
use Rattle.words.proofs.Tables.{pick-cases}
use Rattle.octets.specs.Varint.{var_len}
use Rattle.channel.specs.Settings.{lane_len_of, small_len_of, lanes_len_of}
use Rattle.channel.proofs.Good.{lane-within}
use Rattle.pack.specs.Pack.{Item, is_small, Pack, group, single, packed_len, pack}
use Rattle.pack.specs.Laws.{WellPacked}
use Rattle.pack.proofs.Theorems.{by-turns, well-packed}
use Rattle.send_reliable.specs.declared.Kind.{Kind}
use Rattle.send_reliable.specs.declared.Kind.TheVariants.{Small, Sliced}
use Rattle.send_reliable.specs.declared.Row.{Row}
use Rattle.send_reliable.specs.declared.SendChannelReliable.{SendChannelReliable}
use Rattle.send_reliable.specs.Sender.{last_sent_of, kind_of, no_row, no_piece, live, PlacedKind, Placed, Valid}
use Rattle.send_reliable.specs.declared.Visit.{Visit}
use Rattle.send_reliable.specs.Select.{up_from, row_visits, visits_from, due, Chosen, visit_kind, visit, select}
use Rattle.send_reliable.specs.Round.{Given, chosen}
use Rattle.delivery.specs.World.{Bytes}
use Rattle.delivery.proofs.Walk.{Told, bare_kind, bare, kept-visit, up-low}
use Rattle.delivery.proofs.Receiver.{Queued, PieceOf}
use Rattle.delivery.proofs.Stored.{place_of, store_of, KindFits, RowHas, SenderHas, has-like, row_has}
use Rattle.send_reliable.proofs.Valid.{live-long}

-- ---- an item that was queued

pub record SmallHas (q : List Bytes) (small : Bytes) (x : Item) : Type 0 where
  pub num-is : x.num ≡ 0
  pub queued : Queued q x.id (take x.len (drop x.place small))
  pub below : x.id < LIMIT
  pub short : x.len ≤ SLICE_SIZE
  pub within : x.place + x.len ≤ length small

pub record PieceHas (q : List Bytes) (lanes : Bytes) (x : Item) : Type 0 where
  pub queued : PieceOf q x.id x.num x.index (take x.len (drop x.place lanes))
  pub low : x.index < x.num
  pub few : x.num ≤ PIECES
  pub below : x.id < LIMIT
  pub one : 1 ≤ x.len
  pub short : x.len ≤ SLICE_SIZE
  pub within : x.place + x.len ≤ length lanes

abbrev pub ItemHas : List Bytes → Bytes → Bytes → Item → Type 0
ItemHas q small lanes x = SmallHas q small x ⊎ PieceHas q lanes x

-- ---- a piece of a message lies in the message's lane

pub piece-part : (msg lanes : Bytes) (at n i : ℕ) → take n (drop at lanes) ≡ msg → i < pieces_of n → take (piece_len_of n i) (drop (at + i * SLICE_SIZE) lanes) ≡ piece_of msg i
piece-part msg lanes at n i e low =
    sym (ap (λ (l : Bytes). take SLICE_SIZE (drop (i * SLICE_SIZE) l)) (sym e)
    ∙ ap (take SLICE_SIZE) (drop-take (i * SLICE_SIZE) n (drop at lanes) ∙ ap (take (n - i * SLICE_SIZE)) (drop-drop (i * SLICE_SIZE) at lanes))
    ∙ tell)
  where
    tell : take SLICE_SIZE (take (n - i * SLICE_SIZE) (drop (at + i * SLICE_SIZE) lanes)) ≡ take (piece_len_of n i) (drop (at + i * SLICE_SIZE) lanes)
    tell =
        pick-cases (λ (k : ℕ). take SLICE_SIZE (take (n - i * SLICE_SIZE) (drop (at + i * SLICE_SIZE) lanes)) ≡ take k (drop (at + i * SLICE_SIZE) lanes)) (eqb (i + 1) (pieces_of n))
        (λ t. let z = eqb-true (i + 1) (pieces_of n) t in
        take_all SLICE_SIZE (take (n - i * SLICE_SIZE) (drop (at + i * SLICE_SIZE) lanes)) (let k = length-take (n - i * SLICE_SIZE) (drop (at + i * SLICE_SIZE) lanes) in omega arith))
        (λ t. let z = eqb-false (i + 1) (pieces_of n) t in take-take SLICE_SIZE (n - i * SLICE_SIZE) (drop (at + i * SLICE_SIZE) lanes) (omega arith))

pub piece-size : (n i : ℕ) → i < pieces_of n → (1 ≤ piece_len_of n i) × (piece_len_of n i ≤ SLICE_SIZE) × (i * SLICE_SIZE + piece_len_of n i ≤ n)
piece-size n i low =
    pick-cases (λ (k : ℕ). (1 ≤ k) × (k ≤ SLICE_SIZE) × (i * SLICE_SIZE + k ≤ n)) (eqb (i + 1) (pieces_of n))
    (λ t. let z = eqb-true (i + 1) (pieces_of n) t in (omega arith, omega arith, omega arith))
    (λ t. let z = eqb-false (i + 1) (pieces_of n) t in (omega arith, omega arith, omega arith))

-- ---- visits of waiting rows

-- an index below the pieces of a sliced message
abbrev pub LowKind : ℕ → Kind → ℕ → Type 0
LowKind n (Small j t) i = Unit
LowKind n (Sliced l a next) i = i < pieces_of n

pub bare-low : (n : ℕ) (kd : Kind) (i : ℕ) → LowKind n (bare_kind kd) i → LowKind n kd i
bare-low n (Small j t) i h = tt
bare-low n (Sliced l a next) i h = h

-- among the first N rows, which are R without their sendings
abbrev pub Visits : (ℕ → Told) → ℕ → Visit → Type 0
Visits R n v = (v.row < n) × LowKind (R v.row).len (R v.row).kind v.piece

module _ (s : SendChannelReliable) (R : ℕ → Told) (N : ℕ) where
  row_low : (k n : ℕ) (kd : Kind) → k < N → (R k).len ≡ n → (R k).kind ≡ bare_kind kd → PlacedKind s n kd → All (Visits R N) (row_visits k n kd)
  row_low k n (Small j t) low el ek p =
      all_map _ (Visits R N) (λ v h. (omega (arith, h.0), subst (λ (m : ℕ). LowKind (R m).len (R m).kind v.piece) (sym h.0) (subst (λ (kd : Kind). LowKind (R k).len kd v.piece) (sym ek) tt)))
      (up_from k 0 1) (up-low k 0 1)
  row_low k n (Sliced l a next) low el ek p =
      all_append (Visits R N) (up_from k next (pieces_of n - next)) (up_from k 0 next)
      (all_map _ (Visits R N) (λ v h. at v h.0 (omega (arith, h.1, p.6))) (up_from k next (pieces_of n - next)) (up-low k next (pieces_of n - next)))
      (all_map _ (Visits R N) (λ v h. at v h.0 (omega (arith, h.1, p.6))) (up_from k 0 next) (up-low k 0 next))
    where
      at : (v : Visit) → v.row ≡ k → v.piece < pieces_of n → Visits R N v
      at v q h = (omega arith, subst (λ (m : ℕ). LowKind (R m).len (R m).kind v.piece) (sym q) (subst (λ (kd : Kind). LowKind (R k).len kd v.piece) (sym ek) (rw el h)))

  pub rows-low : (k : ℕ) (rs : List Row) → k + length rs ≤ N → ((j : ℕ) → j < length rs → R (k + j) ≡ bare (get_or rs j no_row)) → All (Placed s) rs → All (Visits R N) (visits_from k rs)
  unfolding visits_from All Placed
  rows-low k [] h e p = tt
  rows-low k (r ∷ rs) h e p =
      let z : k + 0 ≡ k = omega arith in
      let x = rw z at (e 0 (omega arith)) in
      all_append (Visits R N) (row_visits k r.len (kind_of r)) (visits_from (k + 1) rs)
      (row_low k r.len (kind_of r) (omega arith) (ap (λ (y : Told). y.len) x) (ap (λ (y : Told). y.kind) x) p.0.1)
      (rows-low (k + 1) rs (omega arith) (λ j l. let y : k + 1 + j ≡ k + suc j = omega arith in rw y (e (suc j) (omega arith))) p.1)

-- ---- what is chosen

module _ (q : List Bytes) (s : SendChannelReliable) (small lanes : Bytes) (v : Valid s) (h : SenderHas q s small lanes) (room : small_len_of s.settings ≤ length small)
    (lane-Room : lanes_len_of s.settings ≤ length lanes) (g : Given) where
  abbrev Has : Item → Type 0
  Has = ItemHas q small lanes

  kind-items : (c : Chosen) (k i : ℕ) (r : Row) (kd : Kind) → kind_of r ≡ kd → RowHas q s.settings small lanes r → LowKind r.len kd i → All Has c.items
      → All Has (visit_kind s.settings s.resend_time g.now c k i r kd).items
  kind-items c k i r (Small j t) e x low a =
      pick-cases (λ (y : Chosen). All Has y.items) (ltb c.left r.len) (λ _. a)
      (λ _. pick-cases (λ (y : Chosen). All Has y.items) (due s.resend_time g.now (last_sent_of t))
      (λ _.
      let f : KindFits s.settings r.len (Small j t) = subst (KindFits s.settings r.len) e x.fits in
      let b : take r.len (drop (j * SLICE_SIZE) small) ≡ x.msg = subst (λ (y : Kind). take r.len (drop (place_of s.settings y) (store_of y small lanes)) ≡ x.msg) e x.bytes in
      all_snoc Has c.items _ a (inl (record { num-is = refl; queued = x.queued ∙ ap some (sym b); below = x.below; short = f.1; within = omega (arith, f.0, f.1) })))
      (λ _. a))
  kind-items c k i r (Sliced l b next) e x low a =
      pick-cases (λ (y : Chosen). All Has y.items) (ltb c.left SLICE_SIZE) (λ _. a)
      (λ _. pick-cases (λ (y : Chosen). All Has y.items) (get_or c.pieces (l * PIECES + i) no_piece).acked (λ _. a)
      (λ _. pick-cases (λ (y : Chosen). All Has y.items) (due s.resend_time g.now (last_sent_of (get_or c.pieces (l * PIECES + i) no_piece).sending))
      (λ _.
      let f : KindFits s.settings r.len (Sliced l b next) = subst (KindFits s.settings r.len) e x.fits in
      let d : take r.len (drop (l * lane_len_of s.settings) lanes) ≡ x.msg = subst (λ (y : Kind). take r.len (drop (place_of s.settings y) (store_of y small lanes)) ≡ x.msg) e x.bytes in
      let z = piece-size r.len i low in
      let w = lane-within s.settings l f.0 in
      all_snoc Has c.items _ a
      (inr (record {
        queued = record {
          msg = x.msg;
          queued = x.queued;
          long = omega (arith, f.1, x.len_is);
          num-is = ap pieces_of x.len_is;
          low = low;
          bytes = piece-part x.msg lanes (l * lane_len_of s.settings) r.len i d low;
        };
        low = low;
        few = omega (arith, f.2, v.settings.pieces-most);
        below = x.below;
        one = z.0;
        short = z.1;
        within = omega (arith, z.2, f.2);
      })))
      (λ _. a)))

  abbrev R : ℕ → Told
  R k = bare (get_or s.rows k no_row)

  visit-items : (c : Chosen) (k i : ℕ) → k < s.count → bare (get_or c.rows k no_row) ≡ R k → LowKind (R k).len (R k).kind i → All Has c.items
      → All Has (visit s.settings s.resend_time g.now c (record { row = k; piece = i })).items
  unfolding visit
  visit-items c k i low e lk a =
      kind-items c k i (get_or c.rows k no_row) (kind_of (get_or c.rows k no_row)) refl
      (has-like q s.settings small lanes (get_or s.rows k no_row) (get_or c.rows k no_row) (sym e) (row_has q s small lanes v h g k low))
      (bare-low (get_or c.rows k no_row).len (kind_of (get_or c.rows k no_row)) i (subst (λ (y : Told). LowKind y.len y.kind i) (sym e) lk)) a

  visits-items : (vs : List Visit) (c : Chosen) → ((k : ℕ) → bare (get_or c.rows k no_row) ≡ R k) → All (Visits R s.count) vs → All Has c.items
      → All Has (reached (visit s.settings s.resend_time g.now) c vs).items
  unfolding reached All
  visits-items [] c e w a = a
  visits-items (x ∷ vs) c e w a =
      let c₁ = visit s.settings s.resend_time g.now c x in
      visits-items vs c₁ (λ k. (kept-visit s.settings s.resend_time g.now c x).rows k ∙ e k) w.1 (visit-items c x.row x.piece w.0.0 (e x.row) w.0.1 a)

  pub chosen-items : All Has (chosen s g).items
  unfolding select All
  chosen-items =
      let n = live-long s v in
      visits-items (visits_from 0 (live s)) _ (λ k. refl)
      (rows-low s R s.count 0 (live s) (omega arith)
      (λ j low. let z : 0 + j ≡ j = omega arith in rw z (ap bare (sym (get_or-take s.count s.rows j no_row (omega arith))))) v.placed) tt

-- ---- what is packed

abbrev pub PackHas : List Bytes → Bytes → Bytes → Pack → Type 0
PackHas q small lanes (group is) = All (SmallHas q small) is
PackHas q small lanes (single x) = PieceHas q lanes x

item-small : (q : List Bytes) (small lanes : Bytes) (x : Item) → is_small x ≡ true → ItemHas q small lanes x → SmallHas q small x
item-small q small lanes x e (inl h) = h
item-small q small lanes x e (inr h) = absurd (omega (arith, eqb-true x.num 0 e, h.low))

item-piece : (q : List Bytes) (small lanes : Bytes) (x : Item) → is_small x ≡ false → ItemHas q small lanes x → PieceHas q lanes x
item-piece q small lanes x e (inl h) = absurd (eqb-false x.num 0 e h.num-is)
item-piece q small lanes x e (inr h) = h

pub packs-has : (q : List Bytes) (small lanes : Bytes) (is : List Item) → All (ItemHas q small lanes) is → All (PackHas q small lanes) (pack true is)
unfolding pack All
packs-has q small lanes is =
    by-turns true (λ sum g is ps. All (SmallHas q small) g → All (ItemHas q small lanes) is → All (PackHas q small lanes) ps)
    (λ sum a b. tt)
    (λ sum i is a b. (a, tt))
    (λ sum g x rest ps e r a b. (item-piece q small lanes x e b.0, r a b.1))
    (λ sum g x rest ps e r a b. (a, r (item-small q small lanes x e b.0, tt) b.1))
    (λ sum g x rest ps e h r a b. r (all_snoc (SmallHas q small) g x a (item-small q small lanes x e b.0)) b.1)
    is 0 [] tt

-- a group has no more messages than a packet may count
var-one : (n : ℕ) → 1 ≤ var_len n
unfolding var_len
var-one n =
    pick-cases (λ (k : ℕ). 1 ≤ k) (ltb n _) (λ _. omega arith)
    (λ _. pick-cases (λ (k : ℕ). 1 ≤ k) (ltb n _) (λ _. omega arith) (λ _. pick-cases (λ (k : ℕ). 1 ≤ k) (ltb n _) (λ _. omega arith) (λ _. omega arith)))

count-total : (is : List Item) → length is ≤ total (packed_len true) is
unfolding total packed_len
count-total [] = omega arith
count-total (x ∷ is) = let a = count-total is in let b = var-one x.len in omega arith

abbrev pub FewIn : Pack → Type 0
FewIn (group is) = length is ≤ MAX_MESSAGES
FewIn (single x) = Unit

pub packs-few : (is : List Item) → All FewIn (pack true is)
packs-few is = all_map (WellPacked true) FewIn few (pack true is) (well-packed true is)
  where
    at : (g : List Item) → (total (packed_len true) g ≤ SLICE_SIZE) ⊎ (length g ≤ 1) → length g ≤ MAX_MESSAGES
    at g (inl h) = let a = count-total g in omega arith
    at g (inr h) = omega arith

    few : (p : Pack) → WellPacked true p → FewIn p
    few (group g) w = at g w
    few (single x) w = tt
