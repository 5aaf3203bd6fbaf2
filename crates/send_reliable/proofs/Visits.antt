-- Laws of the visits of a round: how many there are, how they are written, and that each is to a piece of a waiting message.
-- Assumes nothing.
use Prim.Native.Nat.{ℕ, zero, suc, ◌+◌, ◌*◌, ◌-◌, ◌≤◌, ◌<◌}
use mathlib.Core.Path.{◌≡◌, refl, sym, ap, ◌∙◌}
use mathlib.Core.Bool.{Bool, true, false}
use mathlib.Core.List.{List, [], ◌∷◌, ◌++◌, append-nil, append_assoc}
use native.Mathlib.Omega.{arith}
use native.Mathlib.Nat.{add-zero, sub-zero, not-suc-le-zero, le_of_suc-le-suc}
use native.Mathlib.Numerals.{add-one}
use lib.ListN.{length, get_or, set, take, length-append}
use lib.Seq.{get_or-take, length-take-le, take_all}
use Rattle.std.proofs.lemmas.List.{take_more_set}
use Rattle.words.specs.Sizes.{PIECES}
use Rattle.words.specs.Choice.{pick}
use Rattle.words.specs.Pieces.{pieces_of}
use Rattle.words.specs.Lists.{holds, total, All}
use Rattle.words.proofs.Lists.{holds-le, all_map, all-at, all_take, all_append}
use Rattle.words.proofs.Tables.{clash}
use Rattle.channel.specs.Settings.{Good}
use Rattle.pack.specs.Round.{ITEMS}
use Rattle.send_reliable.specs.declared.Kind.{Kind}
use Rattle.send_reliable.specs.declared.Kind.TheVariants.{Small, Sliced}
use Rattle.send_reliable.specs.declared.Row.{Row}
use Rattle.send_reliable.specs.declared.SendChannelReliable.{SendChannelReliable}
use Rattle.send_reliable.specs.Sender.{kind_of, no_row, live, PlacedKind, Placed, Apart, Before, Valid}
use Rattle.send_reliable.specs.Select.{Visit, up_from, row_visits, visits_from}
use Rattle.send_reliable.specs.RoundSteps.{each, Ranged, size_of, size_row, Within}
use Rattle.words.proofs.Entries.{pairs-map}
use Rattle.send_reliable.proofs.RoundLists.{each_more, length-each, all-each, total-front, places-few}

-- ---- visits in a range

up_from-each : (k i n : ℕ) → up_from k i n ≡ each (λ j. record { row = k; piece = j }) i n
unfolding up_from each
up_from-each k i zero = refl
up_from-each k i (suc n) = ap (λ (l : List Visit). record { row = k; piece = i } ∷ l) (up_from-each k (i + 1) n)

pub length-up_from : (k i n : ℕ) → length (up_from k i n) ≡ n
length-up_from k i n = ap length (up_from-each k i n) ∙ length-each (λ j. record { row = k; piece = j }) i n

up_from-more : (k i n : ℕ) → up_from k i (suc n) ≡ up_from k i n ++ (record { row = k; piece = i + n } ∷ [])
up_from-more k i n = rw (up_from-each k i (suc n), up_from-each k i n) (each_more (λ j. record { row = k; piece = j }) i n)

-- none yet, and one more
pub range_none : (t : List Visit) (n k from : ℕ) → take n t ≡ take n t ++ up_from k from (from - from)
unfolding up_from
range_none t n k from = let e : from - from ≡ 0 = omega arith in rw e (sym (append-nil (take n t)))

pub range-turn : (t₀ t : List Visit) (n m k from i : ℕ) → from ≤ i → m < length t → take m t ≡ take n t₀ ++ up_from k from (i - from)
    → take (m + 1) (set t m (record { row = k; piece = i })) ≡ take n t₀ ++ up_from k from (i + 1 - from)
range-turn t₀ t n m k from i l h e =
    let s : i + 1 - from ≡ suc (i - from) = omega arith in
    let z : from + (i - from) ≡ i = omega arith in
    take_more_set t m (record { row = k; piece = i }) h ∙ ap (λ (x : List Visit). x ++ (record { row = k; piece = i } ∷ [])) e
    ∙ append_assoc (take n t₀) (up_from k from (i - from)) (record { row = k; piece = i } ∷ [])
    ∙ ap (λ (x : List Visit). take n t₀ ++ x) (sym (ap (up_from k from) s ∙ up_from-more k from (i - from) ∙ ap (λ (j : ℕ). up_from k from (i - from) ++ (record { row = k; piece = j } ∷ [])) z))

-- ---- visits of rows

abbrev pub RangedRow : Row → Type 0
RangedRow r = Ranged r.len (kind_of r)

pub length-row : (k n : ℕ) (kind : Kind) → Ranged n kind → length (row_visits k n kind) ≡ size_of n kind
length-row k n (Small i t) g = length-up_from k 0 1
length-row k n (Sliced l a next) g =
    let e : pieces_of n - next + next ≡ pieces_of n = omega arith in
    length-append (up_from k next (pieces_of n - next)) (up_from k 0 next) ∙ rw (length-up_from k next (pieces_of n - next), length-up_from k 0 next) e

pub length-visits : (j : ℕ) (rows : List Row) → All RangedRow rows → length (visits_from j rows) ≡ total size_row rows
unfolding visits_from total All
length-visits j [] a = refl
length-visits j (r ∷ rs) a =
    length-append (row_visits j r.len (kind_of r)) (visits_from (j + 1) rs)
    ∙ rw (length-row j r.len (kind_of r) a.0, length-visits (j + 1) rs a.1)

-- one row more
pub visits-more : (j : ℕ) (rows : List Row) (k : ℕ) → k < length rows
    → visits_from j (take (suc k) rows) ≡ visits_from j (take k rows) ++ row_visits (j + k) (get_or rows k no_row).len (kind_of (get_or rows k no_row))
unfolding visits_from
visits-more j [] k h = absurd (not-suc-le-zero h)
visits-more j (r ∷ rs) zero h = rw (append-nil, add-zero)
visits-more j (r ∷ rs) (suc k) h =
    let e : j + 1 + k ≡ j + suc k = omega arith in
    ap (λ (l : List Visit). row_visits j r.len (kind_of r) ++ l)
    (visits-more (j + 1) rs k (le_of_suc-le-suc h) ∙ ap (λ (i : ℕ). visits_from (j + 1) (take k rs) ++ row_visits i (get_or rs k no_row).len (kind_of (get_or rs k no_row))) e)
    ∙ sym (append_assoc (row_visits j r.len (kind_of r)) (visits_from (j + 1) (take k rs)) (row_visits (j + suc k) (get_or rs k no_row).len (kind_of (get_or rs k no_row))))

-- a sliced message's, in two ranges
pub row-round : (t t' u : List Visit) (n m r k next num len : ℕ) → num ≡ pieces_of len → take m t' ≡ take n t ++ up_from k next (num - next) → take r u ≡ take m t' ++ up_from k 0 (next - 0)
    → take r u ≡ take n t ++ (up_from k next (pieces_of len - next) ++ up_from k 0 next)
row-round t t' u n m r k next num len e a b =
    b ∙ rw (sub-zero next, a, e) (append_assoc (take n t) (up_from k next (pieces_of len - next)) (up_from k 0 next))

-- how many are written
pub visits-count : (t : List Visit) (n : ℕ) (vs : List Visit) → take n t ≡ vs → n ≤ length t → n ≡ length vs
visits-count t n vs e h = sym (length-take-le n t h) ∙ ap length e

-- each visit of a row is to one of its pieces
row_in : (k n : ℕ) (kind : Kind) → Ranged n kind → All (λ v. (v.row ≡ k) × (v.piece < size_of n kind)) (row_visits k n kind)
row_in k n (Small i t) g = rw (up_from-each k 0 1) (all-each (λ v. (v.row ≡ k) × (v.piece < 1)) (λ j. record { row = k; piece = j }) 0 1 (λ j h. (refl, omega arith)))
row_in k n (Sliced l a next) g =
    rw (up_from-each k next (pieces_of n - next), up_from-each k 0 next)
    (all_append (λ v. (v.row ≡ k) × (v.piece < pieces_of n)) (each (λ j. record { row = k; piece = j }) next (pieces_of n - next)) (each (λ j. record { row = k; piece = j }) 0 next)
    (all-each (λ v. (v.row ≡ k) × (v.piece < pieces_of n)) (λ j. record { row = k; piece = j }) next (pieces_of n - next) (λ j h. (refl, omega arith)))
    (all-each (λ v. (v.row ≡ k) × (v.piece < pieces_of n)) (λ j. record { row = k; piece = j }) 0 next (λ j h. (refl, omega arith))))

visits-in : (f : ℕ → ℕ) (n j : ℕ) (rows : List Row) → j + length rows ≤ n → ((i : ℕ) → i < length rows → size_row (get_or rows i no_row) ≡ f (j + i)) → All RangedRow rows
    → All (Within n f) (visits_from j rows)
unfolding visits_from All
visits-in f n j [] h e a = tt
visits-in f n j (r ∷ rs) h e a =
    let s : size_row r ≡ f j = rw add-zero at (e 0 (omega arith)) in
    all_append (Within n f) (row_visits j r.len (kind_of r)) (visits_from (j + 1) rs)
    (all_map (λ v. (v.row ≡ j) × (v.piece < size_row r)) (Within n f)
    (λ v w. let g = ap f w.0 in (omega arith, omega arith))
    (row_visits j r.len (kind_of r)) (row_in j r.len (kind_of r) a.0))
    (visits-in f n (j + 1) rs (omega arith) (λ i l. let z : j + suc i ≡ j + 1 + i = omega arith in e (suc i) (omega arith) ∙ ap f z) a.1)

-- ---- a sender's visits

-- of the small messages, where b is true, or of the sliced ones: whether a message is one, where it lies, and what is held there
abbrev is_of : Bool → Kind → Bool
is_of true (Small i t) = true
is_of true (Sliced l a next) = false
is_of false (Small i t) = false
is_of false (Sliced l a next) = true

abbrev place_of : Kind → ℕ
place_of (Small i t) = i
place_of (Sliced l a next) = l

abbrev held_of : Bool → SendChannelReliable → List Bool
held_of b s = pick b s.cells s.lanes

abbrev ones : Bool → Row → ℕ
ones b r = pick (is_of b (kind_of r)) 1 0

module _ (s : SendChannelReliable) where
  ranged : Good s.settings → (n : ℕ) (kind : Kind) → PlacedKind s n kind → Ranged n kind
  ranged g n (Small i t) p = tt
  ranged g n (Sliced l a next) p = (let m = g.pieces-most in omega arith, p.6)

  place-held : (b : Bool) (n : ℕ) (kind : Kind) → PlacedKind s n kind → is_of b kind ≡ true → get_or (held_of b s) (place_of kind) false ≡ true
  place-held true n (Small i t) p e = p.1
  place-held true n (Sliced l a next) p e = clash (cc)
  place-held false n (Small i t) p e = clash (cc)
  place-held false n (Sliced l a next) p e = p.1

  place-own : (b : Bool) (k m : Kind) → Apart k m → is_of b k ≡ true → is_of b m ≡ true → place_of k ≡ place_of m → ⊥
  place-own b (Small i t) (Small j u) p e f q = p q
  place-own b (Sliced l a k) (Sliced m c n) p e f q = p q
  place-own true (Small i t) (Sliced l a k) p e f q = clash (cc)
  place-own false (Small i t) (Sliced l a k) p e f q = clash (cc)
  place-own true (Sliced l a k) (Small i t) p e f q = clash (cc)
  place-own false (Sliced l a k) (Small i t) p e f q = clash (cc)

  size-most : (n : ℕ) (kind : Kind) → Ranged n kind → size_of n kind ≤ pick (is_of true kind) 1 0 + PIECES * pick (is_of false kind) 1 0
  size-most n (Small i t) g = omega arith
  size-most n (Sliced l a next) g = omega arith

  sizes-most : (rows : List Row) → All RangedRow rows → total size_row rows ≤ total (ones true) rows + PIECES * total (ones false) rows
  unfolding total All
  sizes-most [] a = omega arith
  sizes-most (r ∷ rs) a = let m = size-most r.len (kind_of r) a.0 in let q = sizes-most rs a.1 in omega arith

module _ (s : SendChannelReliable) (v : Valid s) where
  pub rows-room : s.count ≤ length s.rows
  rows-room = omega (arith, v.counted, holds-le s.cells, holds-le s.lanes, v.cells-long, v.lanes-long, v.rows_long)

  pub length-live : length (live s) ≡ s.count
  length-live = length-take-le s.count s.rows rows-room

  pub all-ranged : All RangedRow (live s)
  unfolding Placed
  all-ranged = all_map (Placed s) RangedRow (λ r p. ranged s v.settings r.len (kind_of r) p.1) (live s) v.placed

  -- each message holds a place of its own
  ones-few : (b : Bool) → total (ones b) (live s) ≤ holds (held_of b s)
  unfolding Placed Before
  ones-few b =
      places-few (λ (r : Row). is_of b (kind_of r)) (λ r. place_of (kind_of r)) (live s) (held_of b s)
      (all_map (Placed s) (λ r. is_of b (kind_of r) ≡ true → get_or (held_of b s) (place_of (kind_of r)) false ≡ true) (λ r p. place-held s b r.len (kind_of r) p.1) (live s) v.placed)
      (pairs-map Before (λ x y. is_of b (kind_of x) ≡ true → is_of b (kind_of y) ≡ true → place_of (kind_of x) ≡ place_of (kind_of y) → ⊥) (λ x y p. place-own s b (kind_of x) (kind_of y) p.1) (live s) v.rising)

  sizes-few : total size_row (live s) ≤ ITEMS
  sizes-few =
      omega (arith, sizes-most s (live s) all-ranged, ones-few true, ones-few false, holds-le s.cells, holds-le s.lanes, v.cells-long, v.lanes-long)

  -- a round has no more visits than it may have items
  pub visits-few : length (visits_from 0 (live s)) ≤ ITEMS
  visits-few = rw (length-visits 0 (live s) all-ranged) sizes-few

  -- all are written once all rows are done
  pub visits-all : (k : ℕ) → s.count ≤ k → visits_from 0 (take k (live s)) ≡ visits_from 0 (live s)
  visits-all k h = ap (visits_from 0) (take_all k (live s) (omega (arith, length-live)))

  module _ (k : ℕ) (h : k < s.count) where
    in-live : k < length (live s)
    in-live = omega (arith, length-live)

    row-live : get_or (live s) k no_row ≡ get_or s.rows k no_row
    row-live = get_or-take s.count s.rows k no_row h

    pub row-ranged : RangedRow (get_or s.rows k no_row)
    row-ranged = rw row-live at (all-at RangedRow (live s) k no_row in-live all-ranged)

    -- after k rows there is room for the next
    pub row_room : length (visits_from 0 (take k (live s))) + length (row_visits k (get_or s.rows k no_row).len (kind_of (get_or s.rows k no_row))) ≤ ITEMS
    row_room =
        rw (length-visits 0 (take k (live s)) (all_take RangedRow k (live s) all-ranged), length-row k (get_or s.rows k no_row).len (kind_of (get_or s.rows k no_row)) row-ranged)
        (omega (arith, rw row-live at (total-front size_row (live s) k no_row in-live), sizes-few))

    -- and its visits come next
    pub row_next : (t₀ : List Visit) (m : ℕ) → take m t₀ ≡ visits_from 0 (take k (live s)) → (t : List Visit) (n : ℕ)
        → take n t ≡ take m t₀ ++ row_visits k (get_or s.rows k no_row).len (kind_of (get_or s.rows k no_row)) → take n t ≡ visits_from 0 (take (k + 1) (live s))
    row_next t₀ m w t n e =
        let z : 0 + k ≡ k = omega arith in
        e ∙ ap (λ (vs : List Visit). vs ++ row_visits k (get_or s.rows k no_row).len (kind_of (get_or s.rows k no_row))) w
        ∙ sym (ap (λ (j : ℕ). visits_from 0 (take j (live s))) (add-one k) ∙ visits-more 0 (live s) k in-live ∙ rw (z, row-live))

  -- each visit is to a piece of a waiting message
  pub visits-within : All (Within s.count (λ k. size_row (get_or s.rows k no_row))) (visits_from 0 (live s))
  visits-within =
      visits-in (λ k. size_row (get_or s.rows k no_row)) s.count 0 (live s) (omega (arith, length-live))
      (λ i h. let z : i ≡ 0 + i = omega arith in ap size_row (get_or-take s.count s.rows i no_row (omega (arith, length-live))) ∙ ap (λ (j : ℕ). size_row (get_or s.rows j no_row)) z)
      all-ranged
