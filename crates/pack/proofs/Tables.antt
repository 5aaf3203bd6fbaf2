-- Laws of the two tables: items one by one, an item or a row that is put to the end, the small messages among items. Assumes nothing.
use Prim.Native.Nat.{ℕ, zero, suc, ◌+◌, ◌-◌, ◌≤◌, ◌<◌}
use mathlib.Core.Path.{◌≡◌, refl, sym, ap, ◌∙◌}
use mathlib.Core.Bool.{Bool, true, false}
use mathlib.Core.List.{List, [], ◌∷◌, ◌++◌, map, map-append, append-nil, append_assoc}
use native.Mathlib.Omega.{arith}
use native.Mathlib.Nat.{add-zero}
use native.Mathlib.Numerals.{add-one}
use lib.ListN.{length, get_or, set, take, drop, length-set, length-map}
use Rattle.std.proofs.Math.Seq.{drop-cons, take-suc, take-length}
use Rattle.std.proofs.lemmas.List.{take_more_set, length-take-le}
use Rattle.words.specs.Lists.{total, All}
use Rattle.words.proofs.Lists.{total-snoc}
use Rattle.pack.specs.Pack.{Item, item_of, no_item, item_at, items_of, items_in, is_small, Pack}
use Rattle.pack.specs.Rows.{smalls, smalls_in, pack_of, packs_of, packs_in, pack_len, packets_len}
use Rattle.pack.specs.declared.Item as code
use Rattle.pack.specs.declared.Row.{Row}

-- ---- items

pub items_more : (t : List code.Item) (a k : ℕ) → items_in t a (suc k) ≡ items_in t a k ++ (item_at t (a + k) ∷ [])
unfolding items_in
items_more t a zero = rw add-zero
items_more t a (suc k) =
    let e : a + 1 + k ≡ a + suc k = omega arith in
    ap (λ (l : List Item). item_at t a ∷ l) (items_more t (a + 1) k ∙ ap (λ (m : ℕ). items_in t (a + 1) k ++ (item_at t m ∷ [])) e)

-- where packing goes on, with anything to follow
pub items-then : (t : List code.Item) (i : ℕ) (rest : List Item) → items_in t 0 (i + 1) ++ rest ≡ items_in t 0 i ++ (item_at t i ∷ rest)
items-then t i rest =
    let z : 0 + i ≡ i = omega arith in
    rw (add-one, items_more, z) (append_assoc (items_in t 0 i) (item_at t i ∷ []) rest)

pub length-items : (t : List code.Item) (a k : ℕ) → length (items_in t a k) ≡ k
unfolding items_in
length-items t a zero = refl
length-items t a (suc k) = ap suc (length-items t (a + 1) k)

-- the items of a part of the table
pub items-part : (t : List code.Item) (a k : ℕ) → a + k ≤ length t → items_of (take k (drop a t)) ≡ items_in t a k
unfolding items_in
items-part t a zero h = refl
items-part t a (suc k) h = rw (drop-cons t a no_item (omega arith)) (ap (λ (l : List Item). item_at t a ∷ l) (rw (← add-one a) (items-part t (a + 1) k (omega arith))))

pub items-taken : (t : List code.Item) (k : ℕ) → k ≤ length t → items_of (take k t) ≡ items_in t 0 k
items-taken t k h = items-part t 0 k (omega arith)

pub items-whole : (t : List code.Item) → items_of t ≡ items_in t 0 (length t)
items-whole t = ap items_of (sym (take-length t)) ∙ items-taken t (length t) (omega arith)

-- an item that is put to the end
pub items-put : (t : List code.Item) (k : ℕ) (x : code.Item) → k < length t → items_in (set t k x) 0 (k + 1) ≡ items_in t 0 k ++ (item_of x ∷ [])
items-put t k x h =
    let n : k + 1 ≤ length (set t k x) = simp length-set (omega arith) in
    sym (items-taken (set t k x) (k + 1) n)
    ∙ ap (map item_of) (take_more_set t k x h)
    ∙ map-append item_of (take k t) (x ∷ [])
    ∙ ap (λ (l : List Item). l ++ (item_of x ∷ [])) (items-taken t k (omega arith))

-- what is known of every item is known of each
pub item-all : (P : Item → Type 0) (t : List code.Item) (i : ℕ) → i < length t → All P (items_of t) → P (item_at t i)
unfolding All
item-all P [] i h w = absurd (omega arith)
item-all P (x ∷ t) zero h w = w.0
item-all P (x ∷ t) (suc i) h w = item-all P t i (omega arith) w.1

-- what items add up to, one by one
pub total-more : (f : Item → ℕ) (t : List code.Item) (i : ℕ) → i < length t → total f (items_of (take (i + 1) t)) ≡ total f (items_of (take i t)) + f (item_at t i)
total-more f t i h =
    rw (add-one i, take-suc t i no_item h, map-append item_of (take i t) (get_or t i no_item ∷ [])) (total-snoc f (items_of (take i t)) (item_at t i))

-- ---- small messages

smalls-cons : (x : Item) (xs zs : List Item) (b : Bool) → is_small x ≡ b → smalls xs ≡ zs → smalls (x ∷ xs) ≡ smalls (x ∷ []) ++ zs
unfolding smalls
smalls-cons x xs zs true e r = simp (e, r)
smalls-cons x xs zs false e r = simp (e, r)

pub smalls-append : (xs ys : List Item) → smalls (xs ++ ys) ≡ smalls xs ++ smalls ys
unfolding smalls
smalls-append [] ys = refl
smalls-append (x ∷ xs) ys =
    smalls-cons x (xs ++ ys) (smalls xs ++ smalls ys) (is_small x) refl (smalls-append xs ys)
    ∙ sym (append_assoc (smalls (x ∷ [])) (smalls xs) (smalls ys))
    ∙ ap (λ (l : List Item). l ++ smalls ys) (sym (smalls-cons x xs (smalls xs) (is_small x) refl refl))

pub smalls-more : (t : List code.Item) (a i : ℕ) → a ≤ i → smalls_in t a (i + 1) ≡ smalls_in t a i ++ smalls (item_at t i ∷ [])
unfolding smalls_in
smalls-more t a i h =
    let e : i + 1 - a ≡ suc (i - a) = omega arith in
    let z : a + (i - a) ≡ i = omega arith in
    rw (e, items_more, z) (smalls-append (items_in t a (i - a)) (item_at t i ∷ []))

module _ (t : List code.Item) (a i : ℕ) (h : a ≤ i) where
  pub smalls-join : is_small (item_at t i) ≡ true → smalls_in t a (i + 1) ≡ smalls_in t a i ++ (item_at t i ∷ [])
  unfolding smalls
  smalls-join e = smalls-more t a i h ∙ simp e

  pub smalls-pass : is_small (item_at t i) ≡ false → smalls_in t a (i + 1) ≡ smalls_in t a i
  unfolding smalls
  smalls-pass e = smalls-more t a i h ∙ simp (e, append-nil)

-- ---- rows

-- a row that is put to the end
pub packs-put : (t : List code.Item) (p : List Row) (k : ℕ) (r : Row) → k < length p → packs_in t (set p k r) (k + 1) ≡ packs_in t p k ++ (pack_of t r ∷ [])
packs-put t p k r h = ap (packs_of t) (take_more_set p k r h) ∙ map-append (pack_of t) (take k p) (r ∷ [])

pub length-packs : (t : List code.Item) (p : List Row) (k : ℕ) → k ≤ length p → length (packs_in t p k) ≡ k
length-packs t p k h = length-map (take k p) (pack_of t) ∙ length-take-le k p h

pub packets-more : (ids : Bool) (seq : ℕ) (ps : List Pack) (q : Pack) → packets_len ids seq (ps ++ (q ∷ [])) ≡ packets_len ids seq ps + pack_len ids (seq + length ps) q
unfolding packets_len
packets-more ids seq [] q = let v = ap (λ (m : ℕ). pack_len ids m q) (add-zero seq) in omega arith
packets-more ids seq (p ∷ ps) q =
    let e : seq + 1 + length ps ≡ seq + suc (length ps) = omega arith in
    let r = packets-more ids (seq + 1) ps q in
    let v = ap (λ (m : ℕ). pack_len ids m q) e in
    omega arith
