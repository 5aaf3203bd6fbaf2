-- A waiting message seen as the queue of its unacknowledged pieces, in the order in which a round comes to them. A round sends a front part of
-- it, not empty unless the queue is, and moves that part to the end; an ack takes one piece out. Assumes nothing.
use Prim.Native.Nat.{ℕ, zero, suc, ◌+◌, ◌-◌, ◌≤◌, ◌<◌}
use mathlib.Core.Path.{◌≡◌, refl, sym, ap, ◌∙◌}
use mathlib.Core.Bool.{Bool, true, false}
use mathlib.Core.List.{List, [], ◌∷◌, ◌++◌, append_assoc}
use mathlib.Core.Logic.{◌⊎◌, inl, inr}
use native.Mathlib.Omega.{arith}
use native.Mathlib.Nat.{add_comm}
use lib.Dec.{ltb, eqb}
use lib.ListN.{length, length-append}
use borrow.Author.Tests.{ltb-true, ltb-false, eqb-true, eqb-false}
use Rattle.words.specs.Sizes.{SLICE_SIZE}
use Rattle.words.specs.Choice.{pick}
use Rattle.words.proofs.Tables.{by-test, pick-cases}
use Rattle.delivery.specs.Window.{In, open_from}
use Rattle.std.proofs.lemmas.List.{append-nil}
use Rattle.delivery.proofs.Lists.{in_left, in_right, in-cases, rem, rem-append}

-- ---- the indices of a range that are not acknowledged

module _ (f : ℕ → Bool) where
  pub open-acked : (i n : ℕ) → f i ≡ true → open_from f i (suc n) ≡ open_from f (i + 1) n
  unfolding open_from
  open-acked i n e = rw e

  pub open-left : (i n : ℕ) → f i ≡ false → open_from f i (suc n) ≡ i ∷ open_from f (i + 1) n
  unfolding open_from
  open-left i n e = rw e

  pub open_none : (i : ℕ) → open_from f i 0 ≡ []
  unfolding open_from
  open_none i = refl

  pub open-append : (i j n m k : ℕ) → j ≡ i + n → k ≡ n + m → open_from f i k ≡ open_from f i n ++ open_from f j m
  unfolding open_from
  open-append i j zero m k e h = let a : j ≡ i = omega arith in let b : k ≡ m = omega arith in rw (a, b)
  open-append i j (suc n) m zero e h = absurd (omega arith)
  open-append i j (suc n) m (suc k) e h = at (f i) (open-append (i + 1) j n m k (omega arith) (omega arith))
    where
      at : (b : Bool) → open_from f (i + 1) k ≡ open_from f (i + 1) n ++ open_from f j m
          → pick b (open_from f (i + 1) k) (i ∷ open_from f (i + 1) k) ≡ pick b (open_from f (i + 1) n) (i ∷ open_from f (i + 1) n) ++ open_from f j m
      at true r = r
      at false r = ap (λ (l : List ℕ). i ∷ l) r

  pub open-same : (g : ℕ → Bool) (i n : ℕ) → ((j : ℕ) → j < i + n → f j ≡ g j) → open_from f i n ≡ open_from g i n
  unfolding open_from
  open-same g i zero h = refl
  open-same g i (suc n) h = rw (h i (omega arith), open-same g (i + 1) n (λ j l. h j (omega arith)))

  -- j acknowledged
  pub open-rem : (g : ℕ → Bool) (j i n : ℕ) → g j ≡ true → ((k : ℕ) → k < i + n → (k ≡ j → ⊥) → g k ≡ f k) → open_from g i n ≡ rem j (open_from f i n)
  unfolding open_from rem
  open-rem g j i zero e h = refl
  open-rem g j i (suc n) e h =
      let r : open_from g (i + 1) n ≡ rem j (open_from f (i + 1) n) = open-rem g j (i + 1) n e (λ k l. h k (omega arith)) in
      by-test (eqb i j)
      (λ t. let q = eqb-true i j t in rw (q, e) (rw q at (here-gone (f i) t r)))
      (λ t. rw (h i (omega arith) (eqb-false i j t)) (other (f i) t r))
    where
      here-gone : (b : Bool) → eqb i j ≡ true → open_from g (i + 1) n ≡ rem j (open_from f (i + 1) n)
          → open_from g (i + 1) n ≡ rem j (pick b (open_from f (i + 1) n) (i ∷ open_from f (i + 1) n))
      here-gone true t r = r
      here-gone false t r = rw t r

      other : (b : Bool) → eqb i j ≡ false → open_from g (i + 1) n ≡ rem j (open_from f (i + 1) n)
          → pick b (open_from g (i + 1) n) (i ∷ open_from g (i + 1) n) ≡ rem j (pick b (open_from f (i + 1) n) (i ∷ open_from f (i + 1) n))
      other true t r = r
      other false t r = rw t (ap (λ (l : List ℕ). i ∷ l) r)

-- ---- one walk over a range, all of which is due

pub record Walk : Type 0 where
  pub next : ℕ
  pub left : ℕ
  pub out : List ℕ

abbrev pub send_one : ℕ → Walk → Walk
send_one i w = record { next = w.next; left = w.left; out = i ∷ w.out }

module _ (f : ℕ → Bool) (len : ℕ → ℕ) where
  -- the n pieces from i on; nx is the piece after the last sent one, and a the allowance
  unfoldable pub walk : ℕ → ℕ → ℕ → ℕ → Walk
  walk i zero nx a = record { next = nx; left = a; out = [] }
  walk i (suc n) nx a =
      pick (ltb a SLICE_SIZE) (walk (i + 1) n nx a)
      (pick (f i) (walk (i + 1) n nx a) (send_one i (walk (i + 1) n (i + 1) (a - len i))))

  pub record Walked (i n nx a : ℕ) (w : Walk) : Type 0 where
    pub gone : ℕ
    pub kept : ℕ
    pub split : n ≡ gone + kept
    pub out : w.out ≡ open_from f i gone
    -- nothing was sent, or the last one sent ends what is gone
    pub next : ((gone ≡ 0) × (w.next ≡ nx) × (w.left ≡ a)) ⊎ ((w.next ≡ i + gone) × (1 ≤ length w.out) × (SLICE_SIZE ≤ a))
    pub rest : (w.left < SLICE_SIZE) ⊎ (open_from f (i + gone) kept ≡ [])

  module _ (i n nx a : ℕ) (w : Walk) where
    -- too little is allowed
    short : a < SLICE_SIZE → Walked (i + 1) n nx a w → Walked i (suc n) nx a w
    short l h = at h.next
      where
        at : ((h.gone ≡ 0) × (w.next ≡ nx) × (w.left ≡ a)) ⊎ ((w.next ≡ i + 1 + h.gone) × (1 ≤ length w.out) × (SLICE_SIZE ≤ a)) → Walked i (suc n) nx a w
        at (inl q) =
            record {
              gone = 0;
              kept = suc n;
              split = omega arith;
              out = h.out ∙ ap (open_from f (i + 1)) q.0 ∙ open_none f (i + 1) ∙ sym (open_none f i);
              next = inl (refl, q.1, q.2);
              rest = inl (omega (arith, q.2));
            }
        at (inr q) = absurd (omega (arith, q.2))

    -- an acknowledged one is passed over
    passed : f i ≡ true → Walked (i + 1) n nx a w → Walked i (suc n) nx a w
    passed e h = at h.next
      where
        shift : (w.left < SLICE_SIZE) ⊎ (open_from f (i + 1 + h.gone) h.kept ≡ []) → (w.left < SLICE_SIZE) ⊎ (open_from f (i + suc h.gone) h.kept ≡ [])
        shift (inl l) = inl l
        shift (inr u) = let z : i + suc h.gone ≡ i + 1 + h.gone = omega arith in inr (rw z u)

        at : ((h.gone ≡ 0) × (w.next ≡ nx) × (w.left ≡ a)) ⊎ ((w.next ≡ i + 1 + h.gone) × (1 ≤ length w.out) × (SLICE_SIZE ≤ a)) → Walked i (suc n) nx a w
        at (inl q) =
            record {
              gone = 0;
              kept = suc n;
              split = omega arith;
              out = h.out ∙ ap (open_from f (i + 1)) q.0 ∙ open_none f (i + 1) ∙ sym (open_none f i);
              next = inl (refl, q.1, q.2);
              rest = more h.rest;
            }
          where
            more : (w.left < SLICE_SIZE) ⊎ (open_from f (i + 1 + h.gone) h.kept ≡ []) → (w.left < SLICE_SIZE) ⊎ (open_from f (i + 0) (suc n) ≡ [])
            more (inl l) = inl l
            more (inr u) =
                let x : i + 1 + h.gone ≡ i + 1 = omega (arith, q.0) in
                let y : h.kept ≡ n = omega (arith, q.0, h.split) in
                let z : i + 0 ≡ i = omega arith in
                inr (rw z (open-acked f i n e ∙ (rw (x, y) at u)))
        at (inr q) =
            record {
              gone = suc h.gone;
              kept = h.kept;
              split = omega (arith, h.split);
              out = h.out ∙ sym (open-acked f i h.gone e);
              next = inr (omega (arith, q.0), q.1, q.2);
              rest = shift h.rest;
            }

    -- one that is not is sent
    sent : (b : ℕ) → f i ≡ false → SLICE_SIZE ≤ a → Walked (i + 1) n (i + 1) b w → Walked i (suc n) nx a (send_one i w)
    sent b e l h =
        record {
          gone = suc h.gone;
          kept = h.kept;
          split = omega (arith, h.split);
          out = ap (λ (r : List ℕ). i ∷ r) h.out ∙ sym (open-left f i h.gone e);
          next = inr (at h.next, omega arith, l);
          rest = shift h.rest;
        }
      where
        at : ((h.gone ≡ 0) × (w.next ≡ i + 1) × (w.left ≡ b)) ⊎ ((w.next ≡ i + 1 + h.gone) × (1 ≤ length w.out) × (SLICE_SIZE ≤ b)) → w.next ≡ i + suc h.gone
        at (inl q) = omega (arith, q.0, q.1)
        at (inr q) = omega (arith, q.0)

        shift : (w.left < SLICE_SIZE) ⊎ (open_from f (i + 1 + h.gone) h.kept ≡ []) → (w.left < SLICE_SIZE) ⊎ (open_from f (i + suc h.gone) h.kept ≡ [])
        shift (inl r) = inl r
        shift (inr u) = let z : i + suc h.gone ≡ i + 1 + h.gone = omega arith in inr (rw z u)

  pub walked : (n i nx a : ℕ) → Walked i n nx a (walk i n nx a)
  unfolding walk
  walked zero i nx a =
      record { gone = 0; kept = 0; split = refl; out = sym (open_none f i); next = inl (refl, refl, refl); rest = inr (open_none f (i + 0)) }
  walked (suc n) i nx a =
      pick-cases (Walked i (suc n) nx a) (ltb a SLICE_SIZE)
      (λ t. short i n nx a (walk (i + 1) n nx a) (ltb-true a SLICE_SIZE t) (walked n (i + 1) nx a))
      (λ t. pick-cases (Walked i (suc n) nx a) (f i)
      (λ e. passed i n nx a (walk (i + 1) n nx a) e (walked n (i + 1) nx a))
      (λ e. sent i n nx a (walk (i + 1) n (i + 1) (a - len i)) (a - len i) e (ltb-false a SLICE_SIZE t) (walked n (i + 1) (i + 1) (a - len i))))

-- ---- the queue

-- what a round comes to, in its order, of n pieces, where it starts at nx
abbrev pub queue_at : (ℕ → Bool) → ℕ → ℕ → List ℕ
queue_at f nx n = open_from f nx (n - nx) ++ open_from f 0 nx

-- a round turns the queue u into u', and sends `out`
pub record Rotates (u u' out : List ℕ) : Type 0 where
  pub back : List ℕ
  pub before : u ≡ out ++ back
  pub after : u' ≡ back ++ out
  pub moves : (1 ≤ length out) ⊎ (u ≡ [])

-- it has every index that is not acknowledged
pub queue-all : (f : ℕ → Bool) (nx n : ℕ) → nx ≤ n → (length (queue_at f nx n) ≡ length (open_from f 0 n)) × ((y : ℕ) → In y (open_from f 0 n) → In y (queue_at f nx n))
queue-all f nx n h = (
  length-append (open_from f nx (n - nx)) (open_from f 0 nx) ∙ add_comm (length (open_from f nx (n - nx))) (length (open_from f 0 nx))
      ∙ sym (length-append (open_from f 0 nx) (open_from f nx (n - nx))) ∙ ap length (sym e),
  λ y i. swap y (in-cases (open_from f 0 nx) (open_from f nx (n - nx)) (rw e at i)),
)
  where
    e : open_from f 0 n ≡ open_from f 0 nx ++ open_from f nx (n - nx)
    e = open-append f 0 nx nx (n - nx) n (omega arith) (omega arith)

    swap : (y : ℕ) → In y (open_from f 0 nx) ⊎ In y (open_from f nx (n - nx)) → In y (queue_at f nx n)
    swap y (inl i) = in_right (open_from f nx (n - nx)) i
    swap y (inr i) = in_left (open_from f 0 nx) i

module _ (f : ℕ → Bool) (len : ℕ → ℕ) (nx n a : ℕ) (w₁ w₂ : Walk) (low : nx ≤ n)
    (h₁ : Walked f len nx (n - nx) nx a w₁) (h₂ : Walked f len 0 nx w₁.next w₁.left w₂) (enough : SLICE_SIZE ≤ a) where
  abbrev pub Turned : Type 0
  Turned = Rotates (queue_at f nx n) (queue_at f w₂.next n) (w₁.out ++ w₂.out)

  parts₁ : open_from f nx (n - nx) ≡ w₁.out ++ open_from f (nx + h₁.gone) h₁.kept
  parts₁ = open-append f nx (nx + h₁.gone) h₁.gone h₁.kept (n - nx) refl h₁.split ∙ rw h₁.out refl

  parts₂ : open_from f 0 nx ≡ w₂.out ++ open_from f (0 + h₂.gone) h₂.kept
  parts₂ = open-append f 0 (0 + h₂.gone) h₂.gone h₂.kept nx refl h₂.split ∙ rw h₂.out refl

  -- something was sent from the front
  wraps : w₂.next ≡ 0 + h₂.gone → 1 ≤ length w₂.out → SLICE_SIZE ≤ w₁.left → Turned
  wraps e o l = at h₁.rest
    where
      at : (w₁.left < SLICE_SIZE) ⊎ (open_from f (nx + h₁.gone) h₁.kept ≡ []) → Turned
      at (inl r) = absurd (omega arith)
      at (inr r) =
          let y = open_from f (0 + h₂.gone) h₂.kept in
          let first : open_from f nx (n - nx) ≡ w₁.out = parts₁ ∙ rw r (append-nil w₁.out) in
          let z : open_from f (0 + h₂.gone) (n - (0 + h₂.gone)) ≡ y ++ open_from f nx (n - nx) =
          open-append f (0 + h₂.gone) nx h₂.kept (n - nx) (n - (0 + h₂.gone)) (omega (arith, h₂.split)) (omega (arith, h₂.split)) in
          let q : open_from f 0 (0 + h₂.gone) ≡ w₂.out = let k : 0 + h₂.gone ≡ h₂.gone = omega arith in ap (open_from f 0) k ∙ sym h₂.out in
          record {
            back = y;
            before = rw (first, parts₂) (simp append_assoc);
            after = rw e (rw (z, q, first) (append_assoc y w₁.out w₂.out));
            moves = inl (simp length-append (omega arith));
          }

  -- nothing was sent from the front
  stays : h₂.gone ≡ 0 → w₂.next ≡ w₁.next → w₂.left ≡ w₁.left → Turned
  stays g e l = at h₁.next
    where
      none_out : w₂.out ≡ []
      none_out = h₂.out ∙ ap (open_from f 0) g ∙ open_none f 0

      at : ((h₁.gone ≡ 0) × (w₁.next ≡ nx) × (w₁.left ≡ a)) ⊎ ((w₁.next ≡ nx + h₁.gone) × (1 ≤ length w₁.out) × (SLICE_SIZE ≤ a)) → Turned
      at (inl k) = idle h₁.rest h₂.rest
        where
          idle : (w₁.left < SLICE_SIZE) ⊎ (open_from f (nx + h₁.gone) h₁.kept ≡ []) → (w₂.left < SLICE_SIZE) ⊎ (open_from f (0 + h₂.gone) h₂.kept ≡ []) → Turned
          idle (inl r) s = absurd (omega (arith, k.2))
          idle (inr r) (inl s) = absurd (omega (arith, k.2, l))
          idle (inr r) (inr s) =
              let out₁ : w₁.out ≡ [] = h₁.out ∙ ap (open_from f nx) k.0 ∙ open_none f nx in
              let e₁ : open_from f nx (n - nx) ≡ [] = parts₁ ∙ rw (out₁, r) refl in
              let e₂ : open_from f 0 nx ≡ [] = parts₂ ∙ rw (none_out, s) refl in
              record {
                back = [];
                before = rw (e₁, e₂, out₁, none_out) refl;
                after = rw (e, k.1, e₁, e₂, out₁, none_out) refl;
                moves = inr (rw (e₁, e₂) refl);
              }
      at (inr k) =
          let z : open_from f 0 (nx + h₁.gone) ≡ open_from f 0 nx ++ open_from f nx h₁.gone = open-append f 0 nx nx h₁.gone (nx + h₁.gone) (omega arith) refl in
          let m : n - (nx + h₁.gone) ≡ h₁.kept = omega (arith, h₁.split) in
          record {
            back = open_from f (nx + h₁.gone) h₁.kept ++ open_from f 0 nx;
            before = rw (parts₁, none_out) (simp (append_assoc, append-nil));
            after = rw (e, k.0, m, z, ← h₁.out, none_out) (simp (append_assoc, append-nil));
            moves = inl (simp length-append (omega (arith, k.1)));
          }

  pub turned : Turned
  turned = at h₂.next
    where
      at : ((h₂.gone ≡ 0) × (w₂.next ≡ w₁.next) × (w₂.left ≡ w₁.left)) ⊎ ((w₂.next ≡ 0 + h₂.gone) × (1 ≤ length w₂.out) × (SLICE_SIZE ≤ w₁.left)) → Turned
      at (inl k) = stays k.0 k.1 k.2
      at (inr k) = wraps k.0 k.1 k.2

-- j acknowledged
pub queue-rem : (f g : ℕ → Bool) (j nx n : ℕ) → nx ≤ n → g j ≡ true → ((k : ℕ) → k < n → (k ≡ j → ⊥) → g k ≡ f k) → queue_at g nx n ≡ rem j (queue_at f nx n)
queue-rem f g j nx n h e s =
    rw (open-rem f g j nx (n - nx) e (λ k l. s k (omega arith)), open-rem f g j 0 nx e (λ k l. s k (omega arith)))
    (sym (rem-append j (open_from f nx (n - nx)) (open_from f 0 nx)))

pub queue-same : (f g : ℕ → Bool) (nx n : ℕ) → nx ≤ n → ((k : ℕ) → k < n → f k ≡ g k) → queue_at f nx n ≡ queue_at g nx n
queue-same f g nx n h s = rw (open-same f g nx (n - nx) (λ k l. s k (omega arith)), open-same f g 0 nx (λ k l. s k (omega arith)))
