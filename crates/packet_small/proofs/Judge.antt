-- What judging one message shows, and what judging a whole table comes to: every part is within the store, every number can be said, and
-- all fit the room. Assumes nothing.
use Prim.Native.Nat.{ℕ, suc, ◌+◌, ◌-◌, ◌≤◌, ◌<◌}
use mathlib.Core.Path.{◌≡◌, refl, sym, ap, ◌∙◌}
use mathlib.Core.Bool.{Bool, true, false}
use mathlib.Core.List.{List, [], ◌∷◌}
use native.Mathlib.Omega.{arith}
use borrow.Author.Tests.{lt-ltb, le-ltb, le-leb, lt-leb}
use lib.Dec.{ltb, leb}
use Rattle.words.specs.Sizes.{LIMIT}
use Rattle.words.specs.Choice.{pick}
use Rattle.words.specs.Lists.{all, total}
use Rattle.words.proofs.Tests.{leb-same}
use Rattle.packet_small.specs.Small.{Message}
use Rattle.packet_small.specs.Write.{record_at, listed, id_said, stored, sayable}
use Rattle.packet_small.specs.Steps.{message_len, size, record_of}

-- ---- one message

module _ (id place len m : ℕ) where
  pub stored-not : m < place + len → stored m (record_of id place len) ≡ false
  stored-not h = lt-leb _ _ h

  pub stored-is : place + len ≤ m → stored m (record_of id place len) ≡ true
  stored-is h = le-leb _ _ h

module _ (ids : Bool) (id place len : ℕ) where
  pub sayable-len : LIMIT ≤ len → sayable ids (record_of id place len) ≡ false
  sayable-len h = rw (le-ltb _ _ h) (pick-false (ltb (id_said ids id) LIMIT))
    where
      pick-false : (t : Bool) → pick t false false ≡ false
      pick-false true = refl
      pick-false false = refl

  pub sayable-id : ids ≡ true → LIMIT ≤ id → sayable ids (record_of id place len) ≡ false
  sayable-id i h = simp (i, le-ltb _ _ h)

  pub sayable-both : ids ≡ true → id < LIMIT → len < LIMIT → sayable ids (record_of id place len) ≡ true
  sayable-both i h g = simp (i, lt-ltb _ _ h, lt-ltb _ _ g)

  pub sayable-none : ids ≡ false → len < LIMIT → sayable ids (record_of id place len) ≡ true
  sayable-none i g = simp (i, lt-ltb _ _ g)

-- ---- a table, from its i-th message on

module _ (t : List ℕ) (n i : ℕ) where
  pub listed-none : n ≤ i → listed t i (n - i) ≡ []
  unfolding listed
  listed-none h = let z : n - i ≡ 0 = omega arith in simp z

  pub listed_more : i < n → listed t i (n - i) ≡ record_at t i ∷ listed t (i + 1) (n - (i + 1))
  unfolding listed
  listed_more h = let q : n - i ≡ suc (n - (i + 1)) = omega arith in simp q

  -- X tells of the whole table whether each message passes
  module _ (p : Message → Bool) {X : Bool} (inv : all p (listed t i (n - i)) ≡ X) where
    pub all_passed : n ≤ i → true ≡ X
    unfolding all
    all_passed h = simp (listed-none h) at inv

    module _ {e : Message} (r : e ≡ record_at t i) (h : i < n) where
      pub one-fails : p e ≡ false → false ≡ X
      unfolding all
      one-fails f = let g : p (record_at t i) ≡ false = ap p (sym r) ∙ f in simp (listed_more h, g) at inv

      pub one-passes : p e ≡ true → all p (listed t (i + 1) (n - (i + 1))) ≡ X
      unfolding all
      one-passes f = let g : p (record_at t i) ≡ true = ap p (sym r) ∙ f in simp (listed_more h, g) at inv

  -- and whether all fit
  module _ (ids : Bool) (spare : ℕ) {X : Bool} (inv : leb (total (size ids) (listed t i (n - i))) spare ≡ X) where
    pub all_fitted : n ≤ i → true ≡ X
    unfolding total
    all_fitted h = sym (le-leb 0 spare (omega arith)) ∙ simp (listed-none h) at inv

    module _ {id place len : ℕ} (r : record_of id place len ≡ record_at t i) (h : i < n) where
      sized : leb (message_len ids id len + total (size ids) (listed t (i + 1) (n - (i + 1)))) spare ≡ X
      unfolding total size
      sized = let s : size ids (record_of id place len) ≡ size ids (record_at t i) = ap (size ids) r in rw s (simp (listed_more h) at inv)

      pub one-over : spare < message_len ids id len → false ≡ X
      one-over g = let o : spare < message_len ids id len + total (size ids) (listed t (i + 1) (n - (i + 1))) = omega arith in sym (lt-leb _ _ o) ∙ sized

      pub one-within : message_len ids id len ≤ spare → {left : ℕ} → left ≡ spare - message_len ids id len → leb (total (size ids) (listed t (i + 1) (n - (i + 1)))) left ≡ X
      one-within g {left} e = leb-same _ left _ spare (λ l. omega arith) (λ l. omega arith) ∙ sized
