-- The search of a table by id, when one entry is put anew. Assumes nothing.
use Prim.Native.Nat.{ℕ, zero, suc, ◌≤◌, ◌<◌}
use mathlib.Core.Path.{◌≡◌, refl, sym, ap, ◌∙◌}
use mathlib.Core.Bool.{Bool, true, false}
use mathlib.Core.List.{List, [], ◌∷◌}
use native.Mathlib.Omega.{arith}
use lib.Dec.{eqb}
use lib.ListN.{length, get_or, set}
use lib.Seq.{set-get_or}
use borrow.Author.Tests.{eq-eqb, ne_eqb}
use Rattle.words.specs.Choice.{pick}
use Rattle.channel.specs.Find.{held_at}

-- an entry that is not the one
miss : (h : Bool) (i x r : ℕ) → (h ≡ true → i ≡ x → ⊥) → pick h (pick (eqb i x) 0 (suc r)) (suc r) ≡ suc r
miss true i x r n = rw (ne_eqb i x (n refl))
miss false i x r n = refl

-- it is not the one, before and after
pub find-other : (hs : List Bool) (ids : List ℕ) (x l : ℕ) (b : Bool) (y : ℕ) → length hs ≡ length ids → (get_or hs l false ≡ true → get_or ids l 0 ≡ x → ⊥) → (b ≡ true → y ≡ x → ⊥)
    → held_at (set hs l b) (set ids l y) x ≡ held_at hs ids x
unfolding held_at
find-other [] ids x l b y e old now = refl
find-other (h ∷ hs) [] x l b y e old now = absurd (omega arith)
find-other (h ∷ hs) (i ∷ ids) x zero b y e old now = miss b y x (held_at hs ids x) now ∙ sym (miss h i x (held_at hs ids x) old)
find-other (h ∷ hs) (i ∷ ids) x (suc l) b y e old now =
    ap (λ (r : ℕ). pick h (pick (eqb i x) 0 (suc r)) (suc r)) (find-other hs ids x l b y (omega arith) old now)

past : (h t : Bool) (r n : ℕ) → suc n ≤ pick h (pick t 0 (suc r)) (suc r) → (pick h (pick t 0 (suc r)) (suc r) ≡ suc r) × (n ≤ r) × ((k : ℕ) → pick h (pick t 0 (suc k)) (suc k) ≡ suc k)
past true true r n h = absurd (omega arith)
past true false r n h = (refl, omega arith, λ k. refl)
past false t r n h = (refl, omega arith, λ k. refl)

-- none was the one, and it is now
pub find-new : (hs : List Bool) (ids : List ℕ) (x l : ℕ) → length hs ≡ length ids → l < length hs → length hs ≤ held_at hs ids x → held_at (set hs l true) (set ids l x) x ≡ l
unfolding held_at
find-new [] ids x l e low none = absurd (omega arith)
find-new (h ∷ hs) [] x l e low none = absurd (omega arith)
find-new (h ∷ hs) (i ∷ ids) x zero e low none = rw (eq-eqb x x refl)
find-new (h ∷ hs) (i ∷ ids) x (suc l) e low none =
    let p = past h (eqb i x) (held_at hs ids x) (length hs) none in
    p.2 (held_at (set hs l true) (set ids l x) x) ∙ ap suc (find-new hs ids x l (omega arith) (omega arith) p.1)

-- it was the one already
pub find-same : (hs : List Bool) (ids : List ℕ) (x l : ℕ) → get_or hs l false ≡ true → get_or ids l 0 ≡ x → held_at (set hs l true) (set ids l x) x ≡ held_at hs ids x
find-same hs ids x l e f =
    let a : set hs l true ≡ hs = ap (set hs l) (sym e) ∙ set-get_or hs l false in
    let b : set ids l x ≡ ids = ap (set ids l) (sym f) ∙ set-get_or ids l 0 in
    rw (a, b)
