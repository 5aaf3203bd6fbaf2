-- Laws of what is set down on a page. Assumes nothing.
use Prim.Native.Nat.{ℕ, ◌+◌, ◌≤◌}
use mathlib.Core.Path.{◌≡◌, refl, ap, ◌∙◌}
use mathlib.Core.Bool.{Bool, true, false}
use mathlib.Core.List.{List, [], ◌++◌}
use lib.Dec.{leb}
use native.Mathlib.Omega.{arith}
use lib.ListN.{length, length-append}
use borrow.Author.Tests.{le-leb}
use Rattle.words.specs.Lists.{splice}
use Rattle.words.proofs.Splice.{length-splice, splice-splice}
use Rattle.say.specs.Say.{Says}

pub says_all : (page : List ℕ) (at : ℕ) (s page' : List ℕ) (r : ℕ) → at + length s ≤ length page → r ≡ at + length s → page' ≡ splice at s page → Says page at s page' r
says_all page at s page' r h e f = record { bytes = rw (le-leb _ _ h) f; place = rw (le-leb _ _ h) e }

-- no text is nothing to set down
empty-by : (t : Bool) (page : List ℕ) (at : ℕ) → leb (at + 0) (length page) ≡ t → Says page at [] page at
unfolding splice
empty-by true page at e = record { bytes = rw e; place = rw e (omega arith) }
empty-by false page at e = record { bytes = rw e; place = rw e }

pub says_empty : (page : List ℕ) (at : ℕ) → Says page at [] page at
says_empty page at = empty-by (leb (at + 0) (length page)) page at refl

pub says-as : (page : List ℕ) (at : ℕ) (s s' page' : List ℕ) (r : ℕ) → s ≡ s' → Says page at s page' r → Says page at s' page' r
says-as page at s s' page' r e h = rw e at h

-- one after the other is both at once, where there is room for both
module _ (page : List ℕ) (at : ℕ) (a b p q : List ℕ) (k r : ℕ) where
  pub says_then : at + length (a ++ b) ≤ length page → Says page at a p k → Says p k b q r → Says page at (a ++ b) q r
  says_then h f g =
      let l : at + length a ≤ length page = omega (arith, length-append a b) in
      let e : p ≡ splice at a page = rw (le-leb (at + length a) (length page) l) at f.bytes in
      let m : k ≡ at + length a = rw (le-leb (at + length a) (length page) l) at f.place in
      let n : length p ≡ length page = ap length e ∙ length-splice at a page in
      let o : k + length b ≤ length p = omega (arith, length-append a b) in
      let u : q ≡ splice k b p = rw (le-leb (k + length b) (length p) o) at g.bytes in
      let v : r ≡ k + length b = rw (le-leb (k + length b) (length p) o) at g.place in
      says_all page at (a ++ b) q r h (omega (arith, length-append a b)) (u ∙ rw (e, m) (splice-splice at a b page))
