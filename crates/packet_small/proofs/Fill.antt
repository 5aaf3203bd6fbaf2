-- The table that `fill_table` writes: `filled` where nothing is left, and a turn of the loop. Assumes nothing.
use Prim.Native.Nat.{ℕ, suc, ◌+◌, ◌*◌, ◌-◌, ◌≤◌, ◌<◌}
use mathlib.Core.Path.{◌≡◌, refl, ◌∙◌}
use mathlib.Core.Bool.{Bool}
use mathlib.Core.List.{List, ◌∷◌}
use native.Mathlib.Omega.{arith}
use native.Mathlib.Numerals.{add-one, add-two}
use lib.ListN.{set}
use Rattle.words.specs.Lists.{splice}
use Rattle.std.specs.Prelude.{Result, Ok, Err, IsOk}
use Rattle.words.specs.declared.Refusal.{Refusal}
use Rattle.octets.specs.Reader.{Res, ok, fault, then, Good}
use Rattle.packet_small.specs.declared.Message as item
use Rattle.packet_small.specs.Small.{Message, message, messages, item_of, words, RECORD}
use Rattle.packet_small.specs.Steps.{filled}

-- what a first message adds
good-then : (m : Message) (r : Res (List Message)) → Good (then r (λ ms next. ok (m ∷ ms) next)) → Good r
good-then m (ok ms next) g = tt
good-then m (fault e) g = g

filled-then : (m : Message) (r : Res (List Message)) (j : ℕ) (t : List ℕ) → Good (then r (λ ms next. ok (m ∷ ms) next))
    → filled r (suc (suc (suc j))) (set (set (set t j m.id) (suc j) m.place) (suc (suc j)) m.len) ≡ filled (then r (λ ms next. ok (m ∷ ms) next)) j t
unfolding splice words
filled-then m (ok ms next) j t g = refl
filled-then m (fault e) j t g = absurd g

pub fill_none : (ids : Bool) (s : List ℕ) (at n i j : ℕ) (t : List ℕ) {X : List ℕ} → n ≤ i → filled (messages ids (n - i) s at) j t ≡ X → t ≡ X
unfolding messages splice words
fill_none ids s at n i j t h inv = let z : n - i ≡ 0 = omega arith in simp z at inv

module _ (ids : Bool) (s : List ℕ) (at n i : ℕ) (h : i < n) (g : Good (messages ids (n - i) s at)) where
  -- the next message is there
  pub fill-there : (r : Result item.Message Refusal) → item_of r ≡ message ids s at → IsOk r
  unfolding messages
  fill-there (Ok m) e = refl
  fill-there (Err x) e = let q : n - i ≡ suc (n - (i + 1)) = omega arith in absurd (simp (q, ← e) at g)

  module _ {m : Message} {next : ℕ} (e : ok m next ≡ message ids s at) where
    pub fill-good : Good (messages ids (n - (i + 1)) s next)
    unfolding messages
    fill-good =
        let q : n - i ≡ suc (n - (i + 1)) = omega arith in
        good-then m (messages ids (n - (i + 1)) s next) (simp (q, ← e) at g)

    pub fill_more : (t : List ℕ) {X : List ℕ} → filled (messages ids (n - i) s at) (RECORD * i) t ≡ X
        → filled (messages ids (n - (i + 1)) s next) (RECORD * (i + 1)) (set (set (set t (RECORD * i) m.id) (RECORD * i + 1) m.place) (RECORD * i + 2) m.len) ≡ X
    unfolding messages
    fill_more t inv =
        let q : n - i ≡ suc (n - (i + 1)) = omega arith in
        let j : RECORD * (i + 1) ≡ suc (suc (suc (RECORD * i))) = omega arith in
        let f = filled-then m (messages ids (n - (i + 1)) s next) (RECORD * i) t (simp (q, ← e) at g) in
        simp (j, add-one (RECORD * i), add-two (RECORD * i)) (f ∙ (simp (q, ← e) at inv))
