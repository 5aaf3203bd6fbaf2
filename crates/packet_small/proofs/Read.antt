-- `message` and `messages` at each of their cases, in the terms in which code meets them. Assumes nothing.
use Prim.Native.Nat.{ℕ, suc, ◌+◌, ◌-◌, ◌^◌, ◌≤◌, ◌<◌}
use mathlib.Core.Path.{◌≡◌, refl, ◌∙◌}
use mathlib.Core.Bool.{Bool, true, false}
use mathlib.Core.List.{List, ◌∷◌}
use native.Mathlib.Omega.{arith}
use mir.Val.{Fits}
use mir.Syntax.{w64}
use lib.ListN.{length}
use Rattle.octets.specs.Reader.{Res, ok, fault, then}
use Rattle.octets.specs.Varint.{Part, run}
use Rattle.octets.specs.Writer.{Outcome, done, refused}
use Rattle.octets.proofs.Reader.{Lands, landed, give-keeps, keep, lands-then, keeps_then, bytes-lands, var-lands}
use Rattle.packet_small.specs.Small.{Message, id_of, message, messages}
use Rattle.packet_small.specs.Steps.{walk_of}

module _ (ids : Bool) (s : List ℕ) (at : ℕ) where
  -- ---- a message, by what was read of it

  pub cut-id : {x : ℕ} → fault x ≡ id_of ids s at → fault x ≡ message ids s at
  unfolding message
  cut-id e = simp (← e)

  module _ {id a : ℕ} (e : ok id a ≡ id_of ids s at) where
    pub cut-run : {x : ℕ} → fault x ≡ run s a → fault x ≡ message ids s at
    unfolding message
    cut-run e' = simp (← e, ← e')

    pub found : {p : Part} {next : ℕ} → ok p next ≡ run s a → ok (record { id = id; place = p.place; len = p.len }) next ≡ message ids s at
    unfolding message
    found e' = simp (← e, ← e')

run-lands : Lands _ run
unfolding run
run-lands = lands-then var-lands (λ n. keeps_then (keep (bytes-lands n)) (λ b. give-keeps _))

message-lands : (ids : Bool) → Lands Message (message ids)
unfolding message
message-lands true = lands-then var-lands (λ id. keeps_then (keep run-lands) (λ p. give-keeps _))
message-lands false = lands-then {B = Message} run-lands (λ p. give-keeps _)

-- a walk over messages, of which the first is read
walk-then : (m : Message) (r : Res (List Message)) → walk_of r ≡ walk_of (then r (λ ms next. ok (m ∷ ms) next))
walk-then m (ok ms next) = refl
walk-then m (fault e) = refl

-- after i of n messages; X is how the whole walk ends
module _ (ids : Bool) (s : List ℕ) (at n i : ℕ) {X : Outcome} (inv : walk_of (messages ids (n - i) s at) ≡ X) where
  pub walk_none : n ≤ i → done at ≡ X
  unfolding messages
  walk_none h = let z : n - i ≡ 0 = omega arith in simp z at inv

  module _ (h : i < n) where
    pub walk-lost : {x : ℕ} → fault x ≡ message ids s at → refused x ≡ X
    unfolding messages
    walk-lost e = let q : n - i ≡ suc (n - (i + 1)) = omega arith in simp (q, ← e) at inv

    pub walk_more : {m : Message} {next : ℕ} → ok m next ≡ message ids s at → walk_of (messages ids (n - (i + 1)) s next) ≡ X
    unfolding messages
    walk_more {m} {next} e =
        let q : n - i ≡ suc (n - (i + 1)) = omega arith in
        walk-then m (messages ids (n - (i + 1)) s next) ∙ simp (q, ← e) at inv

module _ (ids : Bool) (s : List ℕ) (at : ℕ) {m : Message} {next : ℕ} (e : ok m next ≡ message ids s at) where
  pub message-fits : length s < 2 ^ 64 → Fits w64 next
  message-fits h = let l = landed (message-lands ids) s at e in record { fits = omega arith }
