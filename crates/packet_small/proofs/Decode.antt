-- `small` at each of its cases, and what is told and tabled then. Assumes nothing.
use Prim.Native.Nat.{ℕ, zero, suc, ◌+◌, ◌*◌, ◌/◌, ◌≤◌, ◌<◌}
use mathlib.Core.Path.{◌≡◌, refl, sym, ap, ◌∙◌, subst}
use mathlib.Core.Bool.{Bool}
use mathlib.Core.List.{List, ◌∷◌}
use native.Mathlib.Omega.{arith}
use borrow.Author.Tests.{lt-ltb, le-ltb, le-leb, lt-leb}
use lib.ListN.{length, get_or}
use Rattle.octets.specs.Reader.{Res, ok, fault, then, Good, byte, pair}
use Rattle.octets.specs.Varint.{var}
use Rattle.octets.specs.Writer.{done, refused}
use Rattle.packet_small.specs.Small.{Message, Small, message, messages, small, RECORD, judged, tabled, told}
use Rattle.packet_small.specs.Steps.{walk_of, filled}

-- ---- the number of the messages

abbrev pub Counts : ℕ → Res (List Message) → Type 0
Counts k (ok ms next) = length ms ≡ k
Counts k (fault e) = Unit {0}

count-then : (k : ℕ) (m : Message) (r : Res (List Message)) → Counts k r → Counts (suc k) (then r (λ ms next. ok (m ∷ ms) next))
count-then k m (ok ms next) c = ap suc c
count-then k m (fault e) c = tt

count-first : (ids : Bool) (k : ℕ) (s : List ℕ) (r : Res Message) → ((at : ℕ) → Counts k (messages ids k s at))
    → Counts (suc k) (then r (λ m next. then (messages ids k s next) (λ ms b. ok (m ∷ ms) b)))
count-first ids k s (ok m next) f = count-then k m (messages ids k s next) (f next)
count-first ids k s (fault e) f = tt

pub messages-count : (ids : Bool) (k : ℕ) (s : List ℕ) (at : ℕ) → Counts k (messages ids k s at)
unfolding messages
messages-count ids zero s at = refl
messages-count ids (suc k) s at = count-first ids k s (message ids s at) (messages-count ids k s)

-- how a walk ended tells what the messages are
lost : {B : Type 0} (r : Res (List Message)) (f : List Message → ℕ → Res B) {x : ℕ} → refused x ≡ walk_of r → fault x ≡ then r f
lost (ok ms next) f e = let z : ◌≡◌ {A = ℕ} 0 1 = cc in absurd (omega arith)
lost (fault x) f e = cc

until : (r : Res (List Message)) {end : ℕ} → done end ≡ walk_of r → (ms : List Message) × (r ≡ ok ms end)
until (ok ms next) e = (ms, cc)
until (fault x) e = let z : ◌≡◌ {A = ℕ} 0 1 = cc in absurd (omega arith)

-- ---- cases

module _ (ids : Bool) (s : List ℕ) (at : ℕ) where
  pub no-seq : {x : ℕ} → fault x ≡ var s at → fault x ≡ small ids s at
  unfolding small
  no-seq e = simp (← e)

  module _ {seq a : ℕ} (e : ok seq a ≡ var s at) where
    pub no-channel : length s ≤ a → fault 1 ≡ small ids s at
    unfolding small byte
    no-channel h = simp (← e, le-ltb _ _ h)

    module _ (h : a < length s) where
      pub no-count : {x : ℕ} → fault x ≡ pair s (a + 1) → fault x ≡ small ids s at
      unfolding small byte
      no-count e' = simp (← e, lt-ltb _ _ h, ← e')

      module _ {k b : ℕ} (e' : ok k b ≡ pair s (a + 1)) where
        rest : small ids s at ≡ then (messages ids k s b) (λ ms end. ok (record { sequence = seq; channel = get_or s a 0; messages = ms }) end)
        unfolding small byte
        rest = simp (← e, lt-ltb _ _ h, ← e')

        pub no-message : {x : ℕ} → refused x ≡ walk_of (messages ids k s b) → fault x ≡ small ids s at
        no-message e'' = lost (messages ids k s b) _ e'' ∙ sym rest

        module _ {end : ℕ} (e'' : done end ≡ walk_of (messages ids k s b)) where
          all : (ms : List Message) × (messages ids k s b ≡ ok ms end)
          all = until (messages ids k s b) e''

          packet : Small
          packet = record { sequence = seq; channel = get_or s a 0; messages = all.0 }

          is-packet : small ids s at ≡ ok packet end
          unfolding packet
          is-packet = rest ∙ ap (λ (r : Res (List Message)). then r (λ ms next. ok (record { sequence = seq; channel = get_or s a 0; messages = ms }) next)) all.1

          count : length all.0 ≡ k
          count = subst (Counts k) all.1 (messages-count ids k s b)

          pub walked-good : Good (messages ids k s b)
          walked-good = subst Good (sym all.1) tt

          full : (n : ℕ) → n / RECORD < k → judged (small ids s at) n ≡ fault 11
          unfolding judged packet
          full n h =
              let c = count in
              let f : n < RECORD * length all.0 = omega arith in
              simp (is-packet, lt-leb _ _ f)

          room : (n : ℕ) → k ≤ n / RECORD → judged (small ids s at) n ≡ ok packet end
          unfolding judged packet
          room n h =
              let c = count in
              let f : RECORD * length all.0 ≤ n = omega arith in
              simp (is-packet, le-leb _ _ f)

          pub full-told : (n : ℕ) → n / RECORD < k → fault 11 ≡ told (judged (small ids s at) n)
          full-told n h = simp (full n h)

          pub full-tabled : (t : List ℕ) → length t / RECORD < k → t ≡ tabled (judged (small ids s at) (length t)) t
          unfolding tabled
          full-tabled t h = simp (full (length t) h)

          pub filled-told : (n : ℕ) → k ≤ n / RECORD → ok (record { sequence = seq; channel = get_or s a 0; count = k }) end ≡ told (judged (small ids s at) n)
          unfolding packet
          filled-told n h = let c = count in simp (room n h, c)

          pub filled-tabled : (t t' : List ℕ) → k ≤ length t / RECORD → t' ≡ filled (messages ids k s b) 0 t → t' ≡ tabled (judged (small ids s at) (length t)) t
          unfolding tabled packet
          filled-tabled t t' h u = simp (room (length t) h) (simp all.1 at u)

-- a fault is the answer, and the table is as it was
pub on_fault : (ids : Bool) (s : List ℕ) (at : ℕ) (t : List ℕ) {x : ℕ} → fault x ≡ small ids s at
    → (fault x ≡ told (judged (small ids s at) (length t))) × (t ≡ tabled (judged (small ids s at) (length t)) t)
unfolding judged tabled
on_fault ids s at t e = simp (← e) (refl, refl)
