-- `ack` at each of its cases, and what is found then. Assumes nothing.
use Prim.Native.Nat.{ℕ, zero, suc, ◌+◌, ◌≤◌, ◌<◌}
use mathlib.Core.Path.{◌≡◌, refl, sym, ap, ◌∙◌, subst}
use mathlib.Core.List.{List, ◌∷◌, reverse}
use native.Mathlib.Omega.{arith}
use borrow.Author.Tests.{le-leb, lt-leb}
use lib.ListN.{length, length-reverse}
use Rattle.std.specs.Prelude.{Ok, Err}
use Rattle.words.specs.Refusal.{number_of}
use Rattle.words.specs.declared.Refusal.{Refusal}
use Rattle.words.specs.declared.Refusal.TheVariants.{TableFull}
use Rattle.octets.specs.Reader.{Res, ok, fault, then}
use Rattle.octets.specs.Varint.{var}
use Rattle.packet_ack.specs.Ack.{Range, Ack, lower, lowers, ack, judged, tabled}
use Rattle.packet_ack.specs.Steps.{Top, highest, ended, FindGives}
use Rattle.packet_ack.proofs.Fill.{filled-rising}

-- ---- the number of the lower ranges

abbrev Counts : ℕ → Res (List Range) → Type 0
Counts k (ok rs next) = length rs ≡ k
Counts k (fault e) = Unit {0}

count-then : (k : ℕ) (x : Range) (r : Res (List Range)) → Counts k r → Counts (suc k) (then r (λ rs next. ok (x ∷ rs) next))
count-then k x (ok rs next) c = ap suc c
count-then k x (fault e) c = tt

count-first : (k : ℕ) (s : List ℕ) (r : Res Range) → ((above at : ℕ) → Counts k (lowers k above s at))
    → Counts (suc k) (then r (λ x next. then (lowers k x.start s next) (λ rs b. ok (x ∷ rs) b)))
count-first k s (ok x next) f = count-then k x (lowers k x.start s next) (f x.start next)
count-first k s (fault e) f = tt

lowers-count : (k above : ℕ) (s : List ℕ) (at : ℕ) → Counts k (lowers k above s at)
unfolding lowers
lowers-count zero above s at = refl
lowers-count (suc k) above s at = count-first k s (lower above s at) (λ a n. lowers-count k a s n)

-- how a walk ended tells what the lower ranges are
lost : {B : Type 0} (r : Res (List Range)) (f : List Range → ℕ → Res B) {x : ℕ} → fault x ≡ ended r → fault x ≡ then r f
lost (ok rs next) f e = let z : ◌≡◌ {A = ℕ} 0 1 = cc in absurd (omega arith)
lost (fault y) f e = ap fault cc

until : (r : Res (List Range)) {next : ℕ} → ok tt next ≡ ended r → (rs : List Range) × (r ≡ ok rs next)
until (ok rs next) e = (rs, cc)
until (fault y) e = let z : ◌≡◌ {A = ℕ} 0 1 = cc in absurd (omega arith)

-- ---- cases

then-then : {A B C : Type 0} (r : Res A) (f : A → ℕ → Res B) (g : B → ℕ → Res C) → then (then r f) g ≡ then r (λ a n. then (f a n) g)
then-then (ok a n) f g = refl
then-then (fault e) f g = refl

-- the packet of a sequence, a highest range and the lower ones
abbrev packet : ℕ → Range → List Range → Ack
packet seq r rs = record { sequence = seq; ranges = reverse (r ∷ rs) }

parts : (s : List ℕ) (at : ℕ)
    → ack s at ≡ then (var s at) (λ seq a. then (highest s a) (λ h b. then (lowers h.lower h.top.start s b) (λ rs next. ok (packet seq h.top rs) next)))
unfolding ack highest
parts s at = simp then-then

module _ (s : List ℕ) (at : ℕ) where
  pub no-seq : {x : ℕ} → fault x ≡ var s at → fault x ≡ ack s at
  no-seq e = simp (parts, ← e)

  module _ {seq a : ℕ} (e : ok seq a ≡ var s at) where
    pub no-highest : {x : ℕ} → fault x ≡ highest s a → fault x ≡ ack s at
    no-highest e' = simp (parts, ← e, ← e')

    module _ {h : Top} {b : ℕ} (e' : ok h b ≡ highest s a) where
      rest : ack s at ≡ then (lowers h.lower h.top.start s b) (λ rs next. ok (packet seq h.top rs) next)
      rest = simp (parts, ← e, ← e')

      pub no_lower : {x : ℕ} → fault x ≡ ended (lowers h.lower h.top.start s b) → fault x ≡ ack s at
      no_lower e'' = lost (lowers h.lower h.top.start s b) _ e'' ∙ sym rest

      module _ {next : ℕ} (e'' : ok tt next ≡ ended (lowers h.lower h.top.start s b)) where
        walked : (rs : List Range) × (lowers h.lower h.top.start s b ≡ ok rs next)
        walked = until (lowers h.lower h.top.start s b) e''

        is-packet : ack s at ≡ ok (packet seq h.top walked.0) next
        is-packet = rest ∙ ap (λ (r : Res (List Range)). then r (λ rs next. ok (packet seq h.top rs) next)) walked.1

        count : length walked.0 ≡ h.lower
        count = subst (Counts h.lower) walked.1 (lowers-count h.lower h.top.start s b)

        ranges : length (reverse (h.top ∷ walked.0)) ≡ h.lower + 1
        ranges = length-reverse (h.top ∷ walked.0) ∙ (let c = count in omega arith)

        pub table-full : (n : ℕ) → n ≤ h.lower → FindGives s at n (Err TableFull)
        unfolding judged tabled
        table-full n full =
            let over : n < h.lower + 1 = omega arith in
            record { answer = sym (simp (is-packet, ranges, lt-leb _ _ over)); within = omega arith; fills = λ t. simp (is-packet, ranges, lt-leb _ _ over) }

        pub table_fits : (n : ℕ) → h.lower < n
            → FindGives s at n (Ok (record { ack = record { sequence = record { 0 = seq }; count = h.lower + 1 }; next = next; top = record { range = h.top; next = b } }))
        unfolding judged tabled
        table_fits n room =
            let within : h.lower + 1 ≤ n = omega arith in
            let fits : suc h.lower ≤ n = omega arith in
            let one : h.lower + 1 ≡ suc h.lower = omega arith in
            record {
              answer = sym (simp (is-packet, ranges, le-leb _ _ within));
              within = omega arith;
              fills = λ t. simp (is-packet, ranges, one, le-leb _ _ fits) (filled-rising h.lower s h.top b t walked.1 count);
            }

-- a fault is the answer, and no record is filled
pub refused : (s : List ℕ) (at n : ℕ) (x : Refusal) → fault (number_of x) ≡ ack s at → FindGives s at n (Err x)
unfolding judged tabled
refused s at n x e = record { answer = simp (← e); within = omega arith; fills = λ t. simp (← e) }
