-- Laws of readers: where they end. Assumes nothing.
use Prim.Native.Nat.{ℕ, suc, ◌+◌, ◌-◌, ◌%◌, ◌≤◌}
use mathlib.Core.Path.{◌≡◌, refl, sym, subst}
use mathlib.Core.Bool.{Bool, true, false}
use mathlib.Core.List.{List}
use borrow.Author.Tests.{leb-true}
use lib.ListN.{length, get_or}
use lib.Dec.{ltb, leb}
use Rattle.octets.specs.Reader.{Res, ok, fault, then, Reader, ◌>>=◌, give, bytes}
use Rattle.octets.specs.Varint.{var, form_len_of, more}
use Rattle.words.specs.Choice.{pick}

-- the place after a value is within n bytes
abbrev pub Inside : {A : Type 0} → ℕ → Res A → Type 0
Inside n (ok a next) = next ≤ n
Inside n (fault e) = Unit {0}

-- a reader whose place after a value is within the list; and one of which that holds where it starts within the list
pub record Lands (A : Type 0) (m : Reader A) : Type 0 where
  pub lands : (s : List ℕ) (at : ℕ) → Inside (length s) (m s at)

pub record Keeps (A : Type 0) (m : Reader A) : Type 0 where
  pub keeps : (s : List ℕ) (at : ℕ) → at ≤ length s → Inside (length s) (m s at)

pub landed : {A : Type 0} {m : Reader A} → Lands A m → (s : List ℕ) (at : ℕ) {a : A} {next : ℕ} → ok a next ≡ m s at → next ≤ length s
landed l s at e = subst (Inside (length s)) (sym e) (l.lands s at)

pub give-keeps : {A : Type 0} (a : A) → Keeps A (give a)
give-keeps a = record { keeps = λ s at h. h }

pub keep : {A : Type 0} {m : Reader A} → Lands A m → Keeps A m
keep l = record { keeps = λ s at h. l.lands s at }

inside : {A B : Type 0} (n : ℕ) (r : Res A) (k : A → ℕ → Res B) → Inside n r → ((a : A) (next : ℕ) → next ≤ n → Inside n (k a next)) → Inside n (then r k)
inside n (ok a next) k i f = f a next i
inside n (fault e) k i f = tt

module _ {A B : Type 0} {m : Reader A} {k : A → Reader B} where
  pub lands-then : Lands A m → ((a : A) → Keeps B (k a)) → Lands B (◌>>=◌ m k)
  lands-then l f = record { lands = λ s at. inside (length s) (m s at) (λ a. k a s) (l.lands s at) (λ a. (f a).keeps s) }

  pub keeps_then : Keeps A m → ((a : A) → Keeps B (k a)) → Keeps B (◌>>=◌ m k)
  keeps_then l f = record { keeps = λ s at h. inside (length s) (m s at) (λ a. k a s) (l.keeps s at h) (λ a. (f a).keeps s) }

pub bytes-lands : (n : ℕ) → Lands ℕ (bytes n)
unfolding bytes
bytes-lands n = record { lands = λ s at. go s at (leb (at + n) (length s)) refl }
  where
    go : (s : List ℕ) (at : ℕ) (t : Bool) → leb (at + n) (length s) ≡ t → Inside (length s) (bytes n s at)
    go s at true p = simp p (leb-true _ _ p)
    go s at false p = simp p tt

pub var-lands : Lands ℕ var
unfolding var
var-lands = record { lands = λ s at. go s at (ltb at (length s)) (leb (at + form_len_of (get_or s at 0)) (length s)) refl refl }
  where
    go : (s : List ℕ) (at : ℕ) (t u : Bool) → ltb at (length s) ≡ t → leb (at + form_len_of (get_or s at 0)) (length s) ≡ u → Inside (length s) (var s at)
    go s at true true p q = simp (p, q) (leb-true _ _ q)
    go s at true false p q = simp (p, q) tt
    go s at false u p q = simp p tt

-- ---- a reader whose only fault is 1

abbrev pub Cut1 : {A : Type 0} → Res A → Type 0
Cut1 (ok a next) = Unit {0}
Cut1 (fault e) = e ≡ 1

pub record Cuts (A : Type 0) (m : Reader A) : Type 0 where
  pub cuts : (s : List ℕ) (at : ℕ) → Cut1 (m s at)

pub give-cuts : {A : Type 0} (a : A) → Cuts A (give a)
give-cuts a = record { cuts = λ s at. tt }

cut-then : {A B : Type 0} (r : Res A) (k : A → ℕ → Res B) → Cut1 r → ((a : A) (next : ℕ) → Cut1 (k a next)) → Cut1 (then r k)
cut-then (ok a next) k i f = f a next
cut-then (fault e) k i f = i

pub cuts-then : {A B : Type 0} {m : Reader A} {k : A → Reader B} → Cuts A m → ((a : A) → Cuts B (k a)) → Cuts B (◌>>=◌ m k)
cuts-then {A} {B} {m} {k} l f = record { cuts = λ s at. cut-then (m s at) (λ a. k a s) (l.cuts s at) (λ a. (f a).cuts s) }

cut-pick : {A : Type 0} (t : Bool) (r q : Res A) → Cut1 r → Cut1 q → Cut1 (pick t r q)
cut-pick true r q c d = c
cut-pick false r q c d = d

pub bytes-cuts : (n : ℕ) → Cuts ℕ (bytes n)
unfolding bytes
bytes-cuts n = record { cuts = λ s at. cut-pick (leb (at + n) (length s)) (ok at (at + n)) (fault 1) tt refl }

pub var-cuts : Cuts ℕ var
unfolding var
var-cuts =
    record {
      cuts = λ s at.
          cut-pick (ltb at (length s)) _ (fault 1)
          (cut-pick (leb (at + form_len_of (get_or s at 0)) (length s))
          (ok (more (form_len_of (get_or s at 0) - 1) s (suc at) (get_or s at 0 % 64)) (at + form_len_of (get_or s at 0)))
          (fault 1) tt refl)
          refl;
    }
