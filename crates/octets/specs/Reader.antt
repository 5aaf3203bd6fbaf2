-- Reading a list of bytes from left to right, where the first fault met is the answer. Assumes nothing.
use Rattle.std.specs.Prelude.{ℕ, ◌+◌, ◌*◌, Bool, List, length, get_or, ltb, leb, Result, Ok, Err}
use Rattle.words.specs.Choice.{pick}
use Rattle.words.specs.Refusal.{number_of}
use Rattle.words.specs.declared.Refusal.{Refusal}

-- what reading at a place gives: a value and the place after it, or the number of a fault
pub data Res (A : Type 0) : Type 0 where
  ok : A → ℕ → Res A
  fault : ℕ → Res A

-- no fault
abbrev pub Good : {A : Type 0} → Res A → Type 0
Good (ok a next) = Unit {0}
Good (fault e) = ⊥

abbrev pub then : {A B : Type 0} → Res A → (A → ℕ → Res B) → Res B
then (ok a next) k = k a next
then (fault e) k = fault e

-- a reader: of a list, at a place
abbrev pub Reader : Type 0 → Type 0
Reader A = List ℕ → ℕ → Res A

abbrev pub ◌>>=◌ : {A B : Type 0} → Reader A → (A → Reader B) → Reader B
◌>>=◌ m k s at = then (m s at) (λ a next. k a s next)

abbrev pub ◌>>◌ : {A B : Type 0} → Reader A → Reader B → Reader B
◌>>◌ m k s at = then (m s at) (λ a next. k s next)

-- a value, with nothing read
abbrev pub give : {A : Type 0} → A → Reader A
give a s at = ok a at

-- a test, with the number of its fault
unfoldable pub need : Bool → ℕ → Reader (Unit {0})
need t e s at = pick t (ok tt at) (fault e)

-- one byte
unfoldable pub byte : Reader ℕ
byte s at = pick (ltb at (length s)) (ok (get_or s at 0) (at + 1)) (fault 1)

-- a two-byte count, big-endian
unfoldable pub pair : Reader ℕ
pair s at = pick (leb (at + 2) (length s)) (ok (get_or s at 0 * 256 + get_or s (at + 1) 0) (at + 2)) (fault 1)

-- n bytes, of which it gives the place
unfoldable pub bytes : ℕ → Reader ℕ
bytes n s at = pick (leb (at + n) (length s)) (ok at (at + n)) (fault 1)

-- ---- what the code's answer says: a number and the place after it, or the number of the refusal

abbrev pub num_of : Result (ℕ × ℕ) Refusal → Res ℕ
num_of (Ok (v, next)) = ok v next
num_of (Err e) = fault (number_of e)
