-- The digest of memory. Assumes nothing.
use Rattle.std.specs.Prelude.{ℕ, ◌+◌, ◌*◌, ◌-◌, ◌%◌, ◌^◌, List}
use Rattle.words.specs.Lists.{reached}

abbrev pub MODULUS : ℕ
MODULUS = 2 ^ 56 - 5

-- one byte or word more, taken modulo the same first
abbrev pub mixed : ℕ → ℕ → ℕ
mixed h v = (251 * h + v % MODULUS) % MODULUS

unfoldable pub digest_of : List ℕ → ℕ
digest_of vs = reached mixed 0 vs
