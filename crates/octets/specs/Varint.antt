-- RFC 9000, section 16: integers of variable length. Document 01, part 1. Assumes nothing.
use Rattle.std.specs.Prelude.{ℕ, zero, suc, ◌+◌, ◌*◌, ◌-◌, ◌/◌, ◌%◌, ◌^◌, List, [], ◌∷◌, ◌++◌, length, get_or, ltb, leb, Result, Ok, Err}
use Rattle.words.specs.Sizes.{LIMIT}
use Rattle.words.specs.Choice.{pick, refusal}
use Rattle.octets.specs.Reader.{Res, Reader, ok, fault, ◌>>=◌, give, bytes}
use Rattle.octets.specs.Writer.{Outcome, outcome}
use Rattle.words.specs.Refusal.{number_of}
use Rattle.words.specs.declared.Refusal.{Refusal}

-- ---- writing: the shortest form

-- the least length that holds v: 6, 14, 30 or 62 bits
unfoldable pub var_len : ℕ → ℕ
var_len v = pick (ltb v (2 ^ 6)) 1 (pick (ltb v (2 ^ 14)) 2 (pick (ltb v (2 ^ 30)) 4 8))

-- the last k bytes of v, the highest first
unfoldable pub low_bytes : ℕ → ℕ → List ℕ
low_bytes zero v = []
low_bytes (suc k) v = (v / 256 ^ k % 256) ∷ low_bytes k v

-- v in k + 1 bytes, in network order, the two highest bits being `tag`
unfoldable pub tagged : ℕ → ℕ → ℕ → List ℕ
unfolding low_bytes
tagged tag k v = (tag * 64 + v / 256 ^ k) ∷ low_bytes k v

-- the shortest form of v, whose tag is the base-2 logarithm of its length
unfoldable pub var_bytes : ℕ → List ℕ
unfolding tagged
var_bytes v =
    pick (ltb v (2 ^ 6)) (tagged 0 0 v)
    (pick (ltb v (2 ^ 14)) (tagged 1 1 v)
    (pick (ltb v (2 ^ 30)) (tagged 2 3 v) (tagged 3 7 v)))

-- a two-byte count, big-endian
abbrev pub pair_bytes : ℕ → List ℕ
pair_bytes n = n / 256 ∷ n % 256 ∷ []

-- bytes with a varint length before them
unfoldable pub run_bytes : List ℕ → List ℕ
run_bytes bs = var_bytes (length bs) ++ bs

-- ---- reading: any of the four lengths

-- the length of the form whose first byte is b: 2 to the power of its two highest bits
unfoldable pub form_len_of : ℕ → ℕ
form_len_of b = 2 ^ (b / 64)

-- v, and then the k bytes of s from place `at`: v = (v << 8) + next byte, k times
unfoldable pub more : ℕ → List ℕ → ℕ → ℕ → ℕ
more zero s at v = v
more (suc k) s at v = more k s (suc at) (v * 256 + get_or s at 0)

unfoldable pub var : Reader ℕ
unfolding more form_len_of
var s at =
    pick (ltb at (length s))
    (pick (leb (at + form_len_of (get_or s at 0)) (length s))
    (ok (more (form_len_of (get_or s at 0) - 1) s (suc at) (get_or s at 0 % 64)) (at + form_len_of (get_or s at 0)))
    (fault 1))
    (fault 1)

-- a part of the input: its place and its length
pub record Part : Type 0 where
  pub place : ℕ
  pub len : ℕ

-- v length, bytes
unfoldable pub run : Reader Part
run = do
  n ← var
  b ← bytes n
  give (record { place = b; len = n })

-- ---- what the calls answer

-- the length of v's shortest form: 13 where it has none
unfoldable pub var_length : ℕ → Outcome
unfolding var_len
var_length v = outcome (refusal ((leb LIMIT v, 13) ∷ [])) (var_len v)

-- v, written at place `at` of n bytes: 13, then 1
unfoldable pub put_var : ℕ → ℕ → ℕ → Outcome
unfolding var_len
put_var v at n = outcome (refusal ((leb LIMIT v, 13) ∷ (ltb n (at + var_len v), 1) ∷ [])) (at + var_len v)

-- k bytes, written at place `at` of n bytes: 1
unfoldable pub put_bytes : ℕ → ℕ → ℕ → Outcome
put_bytes k at n = outcome (refusal ((ltb n (at + k), 1) ∷ [])) (at + k)

-- k bytes with their length before them, written at place `at` of n bytes: 13, then 1
unfoldable pub put_run : ℕ → ℕ → ℕ → Outcome
unfolding var_len
put_run k at n = outcome (refusal ((leb LIMIT k, 13) ∷ (ltb n (at + (var_len k + k)), 1) ∷ [])) (at + (var_len k + k))

abbrev pub run_of : Result (ℕ × ℕ) Refusal → Res Part
run_of (Ok (place, len)) = ok (record { place = place; len = len }) (place + len)
run_of (Err e) = fault (number_of e)
