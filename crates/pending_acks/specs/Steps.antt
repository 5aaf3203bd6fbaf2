-- What the private functions answer. Assumes nothing.
use Rattle.std.specs.Prelude.{ℕ, ◌+◌, ◌-◌, ◌≤◌, ◌<◌, ◌≡◌, Bool, false, List, ◌∷◌, ◌++◌, length, take, drop, ltb, eqb}
use Rattle.words.specs.Choice.{pick}
use Rattle.words.specs.Lists.{without}
use Rattle.packet_ack.specs.declared.Range.{Range}
use Rattle.packet_ack.specs.Write.{record_at}
use Rattle.pending_acks.specs.Gather.{range, inserted}
use Rattle.pending_acks.specs.declared.Spot.{Spot}
use Rattle.pending_acks.specs.declared.Spot.TheVariants.{Named, Above, Below, Joins, Opens}

-- ---- a table

-- v put in at k
unfoldable pub put_in : {A : Type 0} → ℕ → A → List A → List A
put_in k v l = take k l ++ v ∷ drop k l

-- the entry at `from` taken out, and v put in at `to`
abbrev pub moved : ℕ → ℕ → Range → List Range → List Range
moved from to v table = put_in to v (without from table)

-- ---- where ranges start

-- k of the ranges start at or below x: those before the k-th, and no other
pub record Placed (rs : List Range) (x k : ℕ) : Type 0 where
  pub within : k ≤ length rs
  pub low : 0 < k → (record_at rs (k - 1)).start ≤ x
  pub high : k < length rs → x < (record_at rs k).start

-- whether there is a k-th range, and it starts at x
abbrev pub starts_at_of : List Range → ℕ → ℕ → Bool
starts_at_of rs k x = pick (ltb k (length rs)) (eqb (record_at rs k).start x) false

-- ---- where a sequence goes: what it makes of the ranges, at the place of a range

-- the range at k is another
pub record Swapped (rs rs' : List Range) (k : ℕ) (f : Range → Range) : Type 0 where
  pub before : List Range
  pub here : Range
  pub after : List Range
  pub was : rs ≡ before ++ here ∷ after
  pub is : rs' ≡ before ++ f here ∷ after
  pub place : length before ≡ k

-- the range at k and the next are one
pub record Joined (rs rs' : List Range) (k : ℕ) : Type 0 where
  pub before : List Range
  pub lower : Range
  pub upper : Range
  pub after : List Range
  pub was : rs ≡ before ++ lower ∷ upper ∷ after
  pub is : rs' ≡ before ++ range lower.start upper.end ∷ after
  pub place : length before ≡ k

-- there is one more at k
pub record Opened (rs rs' : List Range) (k : ℕ) (r : Range) : Type 0 where
  pub before : List Range
  pub after : List Range
  pub was : rs ≡ before ++ after
  pub is : rs' ≡ before ++ r ∷ after
  pub place : length before ≡ k

abbrev pub SpotFor : List Range → ℕ → Spot → Type 0
SpotFor rs x Named = inserted x rs ≡ rs
SpotFor rs x (Above k) = Swapped rs (inserted x rs) k (λ (r : Range). range r.start (x + 1))
SpotFor rs x (Below k) = Swapped rs (inserted x rs) k (λ (r : Range). range x r.end)
SpotFor rs x (Joins k) = Joined rs (inserted x rs) k
SpotFor rs x (Opens k) = Opened rs (inserted x rs) k (range x (x + 1))
