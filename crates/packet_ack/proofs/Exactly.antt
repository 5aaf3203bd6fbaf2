-- The readers of this crate and the layout as a relation, exactly: what they accept is spelt so, and all that is spelt so they accept. Assumes nothing.
use Prim.Native.Nat.{ℕ, zero, suc, ◌+◌, ◌-◌, ◌≤◌}
use mathlib.Core.Path.{◌≡◌, refl, sym, ap, subst}
use mathlib.Core.List.{List, [], ◌∷◌, ◌++◌, append_assoc, append-nil, reverse}
use native.Mathlib.Omega.{arith}
use lib.ListN.{length}
use Rattle.octets.specs.Spelling.{Varint}
use Rattle.octets.proofs.Exact.{Spelling, Exact, exact-var, exact-then, exact-le, exact-if, exact-give, exact-made, exact-as, Then, both, If, judged, Given, given, Made, made}
use Rattle.packet_ack.specs.Ack.{Range, Ack, sized, lower, lowers, ack}
use Rattle.packet_ack.specs.Write.{type_byte_of}
use Rattle.packet_ack.specs.Steps.{range}
use Rattle.packet_ack.specs.Layout as layout
use Rattle.packet_ack.specs.Layout.{Sized, LowersSpelt, none_left, one_more, AckSpelt, packet}

-- ---- a range by its last value and its size less one: nothing is read

data SizedAt (last size at : ℕ) : Range → List ℕ → Type 0 where
  sized-at : {r : Range} → Sized last size r → SizedAt last size at r []

sized-as : {last last' size at : ℕ} {r : Range} → last ≡ last' → Sized last size r → SizedAt last' size at r []
sized-as {size = size} {at = at} {r = r} q z = subst (λ (n : ℕ). SizedAt n size at r []) q (sized-at z)

exact-sized : (last size : ℕ) → Exact (sized last size) (SizedAt last size)
unfolding sized
exact-sized last size = exact-as f g (exact-if (exact-le size last 5) (exact-give (range (last - size) (last + 1))))
  where
    f : (at : ℕ) (r : Range) (bs : List ℕ) → If (size ≤ last) (Given (range (last - size) (last + 1))) at r bs → SizedAt last size at r bs
    f at r bs (judged l given) = let q : last - size + size ≡ last = omega arith in sized-at (layout.sized q)

    g : (at : ℕ) (r : Range) (bs : List ℕ) → SizedAt last size at r bs → If (size ≤ last) (Given (range (last - size) (last + 1))) at r bs
    g at r bs (sized-at (layout.sized {start = start} e)) = let q : start ≡ last - size = omega arith in rw q (judged (omega arith) given)

-- ---- a lower range, and k of them

end-is : {last size : ℕ} {r : Range} → Sized last size r → r.end ≡ last + 1
end-is (layout.sized e) = refl

data LowerAt (above at : ℕ) : Range → List ℕ → Type 0 where
  lower-at : {gap last size : ℕ} {r : Range} {a b : List ℕ} → r.end + gap + 1 ≡ above → Sized last size r → Varint gap a → Varint size b → LowerAt above at r (a ++ b)

abbrev LowerRead : ℕ → Spelling Range
LowerRead above = Then (λ at. Varint) (λ gap. If (2 + gap ≤ above) (Then (λ at. Varint) (λ size. SizedAt (above - gap - 2) size)))

exact-lower : (above : ℕ) → Exact (lower above) (LowerAt above)
unfolding lower
exact-lower above = exact-as f g (exact-then exact-var (λ gap. exact-if (exact-le (2 + gap) above 5) (exact-then exact-var (λ size. exact-sized (above - gap - 2) size))))
  where
    f : (at : ℕ) (r : Range) (bs : List ℕ) → LowerRead above at r bs → LowerAt above at r bs
    f at r bs (both {a = gap} v (judged l (both {xs = b} w (sized-at z)))) =
        let d = end-is z in
        let q : r.end + gap + 1 ≡ above = omega arith in
        rw (append-nil b) (lower-at q z v w)

    g : (at : ℕ) (r : Range) (bs : List ℕ) → LowerAt above at r bs → LowerRead above at r bs
    g at r bs (lower-at {gap = gap} {last = last} {b = b} n z v w) =
        let d = end-is z in
        let q : last ≡ above - gap - 2 = omega arith in
        rw (← append-nil b) (both v (judged (omega arith) (both w (sized-as q z))))

data LowersAt (k above at : ℕ) : List Range → List ℕ → Type 0 where
  lowers_at : {rs : List Range} {bs : List ℕ} → LowersSpelt above rs bs → length rs ≡ k → LowersAt k above at rs bs

exact-lowers : (k above : ℕ) → Exact (lowers k above) (LowersAt k above)
unfolding lowers
exact-lowers zero above = exact-as f g (exact-give [])
  where
    f : (at : ℕ) (rs : List Range) (bs : List ℕ) → Given [] at rs bs → LowersAt 0 above at rs bs
    f at rs bs given = lowers_at none_left refl

    g : (at : ℕ) (rs : List Range) (bs : List ℕ) → LowersAt 0 above at rs bs → Given [] at rs bs
    g at rs bs (lowers_at none_left e) = given
    g at rs bs (lowers_at (one_more n z v w l) e) = absurd (omega arith)
exact-lowers (suc k) above = exact-as f g (exact-then (exact-lower above) (λ r. exact-made (λ rs. r ∷ rs) (exact-lowers k r.start)))
  where
    f : (at : ℕ) (rs : List Range) (bs : List ℕ) → Then (LowerAt above) (λ r. Made (λ rs. r ∷ rs) (LowersAt k r.start)) at rs bs → LowersAt (suc k) above at rs bs
    f at rs bs (both (lower-at {gap = gap} {r = r} {a = a} {b = b} n z v w) (made (lowers_at {bs = c} l e))) = rw (append_assoc a b c) (lowers_at (one_more {above = above} {gap = gap} {r = r} (omega arith) z v w l) (ap suc e))

    g : (at : ℕ) (rs : List Range) (bs : List ℕ) → LowersAt (suc k) above at rs bs → Then (LowerAt above) (λ r. Made (λ rs. r ∷ rs) (LowersAt k r.start)) at rs bs
    g at rs bs (lowers_at none_left e) = absurd (omega arith)
    g at rs bs (lowers_at (one_more {a = a} {b = b} {c = c} n z v w l) e) = rw (← append_assoc a b c) (both (lower-at n z v w) (made (lowers_at l (omega arith))))

-- ---- what follows the type byte

abbrev AckRead : Spelling Ack
AckRead =
    Then (λ at. Varint) (λ seq.
    Then (λ at. Varint) (λ last.
    Then (λ at. Varint) (λ size.
    Then (λ at. Varint) (λ k.
    Then (SizedAt last size) (λ r.
    Made (λ rs. record { sequence = seq; ranges = reverse (r ∷ rs) }) (LowersAt k r.start))))))

pub exact-ack : Exact ack (λ at p bs. AckSpelt p (type_byte_of ∷ bs))
unfolding ack
exact-ack =
    exact-as f g (
    exact-then exact-var (λ seq.
    exact-then exact-var (λ last.
    exact-then exact-var (λ size.
    exact-then exact-var (λ k.
    exact-then (exact-sized last size) (λ r.
    exact-made _ (exact-lowers k r.start)))))))
  where
    f : (at : ℕ) (p : Ack) (bs : List ℕ) → AckRead at p bs → AckSpelt p (type_byte_of ∷ bs)
    f at p bs (both v (both w (both x (both {xs = d} y (both (sized-at z) (made (lowers_at l e))))))) = packet v z w x (subst (λ (k : ℕ). Varint k d) (sym e) y) l

    g : (at : ℕ) (p : Ack) (bs : List ℕ) → AckSpelt p (type_byte_of ∷ bs) → AckRead at p bs
    g at p bs (packet v z w x y l) = both v (both w (both x (both y (both (sized-at z) (made (lowers_at l refl))))))
