-- What is proved of reading and writing packets of acknowledgements, plainly. Assumes nothing.
use Prim.Native.Nat.{ℕ, suc, ◌+◌, ◌-◌, ◌≤◌, ◌<◌}
use mathlib.Core.Path.{◌≡◌, refl, sym, ap, ◌∙◌, subst}
use mathlib.Core.Bool.{true}
use mathlib.Core.List.{List, [], ◌∷◌, ◌++◌, reverse, reverse-reverse}
use native.Mathlib.Omega.{arith}
use native.Mathlib.Nat.{zero-add}
use borrow.Author.Tests.{lt-ltb, le-leb, leb-true}
use lib.Dec.{ltb, leb}
use lib.ListN.{length, take, drop}
use Rattle.words.specs.Sizes.{LIMIT}
use Rattle.words.specs.Lists.{splice, all}
use Rattle.words.proofs.Suffix.{drop-at-splice}
use Rattle.words.proofs.Splice.{length-splice}
use Rattle.words.proofs.Unique.{told-apart, refusal_of, refusal-undone}
use Rattle.octets.specs.Reader.{Res, ok, fault}
use Rattle.octets.specs.Varint.{var_bytes}
use Rattle.octets.specs.Spelling.{Bytes}
use Rattle.octets.proofs.Forms.{var-spelt, var-below}
use Rattle.octets.proofs.Exact.{Here, here-front, here_back, here-fits, here-taken}
use Rattle.packet_ack.specs.declared.Ack as code
use Rattle.std.specs.Prelude.{Result, Ok, Err}
use Rattle.words.specs.declared.Refusal.{Refusal}
use Rattle.packet_ack.specs.Ack.{Range, Ack, ack, Told, read_of}
use Rattle.packet_ack.specs.Write.{size_less_one, sayable, rising, lowers_bytes, falling_bytes, ack_bytes, type_byte_of}
use Rattle.packet_ack.specs.Layout.{Sized, sized, LowersSpelt, none_left, one_more, AckSpelt, packet}
use Rattle.packet_ack.specs.Steps.{falling_below, falling}
use Rattle.packet_ack.proofs.Falling.{picked, all-reverse, rising-falling, falls-top, falls-first, falls-count}
use Rattle.packet_ack.proofs.Exactly.{exact-ack}

-- ---- 1. what the reader accepts is a spelling of the packet that it tells, in bytes that begin with the type byte

pub accepts : (q : List ℕ) {p : Ack} {used : ℕ} → Bytes (type_byte_of ∷ q) → ack (type_byte_of ∷ q) 1 ≡ ok p used
    → (used ≤ length (type_byte_of ∷ q)) × AckSpelt p (take used (type_byte_of ∷ q))
accepts q {used = used} w e =
    let x = exact-ack.sound (type_byte_of ∷ q) 1 w e in
    let f = here-fits x.stands (omega arith) in
    let t : take (length x.spelling) q ≡ x.spelling = here-taken x.stands in
    let u : used ≡ suc (length x.spelling) = omega (arith, x.ends) in
    (omega arith, rw (u, t) x.says)

-- ---- 2. every spelling is accepted, for the packet that it spells: at any place, and with anything after it

begins : {p : Ack} {bs : List ℕ} → AckSpelt p bs → (rest : List ℕ) × (bs ≡ type_byte_of ∷ rest)
begins (packet v z w x y l) = (_, refl)

pub accepted-at : (s : List ℕ) (at : ℕ) {p : Ack} {bs : List ℕ} → at ≤ length s → Here s at bs → AckSpelt p bs → ack s (at + 1) ≡ ok p (at + length bs)
accepted-at s at {p} i h y =
    let b = begins y in
    let k : Here s at (type_byte_of ∷ b.0) = rw b.1 at h in
    let f = here-fits (here-front (type_byte_of ∷ []) b.0 k) i in
    let n : at + 1 + length b.0 ≡ at + suc (length b.0) = omega arith in
    rw b.1 (exact-ack.complete s (at + 1) f (here_back (type_byte_of ∷ []) b.0 k) (rw b.1 at y) ∙ ap (ok p) n)

pub accepted : {p : Ack} {bs : List ℕ} → AckSpelt p bs → (q : List ℕ) → ack (bs ++ q) 1 ≡ ok p (length bs)
accepted {p} {bs} y q = accepted-at (bs ++ q) 0 (omega arith) (record { rest = q; goes_on = refl }) y ∙ ap (ok p) (zero-add (length bs))

-- ---- 3. what is spelt rises, with something missing between two ranges, and is within 2^62

size-apart : {last size : ℕ} {r : Range} → Sized last size r → (r.start < r.end) × (r.end ≡ last + 1)
size-apart (sized e) = (omega arith, refl)

lowers-fall : {above : ℕ} {rs : List Range} {bs : List ℕ} → LowersSpelt above rs bs → falling_below above rs ≡ true
unfolding falling_below
lowers-fall none_left = refl
lowers-fall {above = above} (one_more {r = r} n z v w l) =
    let f = size-apart z in
    let g : r.end < above = omega arith in
    simp (lt-ltb _ _ g, lt-ltb _ _ f.0) (lowers-fall l)

-- ranges that fall from within 2^62 are within it
fall-within : (above : ℕ) (rs : List Range) → above ≤ LIMIT → falling_below above rs ≡ true → all sayable rs ≡ true
unfolding all
fall-within above [] h f = refl
fall-within above (r ∷ rs) h f =
    let g = falls-first above r rs f in
    let a : r.start < LIMIT = omega arith in
    let b : r.end ≤ LIMIT = omega arith in
    simp (lt-ltb _ _ a, le-leb _ _ b) (fall-within r.start rs (omega arith) g.2)

pub spelt-rising : {p : Ack} {bs : List ℕ} → AckSpelt p bs → rising p.ranges ≡ true
unfolding falling
spelt-rising (packet {r = r} {rs = rs} v z w x y l) =
    let f = size-apart z in
    rising-falling (reverse (r ∷ rs)) ∙ ap falling (reverse-reverse (r ∷ rs)) ∙ simp (lt-ltb _ _ f.0) (lowers-fall l)

pub spelt-sayable : {p : Ack} {bs : List ℕ} → AckSpelt p bs → all sayable p.ranges ≡ true
unfolding all
spelt-sayable (packet {r = r} {rs = rs} v z w x y l) =
    let f = size-apart z in
    let b = var-below w in
    let a : r.start < LIMIT = omega arith in
    let b : r.end ≤ LIMIT = omega arith in
    all-reverse sayable (r ∷ rs) ∙ simp (lt-ltb _ _ a, le-leb _ _ b) (fall-within r.start rs (omega arith) (lowers-fall l))

-- and so is what is read, at any place of any bytes
module _ (s : List ℕ) (at : ℕ) {p : Ack} {next : ℕ} (w : Bytes s) (e : ack s at ≡ ok p next) where
  pub read-rising : rising p.ranges ≡ true
  read-rising = spelt-rising (exact-ack.sound s at w e).says

  pub read-sayable : all sayable p.ranges ≡ true
  read-sayable = spelt-sayable (exact-ack.sound s at w e).says

-- ---- 4. what the writer writes is a spelling

size-spelt : (r : Range) → r.start < r.end → Sized (r.end - 1) (size_less_one r) r
size-spelt r h =
    let e : r.start + size_less_one r ≡ r.end - 1 = omega arith in
    let q : r.end - 1 + 1 ≡ r.end = omega arith in
    subst (λ (n : ℕ). Sized (r.end - 1) (size_less_one r) (record { start = r.start; end = n })) q (sized e)

lowers-spelt : (above : ℕ) (rs : List Range) → above ≤ LIMIT → falling_below above rs ≡ true → LowersSpelt above rs (lowers_bytes above rs)
unfolding lowers_bytes
lowers-spelt above [] h f = none_left
lowers-spelt above (r ∷ rs) h f =
    let g = falls-first above r rs f in
    let n : r.end + (above - r.end - 1) + 1 ≡ above = omega arith in
    one_more n (size-spelt r g.1) (var-spelt _ (omega arith)) (var-spelt _ (omega arith)) (lowers-spelt r.start rs (omega arith) g.2)

falling-spelt : (seq : ℕ) (rs : List Range) → seq < LIMIT → all sayable rs ≡ true → falling rs ≡ true
    → AckSpelt (record { sequence = seq; ranges = reverse rs }) (type_byte_of ∷ (var_bytes seq ++ falling_bytes rs))
unfolding all falling falling_bytes
falling-spelt seq [] h s f = absurd (let z : ◌≡◌ {A = ℕ} 0 1 = cc in omega arith)
falling-spelt seq (r ∷ rs) h s f =
    let g = falls-top r rs f in
    let c = falls-count r.start rs g.1 in
    let p = picked (sayable r) (all sayable rs) s in
    let q : r.end ≤ LIMIT = leb-true _ _ (picked (ltb r.start LIMIT) (leb r.end LIMIT) p.0).1 in
    packet (var-spelt seq h) (size-spelt r g.0) (var-spelt _ (omega arith)) (var-spelt _ (omega arith)) (var-spelt (length rs) (omega arith)) (lowers-spelt r.start rs (omega arith) g.1)

module _ (seq : ℕ) (rs : List Range) (h : seq < LIMIT) (s : all sayable rs ≡ true) (f : rising rs ≡ true) where
  pub written : AckSpelt (record { sequence = seq; ranges = rs }) (ack_bytes seq rs)
  unfolding ack_bytes
  written = rw (reverse-reverse rs) at (falling-spelt seq (reverse rs) h (all-reverse sayable rs ∙ s) (sym (rising-falling rs) ∙ f))

  -- ---- 5. reading what was written gives the same packet and its length, with anything after it
  pub read_back : (q : List ℕ) → ack (ack_bytes seq rs ++ q) 1 ≡ ok (record { sequence = seq; ranges = rs }) (length (ack_bytes seq rs))
  read_back q = accepted written q

  -- and so does reading it where it was written
  pub read-back-spliced : (at : ℕ) (out : List ℕ) → at + length (ack_bytes seq rs) ≤ length out
      → ack (splice at (ack_bytes seq rs) out) (at + 1) ≡ ok (record { sequence = seq; ranges = rs }) (at + length (ack_bytes seq rs))
  read-back-spliced at out i =
      accepted-at (splice at (ack_bytes seq rs) out) at (rw length-splice (omega arith))
      (record { rest = drop (at + length (ack_bytes seq rs)) out; goes_on = drop-at-splice at (ack_bytes seq rs) out i })
      written

-- ---- 6. one outcome only: two answers of the reader that meet one promise are equal (the promise of `find_ack` gives the table that is then filled; of `put_front`'s answer see octets)

abbrev read_from : Res Told → Result (code.Ack × ℕ) Refusal
read_from (ok p next) = Ok (record { sequence = record { 0 = p.sequence }; count = p.count }, next)
read_from (fault e) = Err (refusal_of e)

read-undone : (r : Result (code.Ack × ℕ) Refusal) → read_from (read_of r) ≡ r
read-undone (Ok (p, next)) = refl
read-undone (Err e) = ap Err (refusal-undone e)

pub one-read : {x : Res Told} (r q : Result (code.Ack × ℕ) Refusal) → read_of r ≡ x → read_of q ≡ x → r ≡ q
one-read r q e f = told-apart read_of read_from read-undone r q (e ∙ sym f)
