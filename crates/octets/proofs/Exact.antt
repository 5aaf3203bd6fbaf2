-- A reader and the relation that it reads, exactly: what it accepts is spelt so, and all that is spelt so it accepts. Put together as readers are. Assumes nothing.
use Prim.Native.Nat.{ℕ, suc, ◌+◌, ◌*◌, ◌-◌, ◌/◌, ◌%◌, ◌^◌, ◌≤◌, ◌<◌}
use mathlib.Core.Path.{◌≡◌, refl, sym, ap, ◌∙◌}
use mathlib.Core.Bool.{Bool, true, false}
use mathlib.Core.List.{List, [], ◌∷◌, ◌++◌, append_assoc, append-nil}
use native.Mathlib.Omega.{arith}
use native.Mathlib.Nat.{add-zero}
use native.Mathlib.Numerals.{add-one, add-two}
use borrow.Author.Tests.{ltb-true, leb-true, lt-ltb, le-leb}
use lib.ListN.{length, get_or, take, drop, length-append, length-drop, take-append-drop}
use lib.Seq.{drop-cons, drop-append_seam, length-take-le}
use lib.Dec.{ltb, leb}
use Rattle.words.specs.Choice.{pick}
use Rattle.words.specs.Lists.{splice}
use Rattle.words.proofs.Splice.{length-splice}
use Rattle.words.proofs.Suffix as suffix
use Rattle.octets.specs.Reader.{Res, ok, fault, then, Reader, ◌>>=◌, ◌>>◌, give, need, byte, pair, bytes}
use Rattle.octets.specs.Varint.{var, form_len_of, more, tagged, pair_bytes, Part, run}
use Rattle.octets.specs.Spelling.{Bytes, Varint, form, RunSpelt, spelt}
use Rattle.octets.proofs.Forms.{byte-below, form-read, form-found, form-length}

-- at a place, which bytes spell a value; the place is told since a value may hold places
abbrev pub Spelling : Type 0 → Type 1
Spelling A = ℕ → A → List ℕ → Type 0

-- at place `at` of s stand the bytes bs
pub record Here (s : List ℕ) (at : ℕ) (bs : List ℕ) : Type 0 where
  pub rest : List ℕ
  pub goes_on : drop at s ≡ bs ++ rest

-- at place `at` of s stands a spelling of a, and the place after it is `next`
pub record Stands {A : Type 0} (R : Spelling A) (s : List ℕ) (at : ℕ) (a : A) (next : ℕ) : Type 0 where
  pub spelling : List ℕ
  pub stands : Here s at spelling
  pub ends : next ≡ at + length spelling
  pub says : R at a spelling

-- m reads what R spells: no more, and no less
pub record Exact {A : Type 0} (m : Reader A) (R : Spelling A) : Type 0 where
  pub sound : (s : List ℕ) (at : ℕ) {a : A} {next : ℕ} → Bytes s → m s at ≡ ok a next → Stands R s at a next
  pub complete : (s : List ℕ) (at : ℕ) {a : A} {bs : List ℕ} → at ≤ length s → Here s at bs → R at a bs → m s at ≡ ok a (at + length bs)

-- ---- what stands at a place

module _ {s : List ℕ} {at : ℕ} where
  pub here-front : (xs ys : List ℕ) → Here s at (xs ++ ys) → Here s at xs
  here-front xs ys h = record { rest = ys ++ h.rest; goes_on = h.goes_on ∙ append_assoc xs ys h.rest }

  pub here_back : (xs ys : List ℕ) → Here s at (xs ++ ys) → Here s (at + length xs) ys
  here_back xs ys h = record { rest = h.rest; goes_on = suffix.past s at xs (ys ++ h.rest) (h.goes_on ∙ append_assoc xs ys h.rest) }

  pub here-both : (xs ys : List ℕ) → Here s at xs → Here s (at + length xs) ys → Here s at (xs ++ ys)
  here-both xs ys h k =
      let e : h.rest ≡ ys ++ k.rest = sym (suffix.past s at xs h.rest h.goes_on) ∙ k.goes_on in
      record { rest = k.rest; goes_on = h.goes_on ∙ ap (λ (l : List ℕ). xs ++ l) e ∙ sym (append_assoc xs ys k.rest) }

  module _ {bs : List ℕ} (h : Here s at bs) where
    pub here-fits : at ≤ length s → at + length bs ≤ length s
    here-fits i = let n = suffix.run_length s at bs h.rest h.goes_on in omega arith

    pub here-taken : take (length bs) (drop at s) ≡ bs
    here-taken = suffix.run s at bs h.rest h.goes_on

-- what is spelt is read wherever it stands: between any others, and where it was written
module _ {A : Type 0} {m : Reader A} {R : Spelling A} (l : Exact m R) {a : A} {bs : List ℕ} where
  pub read_between : (p q : List ℕ) → R (length p) a bs → m (p ++ (bs ++ q)) (length p) ≡ ok a (length p + length bs)
  read_between p q r = l.complete (p ++ (bs ++ q)) (length p) (rw length-append (omega arith)) (record { rest = q; goes_on = drop-append_seam p (bs ++ q) }) r

  pub read-spliced : (at : ℕ) (s : List ℕ) → at + length bs ≤ length s → R at a bs → m (splice at bs s) at ≡ ok a (at + length bs)
  read-spliced at s f r =
      l.complete (splice at bs s) at (rw length-splice (omega arith)) (record { rest = drop (at + length bs) s; goes_on = suffix.drop-at-splice at bs s f }) r

-- ---- what a reading that passed went through

picked : {A : Type 0} (t : Bool) (r : Res A) (n : ℕ) {a : A} {next : ℕ} → pick t r (fault n) ≡ ok a next → (t ≡ true) × (r ≡ ok a next)
picked true r n e = (refl, e)
picked false r n e = absurd (let z : ◌≡◌ {A = ℕ} 0 1 = cc in omega arith)

as_read : {A : Type 0} {R : Spelling A} {s : List ℕ} {at : ℕ} {v a : A} {n next : ℕ} → ok v n ≡ ok a next → Stands R s at v n → Stands R s at a next
as_read {A} {R} {s} {at} {v} {a} {n} {next} e h = let p : v ≡ a = cc in let q : n ≡ next = cc in rw (p, q) at h

record Passed {A B : Type 0} (r : Res A) (k : A → ℕ → Res B) (b : B) (next : ℕ) : Type 0 where
  value : A
  middle : ℕ
  before : r ≡ ok value middle
  after : k value middle ≡ ok b next

passed : {A B : Type 0} (r : Res A) (k : A → ℕ → Res B) {b : B} {next : ℕ} → then r k ≡ ok b next → Passed r k b next
passed (ok a n) k e = record { value = a; middle = n; before = refl; after = e }
passed (fault n) k e = absurd (let z : ◌≡◌ {A = ℕ} 0 1 = cc in omega arith)

-- ---- one byte, two, and n of them

pub data ByteSpelt : ℕ → List ℕ → Type 0 where
  one_byte : {b : ℕ} → b < 256 → ByteSpelt b (b ∷ [])

pub exact-byte : Exact byte (λ at. ByteSpelt)
unfolding byte
exact-byte = record { sound = found; complete = λ s at i h r. back s at h r }
  where
    found : (s : List ℕ) (at : ℕ) {b next : ℕ} → Bytes s → byte s at ≡ ok b next → Stands (λ at. ByteSpelt) s at b next
    found s at w e =
        let p = picked (ltb at (length s)) (ok (get_or s at 0) (at + 1)) 1 e in
        as_read p.1
        (record {
          spelling = get_or s at 0 ∷ [];
          stands = record { rest = drop (suc at) s; goes_on = drop-cons s at 0 (ltb-true at (length s) p.0) };
          ends = refl;
          says = one_byte (byte-below s at w);
        })

    back : (s : List ℕ) (at : ℕ) {b : ℕ} {bs : List ℕ} → Here s at bs → ByteSpelt b bs → byte s at ≡ ok b (at + length bs)
    back s at h (one_byte b) = simp (lt-ltb _ _ (suffix.here_in s at h.goes_on), suffix.here s at h.goes_on 0)

pub data PairSpelt : ℕ → List ℕ → Type 0 where
  two_bytes : {k : ℕ} → k ≤ 65535 → PairSpelt k (pair_bytes k)

pub exact-pair : Exact pair (λ at. PairSpelt)
unfolding pair
exact-pair = record { sound = found; complete = λ s at i h r. back s at h r }
  where
    found : (s : List ℕ) (at : ℕ) {k next : ℕ} → Bytes s → pair s at ≡ ok k next → Stands (λ at. PairSpelt) s at k next
    found s at w e =
        let p = picked (leb (at + 2) (length s)) (ok (get_or s at 0 * 256 + get_or s (at + 1) 0) (at + 2)) 1 e in
        let i = leb-true (at + 2) (length s) p.0 in
        let x = byte-below s at w in
        let y = byte-below s (at + 1) w in
        let hi : (get_or s at 0 * 256 + get_or s (at + 1) 0) / 256 ≡ get_or s at 0 = omega arith in
        let lo : (get_or s at 0 * 256 + get_or s (at + 1) 0) % 256 ≡ get_or s (at + 1) 0 = omega arith in
        let two : drop (suc at) s ≡ get_or s (at + 1) 0 ∷ drop (at + 2) s = rw (add-one, add-two) (drop-cons s (suc at) 0 (omega arith)) in
        as_read p.1
        (record {
          spelling = pair_bytes (get_or s at 0 * 256 + get_or s (at + 1) 0);
          stands = record { rest = drop (at + 2) s; goes_on = rw (hi, lo) (drop-cons s at 0 (omega arith) ∙ ap (λ (r : List ℕ). get_or s at 0 ∷ r) two) };
          ends = refl;
          says = two_bytes (omega arith);
        })

    back : (s : List ℕ) (at : ℕ) {k : ℕ} {bs : List ℕ} → Here s at bs → PairSpelt k bs → pair s at ≡ ok k (at + length bs)
    back s at {k} h (two_bytes b) =
        let l = suffix.run_length s at (pair_bytes k) h.rest h.goes_on in
        let i : at + 2 ≤ length s = omega arith in
        let v : k / 256 * 256 + k % 256 ≡ k = omega arith in
        simp (le-leb _ _ i, suffix.here s at h.goes_on 0, add-one at, suffix.here s (suc at) (suffix.next s at h.goes_on) 0, v)

-- n bytes are at their place
pub data BytesSpelt (n at : ℕ) : ℕ → List ℕ → Type 0 where
  n-bytes : {bs : List ℕ} → length bs ≡ n → BytesSpelt n at at bs

pub exact_bytes : (n : ℕ) → Exact (bytes n) (BytesSpelt n)
unfolding bytes
exact_bytes n = record { sound = λ s at w e. found s at e; complete = back }
  where
    found : (s : List ℕ) (at : ℕ) {b next : ℕ} → bytes n s at ≡ ok b next → Stands (BytesSpelt n) s at b next
    found s at e =
        let p = picked (leb (at + n) (length s)) (ok at (at + n)) 1 e in
        let i = leb-true (at + n) (length s) p.0 in
        let l : length (take n (drop at s)) ≡ n = length-take-le n (drop at s) (rw length-drop (omega arith)) in
        as_read p.1
        (record {
          spelling = take n (drop at s);
          stands = record { rest = drop n (drop at s); goes_on = sym (take-append-drop n (drop at s)) };
          ends = rw l;
          says = n-bytes l;
        })

    back : (s : List ℕ) (at : ℕ) {b : ℕ} {bs : List ℕ} → at ≤ length s → Here s at bs → BytesSpelt n at b bs → bytes n s at ≡ ok b (at + length bs)
    back s at i h (n-bytes l) = let f = here-fits h i in let g : at + n ≤ length s = omega arith in simp (le-leb _ _ g, l)

-- ---- a number in any of its forms

pub exact-var : Exact var (λ at. Varint)
unfolding var form_len_of
exact-var = record { sound = found; complete = λ s at i h r. form-read s at h.rest r h.goes_on }
  where
    found : (s : List ℕ) (at : ℕ) {v next : ℕ} → Bytes s → var s at ≡ ok v next → Stands (λ at. Varint) s at v next
    found s at w e =
        let k = get_or s at 0 / 64 in
        let v = more (2 ^ k - 1) s (suc at) (get_or s at 0 % 64) in
        let p = picked (ltb at (length s)) _ 1 e in
        let q = picked (leb (at + 2 ^ k) (length s)) (ok v (at + 2 ^ k)) 1 p.1 in
        let b = byte-below s at w in
        let f = form-found k v s at w (ltb-true at (length s) p.0) refl (leb-true (at + 2 ^ k) (length s) q.0) refl in
        as_read q.1
        (record {
          spelling = tagged k (2 ^ k - 1) v;
          stands = record { rest = drop (at + 2 ^ k) s; goes_on = f.0 };
          ends = rw form-length;
          says = form k v (omega arith) f.1;
        })

-- ---- one after the other

-- a spelling of some value, and after it one that may go by that value
pub data Then {A B : Type 0} (R : Spelling A) (S : A → Spelling B) (at : ℕ) (b : B) : List ℕ → Type 0 where
  both : {a : A} {xs ys : List ℕ} → R at a xs → S a (at + length xs) b ys → Then R S at b (xs ++ ys)

module _ {A B : Type 0} {m : Reader A} {R : Spelling A} where
  pub exact-then : {k : A → Reader B} {S : A → Spelling B} → Exact m R → ((a : A) → Exact (k a) (S a)) → Exact (◌>>=◌ m k) (Then R S)
  exact-then {k} {S} l r = record { sound = found; complete = back }
    where
      found : (s : List ℕ) (at : ℕ) {b : B} {next : ℕ} → Bytes s → ◌>>=◌ m k s at ≡ ok b next → Stands (Then R S) s at b next
      found s at {b} {next} w e =
          let p = passed (m s at) (λ a n. k a s n) e in
          let x = l.sound s at w p.before in
          let y : Stands (S p.value) s (at + length x.spelling) b next = (r p.value).sound s (at + length x.spelling) w (rw x.ends at p.after) in
          let n = length-append x.spelling y.spelling in
          record {
            spelling = x.spelling ++ y.spelling;
            stands = here-both x.spelling y.spelling x.stands y.stands;
            ends = omega (arith, y.ends);
            says = both x.says y.says;
          }

      back : (s : List ℕ) (at : ℕ) {b : B} {bs : List ℕ} → at ≤ length s → Here s at bs → Then R S at b bs → ◌>>=◌ m k s at ≡ ok b (at + length bs)
      back s at {b} i h (both {a} {xs} {ys} u v) =
          let x = here-front xs ys h in
          let n : at + length xs + length ys ≡ at + length (xs ++ ys) = rw length-append (omega arith) in
          rw (l.complete s at i x u) ((r a).complete s (at + length xs) (here-fits x i) (here_back xs ys h) v ∙ ap (ok b) n)

-- the same relation, said in another way
pub exact-as : {A : Type 0} {m : Reader A} {R S : Spelling A}
    → ((at : ℕ) (a : A) (bs : List ℕ) → R at a bs → S at a bs) → ((at : ℕ) (a : A) (bs : List ℕ) → S at a bs → R at a bs) → Exact m R → Exact m S
exact-as f g l =
    record {
      sound = λ s at w e. let x = l.sound s at w e in record { spelling = x.spelling; stands = x.stands; ends = x.ends; says = f at _ x.spelling x.says };
      complete = λ s at i h r. l.complete s at i h (g at _ _ r);
    }

-- ---- values with nothing read: one that is given, and one that is made of what was read before

-- nothing stands everywhere
nothing : {A : Type 0} {R : Spelling A} (s : List ℕ) (at : ℕ) {a : A} → R at a [] → Stands R s at a at
nothing s at r = record { spelling = []; stands = record { rest = drop at s; goes_on = refl }; ends = sym (add-zero at); says = r }

pub data Given {A : Type 0} (a : A) (at : ℕ) : A → List ℕ → Type 0 where
  given : Given a at a []

pub exact-give : {A : Type 0} (a : A) → Exact (give a) (Given a)
exact-give {A} a = record { sound = λ s at w e. as_read e (nothing s at given); complete = λ s at i h r. back s at r }
  where
    back : (s : List ℕ) (at : ℕ) {a' : A} {bs : List ℕ} → Given a at a' bs → give a s at ≡ ok a' (at + length bs)
    back s at given = ap (ok a) (sym (add-zero at))

pub data Made {A B : Type 0} (f : A → B) (R : Spelling A) (at : ℕ) : B → List ℕ → Type 0 where
  made : {a : A} {bs : List ℕ} → R at a bs → Made f R at (f a) bs

pub exact-made : {A B : Type 0} {m : Reader A} {R : Spelling A} (f : A → B) → Exact m R → Exact (◌>>=◌ m (λ a. give (f a))) (Made f R)
exact-made {A} {B} {m} {R} f l = exact-as one two (exact-then l (λ a. exact-give (f a)))
  where
    of : {at next : ℕ} {a : A} {b : B} {xs ys : List ℕ} → R at a xs → Given (f a) next b ys → Made f R at b (xs ++ ys)
    of {xs = xs} u given = rw (append-nil xs) (made u)

    one : (at : ℕ) (b : B) (bs : List ℕ) → Then R (λ a. Given (f a)) at b bs → Made f R at b bs
    one at b bs (both u g) = of u g

    two : (at : ℕ) (b : B) (bs : List ℕ) → Made f R at b bs → Then R (λ a. Given (f a)) at b bs
    two at b bs (made u) = rw (← append-nil bs) (both u given)

-- ---- judging: readers that read nothing and pass where P holds; and what is spelt where P holds

pub data Only (P : Type 0) (at : ℕ) (u : Unit {0}) : List ℕ → Type 0 where
  only : P → Only P at u []

pub data If {B : Type 0} (P : Type 0) (S : Spelling B) (at : ℕ) (b : B) (bs : List ℕ) : Type 0 where
  judged : P → S at b bs → If P S at b bs

judgement : {P : Type 0} {at : ℕ} {u : Unit {0}} {bs : List ℕ} → Only P at u bs → (bs ≡ []) × P
judgement (only p) = (refl, p)

pub exact-if : {B : Type 0} {m : Reader (Unit {0})} {P : Type 0} {k : Reader B} {S : Spelling B} → Exact m (Only P) → Exact k S → Exact (◌>>◌ m k) (If P S)
exact-if {B} {m} {P} {k} {S} l r = record { sound = found; complete = back }
  where
    found : (s : List ℕ) (at : ℕ) {b : B} {next : ℕ} → Bytes s → ◌>>◌ m k s at ≡ ok b next → Stands (If P S) s at b next
    found s at {b} {next} w e =
        let p = passed (m s at) (λ a n. k s n) e in
        let x = l.sound s at w p.before in
        let o = judgement x.says in
        let n : p.middle ≡ at = x.ends ∙ ap (λ (bs : List ℕ). at + length bs) o.0 ∙ add-zero at in
        let y = r.sound s at w (rw n at p.after) in
        record { spelling = y.spelling; stands = y.stands; ends = y.ends; says = judged o.1 y.says }

    back : (s : List ℕ) (at : ℕ) {b : B} {bs : List ℕ} → at ≤ length s → Here s at bs → If P S at b bs → ◌>>◌ m k s at ≡ ok b (at + length bs)
    back s at i h (judged p q) = rw (l.complete s at i (record { rest = drop at s; goes_on = refl }) (only p), add-zero) (r.complete s at i h q)

-- what was read is judged, and then a value made of it
pub data Kept {A B : Type 0} (f : A → B) (P : A → Type 0) (R : Spelling A) (at : ℕ) : B → List ℕ → Type 0 where
  kept : {a : A} {bs : List ℕ} → R at a bs → P a → Kept f P R at (f a) bs

module _ {A B : Type 0} {m : Reader A} {j : A → Reader (Unit {0})} {R : Spelling A} {P : A → Type 0} where
  pub exact-kept : (f : A → B) → Exact m R → ((a : A) → Exact (j a) (Only (P a))) → Exact (◌>>=◌ m (λ a. ◌>>◌ (j a) (give (f a)))) (Kept f P R)
  exact-kept f l r = exact-as one two (exact-then l (λ a. exact-if (r a) (exact-give (f a))))
    where
      of : {at next : ℕ} {a : A} {b : B} {xs ys : List ℕ} → R at a xs → P a → Given (f a) next b ys → Kept f P R at b (xs ++ ys)
      of {xs = xs} u p given = rw (append-nil xs) (kept u p)

      one : (at : ℕ) (b : B) (bs : List ℕ) → Then R (λ a. If (P a) (Given (f a))) at b bs → Kept f P R at b bs
      one at b bs (both u (judged p g)) = of u p g

      two : (at : ℕ) (b : B) (bs : List ℕ) → Kept f P R at b bs → Then R (λ a. If (P a) (Given (f a))) at b bs
      two at b bs (kept u p) = rw (← append-nil bs) (both u (judged p given))

pub exact-need : (t : Bool) (n : ℕ) → Exact (need t n) (Only (t ≡ true))
unfolding need
exact-need t n = record { sound = λ s at w e. let p = picked t (ok tt at) n e in as_read p.1 (nothing s at (only p.0)); complete = λ s at i h r. back s at r }
  where
    back : (s : List ℕ) (at : ℕ) {u : Unit {0}} {bs : List ℕ} → Only (t ≡ true) at u bs → need t n s at ≡ ok u (at + length bs)
    back s at (only p) = simp (p, add-zero)

-- the same judgement, said in another way: for `exact-as`
pub only-as : {P Q : Type 0} → (P → Q) → (at : ℕ) (u : Unit {0}) (bs : List ℕ) → Only P at u bs → Only Q at u bs
only-as f at u bs (only p) = only (f p)

pub exact-le : (x y n : ℕ) → Exact (need (leb x y) n) (Only (x ≤ y))
exact-le x y n = exact-as (only-as (leb-true x y)) (only-as (le-leb x y)) (exact-need (leb x y) n)

-- two judgements, and none
pub exact_and : {m k : Reader (Unit {0})} {P Q : Type 0} → Exact m (Only P) → Exact k (Only Q) → Exact (◌>>◌ m k) (Only (P × Q))
exact_and {m} {k} {P} {Q} l r = exact-as one two (exact-if l r)
  where
    one : (at : ℕ) (u : Unit {0}) (bs : List ℕ) → If P (Only Q) at u bs → Only (P × Q) at u bs
    one at u bs (judged p (only q)) = only (p, q)

    two : (at : ℕ) (u : Unit {0}) (bs : List ℕ) → Only (P × Q) at u bs → If P (Only Q) at u bs
    two at u bs (only p) = judged p.0 (only p.1)

pub exact-pass : Exact (give tt) (Only (Unit {0}))
exact-pass = record { sound = λ s at w e. as_read e (nothing s at (only tt)); complete = λ s at i h r. back s at r }
  where
    back : (s : List ℕ) (at : ℕ) {u : Unit {0}} {bs : List ℕ} → Only (Unit {0}) at u bs → give tt s at ≡ ok u (at + length bs)
    back s at (only p) = ap (ok tt) (sym (add-zero at))

-- ---- bytes with their length before them

-- v length, bytes: they are at the place after the length
pub data RunAt (at : ℕ) : Part → List ℕ → Type 0 where
  run_at : {n : ℕ} {a : List ℕ} (bs : List ℕ) → Varint n a → length bs ≡ n → RunAt at (record { place = at + length a; len = n }) (a ++ bs)

parts-run : (at : ℕ) (p : Part) (l : List ℕ) → Then (λ at. Varint) (λ n. Made (λ b. record { place = b; len = n }) (BytesSpelt n)) at p l → RunAt at p l
parts-run at p l (both v m) = of v m
  where
    bytes_of : {n : ℕ} {a bs : List ℕ} (next b : ℕ) → next ≡ at + length a → Varint n a → BytesSpelt n next b bs → RunAt at (record { place = b; len = n }) (a ++ bs)
    bytes_of next b e v (n-bytes {bs} q) = rw e (run_at bs v q)

    of : {n : ℕ} {p : Part} {a bs : List ℕ} → Varint n a → Made (λ b. record { place = b; len = n }) (BytesSpelt n) (at + length a) p bs → RunAt at p (a ++ bs)
    of v (made m) = bytes_of _ _ refl v m

run-parts : (at : ℕ) (p : Part) (l : List ℕ) → RunAt at p l → Then (λ at. Varint) (λ n. Made (λ b. record { place = b; len = n }) (BytesSpelt n)) at p l
run-parts at p l (run_at bs v e) = both v (made (n-bytes e))

pub exact-run : Exact run RunAt
unfolding run
exact-run = exact-as parts-run run-parts (exact-then exact-var (λ n. exact-made (λ b. record { place = b; len = n }) (exact_bytes n)))

-- what such a part says, in the list that it was read from
abbrev pub part_of : List ℕ → Part → List ℕ
part_of s p = take p.len (drop p.place s)

part-is : {s : List ℕ} {at : ℕ} {p : Part} {l : List ℕ} → Here s at l → RunAt at p l → RunSpelt (part_of s p) l × (length (part_of s p) ≡ p.len)
part-is {s} {at} h (run_at {n} {a} bs v e) =
    let t : part_of s (record { place = at + length a; len = n }) ≡ bs = rw (← e) (here-taken (here_back a bs h)) in
    (rw t (spelt {bs = bs} {a = a} (rw e v)), rw t e)

module _ {s : List ℕ} {at : ℕ} {p : Part} {l : List ℕ} (h : Here s at l) (r : RunAt at p l) where
  pub run-says : RunSpelt (part_of s p) l
  run-says = (part-is h r).0

  pub run_len : length (part_of s p) ≡ p.len
  run_len = (part-is h r).1

-- and the part of what is said
pub record Heard (at : ℕ) (bs l : List ℕ) : Type 0 where
  pub part : Part
  pub there : RunAt at part l
  pub long : part.len ≡ length bs
  pub said : (s : List ℕ) → Here s at l → part_of s part ≡ bs

pub run-heard : (at : ℕ) {bs l : List ℕ} → RunSpelt bs l → Heard at bs l
run-heard at (spelt {bs} {a} v) =
    record {
      part = record { place = at + length a; len = length bs };
      there = run_at bs v refl;
      long = refl;
      said = λ s h. here-taken (here_back a bs h);
    }
