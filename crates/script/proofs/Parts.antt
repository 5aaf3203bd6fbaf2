-- Laws of bytes as they are read: hex digits, stretches, one part set down, part after part. Assumes nothing.
use Prim.Native.Nat.{ℕ, zero, suc, ◌+◌, ◌-◌, ◌*◌, ◌/◌, ◌%◌, ◌^◌, ◌≤◌, ◌<◌}
use mathlib.Core.Path.{◌≡◌, refl, ap, sym, ◌∙◌}
use mathlib.Core.Bool.{Bool, true, false, cond}
use mathlib.Core.List.{List, [], ◌∷◌, map}
use native.Mathlib.Numerals.{add-one}
use native.Mathlib.Omega.{arith}
use borrow.Author.Tests.{ltb-false, le-leb, lt-leb, leb-true, eq-eqb, ne_eqb}
use lib.Dec.{eqb, ltb, leb, lit<}
use lib.ListN.{length, get_or, set, take, drop, length-drop, drop_of_length-le}
use lib.Seq.{drop-cons, take_all, get_or-take, length-take-le}
use denote.Ref.{Bor}
use Rattle.std.specs.Prelude.{Ok, Err, Option, Some, None}
use Rattle.std.specs.Iterator.{AlwaysYields}
use Rattle.std.proofs.lemmas.Iterator.{YieldsList}
use Rattle.std.specs.List.{slice_split, onto_first}
use Rattle.words.specs.Choice.{pick}
use Rattle.words.specs.Lists.{all, splice}
use Rattle.words.proofs.Splice.{splice-splice}
use Rattle.script.specs.Words.{same}
use Rattle.script.specs.Numbers.{digit, value_of, below, digits_of}
use Rattle.script.specs.Bytes.{hex, pair_of, pairs_of, then, stretch, Spelt, bytes, faulty, plain_of, stretch_of, part_of, grown, parts_of, Outcome, outcome, bytes_of, bytes_fault, Fills, Adds, Bytes}
use Rattle.script.specs.declared.NumberFault.{NumberFault}
use Rattle.script.specs.declared.NumberFault.TheVariants.{NotANumber, TooLarge}
use Rattle.script.specs.declared.BytesFault.{BytesFault}
use Rattle.script.specs.declared.BytesFault.TheVariants.{NotBytes, TooMany}
use Rattle.script.proofs.Words.{all_at}

-- ---- pairs of hex digits

pub length_pairs : (s : List ℕ) → length (pairs_of s) ≡ length s / 2
unfolding pairs_of
length_pairs [] = refl
length_pairs (h ∷ []) = refl
length_pairs (h ∷ l ∷ s) = omega (arith, length_pairs s)

module _ (s : List ℕ) (i : ℕ) where
  pub pairs-step : i < length s / 2 → pairs_of (drop (2 * i) s) ≡ pair_of (get_or s (2 * i) 0) (get_or s (2 * i + 1) 0) ∷ pairs_of (drop (2 * (i + 1)) s)
  unfolding pairs_of
  pairs-step h =
      let a : 2 * i < length s = omega arith in
      let b : suc (2 * i) < length s = omega arith in
      let e : 2 * i + 1 ≡ suc (2 * i) = omega arith in
      let f : 2 * (i + 1) ≡ suc (suc (2 * i)) = omega arith in
      rw (e, f, drop-cons s (2 * i) 0 a, drop-cons s (suc (2 * i)) 0 b)

  pub pairs_end : length s ≤ 2 * i → pairs_of (drop (2 * i) s) ≡ []
  unfolding pairs_of
  pairs_end h = rw (drop_of_length-le s h)

-- ---- a byte set down, and what is left to set down

pub splice-one : (bs cs out : List ℕ) (at b : ℕ) → bs ≡ b ∷ cs → splice (at + 1) cs (set out at b) ≡ splice at bs out
unfolding splice
splice-one bs cs out at b e = rw (e, add-one)

pub splice-none : (bs out : List ℕ) (at : ℕ) → bs ≡ [] → out ≡ splice at bs out
unfolding splice
splice-none bs out at e = rw e

-- ---- stretches

pub length-stretch : (up : Bool) (b n : ℕ) → length (stretch up b n) ≡ n
unfolding stretch
length-stretch up b zero = refl
length-stretch up b (suc n) = ap suc (length-stretch up (then up b) n)

pub stretch-step : (up : Bool) (b n i : ℕ) → i < n → stretch up b (n - i) ≡ b ∷ stretch up (then up b) (n - (i + 1))
unfolding stretch
stretch-step up b n i h = let e : n - i ≡ suc (n - (i + 1)) = omega arith in rw e

pub stretch-end : (up : Bool) (b n i : ℕ) → n ≤ i → stretch up b (n - i) ≡ []
unfolding stretch
stretch-end up b n i h = let e : n - i ≡ 0 = omega arith in rw e

-- ---- one part set down

module _ (p : Spelt) (at : ℕ) (out : List ℕ) where
  pub adds-faulty : p ≡ faulty → Adds p at out out (Err NotBytes)
  adds-faulty e = record { lent = rw e; tells = rw e }

  module _ (bs : List ℕ) (e : p ≡ bytes bs) where
    pub adds-many : length out < at + length bs → Adds p at out out (Err TooMany)
    adds-many h = record { lent = rw (e, lt-leb (at + length bs) (length out) h); tells = rw (e, lt-leb (at + length bs) (length out) h) }

    pub adds-all : (out' : List ℕ) (r : ℕ) → at + length bs ≤ length out → r ≡ at + length bs → out' ≡ splice at bs out → Adds p at out out' (Ok r)
    adds-all out' r h f g =
        record { lent = rw (e, le-leb (at + length bs) (length out) h) g; tells = rw (e, le-leb (at + length bs) (length out) h) (ap Ok f) }

module _ (s : List ℕ) where
  pub plain-empty : length s ≡ 0 → plain_of s ≡ faulty
  unfolding plain_of
  plain-empty h = rw (eq-eqb (length s) 0 h)

  module _ (h : length s ≡ 0 → ⊥) where
    pub plain-odd : (length s % 2 ≡ 0 → ⊥) → plain_of s ≡ faulty
    unfolding plain_of
    plain-odd g = rw (ne_eqb (length s) 0 h, ne_eqb (length s % 2) 0 g)

    module _ (g : length s % 2 ≡ 0) where
      pub plain-not : all hex s ≡ false → plain_of s ≡ faulty
      unfolding plain_of
      plain-not e = rw (ne_eqb (length s) 0 h, eq-eqb (length s % 2) 0 g, e)

      pub plain-is : all hex s ≡ true → plain_of s ≡ bytes (pairs_of s)
      unfolding plain_of
      plain-is e = rw (ne_eqb (length s) 0 h, eq-eqb (length s % 2) 0 g, e)

-- what DIGITS tell of their letters
not-by : (a b : Bool) (v : ℕ) → Err NotANumber ≡ pick a (pick b (Ok v) (Err TooLarge)) (Err NotANumber) → a ≡ false
not-by true true v e = absurd (let z : ◌≡◌ {A = ℕ} 0 1 = cc in omega arith)
not-by true false v e = absurd (let z : ◌≡◌ {A = ℕ} 0 1 = cc in omega arith)
not-by false b v e = refl

large-by : (a b : Bool) (v : ℕ) → Err TooLarge ≡ pick a (pick b (Ok v) (Err TooLarge)) (Err NotANumber) → (a ≡ true) × (b ≡ false)
large-by true true v e = absurd (let z : ◌≡◌ {A = ℕ} 0 1 = cc in omega arith)
large-by true false v e = (refl, refl)
large-by false b v e = absurd (let z : ◌≡◌ {A = ℕ} 0 1 = cc in omega arith)

value-by : (a b : Bool) (v n : ℕ) → Ok n ≡ pick a (pick b (Ok v) (Err TooLarge)) (Err NotANumber) → (a ≡ true) × (n ≡ v)
value-by true true v n e = (refl, cc)
value-by true false v n e = absurd (let z : ◌≡◌ {A = ℕ} 0 1 = cc in omega arith)
value-by false b v n e = absurd (let z : ◌≡◌ {A = ℕ} 0 1 = cc in omega arith)

module _ (t : List ℕ) (h : length t ≡ 0 → ⊥) where
  some-digits : digits_of t ≡ pick (all digit t) (below (value_of 0 t)) (Err NotANumber)
  unfolding digits_of
  some-digits = rw (ne_eqb (length t) 0 h)

  pub read-not : Err NotANumber ≡ digits_of t → all digit t ≡ false
  read-not e = not-by (all digit t) (ltb (value_of 0 t) (2 ^ 64)) (value_of 0 t) (e ∙ some-digits)

  pub read-large : Err TooLarge ≡ digits_of t → (all digit t ≡ true) × (2 ^ 64 ≤ value_of 0 t)
  read-large e =
      let r : (all digit t ≡ true) × (ltb (value_of 0 t) (2 ^ 64) ≡ false) = large-by (all digit t) (ltb (value_of 0 t) (2 ^ 64)) (value_of 0 t) (e ∙ some-digits) in
      (r.0, ltb-false (value_of 0 t) (2 ^ 64) r.1)

  pub read-value : (n : ℕ) → Ok n ≡ digits_of t → (all digit t ≡ true) × (n ≡ value_of 0 t)
  read-value n e = value-by (all digit t) (ltb (value_of 0 t) (2 ^ 64)) (value_of 0 t) n (e ∙ some-digits)

module _ (up : Bool) (s : List ℕ) where
  pub stretch-short : length s ≤ 3 → stretch_of up s ≡ faulty
  unfolding stretch_of
  stretch-short h = rw (le-leb (length s) 3 h)

  -- the count of a stretch, as the code cuts it
  abbrev counts : List ℕ
  counts = take (length s - 3) (drop 3 s)

  module _ (h : 3 < length s) where
    pub stretch-letters : all hex (take 2 s) ≡ false → stretch_of up s ≡ faulty
    unfolding stretch_of
    stretch-letters e = rw (lt-leb (length s) 3 h, e)

    counted : counts ≡ drop 3 s
    counted = take_all (length s - 3) (drop 3 s) (omega (arith, length-drop 3 s))

    some : length counts ≡ 0 → ⊥
    some e = let l : length counts ≡ length (drop 3 s) = ap length counted in omega (arith, length-drop 3 s)

    -- what it spells: so many bytes from its first on
    abbrev row : ℕ → List ℕ
    row n = stretch up (pair_of (get_or s 0 0) (get_or s 1 0)) n

    module _ (x : all hex (take 2 s) ≡ true) where
      pub stretch-digits : Err NotANumber ≡ digits_of counts → stretch_of up s ≡ faulty
      unfolding stretch_of
      stretch-digits e =
          let d : all digit (drop 3 s) ≡ false = rw counted at (read-not counts some e) in
          rw (lt-leb (length s) 3 h, x, d)

      pub stretch-large : Err TooLarge ≡ digits_of counts → stretch_of up s ≡ bytes (row (value_of 0 counts))
      unfolding stretch_of
      stretch-large e =
          let d : all digit (drop 3 s) ≡ true = rw counted at (read-large counts some e).0 in
          rw (lt-leb (length s) 3 h, x, d, counted)

      pub large-count : Err TooLarge ≡ digits_of counts → 2 ^ 64 ≤ length (row (value_of 0 counts))
      large-count e = rw (length-stretch up (pair_of (get_or s 0 0) (get_or s 1 0)) (value_of 0 counts)) (read-large counts some e).1

      pub stretch-value : (n : ℕ) → Ok n ≡ digits_of counts → stretch_of up s ≡ bytes (row n)
      unfolding stretch_of
      stretch-value n e =
          let r : (all digit counts ≡ true) × (n ≡ value_of 0 counts) = read-value counts some n e in
          let d : all digit (drop 3 s) ≡ true = rw counted at r.0 in
          rw (lt-leb (length s) 3 h, x, d) (ap bytes (ap row (sym (r.1 ∙ ap (value_of 0) counted))))

      -- a count that is none, or that is too large
      pub stretch-off : (f : NumberFault) (at : ℕ) (out : List ℕ) → length out < 2 ^ 64 → Err f ≡ digits_of counts → Adds (stretch_of up s) at out out (Err (bytes_fault f))
      stretch-off NotANumber at out l e = adds-faulty (stretch_of up s) at out (stretch-digits e)
      stretch-off TooLarge at out l e = adds-many (stretch_of up s) at out (row (value_of 0 counts)) (stretch-large e) (omega (arith, large-count e))

-- the letter at 2 tells which
module _ (s : List ℕ) where
  pub part-short : length s ≤ 2 → part_of s ≡ plain_of s
  unfolding part_of
  part-short h = rw (le-leb (length s) 2 h)

  module _ (h : 2 < length s) where
    pub part-run : get_or s 2 0 ≡ 120 → part_of s ≡ stretch_of false s
    unfolding part_of
    part-run e = rw (lt-leb (length s) 2 h, eq-eqb (get_or s 2 0) 120 e)

    module _ (g : get_or s 2 0 ≡ 120 → ⊥) where
      pub part_up : get_or s 2 0 ≡ 126 → part_of s ≡ stretch_of true s
      unfolding part_of
      part_up e = rw (lt-leb (length s) 2 h, ne_eqb (get_or s 2 0) 120 g, eq-eqb (get_or s 2 0) 126 e)

      pub part-plain : (get_or s 2 0 ≡ 126 → ⊥) → part_of s ≡ plain_of s
      unfolding part_of
      part-plain e = rw (lt-leb (length s) 2 h, ne_eqb (get_or s 2 0) 120 g, ne_eqb (get_or s 2 0) 126 e)

pub adds-as : (p q : Spelt) (at : ℕ) (out out' : List ℕ) (r : Bytes) → q ≡ p → Adds p at out out' r → Adds q at out out' r
adds-as p q at out out' r e a = rw e a

-- ---- the parts of a text

abbrev point : ℕ → Bool
point c = eqb c 46

-- a first letter more
onto-is : (c : ℕ) (ps : List (List ℕ)) → onto_first c ps ≡ grown c ps
onto-is c [] = refl
onto-is c (p ∷ ps) = refl

split-by : (t : Bool) (c : ℕ) (s : List ℕ) → slice_split point s ≡ parts_of s → cond t ([] ∷ slice_split point s) (onto_first c (slice_split point s)) ≡ pick t ([] ∷ parts_of s) (grown c (parts_of s))
split-by true c s e = ap (λ (ps : List (List ℕ)). [] ∷ ps) e
split-by false c s e = rw e (onto-is c (parts_of s))

pub split-is : (s : List ℕ) → slice_split point s ≡ parts_of s
unfolding parts_of
split-is [] = refl
split-is (c ∷ s) = split-by (eqb c 46) c s (split-is s)

-- ---- part after part: what is left, from here, gives what the whole gives

abbrev pub left : ℕ → List (List ℕ) → ℕ → Outcome
left room ps at = outcome room at (map part_of ps)

-- a part that was set down
on-by : (t : Bool) (at room next : ℕ) (bs out out' : List ℕ) (o : Outcome) → leb (at + length bs) room ≡ t → ◌≡◌ {A = Bytes} (Ok next) (pick t (Ok (at + length bs)) (Err TooMany))
    → (t ≡ true) × (next ≡ at + length bs)
on-by true at room next bs out out' o e f = (refl, cc)
on-by false at room next bs out out' o e f = absurd (let z : ◌≡◌ {A = ℕ} 0 1 = cc in omega arith)

pub record On (p : Spelt) (ps : List Spelt) (room at next : ℕ) (out out' : List ℕ) : Type 0 where
  pub answers : (outcome room at (p ∷ ps)).answer ≡ (outcome room next ps).answer
  pub tells : splice next (outcome room next ps).told out' ≡ splice at (outcome room at (p ∷ ps)).told out
  pub fits : next ≤ room

goes_on : (p : Spelt) (ps : List Spelt) (room at next : ℕ) (out out' : List ℕ) → length out ≡ room → Adds p at out out' (Ok next) → On p ps room at next out out'
unfolding outcome
goes_on faulty ps room at next out out' l a = absurd (let z : ◌≡◌ {A = ℕ} 0 1 = cc a.tells in omega arith)
goes_on (bytes bs) ps room at next out out' l a =
    let g : (leb (at + length bs) (length out) ≡ true) × (next ≡ at + length bs) =
    on-by (leb (at + length bs) (length out)) at (length out) next bs out out' (outcome room at []) refl a.tells in
    let t : leb (at + length bs) room ≡ true = rw l at g.0 in
    let o : out' ≡ splice at bs out = rw g.0 at a.lent in
    let k : next ≡ at + length bs = g.1 in
    record {
      answers = rw (t, k);
      tells = rw (t, o, k) (splice-splice at bs (outcome room (at + length bs) ps).told out);
      fits = omega (arith, leb-true (at + length bs) room t);
    }

-- a part that was not
pub record Off (p : Spelt) (ps : List Spelt) (room at : ℕ) (out out' : List ℕ) (r : Bytes) : Type 0 where
  pub answers : r ≡ (outcome room at (p ∷ ps)).answer
  pub tells : out' ≡ splice at (outcome room at (p ∷ ps)).told out

off-by : (t : Bool) (at : ℕ) (bs : List ℕ) (f : BytesFault) → Err f ≡ pick t (Ok (at + length bs)) (Err TooMany) → (t ≡ false) × (◌≡◌ {A = Bytes} (Err f) (Err TooMany))
off-by true at bs f e = absurd (let z : ◌≡◌ {A = ℕ} 0 1 = cc in omega arith)
off-by false at bs f e = (refl, e)

stops : (p : Spelt) (ps : List Spelt) (room at : ℕ) (out out' : List ℕ) (f : BytesFault) → length out ≡ room → Adds p at out out' (Err f) → Off p ps room at out out' (Err f)
unfolding outcome splice
stops faulty ps room at out out' f l a = record { answers = a.tells; tells = a.lent }
stops (bytes bs) ps room at out out' f l a =
    let g : (leb (at + length bs) (length out) ≡ false) × (◌≡◌ {A = Bytes} (Err f) (Err TooMany)) = off-by (leb (at + length bs) (length out)) at bs f a.tells in
    let t : leb (at + length bs) room ≡ false = rw l at g.0 in
    record { answers = rw t g.1; tells = rw t (rw g.0 at a.lent) }

-- how far the whole has come: what is told, and what the lent bytes will be, from here and from the start
pub record Come (o : Outcome) (ps : List (List ℕ)) (out₀ out : List ℕ) (at : ℕ) : Type 0 where
  pub answers : o.answer ≡ (left (length out₀) ps at).answer
  pub tells : splice at (left (length out₀) ps at).told out ≡ splice 0 o.told out₀
  pub fits : at ≤ length out₀
  pub kept : length out ≡ length out₀

module _ (s out₀ : List ℕ) where
  pub come-none : same s (45 ∷ []) ≡ true → Fills (bytes_of (length out₀) s) out₀ out₀ (Ok 0)
  unfolding bytes_of splice
  come-none e = record { lent = rw e; tells = rw e }

  pub come-start : same s (45 ∷ []) ≡ false → Come (bytes_of (length out₀) s) (parts_of s) out₀ out₀ 0
  unfolding bytes_of
  come-start e = record { answers = rw e; tells = rw e; fits = omega arith; kept = refl }

module _ (o : Outcome) (out₀ out : List ℕ) (at : ℕ) where
  pub come-end : Come o [] out₀ out at → Fills o out₀ out (Ok at)
  unfolding outcome splice
  come-end c = record { lent = c.tells; tells = sym c.answers }

  module _ (p : List ℕ) (ps : List (List ℕ)) (c : Come o (p ∷ ps) out₀ out at) (out' : List ℕ) where
    pub come-on : (next : ℕ) → length out' ≡ length out → Adds (part_of p) at out out' (Ok next) → Come o ps out₀ out' next
    come-on next l a =
        let g : On (part_of p) (map part_of ps) (length out₀) at next out out' = goes_on (part_of p) (map part_of ps) (length out₀) at next out out' c.kept a in
        record { answers = c.answers ∙ g.answers; tells = g.tells ∙ c.tells; fits = g.fits; kept = l ∙ c.kept }

    pub come-off : (f : BytesFault) → Adds (part_of p) at out out' (Err f) → Fills o out₀ out' (Err f)
    come-off f a =
        let g : Off (part_of p) (map part_of ps) (length out₀) at out out' (Err f) = stops (part_of p) (map part_of ps) (length out₀) at out out' f c.kept a in
        record { lent = g.tells ∙ c.tells; tells = g.answers ∙ sym c.answers }

-- the parts that an iterator has ahead of it, and how far the whole has come
pub record Ahead {S : Type 0} (steps : S → Option (Bor (List ℕ)) → S → Type 0) (it : S) (o : Outcome) (out₀ out : List ℕ) (at : ℕ) : Type 0 where
  pub parts : List (List ℕ)
  pub yields : YieldsList steps (λ w. w.now) it parts
  pub come : Come o parts out₀ out at

-- its next part, or none
module _ {S : Type 0} (steps : S → Option (Bor (List ℕ)) → S → Type 0) (it it' : S) (o : Outcome) (out₀ out : List ℕ) (at : ℕ) where
  module _ (w : Bor (List ℕ)) (h : steps it (Some w) it') (out' : List ℕ) where
    on-from : (next : ℕ) (ps : List (List ℕ)) → AlwaysYields steps (λ w. w.now) it ps → Come o ps out₀ out at → length out' ≡ length out → Adds (part_of w.now) at out out' (Ok next) → Ahead steps it' o out₀ out' next
    on-from next [] y c l a = absurd (y w it' h)
    on-from next (p ∷ ps) y c l a =
        let z : (w.now ≡ p) × AlwaysYields steps (λ w. w.now) it' ps = y.1 w it' h in
        record { parts = ps; yields = record { runs = z.1 }; come = come-on o out₀ out at p ps c out' next l (rw z.0 at a) }

    pub ahead-on : (next : ℕ) → Ahead steps it o out₀ out at → length out' ≡ length out → Adds (part_of w.now) at out out' (Ok next) → Ahead steps it' o out₀ out' next
    ahead-on next c l a = on-from next c.parts c.yields.runs c.come l a

    off-from : (f : BytesFault) (ps : List (List ℕ)) → AlwaysYields steps (λ w. w.now) it ps → Come o ps out₀ out at → Adds (part_of w.now) at out out' (Err f) → Fills o out₀ out' (Err f)
    off-from f [] y c a = absurd (y w it' h)
    off-from f (p ∷ ps) y c a = come-off o out₀ out at p ps c out' f (rw (y.1 w it' h).0 at a)

    pub ahead-off : (f : BytesFault) → Ahead steps it o out₀ out at → Adds (part_of w.now) at out out' (Err f) → Fills o out₀ out' (Err f)
    ahead-off f c a = off-from f c.parts c.yields.runs c.come a

  end-from : (ps : List (List ℕ)) → AlwaysYields steps (λ w. w.now) it ps → Come o ps out₀ out at → steps it None it' → Fills o out₀ out (Ok at)
  end-from [] y c h = come-end o out₀ out at c
  end-from (p ∷ ps) y c h = absurd (y.0 it' h)

  pub ahead-end : Ahead steps it o out₀ out at → steps it None it' → Fills o out₀ out (Ok at)
  ahead-end c h = end-from c.parts c.yields.runs c.come h

-- ---- the loop that sets pairs down

pub record Paired (s out₀ : List ℕ) (at : ℕ) (out : List ℕ) (i : ℕ) : Type 0 where
  pub lent : splice (at + i) (pairs_of (drop (2 * i) s)) out ≡ splice at (pairs_of s) out₀

pub paired-start : (s out : List ℕ) (at : ℕ) → Paired s out at out 0
paired-start s out at = let e : at + 0 ≡ at = omega arith in record { lent = rw e }

module _ (s out₀ : List ℕ) (at : ℕ) (out : List ℕ) (i : ℕ) (p : Paired s out₀ at out i) where
  pub paired-end : length s ≤ 2 * i → out ≡ splice at (pairs_of s) out₀
  paired-end h = splice-none (pairs_of (drop (2 * i) s)) out (at + i) (pairs_end s i h) ∙ p.lent

  pub paired-more : (b : ℕ) → i < length s / 2 → b ≡ pair_of (get_or s (2 * i) 0) (get_or s (2 * i + 1) 0) → Paired s out₀ at (set out (at + i) b) (i + 1)
  paired-more b h e =
      let f : at + (i + 1) ≡ at + i + 1 = omega arith in
      record { lent = rw f (splice-one (pairs_of (drop (2 * i) s)) (pairs_of (drop (2 * (i + 1)) s)) out (at + i) b (pairs-step s i h ∙ ap (λ (x : ℕ). x ∷ pairs_of (drop (2 * (i + 1)) s)) (sym e)) ∙ p.lent) }

-- ---- the loop that sets a stretch down

pub record Drawn (up : Bool) (b n : ℕ) (out₀ : List ℕ) (at : ℕ) (out : List ℕ) (x i : ℕ) : Type 0 where
  pub lent : splice (at + i) (stretch up x (n - i)) out ≡ splice at (stretch up b n) out₀

pub drawn-start : (up : Bool) (b n : ℕ) (out : List ℕ) (at : ℕ) → Drawn up b n out at out b 0
drawn-start up b n out at =
    let e : at + 0 ≡ at = omega arith in
    let f : n - 0 ≡ n = omega arith in
    record { lent = rw (e, f) }

module _ (up : Bool) (b n : ℕ) (out₀ : List ℕ) (at : ℕ) (out : List ℕ) (x i : ℕ) (d : Drawn up b n out₀ at out x i) where
  pub drawn-end : n ≤ i → out ≡ splice at (stretch up b n) out₀
  drawn-end h = splice-none (stretch up x (n - i)) out (at + i) (stretch-end up x n i h) ∙ d.lent

  pub drawn-more : (y : ℕ) → i < n → y ≡ then up x → Drawn up b n out₀ at (set out (at + i) x) y (i + 1)
  drawn-more y h e =
      let f : at + i + 1 ≡ at + (i + 1) = omega arith in
      record {
        lent =
            ap (λ (k : ℕ). splice k (stretch up y (n - (i + 1))) (set out (at + i) x)) (sym f)
            ∙ splice-one (stretch up x (n - i)) (stretch up y (n - (i + 1))) out (at + i) x (stretch-step up x n i h ∙ ap (λ (z : ℕ). x ∷ stretch up z (n - (i + 1))) (sym e))
            ∙ d.lent;
      }

-- the two letters of a stretch
pub pair-letters : (s : List ℕ) → 3 < length s → all hex (take 2 s) ≡ true → (hex (get_or s 0 0) ≡ true) × (hex (get_or s 1 0) ≡ true)
pair-letters s h e =
    let l : 1 < length (take 2 s) = omega (arith, length-take-le 2 s (omega arith)) in (
      rw (get_or-take 2 s 0 0 (lit< tt)) at (all_at hex (take 2 s) 0 e (omega arith)),
      rw (get_or-take 2 s 1 0 (lit< tt)) at (all_at hex (take 2 s) 1 e l),
    )

-- a stretch that was set down, from a byte that was read
pub adds-stretch : (p : Spelt) (at : ℕ) (out : List ℕ) (up : Bool) (b x n : ℕ) (out' : List ℕ) (r : ℕ)
    → p ≡ bytes (stretch up b n) → x ≡ b → at + n ≤ length out → r ≡ at + n → out' ≡ splice at (stretch up x n) out → Adds p at out out' (Ok r)
adds-stretch p at out up b x n out' r e f h g l =
    adds-all p at out (stretch up b n) e out' r (omega (arith, length-stretch up b n)) (omega (arith, length-stretch up b n)) (rw f at l)
