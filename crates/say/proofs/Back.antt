-- What is spelled is read back: the bytes of a script's argument, and numbers in decimal. Assumes nothing.
use Prim.Native.Nat.{ℕ, zero, suc, ◌+◌, ◌-◌, ◌*◌, ◌/◌, ◌%◌, ◌^◌, ◌≤◌, ◌<◌}
use mathlib.Core.Path.{◌≡◌, refl, ap, sym, subst, ◌∙◌}
use mathlib.Core.Bool.{Bool, true, false}
use mathlib.Core.List.{List, [], ◌∷◌, ◌++◌, map, append-nil}
use native.Mathlib.Omega.{arith}
use borrow.Author.Tests.{ltb-true, ltb-false, lt-ltb, leb-true, le-leb, lt-leb, eqb-true, ne_eqb}
use lib.Dec.{eqb, ltb, leb}
use lib.ListN.{length, get_or, drop, length-append, length-drop}
use lib.Seq.{append_snoc, drop-cons}
use Rattle.io.specs.Digits.{hex_digit_ascii, last_digits}
use Rattle.words.specs.Choice.{pick}
use Rattle.words.specs.Lists.{all, All}
use Rattle.words.proofs.Lists.{all_snoc, all_drop}
use Rattle.script.specs.Words.{same}
use Rattle.script.specs.Numbers.{digit, digits_of, power, number_of}
use Rattle.std.specs.Prelude.{Ok}
use Rattle.script.specs.Bytes.{hex_of, hex, pair_of, pairs_of, then, stretch, bytes, plain_of, stretch_of, part_of, grown, parts_of, outcome, bytes_of}
use Rattle.script.proofs.Words.{all_cons}
use Rattle.script.proofs.Parts.{plain-is, part-short, part-plain, part-run, part_up, length-stretch}
use Rattle.say.specs.Say.{decimal_of, places}
use Rattle.say.specs.Spelled.{LEAST, runs, part_at, length_of, past_of, kind_of, byte_of, text_of, point_of, spelled_from, spelled}
use Rattle.say.specs.declared.Part.{Part}
use Rattle.say.specs.declared.Part.TheVariants.{Byte, Stretch}
use Rattle.say.specs.declared.Before.{Before}
use Rattle.say.specs.declared.Before.TheVariants.{Nothing, Bare, Drawn}
use Rattle.say.proofs.Digits.{decimal-value, decimal-digits}
use Rattle.say.proofs.Spelling.{length_digits, places-ge}

-- ---- hex digits

hex-digit : (c : ℕ) → 48 ≤ c → c ≤ 57 → c - 48 ≡ hex_of c
hex-digit c h g = rw (le-leb 48 c h, le-leb c 57 g)

hex-letter : (c : ℕ) → 57 < c → 97 ≤ c → c ≤ 102 → c - 97 + 10 ≡ hex_of c
hex-letter c h g l = rw (le-leb 48 c (omega arith), lt-leb c 57 h, le-leb 97 c g, le-leb c 102 l)

module _ (d : ℕ) (h : d < 16) where
  glyph-by : (t : Bool) → ltb d 10 ≡ t → (hex_of (hex_digit_ascii d) ≡ d) × (48 ≤ hex_digit_ascii d) × (hex_digit_ascii d ≤ 102)
  glyph-by true e =
      let g : hex_digit_ascii d ≡ 48 + d = rw e in
      let l : d < 10 = ltb-true d 10 e in
      (sym (hex-digit (hex_digit_ascii d) (omega arith) (omega arith)) ∙ omega arith, omega arith, omega arith)
  glyph-by false e =
      let g : hex_digit_ascii d ≡ 87 + d = rw e in
      let l : 10 ≤ d = ltb-false d 10 e in
      (sym (hex-letter (hex_digit_ascii d) (omega arith) (omega arith) (omega arith)) ∙ omega arith, omega arith, omega arith)

  glyph-hex : hex_of (hex_digit_ascii d) ≡ d
  glyph-hex = (glyph-by (ltb d 10) refl).0

  glyph-low : 48 ≤ hex_digit_ascii d
  glyph-low = (glyph-by (ltb d 10) refl).1

  glyph-high : hex_digit_ascii d ≤ 102
  glyph-high = (glyph-by (ltb d 10) refl).2

  is-hex : hex (hex_digit_ascii d) ≡ true
  is-hex = lt-ltb (hex_of (hex_digit_ascii d)) 16 (omega (arith, glyph-hex))

-- the two digits of a byte
abbrev upper : ℕ → ℕ
upper b = hex_digit_ascii (b / 16 % 16)

abbrev lower : ℕ → ℕ
lower b = hex_digit_ascii (b % 16)

pair-back : (b : ℕ) → b < 256 → pair_of (upper b) (lower b) ≡ b
pair-back b h = omega (arith, glyph-hex (b / 16 % 16) (omega arith), glyph-hex (b % 16) (omega arith))

-- ---- texts without a point

abbrev Clear : List ℕ → Type 0
Clear = All (λ c. c ≡ 46 → ⊥)

parts-clear : (t : List ℕ) → Clear t → parts_of t ≡ t ∷ []
unfolding parts_of All
parts-clear [] a = refl
parts-clear (c ∷ t) a = rw (ne_eqb c 46 a.0) (ap (grown c) (parts-clear t a.1))

parts-point : (t u : List ℕ) → Clear t → parts_of (t ++ (46 ∷ u)) ≡ t ∷ parts_of u
unfolding parts_of All
parts-point [] u a = refl
parts-point (c ∷ t) u a = rw (ne_eqb c 46 a.0) (ap (grown c) (parts-point t u a.1))

clear-glyph : (d : ℕ) → d < 16 → hex_digit_ascii d ≡ 46 → ⊥
clear-glyph d h e = omega (arith, glyph-low d h)

clear-digits : (k n : ℕ) → Clear (last_digits 10 k n)
unfolding All
clear-digits zero n = tt
clear-digits (suc k) n = all_snoc (λ c. c ≡ 46 → ⊥) (last_digits 10 k (n / 10)) (hex_digit_ascii (n % 10)) (clear-digits k (n / 10)) (clear-glyph (n % 10) (omega arith))

clear-text : (up : Bool) (b n : ℕ) → Clear (text_of (Stretch up b n))
unfolding All
clear-text true b n = (clear-glyph (b / 16 % 16) (omega arith), (clear-glyph (b % 16) (omega arith), ((λ e. omega arith), clear-digits (places 19 n) n)))
clear-text false b n = (clear-glyph (b / 16 % 16) (omega arith), (clear-glyph (b % 16) (omega arith), ((λ e. omega arith), clear-digits (places 19 n) n)))

-- ---- bytes one by one

unfoldable hexes : List ℕ → List ℕ
hexes [] = []
hexes (b ∷ bs) = byte_of b ++ hexes bs

hexes-more : (bs : List ℕ) (b : ℕ) (t : List ℕ) → hexes (bs ++ (b ∷ [])) ++ t ≡ hexes bs ++ (byte_of b ++ t)
unfolding hexes
hexes-more [] b t = refl
hexes-more (x ∷ bs) b t = ap (λ (l : List ℕ). upper x ∷ lower x ∷ l) (hexes-more bs b t)

length-hexes : (bs : List ℕ) → length (hexes bs) ≡ length bs * 2
unfolding hexes
length-hexes [] = refl
length-hexes (b ∷ bs) = omega (arith, length-hexes bs)

clear-hexes : (bs : List ℕ) → Clear (hexes bs)
unfolding hexes All
clear-hexes [] = tt
clear-hexes (b ∷ bs) = (clear-glyph (b / 16 % 16) (omega arith), (clear-glyph (b % 16) (omega arith), clear-hexes bs))

hexes-hex : (bs : List ℕ) → all hex (hexes bs) ≡ true
unfolding hexes all
hexes-hex [] = refl
hexes-hex (b ∷ bs) = rw (is-hex (b / 16 % 16) (omega arith), is-hex (b % 16) (omega arith)) (hexes-hex bs)

abbrev Bytes : List ℕ → Type 0
Bytes = All (λ b. b < 256)

pairs-back : (bs : List ℕ) → Bytes bs → pairs_of (hexes bs) ≡ bs
unfolding hexes pairs_of All
pairs-back [] a = refl
pairs-back (b ∷ bs) a = let e : pair_of (upper b) (lower b) ≡ b = pair-back b a.0 in let f : pairs_of (hexes bs) ≡ bs = pairs-back bs a.1 in cc

hexes-part : (bs : List ℕ) → 0 < length bs → part_of (hexes bs) ≡ plain_of (hexes bs)
unfolding hexes
hexes-part [] h = absurd (omega arith)
hexes-part (b ∷ []) h = part-short (hexes (b ∷ [])) (omega arith)
hexes-part (b ∷ c ∷ bs) h =
    part-plain (hexes (b ∷ c ∷ bs)) (omega arith) (λ e. omega (arith, glyph-high (c / 16 % 16) (omega arith))) (λ e. omega (arith, glyph-high (c / 16 % 16) (omega arith)))

hexes-back : (bs : List ℕ) → 0 < length bs → Bytes bs → part_of (hexes bs) ≡ bytes bs
hexes-back bs h a =
    hexes-part bs h
    ∙ plain-is (hexes bs) (λ e. omega (arith, length-hexes bs)) (omega (arith, length-hexes bs)) (hexes-hex bs)
    ∙ ap bytes (pairs-back bs a)

-- ---- a stretch

module _ (b n : ℕ) (h : b < 256) (g : n < 2 ^ 64) where
  long : (up : Bool) → 3 < length (text_of (Stretch up b n))
  long true = omega (arith, length_digits 10 (places 19 n) n, places-ge 19 n)
  long false = omega (arith, length_digits 10 (places 19 n) n, places-ge 19 n)

  spelt : (up : Bool) → stretch_of up (text_of (Stretch up b n)) ≡ bytes (stretch up b n)
  unfolding stretch_of all
  spelt true =
      rw (lt-leb (length (text_of (Stretch true b n))) 3 (long true), is-hex (b / 16 % 16) (omega arith), is-hex (b % 16) (omega arith), decimal-digits n g, decimal-value n g, pair-back b h)
  spelt false =
      rw (lt-leb (length (text_of (Stretch false b n))) 3 (long false), is-hex (b / 16 % 16) (omega arith), is-hex (b % 16) (omega arith), decimal-digits n g, decimal-value n g, pair-back b h)

  stretch-back : (up : Bool) → part_of (text_of (Stretch up b n)) ≡ bytes (stretch up b n)
  stretch-back true = part_up (text_of (Stretch true b n)) (omega (arith, long true)) (λ e. omega arith) refl ∙ spelt true
  stretch-back false = part-run (text_of (Stretch false b n)) (omega (arith, long false)) refl ∙ spelt false

-- as many bytes as the rule goes on are that stretch
runs_by : (t : Bool) (up : Bool) (b x : ℕ) (xs : List ℕ) → eqb x b ≡ t → xs ≡ stretch up (then up b) (runs up (then up b) xs) ++ drop (runs up (then up b) xs) xs
    → x ∷ xs ≡ stretch up b (pick t (suc (runs up (then up b) xs)) 0) ++ drop (pick t (suc (runs up (then up b) xs)) 0) (x ∷ xs)
unfolding stretch
runs_by true up b x xs e r = let f : x ≡ b = eqb-true x b e in ap (λ (y : ℕ). y ∷ xs) f ∙ ap (λ (l : List ℕ). b ∷ l) r
runs_by false up b x xs e r = refl

runs_taken : (up : Bool) (b : ℕ) (xs : List ℕ) → xs ≡ stretch up b (runs up b xs) ++ drop (runs up b xs) xs
unfolding runs stretch
runs_taken up b [] = refl
runs_taken up b (x ∷ xs) = runs_by (eqb x b) up b x xs refl (runs_taken up (then up b) xs)

-- ---- part after part

module _ (room : ℕ) where
  Read : ℕ → List ℕ → List ℕ → Type 0
  Read at t zs = outcome room at (map part_of (parts_of t)) ≡ record { told = zs; answer = Ok (at + length zs) }

  module _ (at : ℕ) (t bs : List ℕ) (e : part_of t ≡ bytes bs) (c : Clear t) where
    read_one : at + length bs ≤ room → Read at t bs
    unfolding outcome Read
    read_one h = rw (parts-clear t c, e, le-leb (at + length bs) room h, append-nil bs)

    read-then : (u zs : List ℕ) → at + length bs ≤ room → Read (at + length bs) u zs → Read at (t ++ (46 ∷ u)) (bs ++ zs)
    unfolding outcome Read
    read-then u zs h r =
        let n : at + length bs + length zs ≡ at + length (bs ++ zs) = omega (arith, length-append bs zs) in
        rw (parts-point t u c, e, le-leb (at + length bs) room h, r, n)

  -- ---- a stretch and what follows it

  -- behind a stretch a point begins the rest
  behind-stretch : (k y : ℕ) (ys : List ℕ) → spelled_from (suc k) Drawn (y ∷ ys) ≡ 46 ∷ spelled_from (suc k) Nothing (y ∷ ys)
  unfolding spelled_from
  behind-stretch k y ys = refl

  nothing_left : (k : ℕ) (w : Before) → spelled_from k w [] ≡ []
  unfolding spelled_from
  nothing_left zero w = refl
  nothing_left (suc k) w = refl

  read-stretch : (up : Bool) (b n : ℕ) → b < 256 → n < 2 ^ 64 → (k : ℕ) (ys : List ℕ) (at : ℕ) → length ys ≤ k → at + n + length ys ≤ room
      → (0 < length ys → Read (at + n) (spelled_from k Nothing ys) ys) → Read at (text_of (Stretch up b n) ++ spelled_from k Drawn ys) (stretch up b n ++ ys)
  read-stretch up b n h g k [] at l m rec =
      let e : at + length (stretch up b n) ≤ room = omega (arith, length-stretch up b n) in
      rw (nothing_left k Drawn, append-nil (text_of (Stretch up b n)), append-nil (stretch up b n))
      (read_one at (text_of (Stretch up b n)) (stretch up b n) (stretch-back b n h g up) (clear-text up b n) e)
  read-stretch up b n h g zero (y ∷ ys) at l m rec = absurd (omega arith)
  read-stretch up b n h g (suc k) (y ∷ ys) at l m rec =
      let e : at + length (stretch up b n) ≤ room = omega (arith, length-stretch up b n) in
      let f : at + n ≡ at + length (stretch up b n) = omega (arith, length-stretch up b n) in
      rw (behind-stretch k y ys)
      (read-then at (text_of (Stretch up b n)) (stretch up b n) (stretch-back b n h g up) (clear-text up b n) (spelled_from (suc k) Nothing (y ∷ ys)) (y ∷ ys) e (rw f at (rec (omega arith))))

  -- ---- the whole

  pick-cases : {A : Type 0} (P : A → Type 0) (t : Bool) (a b : A) → (t ≡ true → P a) → (t ≡ false → P b) → P (pick t a b)
  pick-cases P true a b f g = f refl
  pick-cases P false a b f g = g refl

  -- a part is a stretch of eight bytes or more, or one byte
  part-cases : (P : Part → Type 0) (x : ℕ) (xs : List ℕ) → ((up : Bool) → LEAST ≤ runs up x (x ∷ xs) → P (Stretch up x (runs up x (x ∷ xs)))) → P (Byte x) → P (part_at (x ∷ xs))
  unfolding part_at
  part-cases P x xs f g =
      pick-cases P (leb LEAST (runs false x (x ∷ xs))) (Stretch false x (runs false x (x ∷ xs)))
      (pick (leb LEAST (runs true x (x ∷ xs))) (Stretch true x (runs true x (x ∷ xs))) (Byte x))
      (λ e. f false (leb-true LEAST (runs false x (x ∷ xs)) e))
      (λ e. pick-cases P (leb LEAST (runs true x (x ∷ xs))) (Stretch true x (runs true x (x ∷ xs))) (Byte x)
      (λ u. f true (leb-true LEAST (runs true x (x ∷ xs)) u)) (λ u. g))

  -- what is spelt of a list that begins with such a part
  abbrev after : ℕ → Before → List ℕ → Part → List ℕ
  after k w xs p = point_of w p ++ text_of p ++ spelled_from k (kind_of p) (drop (length_of p) xs)

  spelt-first : (k : ℕ) (w : Before) (x : ℕ) (xs : List ℕ) → spelled_from (suc k) w (x ∷ xs) ≡ after k w (x ∷ xs) (part_at (x ∷ xs))
  unfolding spelled_from
  spelt-first k w x xs = refl

  -- bytes bs were spelt one by one before
  Pending : Before → List ℕ → Type 0
  Pending Nothing bs = bs ≡ []
  Pending Bare bs = 0 < length bs
  Pending Drawn bs = ⊥

  byte_step : (k : ℕ) (w : Before) (bs : List ℕ) (x : ℕ) (xs : List ℕ) (at : ℕ) → Pending w bs → Read at (hexes (bs ++ (x ∷ [])) ++ spelled_from k Bare xs) (bs ++ (x ∷ []) ++ xs)
      → Read at (hexes bs ++ after k w (x ∷ xs) (Byte x)) (bs ++ (x ∷ xs))
  unfolding Pending
  byte_step k Nothing bs x xs at p r = rw (append_snoc bs x xs, hexes-more bs x (spelled_from k Bare xs)) at r
  byte_step k Bare bs x xs at p r = rw (append_snoc bs x xs, hexes-more bs x (spelled_from k Bare xs)) at r
  byte_step k Drawn bs x xs at p r = absurd p

  module _ (k : ℕ) (bs : List ℕ) (x : ℕ) (xs : List ℕ) (up : Bool) (h : LEAST ≤ runs up x (x ∷ xs)) (b : x < 256) (l : length (x ∷ xs) ≤ suc k) (s : length (x ∷ xs) < 2 ^ 64) where
    abbrev n : ℕ
    n = runs up x (x ∷ xs)

    abbrev ys : List ℕ
    ys = drop n (x ∷ xs)

    count : length (x ∷ xs) ≡ n + length ys
    count = ap length (runs_taken up x (x ∷ xs)) ∙ length-append (stretch up x n) ys ∙ omega (arith, length-stretch up x n)

    drawn : (at : ℕ) → at + length (x ∷ xs) ≤ room → (0 < length ys → Read (at + n) (spelled_from k Nothing ys) ys)
        → Read at (text_of (Stretch up x n) ++ spelled_from k Drawn ys) (x ∷ xs)
    drawn at m rec =
        subst (λ (zs : List ℕ). Read at (text_of (Stretch up x n) ++ spelled_from k Drawn ys) zs) (sym (runs_taken up x (x ∷ xs)))
        (read-stretch up x n b (omega (arith, count)) k ys at (omega (arith, count)) (omega (arith, count)) rec)

    stretch-step : (w : Before) (at : ℕ) → Pending w bs → Bytes bs → at + (length bs + length (x ∷ xs)) ≤ room
        → ((to : ℕ) → to + length ys ≤ room → 0 < length ys → Read to (spelled_from k Nothing ys) ys)
        → Read at (hexes bs ++ after k w (x ∷ xs) (Stretch up x n)) (bs ++ (x ∷ xs))
    unfolding Pending hexes
    stretch-step Nothing at p a m rec = rw p (drawn at (omega arith) (rec (at + n) (omega (arith, count))))
    stretch-step Bare at p a m rec =
        read-then at (hexes bs) bs (hexes-back bs p a) (clear-hexes bs) (text_of (Stretch up x n) ++ spelled_from k Drawn ys) (x ∷ xs) (omega arith)
        (drawn (at + length bs) (omega arith) (rec (at + length bs + n) (omega (arith, count))))
    stretch-step Drawn at p a m rec = absurd p

  abbrev Back : ℕ → Type 0
  Back k =
      (w : Before) (bs xs : List ℕ) (at : ℕ) → Pending w bs → length xs ≤ k → 0 < length bs + length xs → Bytes bs → Bytes xs → length xs < 2 ^ 64
      → at + (length bs + length xs) ≤ room → Read at (hexes bs ++ spelled_from k w xs) (bs ++ xs)

  back_end : (k : ℕ) (w : Before) (bs : List ℕ) (at : ℕ) → 0 < length bs → Bytes bs → at + length bs ≤ room → Read at (hexes bs ++ spelled_from k w []) (bs ++ [])
  back_end k w bs at o a m =
      rw (nothing_left k w, append-nil (hexes bs), append-nil bs) (read_one at (hexes bs) bs (hexes-back bs o a) (clear-hexes bs) m)

  back-zero : Back zero
  back-zero w bs [] at p l o a c s m = back_end zero w bs at (omega arith) a (omega arith)
  back-zero w bs (x ∷ xs) at p l o a c s m = absurd (omega arith)

  back_more : (k : ℕ) → Back k → Back (suc k)
  unfolding hexes Pending All
  back_more k rec w bs [] at p l o a c s m = back_end (suc k) w bs at (omega arith) a (omega arith)
  back_more k rec w bs (x ∷ xs) at p l o a c s m =
      rw (spelt-first k w x xs)
      (part-cases (λ q. Read at (hexes bs ++ after k w (x ∷ xs) q) (bs ++ (x ∷ xs))) x xs
      (λ up h. stretch-step k bs x xs up h c.0 l s w at p a m
      (λ to f g. rec Nothing [] (drop (runs up x (x ∷ xs)) (x ∷ xs)) to refl
      (omega (arith, length-drop (runs up x (x ∷ xs)) (x ∷ xs))) (omega arith) tt (all_drop (λ y. y < 256) (runs up x (x ∷ xs)) (x ∷ xs) c)
      (omega (arith, length-drop (runs up x (x ∷ xs)) (x ∷ xs))) (omega arith)))
      (byte_step k w bs x xs at p
      (rec Bare (bs ++ (x ∷ [])) xs at (omega (arith, length-append bs (x ∷ []))) (omega arith) (omega (arith, length-append bs (x ∷ [])))
      (all_snoc (λ y. y < 256) bs x a c.0) c.1 (omega arith) (omega (arith, length-append bs (x ∷ []))))))

  back : (k : ℕ) → Back k
  back zero = back-zero
  back (suc k) = back_more k (back k)

-- the first letter of a spelling is a digit, so it is no `-`
first-letter : (k x : ℕ) (xs : List ℕ) → same (spelled_from (suc k) Nothing (x ∷ xs)) (45 ∷ []) ≡ false
unfolding same
first-letter k x xs =
    let e : eqb (upper x) 45 ≡ false = ne_eqb (upper x) 45 (λ f. omega (arith, glyph-low (x / 16 % 16) (omega arith))) in
    rw (spelt-first 0 k Nothing x xs)
    (part-cases 0 (λ q. same (after 0 k Nothing (x ∷ xs) q) (45 ∷ []) ≡ false) x xs (λ up h. rw e) (rw e))

-- what `say` spells, `script` reads: the same bytes, where there is room for them
pub spelled_back : (room : ℕ) (xs : List ℕ) → Bytes xs → length xs ≤ room → room < 2 ^ 64 → bytes_of room (spelled xs) ≡ record { told = xs; answer = Ok (length xs) }
unfolding bytes_of spelled same hexes Pending Read All
spelled_back room [] a l m = refl
spelled_back room (x ∷ xs) a l m =
    let z : 0 + length (x ∷ xs) ≡ length (x ∷ xs) = omega arith in
    rw (first-letter (length xs) x xs)
    (rw z at (back room (length (x ∷ xs)) Nothing [] (x ∷ xs) 0 refl (omega arith) (omega arith) tt a (omega arith) (omega arith)))

-- ---- a number in decimal is read back

digit-second : (s : List ℕ) → all digit s ≡ true → get_or s 1 0 ≡ 94 → ⊥
digit-second [] a e = omega arith
digit-second (x ∷ []) a e = omega arith
digit-second (x ∷ y ∷ s) a e = high y (all_cons digit y s (all_cons digit x (y ∷ s) a).1).0 e
  where
    high-by : (t : Bool) (c : ℕ) → pick t (leb c 57) false ≡ true → c ≡ 94 → ⊥
    high-by true c a e = omega (arith, leb-true c 57 a)
    high-by false c a e = let z : ◌≡◌ {A = ℕ} 0 1 = cc in omega arith

    high : (c : ℕ) → digit c ≡ true → c ≡ 94 → ⊥
    high c a e = high-by (leb 48 c) c a e

no_power : (t u v : Bool) → v ≡ false → pick t (pick u v false) false ≡ false
no_power true true v e = e
no_power true false v e = refl
no_power false u v e = refl

pub decimal-back : (n : ℕ) → n < 2 ^ 64 → number_of (decimal_of n) ≡ Ok n
unfolding number_of digits_of
decimal-back n h =
    let s : List ℕ = decimal_of n in
    let l : length s ≡ 0 → ⊥ = λ e. omega (arith, length_digits 10 (places 19 n) n, places-ge 19 n) in
    let p : power s ≡ false = no_power (leb 2 (length s)) (eqb (get_or s 0 0) 50) (eqb (get_or s 1 0) 94) (ne_eqb (get_or s 1 0) 94 (digit-second s (decimal-digits n h))) in
    rw (p, ne_eqb (length s) 0 l, decimal-digits n h, decimal-value n h, lt-ltb n (2 ^ 64) h)

-- ---- the place after the part that stands there

pub past-exact : (s : List ℕ) (from : ℕ) → from < length s → past_of (length s) from (length_of (part_at (drop from s))) ≡ from + length_of (part_at (drop from s))
past-exact s from h = rw (drop-cons s from 0 h) (exact (get_or s from 0) (drop (suc from) s) (omega (arith, length-drop (suc from) s)))
  where
    exact : (x : ℕ) (xs : List ℕ) → length xs + 1 ≡ length s - from → past_of (length s) from (length_of (part_at (x ∷ xs))) ≡ from + length_of (part_at (x ∷ xs))
    exact x xs e =
        part-cases 0 (λ q. past_of (length s) from (length_of q) ≡ from + length_of q) x xs
        (λ up l. let c : length (x ∷ xs) ≡ runs up x (x ∷ xs) + length (drop (runs up x (x ∷ xs)) (x ∷ xs)) = ap length (runs_taken up x (x ∷ xs)) ∙ length-append (stretch up x (runs up x (x ∷ xs))) (drop (runs up x (x ∷ xs)) (x ∷ xs)) ∙ omega (arith, length-stretch up x (runs up x (x ∷ xs))) in
        rw (lt-leb (length s) from h) (omega arith))
        (rw (lt-leb (length s) from h) (omega arith))
