-- What is proved of reading and writing, plainly. Assumes nothing.
use Prim.Native.Nat.{ℕ, ◌+◌, ◌≤◌, ◌<◌}
use mathlib.Core.Path.{◌≡◌, refl, sym, ap, ◌∙◌}
use mathlib.Core.List.{List, [], ◌++◌, append-nil}
use lib.ListN.{length}
use Rattle.words.specs.Sizes.{LIMIT}
use Rattle.words.specs.Lists.{splice}
use Rattle.words.proofs.Unique.{told-apart, refusal_of, refusal-undone}
use Rattle.octets.specs.Reader.{Res, ok, fault, num_of, pair}
use Rattle.octets.specs.Writer.{Outcome, done, refused, put_of, left}
use Rattle.octets.specs.Varint.{var, var_len, var_bytes, pair_bytes, run_bytes, Part, run, run_of}
use Rattle.octets.specs.Spelling.{Bytes, Varint, RunSpelt}
use Rattle.std.specs.Prelude.{Result, Ok, Err}
use Rattle.words.specs.declared.Refusal.{Refusal}
use Rattle.octets.proofs.Back.{length-var}
use Rattle.octets.proofs.Runs.{length_run}
use Rattle.octets.proofs.Forms.{form-read, var-spelt, var-shortest}
use Rattle.octets.proofs.Exact.{Here, here_back, here-taken, Stands, exact-var, exact-pair, exact-run, read_between, read-spliced, PairSpelt, two_bytes, RunAt, run_at, run-says, run-heard, part_of}

-- ---- 1. what was written is read back: between any bytes, and in what a writer leaves

run-written : (at : ℕ) (bs : List ℕ) → length bs < LIMIT → RunAt at (record { place = at + var_len (length bs); len = length bs }) (run_bytes bs)
unfolding run_bytes
run-written at bs h = rw (← length-var (length bs)) (run_at bs (var-spelt (length bs) h) refl)

-- the part that is read of a run says its bytes
pub run-back-says : {s : List ℕ} {at : ℕ} (bs : List ℕ) → Here s at (run_bytes bs) → part_of s (record { place = at + var_len (length bs); len = length bs }) ≡ bs
unfolding run_bytes
run-back-says bs h = rw (← length-var (length bs)) (here-taken (here_back (var_bytes (length bs)) bs h))

module _ (p q : List ℕ) where
  pub var-back : (v : ℕ) → v < LIMIT → var (p ++ (var_bytes v ++ q)) (length p) ≡ ok v (length p + var_len v)
  var-back v h = rw (← length-var) (read_between exact-var p q (var-spelt v h))

  pub pair-back : (k : ℕ) → k ≤ 65535 → pair (p ++ (pair_bytes k ++ q)) (length p) ≡ ok k (length p + 2)
  pair-back k h = read_between exact-pair p q (two_bytes h)

  pub run-back : (bs : List ℕ) → length bs < LIMIT
      → run (p ++ (run_bytes bs ++ q)) (length p) ≡ ok (record { place = length p + var_len (length bs); len = length bs }) (length p + (var_len (length bs) + length bs))
  run-back bs h = rw (← length_run bs) (read_between exact-run p q (run-written (length p) bs h))

module _ (at : ℕ) (s : List ℕ) where
  pub var-back-spliced : (v : ℕ) → v < LIMIT → at + var_len v ≤ length s → var (splice at (var_bytes v) s) at ≡ ok v (at + var_len v)
  var-back-spliced v h f = rw (← length-var v) (read-spliced exact-var at s (rw length-var f) (var-spelt v h))

  pub pair-back-spliced : (k : ℕ) → k ≤ 65535 → at + 2 ≤ length s → pair (splice at (pair_bytes k) s) at ≡ ok k (at + 2)
  pair-back-spliced k h f = read-spliced exact-pair at s f (two_bytes h)

  pub run-back-spliced : (bs : List ℕ) → length bs < LIMIT → at + (var_len (length bs) + length bs) ≤ length s
      → run (splice at (run_bytes bs) s) at ≡ ok (record { place = at + var_len (length bs); len = length bs }) (at + (var_len (length bs) + length bs))
  run-back-spliced bs h f = rw (← length_run bs) (read-spliced exact-run at s (rw length_run f) (run-written at bs h))

-- ---- 2. what is accepted is a spelling of the value

module _ (s : List ℕ) (at : ℕ) {next : ℕ} (b : Bytes s) where
  pub var-accepts : {v : ℕ} → var s at ≡ ok v next → Stands (λ at. Varint) s at v next
  var-accepts e = exact-var.sound s at b e

  pub pair-accepts : {k : ℕ} → pair s at ≡ ok k next → Stands (λ at. PairSpelt) s at k next
  pair-accepts e = exact-pair.sound s at b e

  pub run-accepts : {p : Part} → run s at ≡ ok p next → Stands (λ at p. RunSpelt (part_of s p)) s at p next
  run-accepts e =
      let x = exact-run.sound s at b e in
      record { spelling = x.spelling; stands = x.stands; ends = x.ends; says = run-says x.stands x.says }

-- ---- 3. every spelling is accepted, for the value that it spells

pub record RunRead (s : List ℕ) (at : ℕ) (bs : List ℕ) (next : ℕ) : Type 0 where
  pub part : Part
  pub reads : run s at ≡ ok part next
  pub says : part_of s part ≡ bs

module _ (s : List ℕ) (at : ℕ) {l : List ℕ} (i : at ≤ length s) (h : Here s at l) where
  pub var-accepted : {v : ℕ} → Varint v l → var s at ≡ ok v (at + length l)
  var-accepted r = exact-var.complete s at i h r

  pub pair-accepted : {k : ℕ} → PairSpelt k l → pair s at ≡ ok k (at + length l)
  pair-accepted r = exact-pair.complete s at i h r

  pub run-accepted : {bs : List ℕ} → RunSpelt bs l → RunRead s at bs (at + length l)
  run-accepted r = let k = run-heard at r in record { part = k.part; reads = exact-run.complete s at i h k.there; says = k.said s h }

-- ---- 4. what is written is a spelling, and none is shorter; no bytes spell two numbers

pub var-written : (v : ℕ) → v < LIMIT → Varint v (var_bytes v)
var-written = var-spelt

pub none-shorter : {v : ℕ} {bs : List ℕ} → Varint v bs → length (var_bytes v) ≤ length bs
none-shorter r = rw length-var (var-shortest r)

pub one_number : {v w : ℕ} {bs : List ℕ} → Varint v bs → Varint w bs → v ≡ w
one_number {v} {w} {bs} r q =
    let e : var bs 0 ≡ ok v (0 + length bs) = form-read bs 0 [] r (sym (append-nil bs)) in
    let f : var bs 0 ≡ ok w (0 + length bs) = form-read bs 0 [] q (sym (append-nil bs)) in
    cc

-- ---- 5. one outcome only: two answers that meet one promise are equal, and so are the bytes that they leave

abbrev got_from : Res ℕ → Result (ℕ × ℕ) Refusal
got_from (ok v next) = Ok (v, next)
got_from (fault e) = Err (refusal_of e)

got-undone : (r : Result (ℕ × ℕ) Refusal) → got_from (num_of r) ≡ r
got-undone (Ok (v, next)) = refl
got-undone (Err e) = ap Err (refusal-undone e)

abbrev run_from : Res Part → Result (ℕ × ℕ) Refusal
run_from (ok p next) = Ok (p.place, p.len)
run_from (fault e) = Err (refusal_of e)

run-undone : (r : Result (ℕ × ℕ) Refusal) → run_from (run_of r) ≡ r
run-undone (Ok (place, len)) = refl
run-undone (Err e) = ap Err (refusal-undone e)

abbrev put_from : Outcome → Result ℕ Refusal
put_from (done next) = Ok next
put_from (refused e) = Err (refusal_of e)

put-undone : (r : Result ℕ Refusal) → put_from (put_of r) ≡ r
put-undone (Ok next) = refl
put-undone (Err e) = ap Err (refusal-undone e)

pub one-got : {x : Res ℕ} (r q : Result (ℕ × ℕ) Refusal) → num_of r ≡ x → num_of q ≡ x → r ≡ q
one-got r q e f = told-apart num_of got_from got-undone r q (e ∙ sym f)

pub one-run : {x : Res Part} (r q : Result (ℕ × ℕ) Refusal) → run_of r ≡ x → run_of q ≡ x → r ≡ q
one-run r q e f = told-apart run_of run_from run-undone r q (e ∙ sym f)

pub one-put : {x : Outcome} (r q : Result ℕ Refusal) → put_of r ≡ x → put_of q ≡ x → r ≡ q
one-put r q e f = told-apart put_of put_from put-undone r q (e ∙ sym f)

pub one_left : {x : Outcome} (at : ℕ) (bs out : List ℕ) (r q : Result ℕ Refusal) {o u : List ℕ} → put_of r ≡ x → put_of q ≡ x → o ≡ left (put_of r) at bs out → u ≡ left (put_of q) at bs out → o ≡ u
one_left at bs out r q e f m n = m ∙ ap (λ (y : Outcome). left y at bs out) (e ∙ sym f) ∙ sym n
