-- What follows from the promises: after any calls the answers of a window are those of the rule, a refusal changes nothing, and each call has one
-- outcome only. Assumes nothing.
use Prim.Native.Nat.{ℕ, ◌+◌, ◌-◌, ◌≤◌}
use mathlib.Core.Path.{◌≡◌, refl, sym, ap, subst, ◌∙◌}
use mathlib.Core.Bool.{Bool, true, false}
use mathlib.Core.List.{List, [], ◌∷◌, ◌++◌}
use native.Mathlib.Omega.{arith}
use borrow.Author.Tests.{ltb-false, eqb-true, ne_eqb}
use lib.ListN.{length, drop, length-append, length-drop}
use lib.Seq.{drop-drop, drop-append-le}
use lib.Dec.{ltb, eqb}
use Rattle.words.specs.Choice.{pick}
use Rattle.words.specs.Lists.{total}
use Rattle.words.specs.declared.Refusal.{Refusal}
use Rattle.words.proofs.Tables.{by-test}
use Rattle.channel.specs.Settings.{Good}
use Rattle.channel.specs.declared.Settings.{Settings}
use Rattle.channel.proofs.Good.{good}
use Rattle.channel.proofs.Unique.{one-setup}
use Rattle.window.specs.Rule.{load_of}
use Rattle.window.specs.Window.{Made, Counted, window_of, since, next_of, Within, Valid, MadeGives, refusal_in, queue_refusal, room_number, counted, after_queued, QueuedGives}
use Rattle.window.specs.History.{Call, Past, refusal_after, counting, past_from, past, window_from, Exact}
use Rattle.window.specs.declared.Window.{Window}
use Rattle.std.specs.Prelude.{Result}
use Rattle.window.proofs.Valid.{kept_of, within-rows, valid-new, allowed, valid-counted}

-- ---- the answers are those of the rule: a window keeps the lengths of the messages from the oldest unacknowledged one on, of those that were named

abbrev window_at : Settings → Past → Window
window_at s p = window_of s p.oldest (drop p.oldest p.lens)

record Kept (s : Settings) (p : Past) : Type 0 where
  good : Good s
  low : p.oldest ≤ length p.lens
  within : Within s (load_of (drop p.oldest p.lens))
  valid : Valid (window_at s p)

module _ (s : Settings) (p : Past) (k : Kept s p) where
  since-is : (oldest : ℕ) → p.oldest ≤ oldest → since (window_at s p) oldest ≡ drop oldest p.lens
  unfolding window_of
  since-is oldest o =
      let e : p.oldest + (oldest - p.oldest) ≡ oldest = omega arith in
      let h = kept_of s p.oldest (drop p.oldest p.lens) (within-rows s k.good (drop p.oldest p.lens) k.within) in
      ap (drop (oldest - p.oldest)) h ∙ drop-drop (oldest - p.oldest) p.oldest p.lens ∙ ap (λ (n : ℕ). drop n p.lens) e

  next-is : next_of (window_at s p) ≡ length p.lens
  unfolding window_of
  next-is = omega (arith, length-drop p.oldest p.lens, k.low)

  same_answer : (oldest n : ℕ) → queue_refusal (window_at s p) oldest n ≡ refusal_after s p oldest n
  unfolding queue_refusal window_of
  same_answer oldest n =
      by-test (ltb oldest p.oldest)
      (λ e. rw e)
      (λ e.
      ap (λ (next : ℕ). refusal_in s p.oldest next oldest (since (window_at s p) oldest) n) next-is
      ∙ ap (λ (lens : List ℕ). refusal_in s p.oldest (length p.lens) oldest lens n) (since-is oldest (ltb-false _ _ e)))

  -- a call keeps it so
  module _ (c : Call) where
    abbrev more : Past
    more = record { lens = p.lens ++ (c.len ∷ []); oldest = c.oldest }

    since-more : c.oldest ≤ length p.lens → p.oldest ≤ c.oldest
        → since (window_at s p) c.oldest ++ (c.len ∷ []) ≡ drop c.oldest (p.lens ++ (c.len ∷ []))
    since-more h l =
        ap (λ (lens : List ℕ). lens ++ (c.len ∷ [])) (since-is c.oldest l) ∙ sym (drop-append-le c.oldest p.lens (c.len ∷ []) h)

    by_answer : (t : Bool) → eqb (refusal_after s p c.oldest c.len) 0 ≡ t
        → (pick t (counted (window_at s p) c.oldest c.len) (window_at s p) ≡ window_at s (pick t more p)) × Kept s (pick t more p)
    unfolding window_of
    by_answer true e =
        let a = allowed (window_at s p) c.oldest c.len (same_answer c.oldest c.len ∙ eqb-true _ _ e) in
        let h : c.oldest ≤ length p.lens = omega (arith, a.high, next-is) in
        let q = since-more h a.low in (
          ap (window_of s c.oldest) q,
          record {
            good = k.good;
            low = omega (arith, length-append p.lens (c.len ∷ []));
            within = subst (λ (lens : List ℕ). Within s (load_of lens)) q a.within;
            valid = subst (λ (lens : List ℕ). Valid (window_of s c.oldest lens)) q (valid-counted (window_at s p) k.valid c.oldest c.len a);
          },
        )
    by_answer false e = (refl, k)

    step : (after_queued (window_at s p) c.oldest c.len ≡ window_at s (counting s p c)) × Kept s (counting s p c)
    unfolding after_queued counting
    step =
        let b = by_answer (eqb (refusal_after s p c.oldest c.len) 0) refl in
        (ap (λ (q : ℕ). pick (eqb q 0) (counted (window_at s p) c.oldest c.len) (window_at s p)) (same_answer c.oldest c.len) ∙ b.0, b.1)

-- and so do any number of them
steps : (s : Settings) (p : Past) (cs : List Call) → Kept s p → (window_from (window_at s p) cs ≡ window_at s (past_from s p cs)) × Kept s (past_from s p cs)
unfolding window_from past_from
steps s p [] k = (refl, k)
steps s p (c ∷ cs) k =
    let n = step s p k c in
    let r = steps s (counting s p c) cs n.1 in
    (ap (λ (w : Window). window_from w cs) n.0 ∙ r.0, r.1)

start : (s : Settings) → Good s → Kept s (record { lens = []; oldest = 0 })
unfolding load_of total
start s g = record { good = g; low = omega arith; within = record { small = omega arith; sliced = omega arith; charge = omega arith }; valid = valid-new s g }

pub exact : Exact
exact s e cs oldest n =
    let r = steps s (record { lens = []; oldest = 0 }) cs (start s (good s e)) in
    ap (λ (w : Window). queue_refusal w oldest n) r.0 ∙ same_answer s (past s cs) r.1 oldest n

-- ---- a refusal changes nothing

pub refused-keeps : (w : Window) (oldest n : ℕ) (r : Counted) → QueuedGives w oldest n r → (room_number r.answer ≡ 0 → ⊥) → r.state ≡ w
unfolding after_queued
refused-keeps w oldest n r g h = g.state ∙ rw (ne_eqb (queue_refusal w oldest n) 0 (λ e. h (g.number ∙ e)))

-- ---- one outcome only

pub one-made : (s : Settings) (r q : Made) → MadeGives s r → MadeGives s q → r ≡ q
one-made s r q x y =
    ap (λ (a : Result (Unit {0}) Refusal). record { answer = a; state = r.state }) (one-setup r.answer q.answer (x.number ∙ sym y.number))
    ∙ ap (λ (w : Window). record { answer = q.answer; state = w }) (x.state ∙ sym y.state)

pub one-room : (w : Window) (oldest n : ℕ) (a b : Result (Unit {0}) Refusal) → room_number a ≡ queue_refusal w oldest n → room_number b ≡ queue_refusal w oldest n → a ≡ b
one-room w oldest n a b x y = one-setup a b (x ∙ sym y)

pub one-counted : (w : Window) (oldest n : ℕ) (r q : Counted) → QueuedGives w oldest n r → QueuedGives w oldest n q → r ≡ q
one-counted w oldest n r q x y =
    ap (λ (a : Result (Unit {0}) Refusal). record { answer = a; state = r.state }) (one-setup r.answer q.answer (x.number ∙ sym y.number))
    ∙ ap (λ (v : Window). record { answer = q.answer; state = v }) (x.state ∙ sym y.state)
