-- `put_ack` at each of its cases, in the terms in which code meets them. Assumes nothing.
use Prim.Native.Nat.{ℕ, zero, suc, ◌+◌, ◌-◌, ◌≤◌, ◌<◌}
use mathlib.Core.Path.{◌≡◌, refl, sym, ap, ◌∙◌, subst}
use mathlib.Core.Bool.{Bool, true, false, not}
use mathlib.Core.List.{List}
use native.Mathlib.Omega.{arith}
use borrow.Author.Tests.{lt-ltb, le-ltb, le-leb, lt-leb}
use lib.ListN.{length}
use Rattle.std.specs.Prelude.{Ok, Err, Some, None}
use Rattle.words.specs.Sizes.{LIMIT}
use Rattle.words.specs.Refusal.{number_of}
use Rattle.words.specs.declared.Refusal.{Refusal}
use Rattle.words.specs.Lists.{splice, all, reached}
use Rattle.words.proofs.Splice.{splice-splice}
use Rattle.octets.specs.Writer.{done, refused}
use Rattle.octets.specs.Varint.{var_len}
use Rattle.packet_ack.specs.declared.Judgement.{Judgement}
use Rattle.packet_ack.specs.Ack.{Range}
use Rattle.packet_ack.specs.Write.{sayable, record_at, listed, rising, lowers_bytes, ack_bytes, ack_refusal, put_ack}
use Rattle.packet_ack.specs.Steps.{below, falling_below, unjudged_in, begun, stepped, judged_next, judged_in, range_len_of, front_len, front_bytes, FrontOf}
use Rattle.packet_ack.proofs.Pass.{judged-sayable, judged-rising, judged-spare, judged-top, judged-steps}
use Rattle.packet_ack.proofs.Wrote.{length_front}
use Rattle.packet_ack.proofs.Whole.{top-sayable, top-falling, ack-parts, length-ack, Known, known_of}

-- a test that was turned round
pub un-not : (b : Bool) {t : Bool} → not b ≡ t → b ≡ not t
un-not true e = ap not e
un-not false e = ap not e

-- ---- what the pass over a table says of its ranges

judged-is : (t : List Range) (count room : ℕ) → count ≤ length t → judged_in t count room ≡ reached judged_next (unjudged_in room) (below t count)
unfolding judged_in
judged-is t count room h = simp (le-leb _ _ h)

-- as code meets it, where the table holds so many
pub judged-here : (t : List Range) (count room : ℕ) → count ≤ length t → {r : ℕ} {j₀ j : Judgement} → r ≡ room → j₀ ≡ unjudged_in r → j ≡ reached judged_next j₀ (below t count) → j ≡ judged_in t count room
judged-here t count room h e u w = w ∙ ap (λ (k : Judgement). reached judged_next k (below t count)) (u ∙ ap unjudged_in e) ∙ sym (judged-is t count room h)

sayable-is : (t : List Range) (count room : ℕ) → (reached judged_next (unjudged_in room) (below t count)).sayable ≡ all sayable (listed t 0 count)
unfolding below reached listed all
sayable-is t zero room = refl
sayable-is t (suc n) room = ap (λ (j : Judgement). j.sayable) (judged-steps room (record_at t n) (below t n)) ∙ judged-sayable room (record_at t n) (below t n) ∙ top-sayable t n

rising-is : (t : List Range) (count room : ℕ) → (reached judged_next (unjudged_in room) (below t count)).rising ≡ rising (listed t 0 count)
unfolding below reached listed rising
rising-is t zero room = refl
rising-is t (suc n) room = ap (λ (j : Judgement). j.rising) (judged-steps room (record_at t n) (below t n)) ∙ judged-rising room (record_at t n) (below t n) ∙ top-falling t n

-- where there are n below the highest
module _ (t : List Range) (n room : ℕ) {j : Judgement} (e : j ≡ reached judged_next (unjudged_in room) (below t (suc n))) where
  is-steps : j ≡ reached stepped (begun room (record_at t n)) (below t n)
  unfolding below
  is-steps = e ∙ judged-steps room (record_at t n) (below t n)

  top-is : j.top ≡ Some (record_at t n)
  top-is = ap (λ (j : Judgement). j.top) is-steps ∙ judged-top room (record_at t n) (below t n)

  spare-is : j.spare ≡ room - range_len_of ((record_at t n).end - 1) (record_at t n) - length (lowers_bytes (record_at t n).start (below t n))
  spare-is = ap (λ (j : Judgement). j.spare) is-steps ∙ judged-spare room (record_at t n) (below t n)

none-rising : (t : List Range) (count room : ℕ) {j : Judgement} → j ≡ reached judged_next (unjudged_in room) (below t count) → j.top ≡ None → j.rising ≡ false
unfolding below reached
none-rising t zero room e o = ap (λ (j : Judgement). j.rising) e
none-rising t (suc n) room e o = let z = top-is t n room e in cc

pub some-range : (t : List Range) (count : ℕ) → rising (listed t 0 count) ≡ true → 0 < count
unfolding listed rising
some-range t zero e = absurd (let z : ◌≡◌ {A = ℕ} 0 1 = cc in omega arith)
some-range t (suc n) e = omega arith

-- ---- the refusals

-- nothing is left to be written
pub no_front : (seq count at : ℕ) (t : List Range) (out : List ℕ) (x : Refusal) → refused (number_of x) ≡ put_ack seq t count at (length out) → FrontOf seq count at t out out (Err x)
no_front seq count at t out x e = record { answer = e; writable = tt; wrote = refl }

module _ (seq : ℕ) (t : List Range) (count at m : ℕ) where
  pub bad-table : length t < count → refused 10 ≡ put_ack seq t count at m
  unfolding put_ack ack_refusal
  bad-table h = simp (lt-ltb _ _ h)

  module _ (h : count ≤ length t) where
    pub bad-seq : LIMIT ≤ seq → refused 13 ≡ put_ack seq t count at m
    unfolding put_ack ack_refusal
    bad-seq k = simp (le-ltb _ _ h, le-leb _ _ k)

    module _ (k : seq < LIMIT) {j : Judgement} (ej : j ≡ judged_in t count (m - at)) where
      is-sayable : j.sayable ≡ all sayable (listed t 0 count)
      is-sayable = ap (λ (j : Judgement). j.sayable) (ej ∙ judged-is t count (m - at) h) ∙ sayable-is t count (m - at)

      is-rising : j.rising ≡ rising (listed t 0 count)
      is-rising = ap (λ (j : Judgement). j.rising) (ej ∙ judged-is t count (m - at) h) ∙ rising-is t count (m - at)

      pub bad-range : j.sayable ≡ false → refused 13 ≡ put_ack seq t count at m
      unfolding put_ack ack_refusal
      bad-range u = simp (le-ltb _ _ h, lt-leb _ _ k, ← is-sayable, u)

      module _ (u : j.sayable ≡ true) where
        pub all-sayable : all sayable (listed t 0 count) ≡ true
        all-sayable = sym is-sayable ∙ u

        pub not-rising : j.rising ≡ false → refused 5 ≡ put_ack seq t count at m
        unfolding put_ack ack_refusal
        not-rising v = simp (le-ltb _ _ h, lt-leb _ _ k, all-sayable, ← is-rising, v)

        -- none was judged
        pub no-range : j.top ≡ None → refused 5 ≡ put_ack seq t count at m
        no-range o = not-rising (none-rising t count (m - at) (ej ∙ judged-is t count (m - at) h) o)

        pub all-rising : j.rising ≡ true → rising (listed t 0 count) ≡ true
        all-rising v = sym is-rising ∙ v

-- ---- the ranges are good, and there are n below the highest

-- what is known then, with `head` bytes for the sequence and for n
pub record Good (seq : ℕ) (t : List Range) (count n at m : ℕ) (j : Judgement) (top : Range) (head : ℕ) : Type 0 where
  pub sized : top.start < top.end
  pub within : top.end ≤ LIMIT
  pub few : n < LIMIT
  pub falls : falling_below top.start (below t n) ≡ true
  pub named : n ≤ length t
  pub small : j.spare ≤ m
  pub no_room : j.spare ≤ head → refused 1 ≡ put_ack seq t count at m
  pub fits : head < j.spare → at + front_len seq top n + length (lowers_bytes top.start (below t n)) ≤ m
  pub ends : head < j.spare → done (m - (j.spare - head - 1)) ≡ put_ack seq t count at m
  pub wrote : (out : List ℕ) → splice (at + front_len seq top n) (lowers_bytes top.start (below t n)) (splice at (front_bytes seq top n) out) ≡ splice at (ack_bytes seq (listed t 0 count)) out

module _ (seq : ℕ) (t : List Range) (at m : ℕ) {j : Judgement} {top : Range} {head : ℕ} (o : j.top ≡ Some top) where
  at_top : (n : ℕ) → suc n ≤ length t → seq < LIMIT → j ≡ judged_in t (suc n) (m - at) → head ≡ var_len seq + var_len n → all sayable (listed t 0 (suc n)) ≡ true → rising (listed t 0 (suc n)) ≡ true
      → Good seq t (suc n) n at m j top head
  unfolding put_ack ack_refusal
  at_top n h k ej eh s r =
      record {
        sized = rw is-top y.sized;
        within = rw is-top y.within;
        few = omega (arith, y.few, y.sized, y.within);
        falls = rw is-top y.falls;
        named = omega arith;
        small = omega (arith, spare);
        no_room = λ f. let g : m < at + length (ack_bytes seq (listed t 0 (suc n))) = rw long (omega (arith, spare)) in simp (le-ltb _ _ h, lt-leb _ _ k, s, r, lt-ltb _ _ g);
        fits = λ f. rw is-top (omega (arith, spare));
        ends = λ f.
            let g : at + length (ack_bytes seq (listed t 0 (suc n))) ≤ m = rw long (omega (arith, spare)) in
            let q : m - (j.spare - head - 1) ≡ at + length (ack_bytes seq (listed t 0 (suc n))) = rw long (omega (arith, spare)) in
            simp (q, le-ltb _ _ h, lt-leb _ _ k, s, r, le-ltb _ _ g);
        wrote = λ out. rw is-top (ap (λ (l : ℕ). splice (at + l) (lowers_bytes (record_at t n).start (below t n)) (splice at (front_bytes seq (record_at t n) n) out)) (sym (length_front seq (record_at t n) n))
            ∙ splice-splice at (front_bytes seq (record_at t n) n) (lowers_bytes (record_at t n).start (below t n)) out ∙ ap (λ (bs : List ℕ). splice at bs out) (sym (ack-parts t n seq)));
      }
    where
      y : Known t n
      y = known_of t n s r

      is : j ≡ reached judged_next (unjudged_in (m - at)) (below t (suc n))
      is = ej ∙ judged-is t (suc n) (m - at) h

      is-top : top ≡ record_at t n
      is-top = let z = top-is t n (m - at) is in cc

      long : length (ack_bytes seq (listed t 0 (suc n))) ≡ front_len seq (record_at t n) n + length (lowers_bytes (record_at t n).start (below t n))
      long = length-ack t n seq

      spare : j.spare ≡ m - at - range_len_of ((record_at t n).end - 1) (record_at t n) - length (lowers_bytes (record_at t n).start (below t n))
      spare = spare-is t n (m - at) is

  pub good : (count n : ℕ) → suc n ≡ count → count ≤ length t → seq < LIMIT → j ≡ judged_in t count (m - at) → head ≡ var_len seq + var_len n → all sayable (listed t 0 count) ≡ true → rising (listed t 0 count) ≡ true
      → Good seq t count n at m j top head
  good count n e =
      subst (λ (c : ℕ). c ≤ length t → seq < LIMIT → j ≡ judged_in t c (m - at) → head ≡ var_len seq + var_len n → all sayable (listed t 0 c) ≡ true → rising (listed t 0 c) ≡ true → Good seq t c n at m j top head) e (at_top n)

-- the front is written: what is left of the packet goes after it
pub front-done : (seq : ℕ) (t : List Range) (count n at : ℕ) (j : Judgement) (top : Range) (head : ℕ) (out : List ℕ) → Good seq t count n at (length out) j top head → head < j.spare → {next m : ℕ} {out' : List ℕ}
    → next ≡ at + front_len seq top n → out' ≡ splice at (front_bytes seq top n) out → m ≡ length out
    → FrontOf seq count at t out out' (Ok (record { pen = record { at = next; above = top.start }; left = n; next = m - (j.spare - head - 1) }))
front-done seq t count n at j top head out g h e w l =
    record {
      answer = ap (λ (k : ℕ). done (k - (j.spare - head - 1))) l ∙ g.ends h;
      writable = record { named = g.named; falls = g.falls; limit = omega (arith, g.sized, g.within); room = omega (arith, g.fits h, e) };
      wrote = rw (e, w) (g.wrote out);
    }
