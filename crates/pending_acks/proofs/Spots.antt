-- Where a sequence goes, from what the search found, and what the search finds. Assumes nothing.
use Prim.Native.Nat.{ℕ, zero, suc, ◌+◌, ◌-◌, ◌≤◌, ◌<◌}
use mathlib.Core.Path.{◌≡◌, refl, sym, ap, ◌∙◌}
use mathlib.Core.Bool.{Bool, true, false}
use mathlib.Core.List.{List, [], ◌∷◌, ◌++◌, append_assoc}
use native.Mathlib.Nat.{not-suc-le-zero, le_of_suc-le-suc}
use native.Mathlib.Omega.{arith}
use borrow.Author.Tests.{eqb-true, eqb-false, leb-true, leb-false, lt-ltb, le-ltb}
use lib.Dec.{ltb, leb, eqb}
use lib.ListN.{length, get_or, length-append}
use lib.Seq.{get_or-append_seam, get_or_at}
use Rattle.std.specs.List.Sorted.{IsPartitionedBy, IsPartitionPoint}
use Rattle.std.proofs.lemmas.List.Sorted.{IsPartitionedBy-leb}
use Rattle.words.specs.Choice.{pick}
use Rattle.words.specs.Lists.{All}
use Rattle.words.proofs.Lists.{all_snoc}
use Rattle.words.proofs.Tables.{clash}
use Rattle.packet_ack.specs.declared.Range.{Range}
use Rattle.packet_ack.specs.Write.{record_at}
use Rattle.pending_acks.specs.Gather.{range, Rising, joined, inserted}
use Rattle.pending_acks.specs.Steps.{Placed, starts_at_of, Swapped, Joined, Opened}
use Rattle.pending_acks.proofs.Ranges.{Beyond, Under, passes, apart, just-below, inside, just-above, touching, parted, alone, first_one, start-above, Top, top, beyond-first}

abbrev blank : Range
blank = range 0 0

-- whether the first of some ranges starts at y
abbrev meets : List Range → ℕ → Bool
meets [] y = false
meets (q ∷ qs) y = eqb q.start y

meets_at : (bs es : List Range) (y : ℕ) → pick (ltb (length bs) (length (bs ++ es))) (eqb (get_or (bs ++ es) (length bs) blank).start y) false ≡ meets es y
meets_at bs [] y = let h : length (bs ++ []) ≤ length bs = rw length-append (omega arith) in simp (le-ltb _ _ h)
meets_at bs (q ∷ qs) y =
    let h : length bs < length (bs ++ q ∷ qs) = rw length-append (omega arith) in simp (lt-ltb _ _ h) (ap (λ (r : Range). eqb r.start y) (get_or-append_seam bs q qs blank))

first_of : (es : List Range) (y : ℕ) → meets es y ≡ true → (q : Range) × (qs : List Range) × (es ≡ q ∷ qs) × (q.start ≡ y)
first_of [] y e = clash (cc)
first_of (q ∷ qs) y e = (q, qs, refl, eqb-true _ _ e)

not-joined : (r : Range) (es : List Range) → meets es r.end ≡ false → joined r es ≡ r ∷ es
not-joined r [] e = alone r
not-joined r (q ∷ qs) e = parted r q qs (λ h. eqb-false _ _ e (sym h))

opened-first : (x : ℕ) (es : List Range) → Beyond x es → meets es (x + 1) ≡ false → inserted x es ≡ range x (x + 1) ∷ es
unfolding Beyond
opened-first x [] b e = first_one x
opened-first x (q ∷ qs) b e = let f = eqb-false q.start (x + 1) e in apart x q qs (omega (arith, f))

-- x lies between two parts of the ranges, apart from the lower ones
pub record Gap (rs : List Range) (x k : ℕ) : Type 0 where
  pub before : List Range
  pub after : List Range
  pub was : rs ≡ before ++ after
  pub place : length before ≡ k
  pub passed : All (Under x) before
  pub beyond : Beyond x after

-- ---- ranges, of which k start at or below x

module _ (rs : List Range) (x : ℕ) (rises : Rising 0 rs) (k : ℕ) (p : Placed rs x k) where
  -- whether the next one starts just above x
  met : (bs es : List Range) → rs ≡ bs ++ es → length bs ≡ k → starts_at_of rs k (x + 1) ≡ meets es (x + 1)
  met bs es e q = rw (← q, e) (meets_at bs es (x + 1))

  pub at_top : 0 < k → Top rs x (k - 1)
  at_top s =
      let w = p.within in
      let e : suc (k - 1) ≡ k = omega arith in
      top x blank 0 rs (k - 1) rises (omega arith) (p.low s) (λ h. rw e (p.high (omega arith)))

  module _ (s : 0 < k) where
    -- the range below x, as the table has it
    here_end : (at_top s).here.end ≡ (record_at rs (k - 1)).end
    here_end =
        let t = at_top s in
        ap (λ (r : Range). r.end) (sym (ap (λ (l : List Range). get_or l (k - 1) blank) t.was ∙ get_or_at t.before t.here t.after blank (k - 1) t.place))

    -- those below it and it
    snoc-was : rs ≡ ((at_top s).before ++ (at_top s).here ∷ []) ++ (at_top s).after
    snoc-was = (at_top s).was ∙ sym (append_assoc (at_top s).before ((at_top s).here ∷ []) (at_top s).after)

    snoc-place : length ((at_top s).before ++ (at_top s).here ∷ []) ≡ k
    snoc-place = length-append (at_top s).before ((at_top s).here ∷ []) ∙ (let e = (at_top s).place in omega arith)

    -- what x makes of it and those above it
    from-here : inserted x rs ≡ (at_top s).before ++ inserted x ((at_top s).here ∷ (at_top s).after)
    from-here = ap (inserted x) (at_top s).was ∙ passes x (at_top s).before ((at_top s).here ∷ (at_top s).after) (at_top s).passed

    pub is-in : x < (record_at rs (k - 1)).end → inserted x rs ≡ rs
    is-in h =
        let t = at_top s in
        from-here ∙ ap (λ (l : List Range). t.before ++ l) (inside x t.here t.after t.starts (rw here_end h)) ∙ sym t.was

    module _ (h : x ≡ (record_at rs (k - 1)).end) where
      on-end : inserted x ((at_top s).here ∷ (at_top s).after) ≡ joined (range (at_top s).here.start (x + 1)) (at_top s).after
      on-end = just-above x (at_top s).here (at_top s).after (at_top s).some (h ∙ sym here_end)

      pub joins : starts_at_of rs k (x + 1) ≡ true → Joined rs (inserted x rs) (k - 1)
      joins m =
          let t = at_top s in
          let f = first_of t.after (x + 1) (sym (met ((at_top s).before ++ (at_top s).here ∷ []) (at_top s).after snoc-was snoc-place) ∙ m) in
          record {
            before = t.before;
            lower = t.here;
            upper = f.0;
            after = f.1;
            was = t.was ∙ ap (λ (l : List Range). t.before ++ t.here ∷ l) f.2;
            is =
                from-here
                ∙ ap (λ (l : List Range). t.before ++ l) (on-end ∙ ap (joined (range t.here.start (x + 1))) f.2 ∙ touching (range t.here.start (x + 1)) f.0 f.1 (sym f.3));
            place = t.place;
          }

      pub extends : starts_at_of rs k (x + 1) ≡ false → Swapped rs (inserted x rs) (k - 1) (λ (r : Range). range r.start (x + 1))
      extends m =
          let t = at_top s in
          record {
            before = t.before;
            here = t.here;
            after = t.after;
            was = t.was;
            is =
                from-here
                ∙ ap (λ (l : List Range). t.before ++ l) (on-end ∙ not-joined (range t.here.start (x + 1)) t.after (sym (met ((at_top s).before ++ (at_top s).here ∷ []) (at_top s).after snoc-was snoc-place) ∙ m));
            place = t.place;
          }

    pub gap-above : (record_at rs (k - 1)).end < x → Gap rs x k
    gap-above h =
        let t = at_top s in
        let u : t.here.end < x = rw here_end h in
        record {
          before = t.before ++ t.here ∷ [];
          after = t.after;
          was = snoc-was;
          place = snoc-place;
          passed = all_snoc (Under x) t.before t.here t.passed (t.some, u);
          beyond = t.beyond;
        }

  pub gap-first : k ≡ 0 → Gap rs x k
  unfolding All
  gap-first e =
      record {
        before = [];
        after = rs;
        was = refl;
        place = sym e;
        passed = tt;
        beyond = beyond-first x rs blank (λ h. rw e at (p.high (omega arith)));
      }

  module _ (g : Gap rs x k) where
    past : inserted x rs ≡ g.before ++ inserted x g.after
    past = ap (inserted x) g.was ∙ passes x g.before g.after g.passed

    pub lowers : starts_at_of rs k (x + 1) ≡ true → Swapped rs (inserted x rs) k (λ (r : Range). range x r.end)
    lowers m =
        let f = first_of g.after (x + 1) (sym (met g.before g.after g.was g.place) ∙ m) in
        record {
          before = g.before;
          here = f.0;
          after = f.1;
          was = g.was ∙ ap (λ (l : List Range). g.before ++ l) f.2;
          is = past ∙ ap (λ (l : List Range). g.before ++ l) (ap (inserted x) f.2 ∙ just-below x f.0 f.1 (sym f.3));
          place = g.place;
        }

    pub opens : starts_at_of rs k (x + 1) ≡ false → Opened rs (inserted x rs) k (range x (x + 1))
    opens m =
        record {
          before = g.before;
          after = g.after;
          was = g.was;
          is = past ∙ ap (λ (l : List Range). g.before ++ l) (opened-first x g.after g.beyond (sym (met g.before g.after g.was g.place) ∙ m));
          place = g.place;
        }

-- ---- the search

rising-sorted : (m : ℕ) (rs : List Range) → Rising m rs → (i j : ℕ) (d : Range) → i ≤ j → j < length rs → (get_or rs i d).start ≤ (get_or rs j d).start
unfolding Rising
rising-sorted m [] w i j d h l = absurd (not-suc-le-zero l)
rising-sorted m (r ∷ rs) w zero zero d h l = omega arith
rising-sorted m (r ∷ rs) w zero (suc j) d h l = let k = start-above (r.end + 1) rs j d w.3 (le_of_suc-le-suc l) in let s = w.1 in omega arith
rising-sorted m (r ∷ rs) w (suc i) zero d h l = absurd (omega arith)
rising-sorted m (r ∷ rs) w (suc i) (suc j) d h l = rising-sorted (r.end + 1) rs w.3 i j d (le_of_suc-le-suc h) (le_of_suc-le-suc l)

pub parted-by : (rs : List Range) (x : ℕ) → Rising 0 rs → IsPartitionedBy (λ (r : Range). leb r.start x) rs
parted-by rs x w = IsPartitionedBy-leb (λ (r : Range). r.start) rs x (rising-sorted 0 rs w)

pub placed-by : (rs : List Range) (x k : ℕ) → k ≤ length rs → IsPartitionPoint (λ (r : Range). leb r.start x ≡ true) (λ (r : Range). leb r.start x ≡ false) rs k → Placed rs x k
placed-by rs x k h p =
    record {
      within = h;
      low = λ s. leb-true _ _ (p.0 (k - 1) blank (omega arith) (omega arith));
      high = λ l. leb-false _ _ (p.1 k blank (omega arith) l);
    }
