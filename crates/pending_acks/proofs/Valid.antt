-- A gatherer is its ranges and whether one was dropped: what each change of its tables makes of it. Assumes nothing.
use Prim.Native.Nat.{ℕ, ◌+◌, ◌-◌, ◌≤◌, ◌<◌}
use mathlib.Core.Path.{◌≡◌, refl, sym, ap, ◌∙◌}
use mathlib.Core.Bool.{Bool, true}
use mathlib.Core.List.{List, [], ◌∷◌, ◌++◌, append_assoc}
use native.Mathlib.Numerals.{add-one}
use native.Mathlib.Omega.{arith}
use borrow.Author.Tests.{lt-ltb, le-ltb, lt-leb, leb-false}
use lib.Dec.{ltb, leb}
use lib.ListN.{length, set, take, drop, length-append, length-drop}
use lib.Seq.{get_or-take, get_or_at, drop-cons, length-take-le}
use Rattle.std.proofs.lemmas.List.{take-append-drop}
use Rattle.words.specs.Sizes.{LIMIT}
use Rattle.words.specs.Choice.{pick}
use Rattle.words.proofs.Tables.{by-test}
use Rattle.packet_ack.specs.Ack.{RANGES}
use Rattle.packet_ack.specs.Write.{record_at}
use Rattle.packet_ack.specs.declared.Range.{Range}
use Rattle.pending_acks.specs.declared.PendingAcks.{PendingAcks}
use Rattle.pending_acks.specs.Gather.{range, Rising, inserted, kept, filled, gatherer, ranges_of, Valid, gathered, added}
use Rattle.pending_acks.specs.Steps.{moved, Swapped, Joined, Opened}
use Rattle.pending_acks.proofs.Tables.{length-filled, gone, come, turned, changes, ranges-filled}
use Rattle.pending_acks.proofs.Ranges.{rising-drop, rising-one, rising-inserted}

-- ---- a gatherer of ranges is valid, and has these ranges

pub ranges-of : (rs : List Range) (d : Bool) → length rs ≤ RANGES → ranges_of (gatherer rs d) ≡ rs
unfolding gatherer
ranges-of rs d h = ranges-filled rs RANGES h

pub dropped-of : (rs : List Range) (d : Bool) → (gatherer rs d).dropped ≡ d
unfolding gatherer
dropped-of rs d = refl

pub gatherer-valid : (rs : List Range) (d : Bool) → length rs ≤ RANGES → Rising 0 rs → Valid (gatherer rs d)
unfolding gatherer
gatherer-valid rs d h w =
    record {
      few = h;
      rises = rw (ranges-of rs d h) w;
      whole = rw (ranges-of rs d h, dropped-of rs d);
    }

pub few-kept : (rs : List Range) → length (kept rs) ≤ RANGES
few-kept rs = rw length-drop (omega arith)

pub kept-all : (rs : List Range) (d : Bool) → length rs ≤ RANGES → gathered rs d ≡ gatherer rs d
unfolding gathered
kept-all rs d h = let e : length rs - RANGES ≡ 0 = omega arith in rw (e, le-ltb RANGES (length rs) h)

pub gathered-valid : (rs : List Range) (d : Bool) → Rising 0 rs → Valid (gathered rs d)
unfolding gathered
gathered-valid rs d w = gatherer-valid (kept rs) (pick (ltb RANGES (length rs)) true d) (few-kept rs) (rising-drop (length rs - RANGES) 0 rs w)

pub added-valid : (g : PendingAcks) (x : ℕ) → Valid g → Valid (added g x)
unfolding added
added-valid g x v =
    by-test (leb LIMIT x)
    (λ t. rw t v)
    (λ t. rw t (gathered-valid (inserted x (ranges_of g)) g.dropped (rising-inserted 0 x (ranges_of g) (omega arith) (leb-false _ _ t) v.rises)))

pub added-below : (g : PendingAcks) (x : ℕ) → x < LIMIT → added g x ≡ gathered (inserted x (ranges_of g)) g.dropped
unfolding added
added-below g x h = rw (lt-leb _ _ h)

-- ---- by its fields

pub gatherer-is : (g : PendingAcks) (rs : List Range) (d : Bool) → g.count ≡ length rs → g.dropped ≡ d → g.ranges ≡ filled RANGES rs → g ≡ gatherer rs d
unfolding gatherer
gatherer-is g rs d a b r = λ i. record { count = a i; dropped = b i; ranges = r i }

drop-record : (rs : List Range) (k : ℕ) → k < length rs → drop k rs ≡ record_at rs k ∷ drop (k + 1) rs
drop-record rs k h = rw add-one (drop-cons rs k (range 0 0) h)

module _ (g : PendingAcks) (v : Valid g) where
  table-is : g.ranges ≡ filled RANGES (ranges_of g)
  unfolding gatherer
  table-is = ap (λ (h : PendingAcks). h.ranges) v.whole

  pub table-long : length g.ranges ≡ RANGES
  table-long = ap length table-is ∙ length-filled RANGES _

  pub count-is : length (ranges_of g) ≡ g.count
  count-is = let h = v.few in let l = table-long in length-take-le g.count g.ranges (omega arith)

  -- one sequence more leaves it valid
  pub more-valid : {s : PendingAcks} (x : ℕ) → x < LIMIT → s ≡ gathered (inserted x (ranges_of g)) g.dropped → Valid s
  more-valid x h e = rw e (gathered-valid (inserted x (ranges_of g)) g.dropped (rising-inserted 0 x (ranges_of g) (omega arith) h v.rises))

  -- ---- no range changed

  pub same-is : {rs : List Range} → rs ≡ ranges_of g → g ≡ gathered rs g.dropped
  same-is {rs} e =
      let h = v.few in
      let c = count-is in
      v.whole ∙ sym (ap (λ (l : List Range). gathered l g.dropped) e ∙ kept-all (ranges_of g) g.dropped (omega arith))

  -- ---- one range changed

  same_count : {rs : List Range} {k : ℕ} {f : Range → Range} → Swapped (ranges_of g) rs k f → g.count ≡ length rs
  same_count s =
      sym count-is ∙ ap length s.was ∙ length-append s.before (s.here ∷ s.after) ∙ sym (length-append s.before _) ∙ sym (ap length s.is)

  few-swapped : {rs : List Range} {k : ℕ} {f : Range → Range} → Swapped (ranges_of g) rs k f → length rs ≤ RANGES
  few-swapped {rs} s = let e : g.count ≡ length rs = same_count s in let h = v.few in omega arith

  pub in_table : {rs : List Range} {k : ℕ} {f : Range → Range} → Swapped (ranges_of g) rs k f → k < RANGES
  in_table s =
      let e = ap length s.was ∙ length-append s.before (s.here ∷ s.after) in
      let p = s.place in
      let h = v.few in
      let c = count-is in
      omega arith

  module _ {rs : List Range} {k : ℕ} (f : Range → Range) (s : Swapped (ranges_of g) rs k f) where
    -- the range at k, as the table has it
    here-is : record_at g.ranges k ≡ s.here
    here-is =
        let b = ap length s.was ∙ length-append s.before (s.here ∷ s.after) in
        let p = s.place in
        let c = count-is in
        sym (get_or-take g.count g.ranges k (range 0 0) (omega arith)) ∙ ap (λ (l : List Range). record_at l k) s.was ∙ get_or_at s.before s.here s.after (range 0 0) k s.place

    pub one-swapped : record { count = g.count; dropped = g.dropped; ranges = set g.ranges k (f (record_at g.ranges k)) } ≡ gathered rs g.dropped
    one-swapped =
        gatherer-is (record { count = g.count; dropped = g.dropped; ranges = set g.ranges k (f (record_at g.ranges k)) }) rs g.dropped (same_count s) refl
        (ap (λ (r : Range). set g.ranges k (f r)) here-is
        ∙ ap (λ (l : List Range). set l k (f s.here)) (table-is ∙ ap (filled RANGES) s.was)
        ∙ rw (← s.place) (changes s.before s.after s.here (f s.here) RANGES)
        ∙ sym (ap (filled RANGES) s.is))
        ∙ sym (kept-all rs g.dropped (few-swapped s))

  -- ---- two ranges joined

  module _ {rs : List Range} {k : ℕ} (j : Joined (ranges_of g) rs k) where
    count-joined : length rs + 1 ≡ g.count
    count-joined =
        let a = ap length j.is ∙ length-append j.before (range j.lower.start j.upper.end ∷ j.after) in
        let b = ap length j.was ∙ length-append j.before (j.lower ∷ j.upper ∷ j.after) in
        let c = count-is in
        omega arith

    pub few-joined : length rs ≤ RANGES
    few-joined = let e = count-joined in let h = v.few in omega arith

    pub next-too : k + 1 < g.count
    next-too =
        let b = ap length j.was ∙ length-append j.before (j.lower ∷ j.upper ∷ j.after) in
        let p = j.place in
        let c = count-is in
        omega arith

    -- the two, as the table has them
    lower-is : record_at g.ranges k ≡ j.lower
    lower-is =
        let b = next-too in
        sym (get_or-take g.count g.ranges k (range 0 0) (omega arith)) ∙ ap (λ (l : List Range). record_at l k) j.was ∙ get_or_at j.before j.lower (j.upper ∷ j.after) (range 0 0) k j.place

    upper-is : record_at g.ranges (k + 1) ≡ j.upper
    upper-is =
        let b = next-too in
        let l : length (j.before ++ j.lower ∷ []) ≡ k + 1 = length-append j.before (j.lower ∷ []) ∙ (let p = j.place in omega arith) in
        sym (get_or-take g.count g.ranges (k + 1) (range 0 0) (omega arith))
        ∙ ap (λ (l : List Range). record_at l (k + 1)) (j.was ∙ sym (append_assoc j.before (j.lower ∷ []) (j.upper ∷ j.after)))
        ∙ get_or_at (j.before ++ j.lower ∷ []) j.upper j.after (range 0 0) (k + 1) l

    pub joined-table : moved (k + 1) (g.count - 1) (range 0 0) (set g.ranges k (range (record_at g.ranges k).start (record_at g.ranges (k + 1)).end)) ≡ filled RANGES rs
    joined-table =
        let one : Range = range j.lower.start j.upper.end in
        let low : (j.before ++ one ∷ []) ++ j.after ≡ j.before ++ one ∷ j.after = append_assoc j.before (one ∷ []) j.after in
        let both : (j.before ++ one ∷ []) ++ j.upper ∷ j.after ≡ j.before ++ one ∷ j.upper ∷ j.after = append_assoc j.before (one ∷ []) (j.upper ∷ j.after) in
        let l : length (j.before ++ one ∷ []) ≡ k + 1 = length-append j.before (one ∷ []) ∙ (let p = j.place in omega arith) in
        let m : length ((j.before ++ one ∷ []) ++ j.after) ≡ g.count - 1 = ap length low ∙ length-append j.before (one ∷ j.after) ∙ (let c = count-joined in let e = ap length j.is ∙ length-append j.before (one ∷ j.after) in omega arith) in
        let h = v.few in
        ap (λ (r : Range). moved (k + 1) (g.count - 1) (range 0 0) (set g.ranges k (range r.start (record_at g.ranges (k + 1)).end))) lower-is
        ∙ ap (λ (r : Range). moved (k + 1) (g.count - 1) (range 0 0) (set g.ranges k (range j.lower.start r.end))) upper-is
        ∙ ap (λ (t : List Range). moved (k + 1) (g.count - 1) (range 0 0) (set t k one)) (table-is ∙ ap (filled RANGES) j.was)
        ∙ ap (moved (k + 1) (g.count - 1) (range 0 0)) (rw (← j.place) (changes j.before (j.upper ∷ j.after) j.lower one RANGES) ∙ ap (filled RANGES) (sym both))
        ∙ rw (← l, ← m) (gone (j.before ++ one ∷ []) j.after j.upper 63 (omega arith))
        ∙ ap (filled RANGES) low
        ∙ sym (ap (filled RANGES) j.is)

    pub joined_is : (t : List Range) → t ≡ moved (k + 1) (g.count - 1) (range 0 0) (set g.ranges k (range (record_at g.ranges k).start (record_at g.ranges (k + 1)).end))
        → record { count = g.count - 1; dropped = g.dropped; ranges = t } ≡ gatherer rs g.dropped
    joined_is t p =
        let c = count-joined in
        gatherer-is (record { count = g.count - 1; dropped = g.dropped; ranges = t }) rs g.dropped (omega arith) refl (p ∙ joined-table)

    pub joined-valid : {s : PendingAcks} → s ≡ gatherer rs g.dropped → Valid s
    joined-valid e = rw e (gatherer-valid rs g.dropped few-joined (rw j.is (rising-one 0 j.before j.after j.lower j.upper (rw j.was at v.rises))))

  -- where there are two to join
  pub neighbours : {k : ℕ} → k + 1 < g.count → (qs : List Range) × Joined (ranges_of g) qs k
  neighbours {k} h =
      let rs = ranges_of g in
      let c = count-is in (
        take k rs ++ range (record_at rs k).start (record_at rs (k + 1)).end ∷ drop (k + 1 + 1) rs,
        record {
          before = take k rs;
          lower = record_at rs k;
          upper = record_at rs (k + 1);
          after = drop (k + 1 + 1) rs;
          was =
              sym (take-append-drop k rs)
              ∙ ap (λ (l : List Range). take k rs ++ l) (drop-record rs k (omega arith) ∙ ap (λ (l : List Range). record_at rs k ∷ l) (drop-record rs (k + 1) (omega arith)));
          is = refl;
          place = length-take-le k rs (omega arith);
        },
      )

  -- ---- one range more

  module _ {rs : List Range} {k x : ℕ} (o : Opened (ranges_of g) rs k (range x (x + 1))) where
    count-opened : length rs ≡ g.count + 1
    count-opened =
        let a = ap length o.is ∙ length-append o.before (range x (x + 1) ∷ o.after) in
        let b = ap length o.was ∙ length-append o.before o.after in
        let c = count-is in
        omega arith

    pub place_opened : k ≤ g.count
    place_opened =
        let b = ap length o.was ∙ length-append o.before o.after in
        let p = o.place in
        let c = count-is in
        omega arith

    parts-count : length (o.before ++ o.after) ≡ g.count
    parts-count = sym (ap length o.was) ∙ count-is

    pub opened-is : g.count < RANGES → (t : List Range) → t ≡ moved g.count k (range x (x + 1)) g.ranges
        → record { count = g.count + 1; dropped = g.dropped; ranges = t } ≡ gathered rs g.dropped
    opened-is h t p =
        let c = count-opened in
        let d = parts-count in
        gatherer-is (record { count = g.count + 1; dropped = g.dropped; ranges = t }) rs g.dropped (sym c) refl
        (p
        ∙ ap (moved g.count k (range x (x + 1))) (table-is ∙ ap (filled RANGES) o.was)
        ∙ rw (← o.place, ← d) (come o.before o.after (range x (x + 1)) 63 (omega arith))
        ∙ sym (ap (filled RANGES) o.is))
        ∙ sym (kept-all rs g.dropped (omega arith))

    module _ (h : RANGES ≤ g.count) where
      full : g.count ≡ RANGES
      full = let f = v.few in omega arith

      one-dropped : gathered rs g.dropped ≡ gatherer (drop 1 rs) true
      unfolding gathered
      one-dropped =
          let c = count-opened in
          let f = full in
          let e : length rs - RANGES ≡ 1 = omega arith in
          let l : RANGES < length rs = omega arith in
          rw (e, lt-ltb RANGES (length rs) l)

      -- the newcomer is the lowest
      pub opened-none : k ≡ 0 → record { count = g.count; dropped = true; ranges = g.ranges } ≡ gathered rs g.dropped
      opened-none z =
          gatherer-is (record { count = g.count; dropped = true; ranges = g.ranges }) (ranges_of g) true (sym count-is) refl table-is
          ∙ ap (λ (l : List Range). gatherer l true) (sym (lowest o.before (o.place ∙ z) o.was o.is))
          ∙ sym one-dropped
        where
          lowest : (bs : List Range) → length bs ≡ 0 → ranges_of g ≡ bs ++ o.after → rs ≡ bs ++ range x (x + 1) ∷ o.after → drop 1 rs ≡ ranges_of g
          lowest [] l was is = ap (drop 1) is ∙ sym was
          lowest (b ∷ bs) l was is = absurd (omega arith)

      -- another is
      turned-table : 0 < k → moved 0 (k - 1) (range x (x + 1)) g.ranges ≡ filled RANGES (drop 1 rs)
      turned-table s = by_front o.before o.place o.was o.is
        where
          by_front : (bs : List Range) → length bs ≡ k → ranges_of g ≡ bs ++ o.after → rs ≡ bs ++ range x (x + 1) ∷ o.after → moved 0 (k - 1) (range x (x + 1)) g.ranges ≡ filled RANGES (drop 1 rs)
          by_front [] l was is = absurd (omega arith)
          by_front (b ∷ bs) l was is =
              let n : length bs ≡ k - 1 = omega arith in
              let p = place_opened in
              let u = full in
              ap (moved 0 (k - 1) (range x (x + 1))) (table-is ∙ ap (filled RANGES) was)
              ∙ rw (← n) (turned b bs o.after (range x (x + 1)) 63 (omega arith))
              ∙ sym (ap (λ (l : List Range). filled RANGES (drop 1 l)) is)

      pub opened-full : (t : List Range) → 0 < k → t ≡ moved 0 (k - 1) (range x (x + 1)) g.ranges → record { count = g.count; dropped = true; ranges = t } ≡ gathered rs g.dropped
      opened-full t some p =
          let c = count-opened in
          let d = length-drop 1 rs in
          gatherer-is (record { count = g.count; dropped = true; ranges = t }) (drop 1 rs) true (omega arith) refl (p ∙ turned-table some)
          ∙ sym one-dropped
