-- What a step of the rule says, and what the calls make of it. Assumes nothing.
use Prim.Native.Nat.{ℕ, ◌+◌, ◌-◌, ◌*◌, ◌≤◌, ◌<◌}
use mathlib.Core.Path.{◌≡◌, refl, sym, ap, subst, ◌∙◌}
use mathlib.Core.Bool.{Bool, true, false}
use mathlib.Core.List.{List}
use native.Mathlib.Omega.{arith}
use borrow.Author.Tests.{eqb-true, lt-ltb, le-ltb, lt-leb}
use lib.ListN.{drop, set}
use lib.Dec.{eqb}
use Rattle.words.specs.Choice.{pick}
use Rattle.words.specs.Sizes.{SLICE_SIZE, PIECES, LIMIT}
use Rattle.words.specs.Refusal.{number_of}
use Rattle.words.specs.declared.Refusal.{Refusal}
use Rattle.words.proofs.Tables.{clash}
use Rattle.words.proofs.Unique.{numbered-above}
use Rattle.channel.specs.declared.Settings.{Settings}
use Rattle.window.specs.Rule.{small_one, sliced_one, charge_of, load_of}
use Rattle.window.specs.Window.{ROWS, table, kept, since, next_of, Valid, queue_refusal, counted, after_queued, QueuedGives}
use Rattle.window.specs.Steps.{one_of, Bounded, plus, goes, waits, spot_by, judged, spot_of}
use Rattle.window.specs.declared.Load.{Load}
use Rattle.window.specs.declared.Window.{Window}
use Rattle.std.specs.Prelude.{Ok, Err}
use Rattle.window.proofs.Valid.{allowed, room, valid-counted, counted_is}
use Rattle.window.proofs.Loads.{load-snoc, total-drop}

-- ---- a spot tells the number

module _ (number gone : ℕ) (all : Load) where
  by-goes : (t : Bool) (g : ℕ) (l : Load) → eqb number 0 ≡ t → goes g l ≡ pick t (goes gone all) (waits number) → (number ≡ 0) × (g ≡ gone) × (l ≡ all)
  by-goes true g l e h = (eqb-true number 0 e, (cc), (cc))
  by-goes false g l e h = clash (cc)

  pub spot-goes : (g : ℕ) (l : Load) → goes g l ≡ spot_by number gone all → (number ≡ 0) × (g ≡ gone) × (l ≡ all)
  spot-goes g l h = by-goes (eqb number 0) g l refl h

  by-waits : (t : Bool) (k : ℕ) → eqb number 0 ≡ t → waits k ≡ pick t (goes gone all) (waits number) → k ≡ number
  by-waits true k e h = clash (cc)
  by-waits false k e h = cc

  pub spot-waits : (k : ℕ) → waits k ≡ spot_by number gone all → k ≡ number
  spot-waits k h = by-waits (eqb number 0) k refl h

-- ---- the rule, test by test

module _ (s : Settings) (gone : ℕ) (all : Load) (n : ℕ) where
  pub too_long : s.pieces * SLICE_SIZE < n → waits 12 ≡ judged s gone all n
  unfolding judged
  too_long p = rw (lt-ltb _ _ p)

  module _ (p : n ≤ s.pieces * SLICE_SIZE) where
    pub no-memory : s.max_memory_usage_bytes < all.charge → waits 7 ≡ judged s gone all n
    unfolding judged
    no-memory m = rw (le-ltb _ _ p, lt-ltb _ _ m)

    module _ (m : all.charge ≤ s.max_memory_usage_bytes) where
      pub no_slot : s.slots < all.small → waits 11 ≡ judged s gone all n
      unfolding judged
      no_slot k = rw (le-ltb _ _ p, le-ltb _ _ m, lt-ltb _ _ k)

      pub no-lane : all.small ≤ s.slots → s.lanes < all.sliced → waits 11 ≡ judged s gone all n
      unfolding judged
      no-lane k l = rw (le-ltb _ _ p, le-ltb _ _ m, le-ltb _ _ k, lt-ltb _ _ l)

      pub has_room : all.small ≤ s.slots → all.sliced ≤ s.lanes → goes gone all ≡ judged s gone all n
      unfolding judged
      has_room k l = rw (le-ltb _ _ p, le-ltb _ _ m, le-ltb _ _ k, le-ltb _ _ l)

-- ---- where the numbers are good, the judgement of the rule is the whole

-- no load of a window is too large to be added to
pub load-bounded : (w : Window) → Valid w → (k : ℕ) → Bounded (load_of (drop k (kept w)))
unfolding load_of
load-bounded w v k =
    let p = v.within in
    let g = v.settings in
    record {
      small = let d = total-drop small_one k (kept w) in omega (arith, p.small, g.slots-most);
      sliced = let d = total-drop sliced_one k (kept w) in omega (arith, p.sliced, g.lanes-most);
      charge = let d = total-drop charge_of k (kept w) in omega (arith, p.charge, g.max-most);
    }

pub stepped : (w : Window) (oldest n : ℕ) → w.first ≤ oldest → oldest ≤ next_of w → next_of w < LIMIT
    → judged w.settings (oldest - w.first) (plus (load_of (since w oldest)) (one_of n)) n ≡ spot_of w oldest n
unfolding spot_of queue_refusal judged
stepped w oldest n l h m =
    ap (λ (all : Load). judged w.settings (oldest - w.first) all n) (load-snoc (since w oldest) n)
    ∙ rw (le-ltb oldest w.first l, le-ltb (next_of w) oldest h, lt-leb LIMIT (next_of w) m)

-- ---- a message that goes has a row

pub record Fits (w : Window) (n gone : ℕ) : Type 0 where
  pub low : gone ≤ w.count
  pub row : w.count - gone < ROWS
  pub short : n ≤ PIECES * SLICE_SIZE

pub fits : (w : Window) → Valid w → (oldest n gone : ℕ) (load : Load) → goes gone load ≡ spot_of w oldest n → Fits w n gone
unfolding spot_of
fits w v oldest n gone load h =
    let p = spot-goes (queue_refusal w oldest n) _ _ gone load h in
    let a = allowed w oldest n p.0 in
    let l = a.low in
    let m = a.high in
    record { low = omega (arith, p.1); row = omega (arith, p.1, room w v oldest n a); short = omega (arith, a.short, v.settings.pieces-most) }

-- ---- what `can_queue` and `queued` make of it

module _ (w : Window) (oldest n : ℕ) where
  pub free : (gone : ℕ) (load : Load) → goes gone load ≡ spot_of w oldest n → 0 ≡ queue_refusal w oldest n
  unfolding spot_of
  free gone load h = sym (spot-goes (queue_refusal w oldest n) _ _ gone load h).0

  pub waiting : (k : ℕ) → waits k ≡ spot_of w oldest n → k ≡ queue_refusal w oldest n
  unfolding spot_of
  waiting k h = spot-waits (queue_refusal w oldest n) _ _ k h

  pub left : Valid w → (e : Refusal) → waits (number_of e) ≡ spot_of w oldest n → QueuedGives w oldest n (record { answer = Err e; state = w })
  unfolding after_queued
  left v e h = let q = waiting (number_of e) h in record { number = q; state = rw (← q, numbered-above e); valid = v }

  pub goes_on : Valid w → (gone : ℕ) (load : Load) (lens : List ℕ) → goes gone load ≡ spot_of w oldest n → lens ≡ table (drop gone (kept w))
      → QueuedGives w oldest n (record { answer = Ok tt; state = record { settings = w.settings; first = oldest; count = w.count - gone + 1; lens = set lens (w.count - gone) n; load = load } })
  unfolding spot_of after_queued
  goes_on v gone load lens h m =
      let p = spot-goes (queue_refusal w oldest n) _ _ gone load h in
      let a = allowed w oldest n p.0 in
      let s : record { settings = w.settings; first = oldest; count = w.count - gone + 1; lens = set lens (w.count - gone) n; load = load } ≡ counted w oldest n =
      rw (p.1, p.2) (counted_is w v oldest n a lens (m ∙ ap (λ (k : ℕ). table (drop k (kept w))) p.1)) in
      record { number = sym p.0; state = s ∙ rw p.0; valid = subst (λ (x : Window). Valid x) (sym s) (valid-counted w v oldest n a) }
