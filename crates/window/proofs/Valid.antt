-- What is so of a window that its own calls made, and that counting a message keeps it so. Assumes nothing.
use Prim.Native.Nat.{ℕ, ◌+◌, ◌-◌, ◌*◌, ◌≤◌, ◌<◌}
use mathlib.Core.Path.{◌≡◌, refl, sym, ap, subst, ◌∙◌}
use mathlib.Core.List.{List, [], ◌∷◌, ◌++◌}
use native.Mathlib.Omega.{arith}
use native.Mathlib.Nat.{zero-add}
use native.Mathlib.Numerals.{add-one}
use borrow.Author.Tests.{ltb-false, leb-false}
use lib.ListN.{length, get_or, set, take, drop, replicate, length-append, length-drop, length-replicate}
use lib.Seq.{drop-cons, get_or-take, length-take-le}
use lib.Dec.{ltb, leb}
use Rattle.words.specs.Sizes.{SLICE_SIZE, LIMIT}
use Rattle.words.specs.Lists.{All, total, splice}
use Rattle.words.proofs.Lists.{none-refused}
use Rattle.words.proofs.Splice.{length-splice, splice-splice}
use Rattle.words.proofs.Tables.{part-here}
use Rattle.channel.specs.Settings.{Good, SettledGives}
use Rattle.channel.specs.declared.Settings.{Settings}
use Rattle.channel.specs.declared.Settled.{Settled}
use Rattle.window.specs.Rule.{load_of, rule_tests}
use Rattle.window.specs.Window.{ROWS, table, window_of, new_of, kept, since, next_of, Within, Valid, MadeGives, queue_refusal, counted}
use Rattle.window.specs.Steps.{one_of, plus}
use Rattle.window.specs.declared.Window.{Window}
use Rattle.window.proofs.Loads.{load_cons, load-length}

-- ---- what fits a receiver is no more than a window has rows

pub within-rows : (s : Settings) → Good s → (lens : List ℕ) → Within s (load_of lens) → length lens ≤ ROWS
within-rows s g lens w = omega (arith, load-length lens, w.small, w.sliced, g.slots-most, g.lanes-most)

pub take-table : (lens : List ℕ) → length lens ≤ ROWS → take (length lens) (table lens) ≡ lens
take-table lens h =
    let e = length-replicate {A = ℕ} ROWS 0 in
    part-here 0 lens (replicate ROWS 0) (omega arith)

-- ---- a window by what it keeps

pub kept_of : (s : Settings) (first : ℕ) (lens : List ℕ) → length lens ≤ ROWS → kept (window_of s first lens) ≡ lens
unfolding window_of
kept_of s first lens h = take-table lens h

pub valid-of : (s : Settings) (first : ℕ) (lens : List ℕ) → Good s → Within s (load_of lens) → first + length lens ≤ LIMIT → Valid (window_of s first lens)
unfolding window_of
valid-of s first lens g w h =
    let e = kept_of s first lens (within-rows s g lens w) in
    record { settings = g; shape = ap (window_of s first) (sym e); within = rw e w; next-most = h }

pub valid-new : (s : Settings) → Good s → Valid (new_of s)
unfolding load_of total
valid-new s g = valid-of s 0 [] g (record { small = omega arith; sliced = omega arith; charge = omega arith }) (omega arith)

-- ---- the parts of a valid one

module _ (w : Window) (v : Valid w) where
  pub lens-are : w.lens ≡ table (kept w)
  unfolding window_of
  lens-are = ap (λ (x : Window). x.lens) v.shape

  pub load_is : w.load ≡ load_of (kept w)
  unfolding window_of
  load_is = ap (λ (x : Window). x.load) v.shape

  pub count-is : w.count ≡ length (kept w)
  unfolding window_of
  count-is = ap (λ (x : Window). x.count) v.shape

  pub count_most : w.count ≤ ROWS
  count_most = omega (arith, count-is, within-rows w.settings v.settings (kept w) v.within)

  pub lens-long : length w.lens ≡ ROWS
  lens-long = ap length lens-are ∙ length-splice 0 (kept w) (replicate ROWS 0) ∙ length-replicate {A = ℕ} ROWS 0

  -- the load of those from the i-th on, by the i-th and the others
  pub load_step : (i : ℕ) → i < w.count → load_of (drop i (kept w)) ≡ plus (one_of (get_or w.lens i 0)) (load_of (drop (i + 1) (kept w)))
  load_step i h =
      let l : i < length (kept w) = omega (arith, count-is) in
      rw (drop-cons (kept w) i 0 l, get_or-take w.count w.lens i 0 h, load_cons, add-one)

-- ---- where the rule has no refusal

pub record Allowed (w : Window) (oldest n : ℕ) : Type 0 where
  pub low : w.first ≤ oldest
  pub high : oldest ≤ next_of w
  pub number : next_of w < LIMIT
  pub short : n ≤ w.settings.pieces * SLICE_SIZE
  pub within : Within w.settings (load_of (since w oldest ++ (n ∷ [])))

pub allowed : (w : Window) (oldest n : ℕ) → queue_refusal w oldest n ≡ 0 → Allowed w oldest n
unfolding queue_refusal All
allowed w oldest n e =
    let a =
    none-refused (
    (ltb oldest w.first, 13) ∷
    (ltb (next_of w) oldest, 13) ∷
    (leb LIMIT (next_of w), 13) ∷
    rule_tests w.settings (load_of (since w oldest ++ (n ∷ []))) n
    )
    refl e in
    record {
      low = ltb-false _ _ a.0;
      high = ltb-false _ _ a.1.0;
      number = leb-false _ _ a.1.1.0;
      short = ltb-false _ _ a.1.1.1.0;
      within = record {
        charge = ltb-false _ _ a.1.1.1.1.0;
        small = ltb-false _ _ a.1.1.1.1.1.0;
        sliced = ltb-false _ _ a.1.1.1.1.1.1.0;
      };
    }

-- one length more in a table
table-snoc : (lens : List ℕ) (n : ℕ) → set (table lens) (length lens) n ≡ table (lens ++ (n ∷ []))
unfolding splice
table-snoc lens n = rw zero-add at (splice-splice 0 lens (n ∷ []) (replicate ROWS 0))

module _ (w : Window) (v : Valid w) (oldest n : ℕ) (a : Allowed w oldest n) where
  -- how many there are from the oldest unacknowledged one on
  pub since-long : length (since w oldest) ≡ w.count - (oldest - w.first)
  since-long = length-drop (oldest - w.first) (kept w) ∙ ap (λ (k : ℕ). k - (oldest - w.first)) (sym (count-is w v))

  count-more : length (since w oldest ++ (n ∷ [])) ≡ w.count - (oldest - w.first) + 1
  count-more = length-append (since w oldest) (n ∷ []) ∙ ap (λ (k : ℕ). k + 1) since-long

  pub room : w.count - (oldest - w.first) < ROWS
  room = omega (arith, count-more, within-rows w.settings v.settings (since w oldest ++ (n ∷ [])) a.within)

  pub valid-counted : Valid (counted w oldest n)
  valid-counted =
      valid-of w.settings oldest (since w oldest ++ (n ∷ [])) v.settings a.within
      (let e = count-more in let l = a.low in let h = a.high in let m = a.number in omega arith)

  -- the state that the code puts together
  pub counted_is : (lens : List ℕ) → lens ≡ table (since w oldest)
      → record {
        settings = w.settings;
        first = oldest;
        count = w.count - (oldest - w.first) + 1;
        lens = set lens (w.count - (oldest - w.first)) n;
        load = load_of (since w oldest ++ (n ∷ []));
      }
      ≡ counted w oldest n
  unfolding window_of
  counted_is lens e =
      let t : set lens (w.count - (oldest - w.first)) n ≡ table (since w oldest ++ (n ∷ [])) = rw (e, ← since-long) (table-snoc (since w oldest) n) in
      rw (t, count-more)

-- ---- a new one

pub made : (s : Settings) (t : Settled) (w : Window) → SettledGives s t → w ≡ new_of t.settings → MadeGives s (record { answer = t.answer; state = w })
made s t w g e =
    record {
      number = g.number;
      state = e ∙ ap new_of g.settings;
      valid = subst (λ (x : Window). Valid x) (sym e) (valid-new t.settings g.good);
    }

-- ---- lengths that are moved up

module _ (lens : List ℕ) (from to : ℕ) (le : from ≤ to) (fits : to ≤ length lens) where
  pub length_part : length (drop from (take to lens)) ≡ to - from
  length_part = length-drop from (take to lens) ∙ ap (λ (k : ℕ). k - from) (length-take-le to lens fits)
