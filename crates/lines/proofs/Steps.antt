-- Laws of the next line. Assumes nothing.
use Prim.Native.Nat.{ℕ, ◌+◌, ◌≤◌, ◌<◌}
use mathlib.Core.Path.{◌≡◌, refl, ap, sym, ◌∙◌}
use mathlib.Core.Bool.{Bool, true, false}
use mathlib.Core.List.{List, ◌++◌}
use native.Mathlib.Omega.{arith}
use borrow.Author.Tests.{lt-ltb, le-ltb, le-leb, lt-leb, eq-eqb, ne_eqb, eqb-true, eqb-false}
use lib.Dec.{eqb}
use lib.ListN.{length, take, length-append}
use lib.Seq.{length-take-le}
use Rattle.words.specs.Lists.{splice}
use Rattle.words.proofs.Splice.{length-splice}
use Rattle.script.specs.Words.{newline, until}
use Rattle.lines.specs.Lines.{line_to_of, last_of, unended_of, step_at, step_of, rest_of, Refills, Step}
use Rattle.lines.proofs.Front.{between, front_kept}
use Rattle.lines.specs.declared.Lines.{Lines}
use Rattle.lines.specs.declared.Line.TheVariants.{End}

module _ (buf : List ℕ) (l : Lines) where
  pub step-outside : length buf < l.to → record { answer = End; state = l } ≡ step_of buf l
  unfolding step_of
  step-outside h = rw (lt-leb l.to (length buf) h)

  pub step-backward : l.to ≤ length buf → l.to < l.from → record { answer = End; state = l } ≡ step_of buf l
  unfolding step_of
  step-backward h g = rw (le-leb l.to (length buf) h, lt-leb l.from l.to g)

  module _ (h : l.to ≤ length buf) (g : l.from ≤ l.to) (e : ℕ) (u : e ≡ until newline (take l.to buf) l.from) (r : Step) where
    step_in : r ≡ step_at (length buf) l e → r ≡ step_of buf l
    unfolding step_of
    step_in f = rw (le-leb l.to (length buf) h, le-leb l.from l.to g) (f ∙ ap (step_at (length buf) l) u)

    pub step_line : e < l.to → r ≡ line_to_of l e (e + 1) → r ≡ step_of buf l
    step_line k f = step_in (f ∙ rw (lt-ltb e l.to k))

    pub step-last : l.to ≤ e → l.ended ≡ true → r ≡ last_of l → r ≡ step_of buf l
    step-last k d f = step_in (f ∙ rw (le-ltb e l.to k, d))

    pub step-unended : l.to ≤ e → l.ended ≡ false → r ≡ unended_of (length buf) l → r ≡ step_of buf l
    step-unended k d f = step_in (f ∙ rw (le-ltb e l.to k, d))

-- ---- more was read

same-zero : (n got : ℕ) (t : Bool) → eqb got 0 ≡ t → t ≡ eqb (n + got) n
same-zero n got true e = sym (eq-eqb (n + got) n (omega (arith, eqb-true got 0 e)))
same-zero n got false e = sym (ne_eqb (n + got) n (λ f. eqb-false got 0 e (omega arith)))

module _ (buf : List ℕ) (l : Lines) (n got : ℕ) (front came back : List ℕ) where
  pub refilled :
      (n ≡ length (between buf l.from l.to)) × (n ≤ length front) × (front ≡ splice 0 (between buf l.from l.to) buf) → got ≤ length came
      → Refills buf l (take n front ++ (came ++ back)) (record { from = 0; to = n + got; over = l.over; ended = eqb got 0 })
  unfolding rest_of
  refilled h g =
      let a : length front ≡ length buf = ap length h.2 ∙ length-splice 0 (between buf l.from l.to) buf in
      let m : length (take n front) ≡ n = length-take-le n front h.1 in
      record {
        front = refl;
        kept =
            ap (λ (k : ℕ). take (length (between buf l.from l.to)) (take k front ++ (came ++ back))) h.0
            ∙ ap (λ (s : List ℕ). take (length (between buf l.from l.to)) (take (length (between buf l.from l.to)) s ++ (came ++ back))) h.2
            ∙ front_kept buf l.from l.to (came ++ back) (omega (arith, h.0, h.1));
        more = omega (arith, h.0);
        within = omega (arith, length-append (take n front) (came ++ back), length-append came back);
        still = refl;
        over = same-zero n got (eqb got 0) refl ∙ ap (eqb (n + got)) h.0;
      }
