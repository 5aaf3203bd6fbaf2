-- Laws of a line taken apart: what each step of the code is of the whole. Assumes nothing.
use Prim.Native.Nat.{ℕ, suc, ◌+◌, ◌-◌, ◌≤◌, ◌<◌}
use Prim.Native.Char.{code}
use mathlib.Core.Path.{◌≡◌, refl, sym, ap, ◌∙◌}
use mathlib.Core.Bool.{true, false}
use mathlib.Core.List.{List, ◌∷◌}
use native.Mathlib.Omega.{arith}
use native.Mathlib.Numerals.{add-one}
use lib.ListN.{length, get_or, drop, drop_of_length-le}
use lib.Seq.{drop-cons}
use lib.Dec.{eqb, ltb}
use borrow.Author.Tests.{eq-eqb, ne_eqb}
use Rattle.words.specs.Choice.{pick}
use Rattle.script.specs.Words.{word_at, letters_of, same}
use Rattle.script.specs.Numbers.{number_of}
use Rattle.script.specs.Bytes.{bytes_of}
use Rattle.script.specs.declared.Word.{Word}
use Rattle.arguments.specs.Sizes.{MAX, MORE}
use Rattle.arguments.specs.Arguments.{Leaves, leaves, has, found_from, found, most_of, counted, number_taken, bytes_taken, word_taken, argument_taken, onward_by, onward, ended_of, further_taken, taken_by, begun, called_by, taken_apart_of, called, numbered_of, Read, Step, Found}
use Rattle.arguments.specs.declared.Fault.TheVariants.{Missing}
use Rattle.arguments.specs.declared.LineFault.{LineFault}
use Rattle.arguments.specs.declared.LineFault.TheVariants.{NoCall, Bad}
use Rattle.arguments.specs.declared.Taken.{Taken}
use Rattle.std.specs.Prelude.{Some, None, Ok, Err}
use Rattle.std.specs.Option.{ok_or}

-- ---- which call: what is found from here is what is found from the start

module _ (calls name : List ℕ) (at k : ℕ) (all : Found) (inv : found_from (length calls - k) calls name at k ≡ all) where
  pub found-end : length calls ≤ k → None ≡ all
  unfolding found_from
  found-end h = let z : length calls - k ≡ 0 = omega arith in rw z at inv

  module _ (low : k < length calls) (w : Word) (e : w ≡ word_at calls at) where
    found-step : pick (has w) (pick (same (letters_of calls w) name) (Some (k, word_at calls w.end)) (found_from (length calls - (k + 1)) calls name (word_at calls w.end).end (k + 1))) None ≡ all
    unfolding found_from
    found-step =
        let one : length calls - k ≡ suc (length calls - (k + 1)) = omega arith in
        rw e (ap (λ (n : ℕ). found_from n calls name at k) (sym one) ∙ inv)

    pub found_none : ltb w.start w.end ≡ false → None ≡ all
    found_none h = rw h at found-step

    module _ (some : ltb w.start w.end ≡ true) (l : List ℕ) (q : l ≡ letters_of calls w) (f : Word) (p : f ≡ word_at calls w.end) where
      pub found_here : same l name ≡ true → Some (k, f) ≡ all
      found_here h =
          let g : same (letters_of calls w) name ≡ true = rw q at h in
          rw p (rw (some, g) at found-step)

      pub found-on : same l name ≡ false → found_from (length calls - (k + 1)) calls name f.end (k + 1) ≡ all
      found-on h =
          let g : same (letters_of calls w) name ≡ false = rw q at h in
          rw p (rw (some, g) at found-step)

-- ---- one argument

module _ (c : ℕ) (line : List ℕ) (t : Taken) (ns bs : List ℕ) where
  pub argument-none : c ≡ code "-" → leaves (Ok t) ns bs ≡ argument_taken c line t ns bs
  unfolding argument_taken
  argument-none h = rw (eq-eqb c (code "-") h)

  module _ (n : c ≡ code "-" → ⊥) (w : Word) (e : w ≡ word_at line t.at) where
    argument-word : word_taken c line w t ns bs ≡ argument_taken c line t ns bs
    unfolding argument_taken
    argument-word = rw (ne_eqb c (code "-") n, e)

    pub argument-missing : ltb w.start w.end ≡ false → leaves (Err Missing) ns bs ≡ argument_taken c line t ns bs
    argument-missing h = rw h at argument-word

    module _ (some : ltb w.start w.end ≡ true) (l : List ℕ) (q : l ≡ letters_of line w) (r : Step) where
      pub argument-bytes : c ≡ code "b" → (bs' : List ℕ) → ((ms : List ℕ) → leaves r ms bs' ≡ bytes_taken w.end t ms bs (bytes_of (length bs) l)) → leaves r ns bs' ≡ argument_taken c line t ns bs
      argument-bytes b bs' p = rw q at (p ns) ∙ rw (some, eq-eqb c (code "b") b) at argument-word

      pub argument-number : (c ≡ code "b" → ⊥) → (m : ℕ) → m ≡ most_of c → (ns' : List ℕ) → ((cs : List ℕ) → leaves r ns' cs ≡ number_taken m w.end t ns cs (number_of l)) → leaves r ns' bs ≡ argument_taken c line t ns bs
      argument-number b m o ns' p = rw (q, o) at (p bs) ∙ rw (some, ne_eqb c (code "b") b) at argument-word

-- ---- on, by what a step answers

on-good : (k : ℕ) (s : Step) (ns bs : List ℕ) (f : Taken → List ℕ → List ℕ → Leaves Read) (u : Taken) → numbered_of k s ≡ Ok u → onward_by s k ns bs f ≡ f u ns bs
on-good k (Ok t) ns bs f u e = let g : t ≡ u = cc in ap (λ (v : Taken). f v ns bs) g
on-good k (Err x) ns bs f u e = absurd (let z : ◌≡◌ {A = ℕ} 0 1 = cc in omega arith)

on-bad : (k : ℕ) (s : Step) (ns bs : List ℕ) (f : Taken → List ℕ → List ℕ → Leaves Read) (e : LineFault) → numbered_of k s ≡ Err e → onward_by s k ns bs f ≡ leaves (Err e) ns bs
on-bad k (Ok t) ns bs f e q = absurd (let z : ◌≡◌ {A = ℕ} 0 1 = cc in omega arith)
on-bad k (Err x) ns bs f e q = let g : Bad (counted k) x ≡ e = cc in ap (λ (y : LineFault). leaves (Err y) ns bs) g

module _ (a : Leaves Step) (s : Step) (k : ℕ) (ns bs : List ℕ) (f : Taken → List ℕ → List ℕ → Leaves Read) (p : leaves s ns bs ≡ a) where
  onward-as : onward a k f ≡ onward_by s k ns bs f
  onward-as = ap (λ (x : Leaves Step). onward x k f) (sym p)

  onward-good : (u : Taken) → numbered_of k s ≡ Ok u → onward a k f ≡ f u ns bs
  onward-good u e = onward-as ∙ on-good k s ns bs f u e

  onward-bad : (e : LineFault) → numbered_of k s ≡ Err e → onward a k f ≡ leaves (Err e) ns bs
  onward-bad e q = onward-as ∙ on-bad k s ns bs f e q

-- ---- further numbers: those that are left, from here, give what all give

module _ (left k : ℕ) (line : List ℕ) (t : Taken) (ns bs : List ℕ) (all : Leaves Read) (inv : further_taken left k line t ns bs ≡ all) where
  pub further-end : left ≤ 0 → (r : Read) → r ≡ ended_of k line t → leaves r ns bs ≡ all
  unfolding further_taken
  further-end h r e = let z : left ≡ 0 = omega arith in rw e (rw z at inv)

  module _ (more : 0 < left) (w : Word) (e : w ≡ word_at line t.at) where
    further-step : pick (has w) (onward (number_taken MAX w.end t ns bs (number_of (letters_of line w))) t.count (λ u ms cs. further_taken (left - 1) k line u ms cs)) (leaves (called k t.numbers t.bytes) ns bs) ≡ all
    unfolding further_taken
    further-step =
        let one : left ≡ suc (left - 1) = omega arith in
        rw e (ap (λ (n : ℕ). further_taken n k line t ns bs) (sym one) ∙ inv)

    pub further-none : ltb w.start w.end ≡ false → leaves (called k t.numbers t.bytes) ns bs ≡ all
    further-none h = rw h at further-step

    module _ (some : ltb w.start w.end ≡ true) (l : List ℕ) (q : l ≡ letters_of line w) (s : Step) (ns' : List ℕ) (p : (cs : List ℕ) → leaves s ns' cs ≡ number_taken MAX w.end t ns cs (number_of l)) where
      number-here : leaves s ns' bs ≡ number_taken MAX w.end t ns bs (number_of (letters_of line w))
      number-here = rw q at (p bs)

      further-word : onward (number_taken MAX w.end t ns bs (number_of (letters_of line w))) t.count (λ u ms cs. further_taken (left - 1) k line u ms cs) ≡ all
      further-word = rw some at further-step

      pub further-on : (u : Taken) → numbered_of t.count s ≡ Ok u → further_taken (left - 1) k line u ns' bs ≡ all
      further-on u g = sym (onward-good _ s t.count ns' bs (λ v ms cs. further_taken (left - 1) k line v ms cs) number-here u g) ∙ further-word

      pub further-off : (e : LineFault) → numbered_of t.count s ≡ Err e → leaves (Err e) ns' bs ≡ all
      further-off e g = sym (onward-bad _ s t.count ns' bs (λ v ms cs. further_taken (left - 1) k line v ms cs) number-here e g) ∙ further-word

-- ---- the letters of a form, in the same way

module _ (k : ℕ) (form : List ℕ) (i : ℕ) (line : List ℕ) (t : Taken) (ns bs : List ℕ) (all : Leaves Read) (inv : taken_by k (drop i form) line t ns bs ≡ all) where
  pub take-end : length form ≤ i → (r : Read) → r ≡ ended_of k line t → leaves r ns bs ≡ all
  unfolding taken_by
  take-end h r e = rw e (rw (drop_of_length-le form h) at inv)

  module _ (low : i < length form) where
    take_step : pick (eqb (get_or form i 0) (code "w")) (further_taken MORE k line t ns bs) (onward (argument_taken (get_or form i 0) line t ns bs) t.count (λ u ms cs. taken_by k (drop (i + 1) form) line u ms cs)) ≡ all
    unfolding taken_by
    take_step =
        let one : drop i form ≡ get_or form i 0 ∷ drop (i + 1) form = rw (add-one, drop-cons form i 0 low) refl in
        ap (λ (l : List ℕ). taken_by k l line t ns bs) (sym one) ∙ inv

    pub take-further : get_or form i 0 ≡ code "w" → (r : Read) (ns' : List ℕ) → ((cs : List ℕ) → leaves r ns' cs ≡ further_taken MORE k line t ns cs) → leaves r ns' bs ≡ all
    take-further h r ns' p = p bs ∙ rw (eq-eqb (get_or form i 0) (code "w") h) at take_step

    module _ (n : get_or form i 0 ≡ code "w" → ⊥) (s : Step) (ns' bs' : List ℕ) (p : leaves s ns' bs' ≡ argument_taken (get_or form i 0) line t ns bs) where
      take-word : onward (argument_taken (get_or form i 0) line t ns bs) t.count (λ u ms cs. taken_by k (drop (i + 1) form) line u ms cs) ≡ all
      take-word = rw (ne_eqb (get_or form i 0) (code "w") n) at take_step

      pub take_on : (u : Taken) → numbered_of t.count s ≡ Ok u → taken_by k (drop (i + 1) form) line u ns' bs' ≡ all
      take_on u g = sym (onward-good _ s t.count ns' bs' (λ v ms cs. taken_by k (drop (i + 1) form) line v ms cs) p u g) ∙ take-word

      pub take-off : (e : LineFault) → numbered_of t.count s ≡ Err e → leaves (Err e) ns' bs' ≡ all
      take-off e g = sym (onward-bad _ s t.count ns' bs' (λ v ms cs. taken_by k (drop (i + 1) form) line v ms cs) p e g) ∙ take-word

-- ---- a line

lost : (f : Found) (e : LineFault) → ok_or f NoCall ≡ Err e → (f ≡ None) × (NoCall ≡ e)
lost None e h = (refl, cc)
lost (Some x) e h = absurd (let z : ◌≡◌ {A = ℕ} 0 1 = cc in omega arith)

had : (f : Found) (x : ℕ × Word) → ok_or f NoCall ≡ Ok x → f ≡ Some x
had None x h = absurd (let z : ◌≡◌ {A = ℕ} 0 1 = cc in omega arith)
had (Some y) x h = let g : y ≡ x = cc in ap Some g

module _ (calls line : List ℕ) (from : ℕ) (ns bs : List ℕ) (w : Word) (e : w ≡ word_at line from) (l : List ℕ) (q : l ≡ letters_of line w) (f : Found) (p : f ≡ found calls l) where
  line-called : called_by calls line w.end ns bs f ≡ taken_apart_of calls line from ns bs
  unfolding taken_apart_of
  line-called = rw (p, q, e) refl

  pub line-none : (e : LineFault) → ok_or f NoCall ≡ Err e → leaves (Err e) ns bs ≡ taken_apart_of calls line from ns bs
  line-none x h = let g : (f ≡ None) × (NoCall ≡ x) = lost f x h in rw (← g.1) (rw g.0 at line-called)

  pub line_taken : (k : ℕ) (form : Word) → ok_or f NoCall ≡ Ok (k, form) → (m : List ℕ) → m ≡ letters_of calls form → (r : Leaves Read) → r ≡ taken_by k m line (begun w.end) ns bs → r ≡ taken_apart_of calls line from ns bs
  line_taken k form h m g r z = z ∙ rw g (rw (had f (k, form) h) at line-called)
