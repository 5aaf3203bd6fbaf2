-- One outcome only: two results that meet a promise are equal. Assumes nothing.
use Prim.Native.Nat.{ℕ}
use mathlib.Core.Path.{◌≡◌, refl, sym, ap, ◌∙◌}
use mathlib.Core.List.{List}
use lib.Dec.{eqb}
use Rattle.words.specs.Choice.{pick}
use Rattle.words.proofs.Unique.{told-apart, refusal_of, refusal-undone, numbered-above}
use Rattle.slice_constructor.specs.declared.SliceConstructor.{SliceConstructor}
use Rattle.std.specs.Prelude.{Result, Ok, Err, Option, Some, None}
use Rattle.words.specs.declared.Refusal.{Refusal}
use Rattle.slice_constructor.specs.Collect.{begin_number, Begun, BeginGives, Collection, missing, whole, refused, collect_of, Collected, CollectGives}

-- ---- a beginning

abbrev begin_from : ℕ → Result (Unit {0}) Refusal
begin_from n = pick (eqb n 0) (Ok tt) (Err (refusal_of n))

begin-undone : (a : Result (Unit {0}) Refusal) → begin_from (begin_number a) ≡ a
begin-undone (Ok tt) = refl
begin-undone (Err e) = rw (numbered-above e) (ap Err (refusal-undone e))

pub one-begun : (id n : ℕ) (r q : Begun) → BeginGives id n r → BeginGives id n q → r ≡ q
one-begun id n r q x y =
    let a : r.answer ≡ q.answer = told-apart begin_number begin_from begin-undone r.answer q.answer (x.number ∙ sym y.number) in
    let s : r.state ≡ q.state = x.state ∙ sym y.state in
    ap (λ (b : Result (Unit {0}) Refusal). record { answer = b; state = r.state }) a ∙ ap (λ (c : SliceConstructor). record { answer = q.answer; state = c }) s

-- ---- a piece

abbrev collect_from : Collection → Result (Option ℕ) Refusal
collect_from missing = Ok None
collect_from (whole n) = Ok (Some n)
collect_from (refused n) = Err (refusal_of n)

collect-undone : (a : Result (Option ℕ) Refusal) → collect_from (collect_of a) ≡ a
collect-undone (Ok None) = refl
collect-undone (Ok (Some n)) = refl
collect-undone (Err e) = ap Err (refusal-undone e)

pub one-collected : (c : SliceConstructor) (i : ℕ) (bs lane lane₁ lane₂ : List ℕ) (r q : Collected)
    → CollectGives c i bs lane lane₁ r → CollectGives c i bs lane lane₂ q → (r ≡ q) × (lane₁ ≡ lane₂)
one-collected c i bs lane lane₁ lane₂ r q x y =
    let a : r.answer ≡ q.answer = told-apart collect_of collect_from collect-undone r.answer q.answer (x.answer ∙ sym y.answer) in
    let s : r.state ≡ q.state = x.state ∙ sym y.state in (
      ap (λ (b : Result (Option ℕ) Refusal). record { answer = b; state = r.state }) a ∙ ap (λ (d : SliceConstructor). record { answer = q.answer; state = d }) s,
      x.bytes ∙ sym y.bytes,
    )
