-- `SliceConstructor::process_slice` meets its contract: a refusal leaves all as it was, a good piece is taken. Assumes nothing.
use Prim.Native.Nat.{ℕ}
use mathlib.Core.Path.{◌≡◌, sym, ap, ◌∙◌}
use mathlib.Core.List.{List}
use native.Mathlib.Omega.{arith}
use lib.ListN.{length}
use Rattle.std.specs.Prelude.{Result, Err, Option}
use Rattle.words.specs.declared.Refusal.{Refusal}
use Rattle.words.specs.Refusal.{number_of}
use Rattle.slice_constructor.specs.declared.SliceConstructor.{SliceConstructor}
use Rattle.slice_constructor.specs.Collect.{Valid, collect_refusal, taken, lane_taken, collect_of, answer_of, CollectGives}
use Rattle.slice_constructor.specs.Steps.{judged_number}
use Rattle.slice_constructor.proofs.Valid.{good, taken-valid, taken-num}
use Rattle.words.proofs.Unique.{numbered-above}
use Rattle.slice_constructor.proofs.SliceConstructor.process_slice.Goals as goal
use Rattle.slice_constructor.proofs.SliceConstructor.process_slice.Goals.{In_default}

module _ (c : SliceConstructor) (v : Valid c) (i : ℕ) (bs lane : List ℕ) where
  refused : (e : Refusal) → number_of e ≡ collect_refusal c i (length bs) (length lane) → CollectGives c i bs lane lane (record { answer = Err e; state = c })
  refused e k = record { answer = rw (← k, numbered-above e); state = rw (← k, numbered-above e); bytes = rw (← k, numbered-above e); valid = v }

  given : (a : Result (Option ℕ) Refusal) (s : SliceConstructor) (lane' : List ℕ) → collect_refusal c i (length bs) (length lane) ≡ 0
      → collect_of a ≡ answer_of s → s ≡ taken c i (length bs) → lane' ≡ lane_taken c i bs lane
      → CollectGives c i bs lane lane' (record { answer = a; state = s })
  given a s lane' k ha hs hl =
      record { answer = rw (k, ← hs) ha; state = rw k hs; bytes = rw k hl; valid = rw hs (taken-valid c v i _ _ (good _ _ _ _ k)) }

-- a piece that was judged good
fine : (c : In_default) → (let a = c.args in collect_refusal a.self a.slice_index.0 (length a.bytes.now) (length a.lane.now) ≡ 0)
fine c = sym c.judge.ensures.0 ∙ ap judged_number c.in_default.is

pub take-state-requires : goal.take-state-requires
take-state-requires c = fine (goal.at.take-state-requires c).In_default

pub answer-requires : goal.answer-requires
answer-requires c =
    let g = good _ _ _ _ (fine (goal.at.answer-requires c).In_default) in
    rw (c.take-state.ensures.0, taken-num) (omega (arith, g.low))

pub returns-in-Err : goal.returns-in-Err
returns-in-Err c =
    refused _ c.judge.ensures.1 _ _ _ _
    (sym (ap judged_number c.in-Err.is) ∙ c.judge.ensures.0)

pub returns : goal.returns
returns c =
    let t = c.take-state.ensures in
    given _ c.judge.ensures.1 _ _ _ _ _ _ (fine (goal.at.returns c).In_default) c.answer.ensures t.0 t.1
