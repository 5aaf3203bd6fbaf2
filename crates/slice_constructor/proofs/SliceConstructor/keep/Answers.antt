-- `SliceConstructor::keep` meets its contract: by the answer, which is whole or more to come. Assumes nothing.
use mathlib.Core.Path.{sym, ap, ◌∙◌}
use Rattle.std.specs.Prelude.{ℕ, Option, Ok}
use Rattle.slice_constructor.specs.Collect.{collect_of}
use Rattle.slice_constructor.specs.Fields.{state_of}
use Rattle.slice_constructor.proofs.Whole.{whole_answer, missing-answer}
use Rattle.slice_constructor.proofs.SliceConstructor.keep.Goals as goal

pub returns-in-Some : goal.returns-in-Some
returns-in-Some c =
    let a = whole_answer c.args.self c.in-Some.len (sym c.answer.ensures ∙ ap (λ (o : Option ℕ). collect_of (Ok o)) c.in-Some.is) in
    rw (a.0, a.1, c.blank.ensures.0)

pub returns-in-None : goal.returns-in-None
returns-in-None c =
    rw (← c.self.view_is)
    (rw (missing-answer (state_of c.self.inside) (rw (← c.self.view_is) at (sym c.answer.ensures ∙ ap (λ (o : Option ℕ). collect_of (Ok o)) c.in-None.is))))
