-- `Window::step` meets its contract: the numbers by their tests, then what the rule says of those from the oldest one on. Assumes nothing.
use Prim.Native.Nat.{◌-◌}
use mathlib.Core.Path.{ap, ◌∙◌}
use borrow.Author.Tests.{lt-ltb, le-ltb, le-leb}
use Rattle.window.specs.Window.{queue_refusal}
use Rattle.window.specs.Steps.{one_of, plus, judged, spot_of}
use Rattle.window.specs.declared.Load.{Load}
use Rattle.window.specs.Fields.{state_of}
use Rattle.window.proofs.Steps.{load-bounded, stepped}
use Rattle.window.proofs.Window.step.Goals as goal

pub returns-then-oldest-first : goal.returns-then-oldest-first
unfolding spot_of queue_refusal
returns-then-oldest-first c = rw (← c.self.view_is) (simp (lt-ltb _ _ c.if-oldest-first.true))

pub returns-then-next-oldest : goal.returns-then-next-oldest
unfolding spot_of queue_refusal
returns-then-next-oldest c = rw (← c.self.view_is) (simp (le-ltb _ _ c.if-oldest-first.false, lt-ltb _ _ c.if-next-oldest.true))

pub returns-then-next-ge-LIMIT : goal.returns-then-next-ge-LIMIT
unfolding spot_of queue_refusal
returns-then-next-ge-LIMIT c = rw (← c.self.view_is) (simp (le-ltb _ _ c.if-oldest-first.false, le-ltb _ _ c.if-next-oldest.false, le-leb _ _ c.if-next-ge-LIMIT.true))

pub judge-requires : goal.judge-requires
judge-requires c = (c.self.invariant.settings, rw c.load_without-others.ensures (load-bounded _ c.self.invariant (c.args.oldest - c.self.inside.first)))

pub returns : goal.returns
returns c =
    let a = c.args in
    let w = state_of c.self.inside in
    let others = c.load_without-others.ensures in
    rw (← c.self.view_is)
    (c.judge.ensures
    ∙ ap (λ (load : Load). judged w.settings (a.oldest - w.first) (plus load (one_of a.len)) a.len) others
    ∙ stepped w a.oldest a.len c.if-oldest-first.false c.if-next-oldest.false c.if-next-ge-LIMIT.false)
