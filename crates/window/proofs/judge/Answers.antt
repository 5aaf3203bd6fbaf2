-- `window::judge` meets its contract: each answer by the tests that led to it. Assumes nothing.
use mathlib.Core.Path.{◌≡◌, ap, ◌∙◌}
use native.Mathlib.Omega.{arith}
use Rattle.window.specs.Steps.{one_of, plus, judged}
use Rattle.window.specs.declared.Load.{Load}
use Rattle.window.proofs.Loads.{one-bounded}
use Rattle.window.proofs.Steps.{too_long, no-memory, no_slot, no-lane, has_room}
use Rattle.window.proofs.judge.Goals as goal
use Rattle.window.proofs.judge.Goals.{After-plus-load}

-- the judgement of what all take together
all : (c : After-plus-load) → (let a = c.args in
    judged a.settings a.gone c.plus-load.result a.len ≡ judged a.settings a.gone (plus a.others (one_of a.len)) a.len)
all c =
    let a = c.args in
    ap (λ (l : Load). judged a.settings a.gone l a.len) (c.plus-load.ensures ∙ ap (plus a.others) c.of.ensures)

pub returns-then-settings-len : goal.returns-then-settings-len
returns-then-settings-len c = let a = c.args in too_long a.settings a.gone _ a.len c.if-settings-len.true

pub overflow_cast-len : goal.overflow_cast-len
overflow_cast-len c = omega (arith, c.requires.0.pieces-most)

pub plus-load-requires : goal.plus-load-requires
plus-load-requires c = (c.requires.1, rw c.of.ensures (one-bounded c.args.len (omega (arith, c.requires.0.pieces-most))))

pub returns-then-settings-load : goal.returns-then-settings-load
returns-then-settings-load c = no-memory _ _ _ _ c.if-settings-len.false c.if-settings-load.true ∙ all (goal.at.returns-then-settings-load c).After-plus-load

pub returns-then-settings-load-2 : goal.returns-then-settings-load-2
returns-then-settings-load-2 c = no_slot _ _ _ _ c.if-settings-len.false c.if-settings-load.false c.if-settings-load-2.true ∙ all (goal.at.returns-then-settings-load-2 c).After-plus-load

pub returns-then-settings-load-3 : goal.returns-then-settings-load-3
returns-then-settings-load-3 c = no-lane _ _ _ _ c.if-settings-len.false c.if-settings-load.false c.if-settings-load-2.false c.if-settings-load-3.true ∙ all (goal.at.returns-then-settings-load-3 c).After-plus-load

pub returns : goal.returns
returns c = has_room _ _ _ _ c.if-settings-len.false c.if-settings-load.false c.if-settings-load-2.false c.if-settings-load-3.false ∙ all (goal.at.returns c).After-plus-load
