-- `lines::Lines::next` meets its contract. Assumes nothing.
use Rattle.lines.proofs.Steps.{step-outside, step-backward, step_line, step-last, step-unended}
use Rattle.lines.proofs.Lines.next.Goals as goal
use Rattle.lines.proofs.Lines.next.Goals.{then-buf-to-via-then-buf-to, then-buf-to-via-else-buf-to+then-to-from}

pub returns-then-buf-to : goal.returns-then-buf-to
returns-then-buf-to c =
    elim c.then-buf-to.branch [
      | then-buf-to-via-then-buf-to w ↦ step-outside _ _ w.if-buf-to.true
      | then-buf-to-via-else-buf-to+then-to-from w ↦ step-backward _ _ w.if-buf-to.false w.if-to-from.true
    ]

pub returns-then-end-to : goal.returns-then-end-to
returns-then-end-to c = step_line _ _ c.if-buf-to.false c.if-to-from.false _ c.line_end-end.ensures _ c.if-end-to.true c.line_to.ensures

pub returns-then-self : goal.returns-then-self
returns-then-self c = step-last _ _ c.if-buf-to.false c.if-to-from.false _ c.line_end-end.ensures _ c.if-end-to.false c.if-self.true c.last.ensures

pub returns : goal.returns
returns c = step-unended _ _ c.if-buf-to.false c.if-to-from.false _ c.line_end-end.ensures _ c.if-end-to.false c.if-self.false c.unended.ensures
