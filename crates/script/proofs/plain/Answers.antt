-- `script::plain` meets its contract. Assumes nothing.
use native.Mathlib.Omega.{arith}
use mathlib.Core.Path.{sym, ◌∙◌}
use borrow.Author.Tests.{eqb-true, eqb-false}
use Rattle.script.proofs.Parts.{adds-faulty, adds-many, adds-all, plain-empty, plain-odd, plain-not, plain-is, length_pairs}
use Rattle.script.proofs.plain.Goals as goal
use Rattle.script.proofs.plain.Goals.{then-is_empty-via-then-is_empty, then-is_empty-via-else-is_empty+then-s-ne0, then-is_empty-via-else-is_empty+else-s-ne0+then-not-all_hex}

pub returns-then-is_empty : goal.returns-then-is_empty
returns-then-is_empty c =
    elim c.then-is_empty.branch [
      | then-is_empty-via-then-is_empty w ↦ adds-faulty _ _ _ (plain-empty _ (eqb-true _ _ (sym c.is_empty.ensures ∙ w.if-is_empty.true)))
      | then-is_empty-via-else-is_empty+then-s-ne0 w ↦ adds-faulty _ _ _ (plain-odd _ (eqb-false _ _ (sym c.is_empty.ensures ∙ w.if-is_empty.false)) w.if-s-ne0.true)
      | then-is_empty-via-else-is_empty+else-s-ne0+then-not-all_hex w ↦ adds-faulty _ _ _ (plain-not _ (eqb-false _ _ (sym c.is_empty.ensures ∙ w.if-is_empty.false)) w.if-s-ne0.false (sym w.all_hex.ensures ∙ w.if-not-all_hex.true))
    ]

pub returns-then-out-at : goal.returns-then-out-at
returns-then-out-at c = adds-many _ _ _ _ (plain-is _ (eqb-false _ _ (sym c.is_empty.ensures ∙ c.if-is_empty.false)) c.if-s-ne0.false (sym c.all_hex.ensures ∙ c.if-not-all_hex.false)) (omega (arith, c.if-out-at.true, length_pairs c.args.s.now))

pub write_pairs-requires : goal.write_pairs-requires
write_pairs-requires c = (c.if-s-ne0.false, sym c.all_hex.ensures ∙ c.if-not-all_hex.false, omega (arith, c.requires, c.if-out-at.false, length_pairs c.args.s.now))

pub returns : goal.returns
returns c = adds-all _ _ _ _ (plain-is _ (eqb-false _ _ (sym c.is_empty.ensures ∙ c.if-is_empty.false)) c.if-s-ne0.false (sym c.all_hex.ensures ∙ c.if-not-all_hex.false)) _ _ (omega (arith, c.requires, c.if-out-at.false, length_pairs c.args.s.now)) c.write_pairs.ensures.0 c.write_pairs.ensures.1
