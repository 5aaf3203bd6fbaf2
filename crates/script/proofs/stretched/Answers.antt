-- `script::stretched` meets its contract. Assumes nothing.
use native.Mathlib.Omega.{arith}
use mathlib.Core.Path.{sym, ◌∙◌}
use lib.ListN.{get_or}
use Rattle.std.proofs.lemmas.Result.{err_from_is_err_and}
use Rattle.script.specs.Bytes.{pair_of}
use Rattle.script.proofs.Parts.{adds-faulty, adds-many, adds-stretch, stretch-short, stretch-letters, stretch-off, stretch-value, length-stretch, pair-letters}
use Rattle.script.proofs.stretched.Goals as goal
use Rattle.script.proofs.stretched.Goals.{then-s-le3-via-then-s-le3, then-s-le3-via-else-s-le3+then-not-all_hex}

pub returns-then-s-le3 : goal.returns-then-s-le3
returns-then-s-le3 c =
    elim c.then-s-le3.branch [
      | then-s-le3-via-then-s-le3 w ↦ adds-faulty _ _ _ (stretch-short _ _ w.if-s-le3.true)
      | then-s-le3-via-else-s-le3+then-not-all_hex w ↦ adds-faulty _ _ _ (stretch-letters _ _ w.if-s-le3.false (sym w.all_hex.ensures ∙ w.if-not-all_hex.true))
    ]

pub returns-in_err-n : goal.returns-in_err-n
returns-in_err-n c =
    let p = err_from_is_err_and c.from_residual.result c.from_residual.ensures.1 in
    rw (p.1, p.2) (stretch-off _ _ c.if-s-le3.false (sym c.all_hex.ensures ∙ c.if-not-all_hex.false) _ _ _ (omega arith) (sym c.in_err-n.was ∙ c.digits.ensures))

pub returns-then-room-n : goal.returns-then-room-n
returns-then-room-n c = adds-many _ _ _ _ (stretch-value _ _ c.if-s-le3.false (sym c.all_hex.ensures ∙ c.if-not-all_hex.false) _ (sym c.in_ok-n.was ∙ c.digits.ensures)) (omega (arith, c.if-room-n.true, length-stretch c.args.up (pair_of (get_or c.args.s.now 0 0) (get_or c.args.s.now 1 0)) c.in_ok-n.n))

pub pair-b-requires : goal.pair-b-requires
pair-b-requires c = pair-letters c.args.s.now c.if-s-le3.false (sym c.all_hex.ensures ∙ c.if-not-all_hex.false)

pub returns : goal.returns
returns c = adds-stretch _ _ _ _ _ _ _ _ _ (stretch-value _ _ c.if-s-le3.false (sym c.all_hex.ensures ∙ c.if-not-all_hex.false) _ (sym c.in_ok-n.was ∙ c.digits.ensures)) c.pair-b.ensures (omega (arith, c.requires, c.if-room-n.false)) c.write_stretch.ensures.0 c.write_stretch.ensures.1
