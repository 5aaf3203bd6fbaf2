-- `send_reliable::find` meets its contract: the place is that of the first row with the id. Assumes nothing.
use Prim.Native.Nat.{ℕ, suc, ◌+◌}
use mathlib.Core.Bool.{Bool, true, false, cond}
use mathlib.Core.List.{List}
use mathlib.Core.Path.{◌≡◌, refl, sym, ap, ◌∙◌}
use borrow.Author.Tests.{tests}
use native.Mathlib.Omega.{arith}
use lib.ListN.{get_or, length}
use Rattle.std.proofs.Common.{rules}
use Rattle.std.proofs.lemmas.Iterator.{YieldsList-from_slice}
use Rattle.std.proofs.lemmas.Iterator.Search.{position_from_yields_List}
use Rattle.std.proofs.lemmas.List.Recursion.{is_position_or_len}
use Rattle.std.specs.List.{position_or_len}
use Rattle.std.specs.Prelude.{ltb, Option, Some, None}
use Rattle.words.specs.Choice.{pick}
use Rattle.words.specs.Lists.{first}
use Rattle.send_reliable.specs.declared.Row.{Row}
use Rattle.send_reliable.specs.Sender.{no_row}
use Rattle.send_reliable.specs.Ack.{has_id}
use Rattle.send_reliable.specs.QueueSteps.{found_in}
use Rattle.send_reliable.proofs.find.Goals as goal
use Rattle.send_reliable.proofs.find.Goals.{After-position}

-- std finds the same place
same_place : (x : ℕ) (rows : List Row) → first (has_id x) rows ≡ position_or_len (has_id x) rows
unfolding first
same_place x rows = is_position_or_len (first (has_id x)) (has_id x) refl (λ r rs. by (has_id x r) (first (has_id x) rs)) rows
  where
    by : (b : Bool) (n : ℕ) → pick b 0 (suc n) ≡ cond b 0 (1 + n)
    by true n = refl
    by false n = omega arith

-- a place, with the row at it
abbrev with_row : List Row → Option ℕ → Option (ℕ × Row)
with_row rows None = None
with_row rows (Some k) = Some (k, get_or rows k no_row)

row_at : (rows : List Row) (b : Bool) (k : ℕ) → with_row rows (cond b (Some k) None) ≡ pick b (Some (k, get_or rows k no_row)) None
row_at rows true k = refl
row_at rows false k = refl

found : (c : After-position) → with_row c.args.rows.now c.position.result ≡ found_in c.args.rows.now c.args.id.0
found c =
    let x = c.args.id.0 in
    let rows = c.args.rows.now in
    let e = position_from_yields_List (has_id x) _ _ c.position.result c.position.ensures.ran (YieldsList-from_slice _ c.iter.ensures.rest) (λ r b q k. search (rules, tests)) in
    rw (e, ← same_place x rows) (row_at rows (ltb (first (has_id x) rows) (length rows)) (first (has_id x) rows))

pub returns-in_err-k : goal.returns-in_err-k
returns-in_err-k c = c.from_residual.ensures ∙ ap (with_row c.args.rows.now) (sym c.in_err-k.was) ∙ found (goal.at.returns-in_err-k c).After-position

pub returns : goal.returns
returns c = ap (with_row c.args.rows.now) (sym c.in_ok-k.was) ∙ found (goal.at.returns c).After-position
