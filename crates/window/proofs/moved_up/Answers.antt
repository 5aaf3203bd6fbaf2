-- `window::moved_up` meets its contract: the front of a table that is written over. Assumes nothing.
use Prim.Native.Nat.{ℕ, ◌-◌, ◌+◌}
use mathlib.Core.Path.{◌≡◌, sym, ap, ◌∙◌}
use mathlib.Core.List.{List, ◌++◌}
use native.Mathlib.Omega.{arith}
use lib.ListN.{length, take, drop, replicate}
use Rattle.words.proofs.Lists.{drop-take}
use Rattle.words.proofs.Splice.{splice-eq}
use Rattle.window.specs.Window.{ROWS}
use Rattle.window.proofs.Valid.{length_part}
use Rattle.window.proofs.moved_up.Goals as goal

pub returns : goal.returns
returns c =
    let a = c.args in
    let n : a.to - a.from ≡ 0 + length (drop a.from (take a.to a.lens)) = omega (arith, length_part a.lens a.from a.to c.requires.0 (omega arith)) in
    ap (λ (l : List ℕ). l ++ drop (a.to - a.from) (replicate ROWS 0)) (c.copy_from_slice.ensures.after ∙ sym (drop-take a.from a.to a.lens))
    ∙ ap (λ (k : ℕ). drop a.from (take a.to a.lens) ++ drop k (replicate ROWS 0)) n
    ∙ sym (splice-eq 0 (drop a.from (take a.to a.lens)) (replicate ROWS 0) (omega arith))
