-- `pack::put_piece` meets its contract. Assumes nothing.
use borrow.Author.Rules.{rules}
use native.Mathlib.Omega.{arith}
use Prim.Native.Nat.{◌+◌}
use mathlib.Core.Path.{refl, ap, ◌∙◌}
use Rattle.packet_slice.specs.Steps.{slice_len_of}
use Rattle.packet_slice.specs.Slice.{Slice}
use Rattle.pack.specs.Pack.{item_of}
use Rattle.pack.proofs.Lengths.{slice-most}
use Rattle.pack.proofs.put_piece.Goals as goal

pub slice_len-requires : goal.slice_len-requires
slice_len-requires c = let e = ap (λ (s : Slice). s.len) c.slice-slice.ensures in omega arith

pub overflow_add-p-2 : goal.overflow_add-p-2
overflow_add-p-2 c =
    let a = c.args in
    let e = c.slice_len.ensures ∙ ap slice_len_of c.slice-slice.ensures in
    let m = slice-most (a.sequence.0 + a.p.packets) (item_of a.item) (search rules) in
    omega arith

pub returns : goal.returns
returns c = (rw (c.slice_len.ensures ∙ ap slice_len_of c.slice-slice.ensures), refl)
