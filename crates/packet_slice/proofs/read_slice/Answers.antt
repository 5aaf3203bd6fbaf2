-- `packet_slice::read_slice` meets its contract: what was read says which case of `slice` holds. Assumes nothing.
use native.Mathlib.Omega.{arith}
use mathlib.Core.Logic.{⊎_elim}
use Rattle.std.proofs.lemmas.Result.{err_from_is_err_and}
use Rattle.packet_slice.proofs.Read.{no_front, no_label, count-zero, count-above, no_payload, payload-end, payload-empty, payload-above, payload-there, judged, unjudged}
use Rattle.packet_slice.proofs.read_slice.Goals as goal
use Rattle.packet_slice.proofs.read_slice.Goals.{else-reliable-via-then-reliable+else-len-lt1, else-reliable-via-else-reliable, else-reliable-2-via-then-reliable-2+else-len-gt-SLICE_SIZE, else-reliable-2-via-else-reliable-2}

pub returns-in_err-front : goal.returns-in_err-front
returns-in_err-front c =
    let p = err_from_is_err_and c.from_residual.result c.from_residual.ensures.1 in
    rw (p.1, p.2) (no_front _ _ _ c.in_err-front.ensures)

pub returns-in_err-label : goal.returns-in_err-label
returns-in_err-label c =
    let p = err_from_is_err_and c.from_residual-in_err-label.result c.from_residual-in_err-label.ensures.1 in
    rw (p.1, p.2) (no_label _ _ _ c.in_ok-front.ensures c.in_err-label.ensures)

pub returns-then-num_slices-lt1 : goal.returns-then-num_slices-lt1
returns-then-num_slices-lt1 c =
    let f = c.in_ok-front.ensures in
    let l = c.in_ok-label.ensures in
    ⊎_elim (λ h. count-zero _ _ _ f l h) (λ h. count-above _ _ _ f l h.0 h.1) c.then-num_slices-lt1.either

pub returns-in_err-place : goal.returns-in_err-place
returns-in_err-place c =
    let p = err_from_is_err_and c.from_residual-in_err-place.result c.from_residual-in_err-place.ensures.1 in
    rw (p.1, p.2) (no_payload _ _ _ c.in_ok-front.ensures c.in_ok-label.ensures c.if-num_slices-lt1.false c.if-num_slices-gt-MAX_NUM_SLICES.false c.in_err-place.ensures)

pub returns-then-len-lt1 : goal.returns-then-len-lt1
returns-then-len-lt1 c =
    payload-empty _ _ _ c.in_ok-front.ensures c.in_ok-label.ensures c.if-num_slices-lt1.false c.if-num_slices-gt-MAX_NUM_SLICES.false c.in_ok-place.ensures
    c.if-reliable.true c.if-len-lt1.true

pub returns-then-len-gt-SLICE_SIZE : goal.returns-then-len-gt-SLICE_SIZE
returns-then-len-gt-SLICE_SIZE c =
    payload-above _ _ _ c.in_ok-front.ensures c.in_ok-label.ensures c.if-num_slices-lt1.false c.if-num_slices-gt-MAX_NUM_SLICES.false c.in_ok-place.ensures
    c.if-reliable-2.true (omega arith) c.if-len-gt-SLICE_SIZE.true

pub overflow_add-result : goal.overflow_add-result
overflow_add-result c = let l = payload-end c.args.s.now _ c.in_ok-place.ensures in omega arith

pub returns : goal.returns
returns c =
    payload-there _ _ _ c.in_ok-front.ensures c.in_ok-label.ensures c.if-num_slices-lt1.false c.if-num_slices-gt-MAX_NUM_SLICES.false c.in_ok-place.ensures
    (elim c.else-reliable.branch [
      | else-reliable-via-else-reliable w ↦ unjudged _ _ w.if-reliable.false
      | else-reliable-via-then-reliable+else-len-lt1 w ↦ elim c.else-reliable-2.branch [
        | else-reliable-2-via-then-reliable-2+else-len-gt-SLICE_SIZE v ↦ judged _ _ w.if-reliable.true w.if-len-lt1.false v.if-len-gt-SLICE_SIZE.false
        | else-reliable-2-via-else-reliable-2 v ↦ unjudged _ _ v.if-reliable-2.false
      ]
    ])
