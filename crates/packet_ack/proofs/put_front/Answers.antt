-- `packet_ack::put_front` meets its contract: the tests that led to each `return` say which case of `put_ack` holds. Assumes nothing.
use Prim.Native.Nat.{ℕ, ◌+◌, ◌-◌, ◌<◌}
use mathlib.Core.Path.{◌≡◌}
use mathlib.Core.List.{List}
use native.Mathlib.Omega.{arith}
use lib.ListN.{length}
use Rattle.octets.specs.Varint.{var_len}
use Rattle.packet_ack.specs.Ack.{Range}
use Rattle.packet_ack.specs.Steps.{judged_in}
use Rattle.packet_ack.proofs.Encode.{un-not, some-range, no_front, bad-table, bad-seq, bad-range, no-range, not-rising, all-sayable, all-rising, Good, good, front-done}
use Rattle.packet_ack.proofs.put_front.Goals as goal
use Rattle.packet_ack.proofs.put_front.Goals.{After-form_len-2, Else-not-j-2}

some : (c : Else-not-j-2) → 0 < c.args.packet.count
some c =
    let y = c.requires in
    some-range y.table _ (all-rising _ y.table _ _ _ (omega (arith, y.holds, c.if-held-count.false)) c.if-seq-ge-LIMIT.false y.judged (un-not _ c.if-not-j.false) (un-not _ c.if-not-j-2.false))

-- of any table that was judged so, with so many bytes for the sequence and for the number of lower ranges
good-at : (c : Else-not-j-2) (t : List Range) → length t ≡ c.args.held → c.args.j ≡ judged_in t c.args.packet.count (length c.args.out.now - c.args.at)
    → {head : ℕ} → head ≡ var_len c.args.packet.sequence.0 + var_len (c.args.packet.count - 1)
    → Good c.args.packet.sequence.0 t c.args.packet.count (c.args.packet.count - 1) c.args.at (length c.args.out.now) c.args.j c.in-Some.top head
good-at c t l e eh =
    let h = c.if-held-count.false in
    let k = c.if-seq-ge-LIMIT.false in
    good _ t _ _ c.in-Some.is _ _ (omega (arith, some c)) (omega (arith, l, h)) k e eh (all-sayable _ t _ _ _ (omega (arith, l, h)) k e (un-not _ c.if-not-j.false)) (all-rising _ t _ _ _ (omega (arith, l, h)) k e (un-not _ c.if-not-j.false) (un-not _ c.if-not-j-2.false))

head-is : (c : After-form_len-2)
    → c.form_len.result + c.form_len-2.result ≡ var_len c.args.packet.sequence.0 + var_len (c.args.packet.count - 1)
head-is c = omega (arith, c.form_len.ensures.0, c.form_len-2.ensures.0)

pub returns-then-held-count : goal.returns-then-held-count
returns-then-held-count c = λ t l e. no_front _ _ _ t _ _ (bad-table _ t _ _ _ (omega (arith, l, c.if-held-count.true)))

pub returns-then-seq-ge-LIMIT : goal.returns-then-seq-ge-LIMIT
returns-then-seq-ge-LIMIT c = λ t l e. no_front _ _ _ t _ _ (bad-seq _ t _ _ _ (omega (arith, l, c.if-held-count.false)) c.if-seq-ge-LIMIT.true)

pub returns-then-not-j : goal.returns-then-not-j
returns-then-not-j c = λ t l e. no_front _ _ _ t _ _ (bad-range _ t _ _ _ (omega (arith, l, c.if-held-count.false)) c.if-seq-ge-LIMIT.false e (un-not _ c.if-not-j.true))

pub returns-in_default : goal.returns-in_default
returns-in_default c = λ t l e. no_front _ _ _ t _ _ (no-range _ t _ _ _ (omega (arith, l, c.if-held-count.false)) c.if-seq-ge-LIMIT.false e (un-not _ c.if-not-j.false) c.in_default.is)

pub returns-then-not-j-2 : goal.returns-then-not-j-2
returns-then-not-j-2 c = λ t l e. no_front _ _ _ t _ _ (not-rising _ t _ _ _ (omega (arith, l, c.if-held-count.false)) c.if-seq-ge-LIMIT.false e (un-not _ c.if-not-j.false) (un-not _ c.if-not-j-2.true))

pub overflow_sub-left : goal.overflow_sub-left
overflow_sub-left c = omega (arith, some (goal.at.overflow_sub-left c).Else-not-j-2)

pub returns-then-spare-head : goal.returns-then-spare-head
returns-then-spare-head c = λ t l e. no_front _ _ _ t _ _ ((good-at (goal.at.returns-then-spare-head c).Else-not-j-2 t l e (head-is (goal.at.returns-then-spare-head c).After-form_len-2)).no_room c.if-spare-head.true)

pub write_front-at-requires : goal.write_front-at-requires
write_front-at-requires c =
    let y = c.requires in
    let g = good-at (goal.at.write_front-at-requires c).Else-not-j-2 y.table y.holds y.judged (head-is (goal.at.write_front-at-requires c).After-form_len-2) in
    record { seq_bound = (c.if-seq-ge-LIMIT.false, g.sized, g.within, g.few); n_in_bounds = omega (arith, g.fits c.if-spare-head.false) }

pub overflow_sub-result-3 : goal.overflow_sub-result-3
overflow_sub-result-3 c =
    let y = c.requires in
    let g = good-at (goal.at.overflow_sub-result-3 c).Else-not-j-2 y.table y.holds y.judged (head-is (goal.at.overflow_sub-result-3 c).After-form_len-2) in
    omega (arith, g.small, c.write_front-at.auto.out)

pub returns : goal.returns
returns c =
    λ t l e.
    let w = c.write_front-at.ensures in
    front-done _ t _ _ _ _ _ _ _ (good-at (goal.at.returns c).Else-not-j-2 t l e (head-is (goal.at.returns c).After-form_len-2)) c.if-spare-head.false w.0 w.1 c.write_front-at.auto.out
