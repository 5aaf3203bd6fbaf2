-- `octets::put_varint` meets its contract: the tests that led to each `return` say which case of `put_var` holds.
-- Assumes nothing.
use native.Mathlib.Omega.{arith}
use mathlib.Core.Path.{refl}
use Rattle.octets.proofs.Write.{some_len, put-bad, put-no-room, put-to}
use Rattle.octets.proofs.put_varint.Goals as goal

pub returns-then-v-ge-LIMIT : goal.returns-then-v-ge-LIMIT
returns-then-v-ge-LIMIT c = (search put-bad, refl)

pub returns-then-saturating_sub-form_len : goal.returns-then-saturating_sub-form_len
returns-then-saturating_sub-form_len c = (put-no-room _ _ _ (omega arith) (omega arith), refl)

pub write_varint-requires : goal.write_varint-requires
write_varint-requires c = let l = some_len c.args.v in record { v_bound = omega arith; v_in_bounds = omega arith }

pub returns : goal.returns
returns c =
    let w = c.write_varint.ensures in
    let l = some_len c.args.v in
    (put-to _ _ _ (omega arith) (omega arith) w.0, w.1)
