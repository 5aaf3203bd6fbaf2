-- `octets::put_bytes_with_varint_length` meets its contract. Assumes nothing.
use native.Mathlib.Omega.{arith}
use Prim.Native.Nat.{◌+◌, ◌<◌}
use mathlib.Core.Path.{refl}
use lib.ListN.{length}
use Rattle.octets.specs.Varint.{var_len}
use Rattle.octets.proofs.Write.{some_len, run-bad, run-no-room, run-to}
use Rattle.octets.proofs.put_bytes_with_varint_length.Goals as goal
use Rattle.octets.proofs.put_bytes_with_varint_length.Goals.{then-room-head-via-then-room-head, then-room-head-via-else-room-head+then-room-head-2}

pub returns-then-n-ge-LIMIT : goal.returns-then-n-ge-LIMIT
returns-then-n-ge-LIMIT c = (search run-bad, refl)

pub returns-then-room-head : goal.returns-then-room-head
returns-then-room-head c =
    let k = length c.args.src.now in
    let n : length c.args.out.now < c.args.at + (var_len k + k) =
    elim c.then-room-head.branch [
      | then-room-head-via-then-room-head w ↦ omega arith
      | then-room-head-via-else-room-head+then-room-head-2 w ↦ omega arith
    ] in
    (run-no-room _ _ _ (omega arith) n, refl)

pub write_bytes_with_varint_length-requires : goal.write_bytes_with_varint_length-requires
write_bytes_with_varint_length-requires c =
    let l = some_len (length c.args.src.now) in record { src_len_bound = omega arith; src_in_bounds = omega arith }

pub returns : goal.returns
returns c =
    let w = c.write_bytes_with_varint_length.ensures in
    let l = some_len (length c.args.src.now) in
    (run-to _ _ _ (omega arith) (omega arith) w.0, w.1)
