-- `octets::put_u16` meets its contract. Assumes nothing.
use native.Mathlib.Omega.{arith}
use mathlib.Core.Path.{refl}
use Rattle.octets.proofs.Write.{bytes-no-room, bytes-to}
use Rattle.octets.proofs.put_u16.Goals as goal

pub returns-then-saturating_sub-lt2 : goal.returns-then-saturating_sub-lt2
returns-then-saturating_sub-lt2 c = (bytes-no-room _ _ _ (omega arith), refl)

pub returns : goal.returns
returns c =
    let w = c.write_u16.ensures in
    (bytes-to _ _ _ (omega arith) w.0, w.1)
