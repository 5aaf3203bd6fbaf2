-- `packet::from_bytes` meets its contract: the type byte says which layout the whole has. Assumes nothing.
use native.Mathlib.Omega.{arith}
use mathlib.Core.Path.{refl}
use mathlib.Core.Bool.{true, false}
use Rattle.std.proofs.lemmas.Result.{err_from_is_err_and}
use Rattle.packet.proofs.Read.{no-type, as-small, as-slice, as-ack, no_kind}
use Rattle.packet.proofs.from_bytes.Goals as goal

pub returns-in_err-kind : goal.returns-in_err-kind
returns-in_err-kind c =
    let p = err_from_is_err_and c.from_residual.result c.from_residual.ensures.1 in
    rw (p.1, p.2) (no-type _ _ _ _ c.in_err-kind.ensures)

pub returns-in_err-p-in-0 : goal.returns-in_err-p-in-0
returns-in_err-p-in-0 c =
    let p = err_from_is_err_and c.from_residual-in_err-p-in-0.result c.from_residual-in_err-p-in-0.ensures.1 in
    rw (p.1, p.2) (as-small _ _ _ c.in_ok-kind.ensures true c.in-0.is c.in_err-p-in-0.ensures refl)

pub returns-in_ok-p-in-0 : goal.returns-in_ok-p-in-0
returns-in_ok-p-in-0 c = as-small _ _ _ c.in_ok-kind.ensures true c.in-0.is c.in_ok-p-in-0.ensures refl

pub returns-in_err-p-in-1 : goal.returns-in_err-p-in-1
returns-in_err-p-in-1 c =
    let p = err_from_is_err_and c.from_residual-in_err-p-in-1.result c.from_residual-in_err-p-in-1.ensures.1 in
    rw (p.1, p.2) (as-small _ _ _ c.in_ok-kind.ensures false c.in-1.is c.in_err-p-in-1.ensures refl)

pub returns-in_ok-p-in-1 : goal.returns-in_ok-p-in-1
returns-in_ok-p-in-1 c = as-small _ _ _ c.in_ok-kind.ensures false c.in-1.is c.in_ok-p-in-1.ensures refl

pub returns-in_err-p-in-2 : goal.returns-in_err-p-in-2
returns-in_err-p-in-2 c =
    let p = err_from_is_err_and c.from_residual-in_err-p-in-2.result c.from_residual-in_err-p-in-2.ensures.1 in
    rw (p.1, p.2) (as-slice _ _ _ c.in_ok-kind.ensures true c.in-2.is c.in_err-p-in-2.ensures refl)

pub returns-in_ok-p-in-2 : goal.returns-in_ok-p-in-2
returns-in_ok-p-in-2 c = as-slice _ _ _ c.in_ok-kind.ensures true c.in-2.is c.in_ok-p-in-2.ensures refl

pub returns-in_err-p-in-3 : goal.returns-in_err-p-in-3
returns-in_err-p-in-3 c =
    let p = err_from_is_err_and c.from_residual-in_err-p-in-3.result c.from_residual-in_err-p-in-3.ensures.1 in
    rw (p.1, p.2) (as-slice _ _ _ c.in_ok-kind.ensures false c.in-3.is c.in_err-p-in-3.ensures refl)

pub returns-in_ok-p-in-3 : goal.returns-in_ok-p-in-3
returns-in_ok-p-in-3 c = as-slice _ _ _ c.in_ok-kind.ensures false c.in-3.is c.in_ok-p-in-3.ensures refl

pub returns-in_err-p-in-4 : goal.returns-in_err-p-in-4
returns-in_err-p-in-4 c =
    let p = err_from_is_err_and c.from_residual-in_err-p-in-4.result c.from_residual-in_err-p-in-4.ensures.1 in
    rw (p.1, p.2) (as-ack _ _ _ c.in_ok-kind.ensures c.in-4.is c.in_err-p-in-4.ensures refl)

pub returns-in_ok-p-in-4 : goal.returns-in_ok-p-in-4
returns-in_ok-p-in-4 c = as-ack _ _ _ c.in_ok-kind.ensures c.in-4.is c.in_ok-p-in-4.ensures refl

pub returns-in_default : goal.returns-in_default
returns-in_default c = no_kind _ _ _ c.in_ok-kind.ensures (λ h. omega arith) (λ h. omega arith) (λ h. omega arith) (λ h. omega arith) (λ h. omega arith)
