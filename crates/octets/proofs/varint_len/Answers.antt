-- `octets::varint_len` meets its contract. Assumes nothing.
use native.Mathlib.Omega.{arith}
use Rattle.octets.proofs.Write.{no-form, has-form}
use Rattle.octets.proofs.varint_len.Goals as goal

pub returns-then-v-ge-LIMIT : goal.returns-then-v-ge-LIMIT
returns-then-v-ge-LIMIT c = search no-form

pub returns : goal.returns
returns c = has-form _ (omega arith) c.form_len.ensures.0
