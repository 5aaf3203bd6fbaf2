-- `octets::form_len` meets its contract: the tests that led to each `return` say which case of `var_len` holds.
-- Assumes nothing.
use lib.Dec.{lit≤}
use borrow.Author.Tests.{lt-ltb, le-ltb}
use Rattle.octets.specs.Varint.{var_len}
use Rattle.octets.proofs.form_len.Goals as goal

pub returns-then-v-lt64 : goal.returns-then-v-lt64
unfolding var_len
returns-then-v-lt64 c = (simp (lt-ltb _ _ c.if-v-lt64.true), lit≤ tt)

pub returns-then-v-lt16384 : goal.returns-then-v-lt16384
unfolding var_len
returns-then-v-lt16384 c = (simp (le-ltb _ _ c.if-v-lt64.false, lt-ltb _ _ c.if-v-lt16384.true), lit≤ tt)

pub returns-then-v-lt1073741824 : goal.returns-then-v-lt1073741824
unfolding var_len
returns-then-v-lt1073741824 c = (simp (le-ltb _ _ c.if-v-lt64.false, le-ltb _ _ c.if-v-lt16384.false, lt-ltb _ _ c.if-v-lt1073741824.true), lit≤ tt)

pub returns : goal.returns
unfolding var_len
returns c = (simp (le-ltb _ _ c.if-v-lt64.false, le-ltb _ _ c.if-v-lt16384.false, le-ltb _ _ c.if-v-lt1073741824.false), lit≤ tt)
