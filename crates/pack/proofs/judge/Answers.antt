-- `pack::judge` meets its contract. Assumes nothing.
use native.Mathlib.Omega.{arith}
use Prim.Native.Nat.{◌<◌, ◌≤◌, ◌+◌, ◌*◌}
use borrow.Author.Tests.{le-ltb, lt-ltb}
use Rattle.words.specs.Sizes.{LIMIT}
use Rattle.pack.specs.Encode.{ENTRY}
use Rattle.pack.specs.Rows.{round_number}
use Rattle.pack.proofs.judge.Goals as goal
use Rattle.pack.proofs.judge.Goals.{then-room-packed-via-then-room-packed, then-room-packed-via-else-room-packed+then-entries-packets}

pub returns-then-packets-sequence : goal.returns-then-packets-sequence
unfolding round_number
returns-then-packets-sequence c =
    let a = c.args in
    let h : LIMIT < a.sequence.0 + a.packed.packets = omega arith in
    simp (lt-ltb _ _ h)

pub returns-then-room-packed : goal.returns-then-room-packed
unfolding round_number
returns-then-room-packed c =
    let a = c.args in
    let h : a.sequence.0 + a.packed.packets ≤ LIMIT = omega arith in
    elim c.then-room-packed.branch [
      | then-room-packed-via-then-room-packed w ↦ simp (le-ltb _ _ h, lt-ltb _ _ w.if-room-packed.true)
      | then-room-packed-via-else-room-packed+then-entries-packets w ↦
          let k : a.entries < ENTRY * a.packed.packets = let q = w.if-entries-packets.true in omega arith in
          simp (le-ltb _ _ h, le-ltb _ _ w.if-room-packed.false, lt-ltb _ _ k)
    ]

pub returns : goal.returns
unfolding round_number
returns c =
    let a = c.args in
    let h : a.sequence.0 + a.packed.packets ≤ LIMIT = omega arith in
    let k : ENTRY * a.packed.packets ≤ a.entries = let q = c.if-entries-packets.false in omega arith in
    simp (le-ltb _ _ h, le-ltb _ _ c.if-room-packed.false, le-ltb _ _ k)
