-- `Settings::judge` meets its contract: each answer by the tests that led to it. Assumes nothing.
use borrow.Author.Tests.{lt-ltb, le-ltb}
use Rattle.channel.specs.Settings.{settings_refusal}
use Rattle.channel.proofs.Settings.judge.Goals as goal

pub returns-then-self-lt1 : goal.returns-then-self-lt1
unfolding settings_refusal
returns-then-self-lt1 c = simp (lt-ltb _ _ c.if-self-lt1.true)

pub returns-then-self-gt-SLOTS : goal.returns-then-self-gt-SLOTS
unfolding settings_refusal
returns-then-self-gt-SLOTS c = simp (le-ltb _ _ c.if-self-lt1.false, lt-ltb _ _ c.if-self-gt-SLOTS.true)

pub returns-then-self-lt1-2 : goal.returns-then-self-lt1-2
unfolding settings_refusal
returns-then-self-lt1-2 c = simp (le-ltb _ _ c.if-self-lt1.false, le-ltb _ _ c.if-self-gt-SLOTS.false, lt-ltb _ _ c.if-self-lt1-2.true)

pub returns-then-self-gt-LANES : goal.returns-then-self-gt-LANES
unfolding settings_refusal
returns-then-self-gt-LANES c = simp (le-ltb _ _ c.if-self-lt1.false, le-ltb _ _ c.if-self-gt-SLOTS.false, le-ltb _ _ c.if-self-lt1-2.false, lt-ltb _ _ c.if-self-gt-LANES.true)

pub returns-then-self-lt1-3 : goal.returns-then-self-lt1-3
unfolding settings_refusal
returns-then-self-lt1-3 c = simp (le-ltb _ _ c.if-self-lt1.false, le-ltb _ _ c.if-self-gt-SLOTS.false, le-ltb _ _ c.if-self-lt1-2.false, le-ltb _ _ c.if-self-gt-LANES.false, lt-ltb _ _ c.if-self-lt1-3.true)

pub returns-then-self-gt-PIECES : goal.returns-then-self-gt-PIECES
unfolding settings_refusal
returns-then-self-gt-PIECES c = simp (le-ltb _ _ c.if-self-lt1.false, le-ltb _ _ c.if-self-gt-SLOTS.false, le-ltb _ _ c.if-self-lt1-2.false, le-ltb _ _ c.if-self-gt-LANES.false, le-ltb _ _ c.if-self-lt1-3.false, lt-ltb _ _ c.if-self-gt-PIECES.true)

pub returns-then-self-gt-MAX_MEMORY : goal.returns-then-self-gt-MAX_MEMORY
unfolding settings_refusal
returns-then-self-gt-MAX_MEMORY c = simp (le-ltb _ _ c.if-self-lt1.false, le-ltb _ _ c.if-self-gt-SLOTS.false, le-ltb _ _ c.if-self-lt1-2.false, le-ltb _ _ c.if-self-gt-LANES.false, le-ltb _ _ c.if-self-lt1-3.false, le-ltb _ _ c.if-self-gt-PIECES.false, lt-ltb _ _ c.if-self-gt-MAX_MEMORY.true)

pub returns : goal.returns
unfolding settings_refusal
returns c = simp (le-ltb _ _ c.if-self-lt1.false, le-ltb _ _ c.if-self-gt-SLOTS.false, le-ltb _ _ c.if-self-lt1-2.false, le-ltb _ _ c.if-self-gt-LANES.false, le-ltb _ _ c.if-self-lt1-3.false, le-ltb _ _ c.if-self-gt-PIECES.false, le-ltb _ _ c.if-self-gt-MAX_MEMORY.false)
