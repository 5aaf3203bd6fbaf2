-- `ReceiveChannelUnreliable::slice_answer` meets its contract: each answer by the tests that led to it. Assumes nothing.
use Prim.Native.Nat.{ℕ, ◌*◌, ◌≤◌, ◌<◌}
use mathlib.Core.Path.{◌≡◌, sym, ap, ◌∙◌}
use mathlib.Core.Bool.{true, false}
use borrow.Author.Tests.{eq-eqb, ne_eqb, lt-ltb, le-ltb, le-leb, lt-leb}
use lib.Dec.{eqb}
use Rattle.words.specs.Sizes.{SLICE_SIZE, LIMIT}
use Rattle.words.specs.Choice.{pick}
use Rattle.channel.specs.Settings.{stores_hold_of}
use Rattle.receive_unreliable.specs.Receive.{refused, opened, nothing, entry_refusal, lane_spot}
use Rattle.receive_unreliable.specs.Steps.{lane_for_of, slice_to}
use Rattle.std.specs.Prelude.{Option}
use Rattle.channel.specs.declared.Opened.{Opened}
use Rattle.receive_unreliable.specs.declared.ReceiveChannelUnreliable.{ReceiveChannelUnreliable}
use Rattle.receive_unreliable.specs.Fields.{state_of}
use Rattle.receive_unreliable.proofs.Spots.{in-open, in-none, open-count}
use Rattle.receive_unreliable.proofs.ReceiveChannelUnreliable.slice_answer.Goals as goal
use Rattle.receive_unreliable.proofs.ReceiveChannelUnreliable.slice_answer.Goals.{In-Some, Else-not-stores_hold}

-- the stores hold
fine : (c : Else-not-stores_hold) → (let a = c.args in stores_hold_of c.self.inside.settings a.small a.lane ≡ true)
fine c = sym c.stores_hold.ensures ∙ c.if-not-stores_hold.false

-- what no test refuses: the stores, the id, the time and the count
entered : (s : ReceiveChannelUnreliable) (id num t small lane : ℕ) → stores_hold_of s.settings small lane ≡ true → id < LIMIT → s.latest ≤ t → (num ≡ 0 → ⊥) → num ≤ s.settings.pieces
    → eqb (entry_refusal s id num t small lane) 0 ≡ true
unfolding entry_refusal
entered s id num t small lane h below later some most = rw (h, lt-leb _ _ below, le-ltb _ _ later, ne_eqb _ _ some, le-ltb _ _ most)

-- the charge of an open lane tells whether the count is its message's
counted : (c : In-Some) → (let a = c.args in let s = state_of c.self.inside in
    pick (eqb c.in-Some.o.charge (SLICE_SIZE * a.num_slices)) (opened c.in-Some.o.lane) (nothing (refused 8)) ≡ lane_spot s a.id a.num_slices a.current_time a.small a.lane)
unfolding lane_spot
counted c =
    let here = rw (← c.self.view_is) at c.requires.0 in
    let a = c.args in
    let s = state_of c.self.inside in
    let o = in-open s a.id _ _ (sym here ∙ c.in-Some.is) in
    let e = entered s a.id a.num_slices a.current_time a.small a.lane (sym c.stores_hold.ensures ∙ c.if-not-stores_hold.false) c.if-id-ge-LIMIT.false c.if-current_time-self.false c.if-num_slices-eq0.false c.if-settings-num_slices.false in
    rw (e, o.0, ← o.2, ← o.3) (open-count s c.self.invariant a.id a.num_slices o.1)

pub returns-then-id-ge-LIMIT : goal.returns-then-id-ge-LIMIT
unfolding lane_spot entry_refusal
returns-then-id-ge-LIMIT c = rw (← c.self.view_is, fine (goal.at.returns-then-id-ge-LIMIT c).Else-not-stores_hold, le-leb _ _ c.if-id-ge-LIMIT.true)

pub returns-then-current_time-self : goal.returns-then-current_time-self
unfolding lane_spot entry_refusal
returns-then-current_time-self c = rw (← c.self.view_is, fine (goal.at.returns-then-current_time-self c).Else-not-stores_hold, lt-leb _ _ c.if-id-ge-LIMIT.false, lt-ltb _ _ c.if-current_time-self.true)

pub returns-then-num_slices-eq0 : goal.returns-then-num_slices-eq0
unfolding lane_spot entry_refusal
returns-then-num_slices-eq0 c = rw (← c.self.view_is, fine (goal.at.returns-then-num_slices-eq0 c).Else-not-stores_hold, lt-leb _ _ c.if-id-ge-LIMIT.false, le-ltb _ _ c.if-current_time-self.false, eq-eqb _ _ c.if-num_slices-eq0.true)

pub returns-then-settings-num_slices : goal.returns-then-settings-num_slices
unfolding lane_spot entry_refusal
returns-then-settings-num_slices c = rw (← c.self.view_is, fine (goal.at.returns-then-settings-num_slices c).Else-not-stores_hold, lt-leb _ _ c.if-id-ge-LIMIT.false, le-ltb _ _ c.if-current_time-self.false, ne_eqb _ _ c.if-num_slices-eq0.false, lt-ltb _ _ c.if-settings-num_slices.true)

pub returns-then-o-num : goal.returns-then-o-num
returns-then-o-num c = rw (← c.self.view_is) (rw (ne_eqb _ _ c.if-o-num.true) at (counted (goal.at.returns-then-o-num c).In-Some))

pub returns-in-Some : goal.returns-in-Some
returns-in-Some c = rw (← c.self.view_is) (ap (λ (x : Option Opened). lane_for_of x c.args.free) c.in-Some.is ∙ rw (eq-eqb _ _ c.if-o-num.false) at (counted (goal.at.returns-in-Some c).In-Some))

pub fresh-requires : goal.fresh-requires
fresh-requires c = (c.requires.1, rw (← c.self.view_is) c.if-settings-num_slices.false)

pub returns : goal.returns
unfolding lane_spot
returns c =
    let a = c.args in
    let s = state_of c.self.inside in
    let here = rw (← c.self.view_is) at c.requires.0 in
    rw (← c.self.view_is)
    (ap (λ (x : Option Opened). slice_to (lane_for_of x a.free) c.fresh.result) c.in_default.is
    ∙ (rw (← c.self.view_is) at c.fresh.ensures)
    ∙ rw (entered s a.id a.num_slices a.current_time a.small a.lane (fine (goal.at.returns c).Else-not-stores_hold) c.if-id-ge-LIMIT.false c.if-current_time-self.false c.if-num_slices-eq0.false c.if-settings-num_slices.false, in-none s a.id (sym here ∙ c.in_default.is)))

pub returns-then-not-stores_hold : goal.returns-then-not-stores_hold
unfolding lane_spot entry_refusal
returns-then-not-stores_hold c =
    let a = c.args in
    let short : stores_hold_of c.self.inside.settings a.small a.lane ≡ false = sym c.stores_hold.ensures ∙ c.if-not-stores_hold.true in
    rw (← c.self.view_is, short)
