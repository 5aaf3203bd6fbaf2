-- What a call of `add_pending_ack` gives. Assumes nothing.
use Prim.Native.Nat.{ℕ, ◌≤◌, ◌<◌}
use mathlib.Core.Path.{◌≡◌, sym, ◌∙◌}
use borrow.Author.Tests.{le-leb, lt-leb}
use Rattle.std.specs.Prelude.{Ok, Err}
use Rattle.words.specs.Sizes.{LIMIT}
use Rattle.words.specs.declared.Refusal.TheVariants.{BadNumber}
use Rattle.pending_acks.specs.declared.PendingAcks.{PendingAcks}
use Rattle.pending_acks.specs.Gather.{inserted, ranges_of, Valid, gathered, added, AddGives}
use Rattle.pending_acks.proofs.Valid.{added-valid, added-below}

module _ (g : PendingAcks) (v : Valid g) (x : ℕ) where
  pub add-refused : LIMIT ≤ x → AddGives g x (record { answer = Err BadNumber; state = g })
  unfolding added
  add-refused h = record { answer = rw (le-leb _ _ h); state = rw (le-leb _ _ h); valid = v }

  pub add_done : {s : PendingAcks} → x < LIMIT → s ≡ gathered (inserted x (ranges_of g)) g.dropped → AddGives g x (record { answer = Ok tt; state = s })
  add_done {s} h e =
      let n : s ≡ added g x = e ∙ sym (added-below g x h) in
      record { answer = rw (lt-leb _ _ h); state = n; valid = rw n (added-valid g x v) }
