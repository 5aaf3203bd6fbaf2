-- One outcome only: two results that meet a promise are equal. Assumes nothing.
use Prim.Native.Nat.{ℕ}
use mathlib.Core.Path.{◌≡◌, refl, sym, ap, ◌∙◌}
use mathlib.Core.Bool.{Bool, true, false}
use mathlib.Core.List.{List}
use lib.Dec.{eqb}
use Rattle.std.specs.Prelude.{Result, Ok, Err}
use Rattle.words.specs.Choice.{pick}
use Rattle.words.specs.declared.Refusal.{Refusal}
use Rattle.words.proofs.Unique.{told-apart, refusal_of, refusal-undone, numbered-above}
use Rattle.octets.proofs.Theorems.{one-put, one_left}
use Rattle.packet_ack.specs.Write.{ack_bytes}
use Rattle.pending_acks.specs.declared.PendingAcks.{PendingAcks}
use Rattle.pending_acks.specs.Gather.{Added, ranges_of, add_number, AddGives, Reply, yes, no, refused, reply_of, PacketGives}

-- ---- adding

abbrev add_from : ℕ → Result (Unit {0}) Refusal
add_from n = pick (eqb n 0) (Ok tt) (Err (refusal_of n))

add-undone : (a : Result (Unit {0}) Refusal) → add_from (add_number a) ≡ a
add-undone (Ok tt) = refl
add-undone (Err e) = rw (numbered-above e) (ap Err (refusal-undone e))

pub one-added : (g : PendingAcks) (x : ℕ) (r q : Added) → AddGives g x r → AddGives g x q → r ≡ q
one-added g x r q a b =
    let e : r.answer ≡ q.answer = told-apart add_number add_from add-undone r.answer q.answer (a.answer ∙ sym b.answer) in
    let s : r.state ≡ q.state = a.state ∙ sym b.state in
    λ i. record { answer = e i; state = s i }

-- ---- asking

abbrev asked_from : Reply → Result Bool Refusal
asked_from yes = Ok true
asked_from no = Ok false
asked_from (refused n) = Err (refusal_of n)

asked-undone : (a : Result Bool Refusal) → asked_from (reply_of a) ≡ a
asked-undone (Ok true) = refl
asked-undone (Ok false) = refl
asked-undone (Err e) = ap Err (refusal-undone e)

pub one-asked : {y : Reply} (r q : Result Bool Refusal) → reply_of r ≡ y → reply_of q ≡ y → r ≡ q
one-asked r q a b = told-apart reply_of asked_from asked-undone r q (a ∙ sym b)

-- ---- the packet

pub one-packet : (g : PendingAcks) (seq at : ℕ) (out : List ℕ) {o u : List ℕ} (r q : Result ℕ Refusal) → PacketGives g seq at out o r → PacketGives g seq at out u q → (r ≡ q) × (o ≡ u)
one-packet g seq at out r q a b = (one-put r q a.answer b.answer, one_left at (ack_bytes seq (ranges_of g)) out r q a.answer b.answer a.bytes b.bytes)
