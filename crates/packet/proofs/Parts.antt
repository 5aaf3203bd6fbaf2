-- A table of ranges by value: how many of its records are lent, and what reading into them makes of the whole. Assumes nothing.
use Prim.Native.Nat.{ℕ, suc, ◌+◌, ◌-◌, ◌≤◌, min}
use mathlib.Core.Path.{◌≡◌, refl, sym, ap, ◌∙◌}
use mathlib.Core.Bool.{Bool, true, false}
use mathlib.Core.List.{List, [], ◌∷◌, ◌++◌}
use native.Mathlib.Nat.{sub-zero}
use native.Mathlib.Omega.{arith}
use borrow.Author.Tests.{leb-true, ltb-true, ltb-false}
use lib.Dec.{leb, ltb}
use lib.ListN.{length, set, take, drop, length-set}
use lib.Seq.{length-take-le, set-append_left}
use Rattle.std.proofs.lemmas.List.{take-append-drop}
use Rattle.std.specs.Prelude.{Result}
use Rattle.words.specs.Choice.{pick}
use Rattle.words.specs.Lists.{splice, reached}
use Rattle.words.specs.declared.Refusal.{Refusal}
use Rattle.words.proofs.Tables.{by-test}
use Rattle.octets.specs.Reader.{Res, ok, fault}
use Rattle.packet_ack.specs.Ack.{RANGES}
use Rattle.packet_ack.specs.Steps.{judged_next, unjudged_in, below, to_judge, judged_in}
use Rattle.packet_ack.specs.declared.Ack.{Ack}
use Rattle.packet_ack.specs.declared.Judgement.{Judgement}
use Rattle.packet_ack.specs.declared.Range.{Range}
use Rattle.packet.specs.declared.Packet as code
use Rattle.packet.specs.Packet.{Packet, small_reliable, small_unreliable, reliable_slice, unreliable_slice, ack, packet, holds, judged, leaves, ranges_of, DecodeGives}
use Rattle.packet.specs.Steps.{lent_of, ReadGives}

-- the ranges of an ack, judged as far as the table holds them
pub judged-all : (p : Ack) (t : List Range) (m : ℕ) {c : ℕ} {j₀ j : Judgement} → c ≡ to_judge p.count (length t) → j₀ ≡ unjudged_in m
    → j ≡ reached judged_next j₀ (below t c) → j ≡ judged_in t p.count (m - 0)
unfolding judged_in
judged-all p t m {c} {j₀} s u e =
    e ∙ ap (λ (k : ℕ). reached judged_next j₀ (below t k)) s
    ∙ ap (λ (k : Judgement). reached judged_next k (below t (to_judge p.count (length t)))) u
    ∙ ap (λ (k : ℕ). reached judged_next (unjudged_in k) (below t (to_judge p.count (length t)))) (sym (sub-zero m))

pub lent-is : (n : ℕ) {r : ℕ} → r ≡ min n RANGES → r ≡ lent_of n
lent-is n e =
    by-test (ltb n RANGES)
    (λ t. let l = ltb-true n RANGES t in rw t (omega arith))
    (λ t. let l = ltb-false n RANGES t in rw t (omega arith))

-- what is written to the front of a table is written to the front of any part that holds it
splice-append : (at : ℕ) (bs xs ys : List Range) → at + length bs ≤ length xs → splice at bs (xs ++ ys) ≡ splice at bs xs ++ ys
unfolding splice
splice-append at [] xs ys h = refl
splice-append at (b ∷ bs) xs ys h = ap (splice (suc at) bs) (set-append_left xs ys at b (omega arith)) ∙ splice-append (suc at) bs (set xs at b) ys (omega (arith, length-set {A = Range}))

module _ (m n : ℕ) (rs : List Range) (h : n ≤ length rs) where
  -- a part that is not filled
  kept : (b : Bool) (p : Packet) (next : ℕ) → ((t : List Range) → ranges_of p t ≡ t)
      → leaves ranges_of (pick b (ok p next) (fault 11)) (take n rs) ++ drop n rs ≡ leaves ranges_of (pick b (ok p next) (fault 11)) rs
  kept true p next e = ap (λ (t : List Range). t ++ drop n rs) (e (take n rs)) ∙ take-append-drop n rs ∙ sym (e rs)
  kept false p next e = take-append-drop n rs

  filled : (bs : List Range) → length bs ≤ n → splice 0 bs (take n rs) ++ drop n rs ≡ splice 0 bs rs
  filled bs l = sym (splice-append 0 bs (take n rs) (drop n rs) (omega (arith, length-take-le n rs h))) ∙ ap (splice 0 bs) (take-append-drop n rs)

  pub first-filled : (r : Res Packet) → leaves ranges_of (judged r m n) (take n rs) ++ drop n rs ≡ leaves ranges_of (judged r m n) rs
  unfolding judged
  first-filled (fault e) = take-append-drop n rs
  first-filled (ok (small_reliable p) next) = kept (holds (small_reliable p) m n) (small_reliable p) next (λ t. refl)
  first-filled (ok (small_unreliable p) next) = kept (holds (small_unreliable p) m n) (small_unreliable p) next (λ t. refl)
  first-filled (ok (reliable_slice p) next) = kept true (reliable_slice p) next (λ t. refl)
  first-filled (ok (unreliable_slice p) next) = kept true (unreliable_slice p) next (λ t. refl)
  first-filled (ok (ack p) next) =
      by-test (leb (length p.ranges) n)
      (λ t. rw t (filled p.ranges (leb-true _ _ t)))
      (λ t. rw t (take-append-drop n rs))

pub read-gives : (bs ms : List ℕ) (rs : List Range) (room n : ℕ) {ms' : List ℕ} {new : List Range} {d : Result (code.Packet × ℕ) Refusal} → n ≡ lent_of room → n ≤ length rs
    → DecodeGives bs ms (take n rs) ms' new d → ReadGives bs ms rs (lent_of room) ms' (record { answer = d; ranges = new ++ drop n rs })
read-gives bs ms rs room n e h g =
    let l = length-take-le n rs h in
    rw (← e)
    (record {
      answer = rw l at g.answer;
      messages = rw l at g.messages;
      ranges = ap (λ (t : List Range). t ++ drop n rs) (rw l at g.ranges) ∙ first-filled (length ms) n rs h (packet bs 0);
    })
