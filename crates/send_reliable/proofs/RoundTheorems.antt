-- What follows from the promise of a round: it spends the payload bytes of its packets, and no more than it was allowed; a refused one changes
-- nothing; an accepted one moves the clock, even with nothing to send; and there is one outcome only. Assumes nothing.
use Prim.Native.Nat.{ℕ, ◌+◌, ◌≤◌}
use mathlib.Core.Path.{◌≡◌, refl, sym, ap, ◌∙◌}
use mathlib.Core.Bool.{true}
use mathlib.Core.List.{List, [], ◌∷◌, ◌++◌}
use native.Mathlib.Omega.{arith}
use borrow.Author.Tests.{eqb-true}
use lib.Dec.{eqb}
use lib.ListN.{length, get_or}
use Rattle.words.specs.Sizes.{SLICE_SIZE}
use Rattle.words.specs.Pieces.{pieces_of, piece_len_of}
use Rattle.words.specs.Lists.{total}
use Rattle.words.specs.declared.Refusal.{Refusal}
use Rattle.words.proofs.Lists.{total-snoc}
use Rattle.words.proofs.Tables.{pick-cases}
use Rattle.pack.specs.Pack.{Item, payload}
use Rattle.pack.specs.Round.{Sums, Outcome, sent, refused, went_of, sums}
use Rattle.pack.specs.declared.Written.{Written}
use Rattle.std.specs.Prelude.{Result, Ok, Err}
use Rattle.pack.proofs.Theorems.{payload-kept}
use Rattle.pack.proofs.Round.{one-went}
use Rattle.send_reliable.specs.declared.SendChannelReliable.{SendChannelReliable}
use Rattle.send_reliable.specs.Sender.{no_row, live}
use Rattle.send_reliable.specs.Select.{Visit, visits_from, Chosen, visit, unvisited, select, with_chosen}
use Rattle.send_reliable.specs.Round.{Given, chosen, packs, lent, state_after, Round, RoundGives}
use Rattle.send_reliable.proofs.RoundLists.{reached-always}
use Rattle.send_reliable.proofs.Select.{by-visit}
use Rattle.send_reliable.proofs.Rounds.{accepted, stopped}

-- ---- the spending

-- a piece is never longer than what must be left of the allowance
piece-short : (n i : ℕ) → piece_len_of n i ≤ SLICE_SIZE
piece-short n i =
    pick-cases (λ k. k ≤ SLICE_SIZE) (eqb (i + 1) (pieces_of n))
    (λ e. let l = eqb-true (i + 1) (pieces_of n) e in omega arith)
    (λ e. omega arith)

-- what was chosen and what is left are the allowance
abbrev Spends : ℕ → Chosen → Type 0
Spends allowance c = total (λ i. i.len) c.items + c.left ≡ allowance

one-spends : (s : SendChannelReliable) (now allowance : ℕ) (c : Chosen) (v : Visit) → Spends allowance c → Spends allowance (visit s.settings s.resend_time now c v)
one-spends s now allowance c v w =
    by-visit s.settings s.resend_time now (Spends allowance) c v w
    (λ i t e h. rw (total-snoc (λ (i : Item). i.len) c.items) (omega arith))
    (λ l a next e h. rw (total-snoc (λ (i : Item). i.len) c.items) (omega (arith, piece-short (get_or c.rows v.row no_row).len v.piece)))

-- what a round that went tells
abbrev sums_of : Outcome → Sums
sums_of (sent t) = t
sums_of (refused e) = record { packets = 0; bytes = 0; next = 0; allowed = 0; spent = 0 }

module _ (s : SendChannelReliable) (g : Given) where
  -- a round spends the payload bytes of its packets; with what is left, that is its allowance
  pub round-spends : payload (packs s g) + (chosen s g).left ≡ g.allowance
  unfolding select total
  round-spends =
      ap (λ (n : ℕ). n + (chosen s g).left) (payload-kept true (chosen s g).items)
      ∙ reached-always (visit s.settings s.resend_time g.now) (Spends g.allowance) (one-spends s g.now g.allowance) (unvisited s g.allowance) (visits_from 0 (live s)) (omega arith)

  module _ (out table out' table' : List ℕ) (r : Round) (w : RoundGives s g out table out' table' r) where
    -- and so it says: it spent them, and at most what it was allowed
    pub spent-told : (x : Written) → r.answer ≡ Ok x → (x.budget.spent ≡ payload (packs s g)) × (x.budget.allowed ≡ g.allowance) × (x.budget.spent ≤ x.budget.allowed)
    unfolding sums
    spent-told x e =
        let o : went_of (Ok x) ≡ sent (sums (lent s g) g.seq g.allowance (packs s g)) = sym (ap went_of e) ∙ rw (accepted w.went x e) at w.went.answer in
        let a : x.budget.spent ≡ payload (packs s g) = ap (λ t. (sums_of t).spent) o in
        let b : x.budget.allowed ≡ g.allowance = ap (λ t. (sums_of t).allowed) o in
        (a, b, omega (arith, round-spends))

    -- ---- a refused round changes nothing

    pub refused-nothing : (e : Refusal) → r.answer ≡ Err e → (r.state ≡ s) × (out' ≡ out) × (table' ≡ table)
    refused-nothing e h =
        let n = stopped w.went e h in (rw n at w.state, rw n at w.went.bytes, rw n at w.went.entries)

    -- ---- an accepted one moves the clock

    pub accepted-state : (x : Written) → r.answer ≡ Ok x → r.state ≡ state_after s g
    accepted-state x e = rw (accepted w.went x e) at w.state

    pub clock-moves : (x : Written) → r.answer ≡ Ok x → r.state.latest ≡ g.now
    unfolding state_after
    clock-moves x e = ap (λ (t : SendChannelReliable). t.latest) (accepted-state x e)

-- nothing chosen, nothing changed
abbrev Quiet : SendChannelReliable → ℕ → Chosen → Type 0
Quiet s allowance c = c.items ≡ [] → c ≡ unvisited s allowance

some-chosen : {P : Type 0} (is : List Item) (i : Item) → is ++ (i ∷ []) ≡ [] → P
some-chosen is i e = absurd (let n = ap length e in omega (arith, length-snoc is i))
  where
    length-snoc : (is : List Item) (i : Item) → 1 ≤ length (is ++ (i ∷ []))
    length-snoc [] i = omega arith
    length-snoc (x ∷ is) i = omega arith

one-quiet : (s : SendChannelReliable) (now allowance : ℕ) (c : Chosen) (v : Visit) → Quiet s allowance c → Quiet s allowance (visit s.settings s.resend_time now c v)
one-quiet s now allowance c v w =
    by-visit s.settings s.resend_time now (Quiet s allowance) c v w
    (λ i t e h n. some-chosen c.items _ n)
    (λ l a next e h n. some-chosen c.items _ n)

module _ (s : SendChannelReliable) (g : Given) (nothing : (chosen s g).items ≡ []) where
  nothing-chosen : chosen s g ≡ unvisited s g.allowance
  unfolding select
  nothing-chosen =
      reached-always (visit s.settings s.resend_time g.now) (Quiet s g.allowance) (one-quiet s g.now g.allowance) (unvisited s g.allowance) (visits_from 0 (live s)) (λ n. refl) nothing

  -- an accepted round with nothing to send moves the clock, and nothing else
  pub only-clock-moves : (out table out' table' : List ℕ) (r : Round) → RoundGives s g out table out' table' r → (x : Written) → r.answer ≡ Ok x
      → r.state ≡ with_chosen s g.now (unvisited s g.allowance)
  unfolding state_after
  only-clock-moves out table out' table' r w x e = accepted-state s g out table out' table' r w x e ∙ ap (with_chosen s g.now) nothing-chosen

-- ---- one outcome only

pub one-round : (s : SendChannelReliable) (g : Given) (out table out₁ table₁ out₂ table₂ : List ℕ) (r q : Round)
    → RoundGives s g out table out₁ table₁ r → RoundGives s g out table out₂ table₂ q → (r ≡ q) × (out₁ ≡ out₂) × (table₁ ≡ table₂)
one-round s g out table out₁ table₁ out₂ table₂ r q x y =
    let o = one-went _ _ _ _ _ out table out₁ table₁ out₂ table₂ r.answer q.answer x.went y.went in
    (ap (λ (a : Result Written Refusal). record { answer = a; state = r.state }) o.0 ∙ ap (λ (t : SendChannelReliable). record { answer = q.answer; state = t }) (x.state ∙ sym y.state), o.1, o.2)
