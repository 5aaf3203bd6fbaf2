-- What comes of a round: the two answers of `send`, and that there is one outcome only. Assumes nothing.
use Prim.Native.Nat.{ℕ, ◌+◌, ◌<◌, ◌≤◌}
use mathlib.Core.Path.{◌≡◌, refl, sym, ap, ◌∙◌}
use mathlib.Core.List.{List}
use lib.ListN.{length, take}
use Rattle.words.specs.Sizes.{SLICE_SIZE}
use Rattle.words.specs.Lists.{total, All}
use Rattle.words.specs.Refusal.{number_of}
use Rattle.words.specs.declared.Refusal.{Refusal}
use Rattle.words.proofs.Lists.{all_map}
use Rattle.words.proofs.Unique.{told-apart, refusal_of, refusal-undone}
use Rattle.words.proofs.Unique.{numbered-above}
use Rattle.pack.specs.Pack.{Item, items_of, Pack, pack}
use Rattle.pack.specs.Encode.{Lent, round_refusal, out_after, table_after}
use Rattle.pack.specs.Rows.{packs_in, Packs, Chosen, Ready, round_number, verdict_of}
use Rattle.pack.specs.Round.{Outcome, sent, refused, went_of, sums, Gives}
use Rattle.pack.specs.declared.Packed.{Packed}
use Rattle.pack.specs.declared.Item as code
use Rattle.pack.specs.declared.Row.{Row}
use Rattle.pack.specs.declared.Written.{Written}
use Rattle.std.specs.Prelude.{Result, Ok, Err}
use Rattle.pack.proofs.Theorems.{payload-kept, bytes-told, judged, ready}

-- what was chosen is short
pub chosen-short : (l : Lent) (is : List Item) → All (Chosen l) is → All (λ i. i.len ≤ SLICE_SIZE) is
chosen-short l = all_map (Chosen l) (λ i. i.len ≤ SLICE_SIZE) (λ i s. s.len)

-- ---- the two answers of `send`, by the verdict

module _ (l : Lent) (seq : ℕ) (t : List code.Item) (p : List Row) (r : Packed) (w : Packs l.ids seq t p r) (c : All (Chosen l) (items_of t)) (out table : List ℕ)
    (v : Result (Unit {0}) Refusal) (told : verdict_of v ≡ round_number seq r (length out) (length table)) where
  abbrev number : ℕ
  number = round_refusal l seq (pack l.ids (items_of t)) (length out) (length table)

  told-by : verdict_of v ≡ number
  told-by = told ∙ judged l seq t p r w c (length out) (length table)

  pub went-refused : (allowance : ℕ) (e : Refusal) → v ≡ Err e
      → Gives l seq allowance (pack l.ids (items_of t)) (round_refusal l seq (pack l.ids (items_of t)) (length out) (length table)) out table out table (Err e)
  went-refused allowance e h =
      let z : number ≡ number_of e = sym told-by ∙ ap verdict_of h in
      record { answer = rw (z, numbered-above e); bytes = rw (z, numbered-above e); entries = rw (z, numbered-above e) }

  module _ (h : v ≡ Ok tt) where
    pub went-ready : length t < length p → Ready l seq t (take r.packets p) (length out) (length table)
    went-ready q = ready l seq t p r w c (length out) (length table) q (sym told ∙ ap verdict_of h)

    pub went-sent : (a : Written) (out' table' : List ℕ) → a.packets ≡ r.packets → a.bytes ≡ r.bytes → a.next_sequence.0 ≡ seq + r.packets
        → a.budget.spent ≡ total (λ i. i.len) (items_of t) → out' ≡ out_after l seq (packs_in t p r.packets) out → table' ≡ table_after l seq (packs_in t p r.packets) table
        → Gives l seq a.budget.allowed (pack l.ids (items_of t)) (round_refusal l seq (pack l.ids (items_of t)) (length out) (length table)) out table out' table' (Ok a)
    unfolding sums
    went-sent a out' table' ek eb en es eo et =
        let z : number ≡ 0 = sym told-by ∙ ap verdict_of h in
        record {
          answer = rw (z, ek, eb, en, es, bytes-told l seq t p r w c (length out) (length table), w.packets, payload-kept l.ids (items_of t));
          bytes = rw (z, ← w.packs) eo;
          entries = rw (z, ← w.packs) et;
        }

-- ---- one outcome only

abbrev went_from : Outcome → Result Written Refusal
went_from (sent s) =
    Ok (record {
      packets = s.packets;
      bytes = s.bytes;
      next_sequence = record { 0 = s.next };
      budget = record { allowed = s.allowed; spent = s.spent };
    })
went_from (refused e) = Err (refusal_of e)

went-undone : (r : Result Written Refusal) → went_from (went_of r) ≡ r
went-undone (Ok w) = refl
went-undone (Err e) = ap Err (refusal-undone e)

-- two results that meet the promise for the same inputs are equal, with all that they wrote
pub one-went : (l : Lent) (seq allowance : ℕ) (ps : List Pack) (e : ℕ) (out table out₁ table₁ out₂ table₂ : List ℕ) (r q : Result Written Refusal)
    → Gives l seq allowance ps e out table out₁ table₁ r → Gives l seq allowance ps e out table out₂ table₂ q → (r ≡ q) × (out₁ ≡ out₂) × (table₁ ≡ table₂)
one-went l seq allowance ps e out table out₁ table₁ out₂ table₂ r q x y =
    (told-apart went_of went_from went-undone r q (x.answer ∙ sym y.answer), x.bytes ∙ sym y.bytes, x.entries ∙ sym y.entries)
