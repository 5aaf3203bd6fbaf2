-- What comes of a round once its items are chosen: packed, judged and written. Document 01, "Reliable round" and "Numbers a caller may see": 13 of
-- sequences that it would need, then 15; the allowance spent equals the payload bytes in its packets. Assumes nothing.
use Rattle.std.specs.Prelude.{ℕ, ◌+◌, ◌*◌, ◌≡◌, List, length, eqb, Result, Ok, Err}
use Rattle.words.specs.Sizes.{SLOTS, LANES, PIECES}
use Rattle.words.specs.Choice.{pick}
use Rattle.words.specs.Refusal.{number_of}
use Rattle.words.specs.declared.Refusal.{Refusal}
use Rattle.pack.specs.Pack.{Pack, payload}
use Rattle.pack.specs.Encode.{Lent, packets_bytes, end_to_end, out_after, table_after}
use Rattle.pack.specs.declared.Written.{Written}

-- most items of a round: every small message and every piece that a channel end can hold
abbrev pub ITEMS : ℕ
ITEMS = SLOTS + LANES * PIECES

-- how many packets and bytes, the sequence after the last, the allowance and what was spent of it
pub record Sums : Type 0 where
  pub packets : ℕ
  pub bytes : ℕ
  pub next : ℕ
  pub allowed : ℕ
  pub spent : ℕ

pub data Outcome : Type 0 where
  sent : Sums → Outcome
  refused : ℕ → Outcome

abbrev pub went_of : Result Written Refusal → Outcome
went_of (Ok w) =
    sent (record { packets = w.packets; bytes = w.bytes; next = w.next_sequence.0; allowed = w.budget.allowed; spent = w.budget.spent })
went_of (Err e) = refused (number_of e)

-- the first packet with sequence seq
unfoldable pub sums : Lent → ℕ → ℕ → List Pack → Sums
sums l seq allowance ps =
    record {
      packets = length ps;
      bytes = length (end_to_end (packets_bytes l seq ps));
      next = seq + length ps;
      allowed = allowance;
      spent = payload ps;
    }

-- all that a round gives beside its state, where `e` is its refusal, 0 for none: a refusal changes no byte and no entry
pub record Gives (l : Lent) (seq allowance : ℕ) (ps : List Pack) (e : ℕ) (out table out' table' : List ℕ) (r : Result Written Refusal) : Type 0 where
  pub answer : went_of r ≡ pick (eqb e 0) (sent (sums l seq allowance ps)) (refused e)
  pub bytes : out' ≡ pick (eqb e 0) (out_after l seq ps out) out
  pub entries : table' ≡ pick (eqb e 0) (table_after l seq ps table) table
