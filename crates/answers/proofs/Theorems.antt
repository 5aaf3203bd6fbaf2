-- Each promise that is a relation admits one outcome. Assumes nothing.
use Prim.Native.Nat.{ℕ, zero, suc, ◌/◌}
use mathlib.Core.Path.{◌≡◌, refl, sym, ap, ◌∙◌}
use mathlib.Core.List.{List}
use lib.ListN.{length}
use Rattle.packet.specs.Packet.{leaves, ranges_of}
use Rattle.packet.specs.Steps.{ReadGives, lent_of}
use Rattle.packet.specs.declared.DecodedTable.{DecodedTable}
use Rattle.packet.proofs.Theorems.{one_table}
use Rattle.range_words.specs.Words.{table_of}
use Rattle.answers.specs.Packets.{RANGE, packet_in, Reads, Decoded}
use Rattle.answers.specs.Rounds.{kept_at, Desk, Apart, Listed, none, more}

module _ (bs ms rs : List ℕ) where
  abbrev table_for : Decoded → DecodedTable
  table_for d = record { answer = d; ranges = leaves ranges_of (packet_in bs (length ms) (length rs)) (table_of rs) }

  gives : {m r : List ℕ} (d : Decoded) → Reads bs ms rs m r d → ReadGives bs ms (table_of rs) (lent_of (length rs / RANGE)) m (table_for d)
  gives d x = record { answer = x.answer; messages = x.messages; ranges = refl }

  pub one-read : {m m' r r' : List ℕ} (d d' : Decoded) → Reads bs ms rs m r d → Reads bs ms rs m' r' d' → (d ≡ d') × (m ≡ m') × (r ≡ r')
  one-read d d' x y =
      let one = one_table bs ms (table_of rs) (lent_of (length rs / RANGE)) (table_for d) (table_for d') (gives d x) (gives d' y) in
      (ap (λ (t : DecodedTable). t.answer) one.0, one.1, x.ranges ∙ sym y.ranges)

module _ (n : ℕ) (out table : List ℕ) where
  one_apart : (k : ℕ) (a b c : Desk) → Apart n out table k a b → Apart n out table k a c → b ≡ c
  one_apart k a b c x y =
      let one = one-read (kept_at out table k) a.messages a.ranges x.answer y.answer x.reads y.reads in
      let page : b.page ≡ c.page = x.says ∙ rw (one.0, one.1, one.2) refl ∙ sym y.says in
      λ i. record { page = page i; messages = one.1 i; ranges = one.2 i }

  pub one-listed : (k : ℕ) (a b c : Desk) → Listed n out table k a b → Listed n out table k a c → b ≡ c
  one-listed zero a b c none none = refl
  one-listed (suc k) a b c (more {b = d} x y) (more {b = e} z w) = one_apart k d b c y (rw (one-listed k a d e x z) w)
