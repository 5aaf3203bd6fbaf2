-- Laws that put an answer together of what its parts are. Assumes nothing.
use Prim.Native.Nat.{ℕ, ◌+◌}
use mathlib.Core.Path.{◌≡◌, refl, ap, ◌∙◌}
use mathlib.Core.List.{List}
use lib.ListN.{get_or}
use Rattle.script.specs.Ascii.{ascii}
use Rattle.page.specs.Page.{Sheet, put, said}
use Rattle.channel.specs.declared.Settings.{Settings}
use Rattle.answers.specs.Packets.{told_said, Reads, Decoded}
use Rattle.answers.specs.Rounds.{start_at, kept_at, shown_said, Desk, Apart}
use Rattle.answers.specs.Lent.{settings_at}

pub settings-read : (ns : List ℕ) (i a b c d : ℕ) → a ≡ get_or ns i 0 → b ≡ get_or ns (i + 1) 0 → c ≡ get_or ns (i + 2) 0 → d ≡ get_or ns (i + 3) 0
    → ◌≡◌ {A = Settings} (record { slots = a; lanes = b; pieces = c; max_memory_usage_bytes = d }) (settings_at ns i)
unfolding settings_at
settings-read ns i a b c d e f g h = rw (e, f, g, h) refl

-- the line of a packet, of the bytes and the start that were read in the table
module _ (n : ℕ) (out table : List ℕ) (k : ℕ) (a b : Desk) (s : List ℕ) (start : ℕ) (x y : Sheet) (d : Decoded) where
  pub apart : s ≡ kept_at out table k → start ≡ start_at table k → x ≡ shown_said n k start s a.page → Reads s a.messages a.ranges b.messages b.ranges d
      → y ≡ told_said d b.messages b.ranges x → b.page ≡ said (ascii "\n") y → Apart n out table k a b
  apart e f g h i j =
      record {
        answer = d;
        reads = rw (← e) h;
        says = j ∙ ap (put _ _ _) (i ∙ ap (told_said d b.messages b.ranges) (g ∙ rw (e, f) refl));
      }
