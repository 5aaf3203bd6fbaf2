-- The packets of a round in words. docs/SCRIPT.md, "Packets". Assumes nothing.
use Rattle.std.specs.Prelude.{ℕ, suc, ◌+◌, ◌*◌, ◌≡◌, List, [], ◌∷◌, length, get_or}
use Rattle.script.specs.Ascii.{ascii}
use Rattle.page.specs.Page.{Sheet, said, lined, spelt}
use Rattle.pack.specs.declared.Written.{Written}
use Rattle.answers.specs.Packets.{Decoded, told_said, Reads, bytes_at}

-- what a round wrote
abbrev pub sent_said : Written → Sheet → Sheet
sent_said w sh =
    lined (ascii "sent # packets, # bytes, next sequence #, spent #")
    (w.packets ∷ w.bytes ∷ w.next_sequence.0 ∷ w.budget.spent ∷ [])
    sh

-- words of a round's table for each packet: its start and its length
abbrev pub ENTRY : ℕ
ENTRY = 2

-- where the k-th packet starts
unfoldable pub start_at : List ℕ → ℕ → ℕ
start_at table k = get_or table (ENTRY * k) 0

-- its bytes
unfoldable pub kept_at : List ℕ → List ℕ → ℕ → List ℕ
kept_at out table k = bytes_at out (start_at table k) (get_or table (ENTRY * k + 1) 0)

-- the beginning of the k-th further line of an answer, behind the number n of its line
abbrev pub number_said : ℕ → ℕ → Sheet → Sheet
number_said n k sh = lined (ascii "#.#: ") (n ∷ k ∷ []) sh

-- the same for the k-th packet of a round, and its bytes bs from a start on
unfoldable pub shown_said : ℕ → ℕ → ℕ → List ℕ → Sheet → Sheet
shown_said n k start bs sh = said (ascii " ") (spelt bs (lined (ascii "#.#: at # length # ") (n ∷ k ∷ start ∷ length bs ∷ []) sh))

-- a page, and the tables that a packet is read into
pub record Desk : Type 0 where
  pub page : Sheet
  pub messages : List ℕ
  pub ranges : List ℕ

abbrev pub desk : Sheet → List ℕ → List ℕ → Desk
desk sh ms rs = record { page = sh; messages = ms; ranges = rs }

-- the line of the k-th packet: its bytes, and what is read there in words
pub record Apart (n : ℕ) (out table : List ℕ) (k : ℕ) (a b : Desk) : Type 0 where
  pub answer : Decoded
  pub reads : Reads (kept_at out table k) a.messages a.ranges b.messages b.ranges answer
  pub says : b.page ≡ said (ascii "\n") (told_said answer b.messages b.ranges (shown_said n k (start_at table k) (kept_at out table k) a.page))

-- the lines of the first k packets, one after the other
pub data Listed (n : ℕ) (out table : List ℕ) : ℕ → Desk → Desk → Type 0 where
  none : {a : Desk} → Listed n out table 0 a a
  more : {k : ℕ} {a b c : Desk} → Listed n out table k a b → Apart n out table k b c → Listed n out table (suc k) a c
