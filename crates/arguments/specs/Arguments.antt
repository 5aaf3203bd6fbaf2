-- A line taken apart by a list of calls. docs/SCRIPT.md, "Calls" and "Bad lines". Assumes nothing.
use Rattle.std.specs.Prelude.{ℕ, zero, suc, ◌+◌, min, Bool, List, [], ◌∷◌, length, set, eqb, ltb, Option, Some, None, Result, Ok, Err}
use Prim.Native.Char.{code}
use Rattle.words.specs.Choice.{pick}
use Rattle.words.specs.Lists.{splice}
use Rattle.script.specs.Words.{word_at, letters_of, same}
use Rattle.script.specs.Numbers.{Number, number_of}
use Rattle.script.specs.Bytes.{Bytes, Outcome, bytes_of}
use Rattle.script.specs.declared.Word.{Word}
use Rattle.script.specs.declared.NumberFault.{NumberFault}
use Rattle.script.specs.declared.NumberFault.TheVariants.{NotANumber as no_number, TooLarge as too_large}
use Rattle.script.specs.declared.BytesFault.{BytesFault}
use Rattle.script.specs.declared.BytesFault.TheVariants.{NotBytes as no_bytes, TooMany as too_many}
use Rattle.memory.specs.Sizes.{SMALL, LANE, LANES, OUT, TABLE, MESSAGES, RANGES, WIRE}
use Rattle.arguments.specs.Sizes.{MAX, CHANNEL, COUNT, MORE}
use Rattle.arguments.specs.declared.Fault.{Fault}
use Rattle.arguments.specs.declared.Fault.TheVariants.{Missing, NotANumber, TooLarge, NotBytes, TooMany, OneTooMany}
use Rattle.arguments.specs.declared.Call.{Call}
use Rattle.arguments.specs.declared.LineFault.{LineFault}
use Rattle.arguments.specs.declared.LineFault.TheVariants.{NoCall, Bad}
use Rattle.arguments.specs.declared.Taken.{Taken}

-- a line taken apart, or what is wrong with it
abbrev pub Read : Type 0
Read = Result Call LineFault

-- how far one argument was taken, or what is wrong with it
abbrev pub Step : Type 0
Step = Result Taken Fault

-- which call of a list, and the form of its arguments
abbrev pub Found : Type 0
Found = Option (ℕ × Word)

-- the k-th call, with so many numbers and bytes
abbrev pub called : ℕ → ℕ → ℕ → Read
called k n b = Ok (record { call = k; numbers = n; bytes = b })

-- the same, of what was taken
abbrev pub called_with : ℕ → Taken → Call
called_with k t = record { call = k; numbers = t.numbers; bytes = t.bytes }

-- faults of numbers and of bytes are faults of their argument
abbrev pub number_fault : NumberFault → Fault
number_fault no_number = NotANumber
number_fault too_large = TooLarge

abbrev pub bytes_fault : BytesFault → Fault
bytes_fault no_bytes = NotBytes
bytes_fault too_many = TooMany

-- an answer, and what stands in the lent numbers and bytes with it
pub record Leaves (A : Type 0) : Type 0 where
  pub answer : A
  pub numbers : List ℕ
  pub bytes : List ℕ

abbrev pub leaves : {A : Type 0} → A → List ℕ → List ℕ → Leaves A
leaves a ns bs = record { answer = a; numbers = ns; bytes = bs }

-- a word has a letter
abbrev pub has : Word → Bool
has w = ltb w.start w.end

-- ---- which call a list names

-- the form of the call at a place of the list stands behind its name
abbrev pub form_at : List ℕ → ℕ → Word
form_at calls at = word_at calls (word_at calls at).end

-- the first call of a name among n, from the k-th on, at a place of the list
unfoldable pub found_from : ℕ → List ℕ → List ℕ → ℕ → ℕ → Found
found_from zero calls name at k = None
found_from (suc n) calls name at k =
    pick (has (word_at calls at))
    (pick (same (letters_of calls (word_at calls at)) name) (Some (k, form_at calls at)) (found_from n calls name (form_at calls at).end (k + 1)))
    None

-- a list has no more calls than letters
abbrev pub found : List ℕ → List ℕ → Found
found calls name = found_from (length calls) calls name 0 0

-- ---- one argument

-- the largest number of a form: a channel, a two-byte count, or how much there is to be lent; of n there is no limit
unfoldable pub most_of : ℕ → ℕ
most_of c =
    pick (eqb c (code "c")) CHANNEL
    (pick (eqb c (code "h")) COUNT
    (pick (eqb c (code "S")) SMALL
    (pick (eqb c (code "L")) LANES
    (pick (eqb c (code "O")) OUT
    (pick (eqb c (code "T")) TABLE
    (pick (eqb c (code "E")) LANE
    (pick (eqb c (code "M")) MESSAGES
    (pick (eqb c (code "R")) RANGES
    (pick (eqb c (code "W")) WIRE MAX)))))))))

-- the number of the argument behind k others; the count stops at MAX, which no line reaches
abbrev pub counted : ℕ → ℕ
counted k = min (k + 1) MAX

-- the place after a word that is set down in a table of so much room; with no room it is the same
abbrev pub place_after : ℕ → ℕ → ℕ
place_after room i = pick (ltb i room) (i + 1) i

-- a number is judged by its form and then by its size, and set down behind those before it
abbrev pub number_taken : ℕ → ℕ → Taken → List ℕ → List ℕ → Number → Leaves Step
number_taken most end t ns bs (Err no_number) = leaves (Err NotANumber) ns bs
number_taken most end t ns bs (Err too_large) = leaves (Err TooLarge) ns bs
number_taken most end t ns bs (Ok v) =
    pick (ltb most v) (leaves (Err TooLarge) ns bs)
    (leaves (Ok (record { at = end; count = counted t.count; numbers = place_after (length ns) t.numbers; bytes = t.bytes })) (set ns t.numbers v) bs)

-- bytes are set down at the front; those before a faulty part, or one that has no room, stay there
abbrev pub bytes_step : ℕ → Taken → Bytes → Step
bytes_step end t (Err no_bytes) = Err NotBytes
bytes_step end t (Err too_many) = Err TooMany
bytes_step end t (Ok n) = Ok (record { at = end; count = counted t.count; numbers = t.numbers; bytes = n })

abbrev pub bytes_taken : ℕ → Taken → List ℕ → List ℕ → Outcome → Leaves Step
bytes_taken end t ns bs o = leaves (bytes_step end t o.answer) ns (splice 0 o.told bs)

-- the word of an argument: b are bytes, and any other letter is a number
abbrev pub word_taken : ℕ → List ℕ → Word → Taken → List ℕ → List ℕ → Leaves Step
word_taken c line w t ns bs =
    pick (has w)
    (pick (eqb c (code "b"))
    (bytes_taken w.end t ns bs (bytes_of (length bs) (letters_of line w)))
    (number_taken (most_of c) w.end t ns bs (number_of (letters_of line w))))
    (leaves (Err Missing) ns bs)

-- `-` is none
unfoldable pub argument_taken : ℕ → List ℕ → Taken → List ℕ → List ℕ → Leaves Step
argument_taken c line t ns bs = pick (eqb c (code "-")) (leaves (Ok t) ns bs) (word_taken c line (word_at line t.at) t ns bs)

-- a fault is told of the argument behind k others
abbrev pub numbered_of : ℕ → Step → Result Taken LineFault
numbered_of k (Ok t) = Ok t
numbered_of k (Err e) = Err (Bad (counted k) e)

-- ---- the arguments from the left: the first fault is told, by the number of its argument

abbrev pub onward_by : Step → ℕ → List ℕ → List ℕ → (Taken → List ℕ → List ℕ → Leaves Read) → Leaves Read
onward_by (Ok t) k ns bs f = f t ns bs
onward_by (Err e) k ns bs f = leaves (Err (Bad (counted k) e)) ns bs

abbrev pub onward : Leaves Step → ℕ → (Taken → List ℕ → List ℕ → Leaves Read) → Leaves Read
onward a k f = onward_by a.answer k a.numbers a.bytes f

-- nothing stands behind the last argument
unfoldable pub ended_of : ℕ → List ℕ → Taken → Read
ended_of k line t = pick (has (word_at line t.at)) (Err (Bad (counted t.count) OneTooMany)) (called k t.numbers t.bytes)

-- w: further numbers, as many as there are, and n at most
unfoldable pub further_taken : ℕ → ℕ → List ℕ → Taken → List ℕ → List ℕ → Leaves Read
further_taken zero k line t ns bs = leaves (ended_of k line t) ns bs
further_taken (suc n) k line t ns bs =
    pick (has (word_at line t.at))
    (onward (number_taken MAX (word_at line t.at).end t ns bs (number_of (letters_of line (word_at line t.at)))) t.count
    (λ u ns' bs'. further_taken n k line u ns' bs'))
    (leaves (called k t.numbers t.bytes) ns bs)

-- a letter of the form for each
unfoldable pub taken_by : ℕ → List ℕ → List ℕ → Taken → List ℕ → List ℕ → Leaves Read
taken_by k [] line t ns bs = leaves (ended_of k line t) ns bs
taken_by k (c ∷ form) line t ns bs =
    pick (eqb c (code "w")) (further_taken MORE k line t ns bs)
    (onward (argument_taken c line t ns bs) t.count (λ u ns' bs'. taken_by k form line u ns' bs'))

-- ---- a line, from the word of the call on

abbrev pub begun : ℕ → Taken
begun at = record { at = at; count = 0; numbers = 0; bytes = 0 }

abbrev pub called_by : List ℕ → List ℕ → ℕ → List ℕ → List ℕ → Found → Leaves Read
called_by calls line at ns bs None = leaves (Err NoCall) ns bs
called_by calls line at ns bs (Some (k, form)) = taken_by k (letters_of calls form) line (begun at) ns bs

unfoldable pub taken_apart_of : List ℕ → List ℕ → ℕ → List ℕ → List ℕ → Leaves Read
taken_apart_of calls line from ns bs =
    called_by calls line (word_at line from).end ns bs (found calls (letters_of line (word_at line from)))
