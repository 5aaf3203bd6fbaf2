-- Lines of an input, in a buffer that holds a part of it. Assumes nothing.
use Rattle.std.specs.Prelude.{ℕ, ◌+◌, ◌-◌, ◌≤◌, ◌≡◌, Bool, true, false, List, length, take, drop, eqb, ltb, leb}
use Rattle.words.specs.Choice.{pick}
use Rattle.script.specs.Words.{newline, until}
use Rattle.lines.specs.declared.Lines.{Lines}
use Rattle.words.specs.declared.After.{After}
use Rattle.lines.specs.declared.Line.{Line}
use Rattle.lines.specs.declared.Line.TheVariants.{At, TooLong, End, Unread}

-- what is next, and where the input then stands
abbrev pub Step : Type 0
Step = After Line Lines

-- nothing is read yet
abbrev pub unread : Lines
unread = record { from = 0; to = 0; over = false; ended = false }

-- a line from a place to another, or that it is too long
abbrev pub told : Bool → ℕ → ℕ → Line
told true start end = TooLong
told false start end = At start end

-- a line that ends at a place; the next begins at another
abbrev pub line_to_of : Lines → ℕ → ℕ → Step
line_to_of l end next = record { answer = told l.over l.from end; state = record { from = next; to = l.to; over = false; ended = l.ended } }

-- the input has ended: the last line need have no newline
abbrev pub last_of : Lines → Step
last_of l =
    pick (pick l.over false (eqb l.from l.to))
    (record { answer = End; state = l })
    (line_to_of l l.to l.to)

-- no newline was read: a line that fills the buffer is too long, and its beginning is forgotten
abbrev pub unended_of : ℕ → Lines → Step
unended_of room l =
    pick (ltb (l.to - l.from) room)
    (record { answer = Unread; state = l })
    (record { answer = Unread; state = record { from = l.to; to = l.to; over = true; ended = l.ended } })

-- by the place of the first newline among what was read
abbrev pub step_at : ℕ → Lines → ℕ → Step
step_at room l e = pick (ltb e l.to) (line_to_of l e (e + 1)) (pick l.ended (last_of l) (unended_of room l))

-- where the places are not within the buffer, there is no line
unfoldable pub step_of : List ℕ → Lines → Step
step_of buf l =
    pick (pick (leb l.to (length buf)) (leb l.from l.to) false)
    (step_at (length buf) l (until newline (take l.to buf) l.from))
    (record { answer = End; state = l })

-- what was read and not told
unfoldable pub rest_of : List ℕ → Lines → List ℕ
rest_of buf l = take (l.to - l.from) (drop l.from buf)

-- after more was read: what was not told stands at the front, and what came stands behind it; if nothing came the input has ended
pub record Refills (buf : List ℕ) (l : Lines) (buf' : List ℕ) (r : Lines) : Type 0 where
  pub front : r.from ≡ 0
  pub kept : take (length (rest_of buf l)) buf' ≡ rest_of buf l
  pub more : length (rest_of buf l) ≤ r.to
  pub within : r.to ≤ length buf'
  pub still : r.over ≡ l.over
  pub over : r.ended ≡ eqb r.to (length (rest_of buf l))
