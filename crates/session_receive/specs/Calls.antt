-- The calls of the receivers, with the form of their arguments. docs/SCRIPT.md, "Calls", "Packets" and "Lent memory". Assumes nothing.
use Rattle.std.specs.Prelude.{ℕ, Bool, List}
use Rattle.words.specs.Choice.{pick}
use Rattle.script.specs.Ascii.{ascii}

-- those of the reliable receiver, or of the unreliable one: its messages have no id, and a piece and a packet come at a time
abbrev pub calls_of : Bool → List ℕ
calls_of reliable =
    pick reliable
    (ascii "new nnnn message nb slice nnnb look - take - lend SL digest - usage - packet b deliver n")
    (ascii "new nnnn message b slice nnnnb look - take - lend SL digest - usage - packet bn deliver nn discard n")
