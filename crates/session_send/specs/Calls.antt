-- The calls of the two senders, as `arguments` takes them: a name, and a letter for each argument. docs/SCRIPT.md, "Calls" and "Lent memory". Assumes nothing.
use Rattle.std.specs.Prelude.{ℕ, Bool, List}
use Rattle.words.specs.Choice.{pick}
use Rattle.script.specs.Ascii.{ascii}

-- a call that both have stands at the same place; those of the reliable sender alone stand last
unfoldable pub calls_of : Bool → List ℕ
calls_of reliable =
    pick reliable
    (ascii "new cnnnnn send b round nnn available - can-send n lend SLOT digest - usage - ack n ack-slice nn")
    (ascii "new cnnnn send b round nn available - can-send n lend SLOT digest - usage -")
