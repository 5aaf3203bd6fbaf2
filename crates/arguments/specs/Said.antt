-- What is said of a bad line. docs/SCRIPT.md, "Bad lines". Assumes nothing.
use Rattle.std.specs.Prelude.{ℕ, List, [], ◌∷◌, Ok, Err}
use Rattle.script.specs.Ascii.{ascii}
use Rattle.page.specs.Page.{Sheet, said, lined}
use Rattle.arguments.specs.declared.Fault.{Fault}
use Rattle.arguments.specs.declared.Fault.TheVariants.{Missing, NotANumber, TooLarge, NotBytes, TooMany, OneTooMany}
use Rattle.arguments.specs.declared.LineFault.TheVariants.{NoEnd, NoCall, Bad}
use Rattle.arguments.specs.Arguments.{Read}

abbrev pub fault_of : Fault → List ℕ
fault_of Missing = ascii "missing\n"
fault_of NotANumber = ascii "not a number\n"
fault_of TooLarge = ascii "too large\n"
fault_of NotBytes = ascii "not bytes\n"
fault_of TooMany = ascii "too many bytes\n"
fault_of OneTooMany = ascii "one too many\n"

-- what is wrong, and of a fault which argument has it; with a line that is good nothing is
abbrev pub wrong_said : Read → Sheet → Sheet
wrong_said (Ok call) sh = sh
wrong_said (Err NoEnd) sh = said (ascii "no such end\n") sh
wrong_said (Err NoCall) sh = said (ascii "no such call\n") sh
wrong_said (Err (Bad k e)) sh = said (fault_of e) (lined (ascii "argument #: ") (k ∷ []) sh)

unfoldable pub bad_said : Read → Sheet → Sheet
bad_said r sh = wrong_said r (said (ascii "bad line: ") sh)
