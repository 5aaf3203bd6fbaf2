-- `script::all_hex` meets its contract. Assumes nothing.
use mathlib.Core.Path.{◌∙◌}
use Rattle.std.proofs.Common.{rules}
use borrow.Author.Tests.{tests}
use Rattle.std.proofs.lemmas.Iterator.{YieldsList-from_slice}
use Rattle.std.proofs.lemmas.Iterator.Search.{all_from_yields_List}
use Rattle.script.specs.Bytes.{hex}
use Rattle.script.proofs.Words.{list_all-is}
use Rattle.script.proofs.all_hex.Goals as goal

pub returns : goal.returns
returns c = all_from_yields_List hex _ _ _ c.all.ensures.ran (YieldsList-from_slice c.args.s.now cc) (λ x b q k. search (rules, tests)) ∙ list_all-is hex c.args.s.now
