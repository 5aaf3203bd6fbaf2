-- `answers::packets::listed` meets its contract: each turn is one packet more. Assumes nothing.
use Rattle.page.specs.Page.{sheet}
use Rattle.answers.specs.Rounds.{desk, Listed}
use Rattle.answers.proofs.packets.listed.Given as goal

abbrev pub invariant-loop-k : goal.invariant-loop-k
invariant-loop-k l = Listed l.n l.out l.table l.k (desk (sheet l.initial.page l.at) l.initial.messages l.initial.ranges) (desk (sheet l.page l.a) l.messages l.ranges)
