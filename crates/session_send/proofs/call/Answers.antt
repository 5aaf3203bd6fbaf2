-- `session_send::call` meets its contract: what is lent to `answer` are parts of the memory, and the rest is as it was. Assumes nothing.
use Rattle.session_send.proofs.Back.{keeps}
use Rattle.session_send.proofs.call.Goals as goal

pub returns : goal.returns
returns c =
    let p = c.parts_of-p.ensures in
    let a = c.answer.auto in
    let n = c.answer.new in
    record {
      sound = c.answer.ensures;
      in_small = keeps _ _ _ n.small _ p.small a.small;
      in-lanes = keeps _ _ _ n.lanes _ p.lanes a.lanes;
      in-out = keeps _ _ _ n.out _ p.out a.out;
      in_table = keeps _ _ _ n.table _ p.table a.table;
    }
