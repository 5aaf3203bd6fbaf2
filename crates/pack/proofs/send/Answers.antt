-- `pack::send` meets its contract: packed and judged, and written where nothing is refused. Assumes nothing.
use mathlib.Core.Path.{refl}
use native.Mathlib.Omega.{arith}
use Rattle.std.proofs.lemmas.Result.{err_from_is_err_and}
use Rattle.pack.specs.Steps.{lent_of}
use Rattle.pack.proofs.Round.{chosen-short, went-ready, went-sent, went-refused}
use Rattle.pack.proofs.send.Goals as goal

pub pack-packed-requires : goal.pack-packed-requires
pack-packed-requires c = record {
  few = omega arith;
  all = chosen-short (lent_of c.args.lent.now) _ c.requires.all;
  in_bounds = omega arith;
  sequence_bound = c.requires.sequence_bound;
}

pub payload_bytes-requires : goal.payload_bytes-requires
payload_bytes-requires c = record { few = c.requires.few; all = chosen-short (lent_of c.args.lent.now) _ c.requires.all }

pub encode-requires : goal.encode-requires
encode-requires c = went-ready (lent_of c.args.lent.now) _ _ _ _ c.pack-packed.ensures c.requires.all c.args.out.now c.args.table.now _ c.judge.ensures c.in_ok-judge.was (omega arith)

pub returns-in_err-judge : goal.returns-in_err-judge
returns-in_err-judge c =
    let p = err_from_is_err_and c.from_residual.result c.from_residual.ensures.1 in
    rw (p.1, p.2) (went-refused (lent_of c.args.lent.now) _ _ _ _ c.pack-packed.ensures c.requires.all c.args.out.now c.args.table.now _ c.judge.ensures _ _ c.in_err-judge.was)

pub returns : goal.returns
returns c =
    went-sent (lent_of c.args.lent.now) _ _ _ _ c.pack-packed.ensures c.requires.all c.args.out.now c.args.table.now _ c.judge.ensures c.in_ok-judge.was
    _ _ _ refl refl refl c.payload_bytes.ensures c.encode.ensures.0 c.encode.ensures.1
