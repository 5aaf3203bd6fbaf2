-- `say::digest` meets its contract. The loop's invariant: the digest of what was passed. Assumes nothing.
use Prim.Native.Nat.{◌<◌}
use mathlib.Core.Path.{◌≡◌, sym, ap, ◌∙◌}
use mathlib.Core.List.{map}
use native.Mathlib.Omega.{arith}
use lib.ListN.{length}
use Rattle.std.proofs.lemmas.List.{get_or-map, length-map}
use Rattle.say.proofs.Digests.{digest-start, digest-more, digest-all}
use Rattle.say.proofs.digest.Goals as goal

pub loop-x-init : goal.loop-x-init
loop-x-init g c = (omega arith, λ value h. digest-start (map value c.args.s.now))

pub loop-x-preserved : goal.loop-x-preserved
loop-x-preserved g c = (
  c.mix-h.ensures.1,
  λ value h.
      let l : length (map value c.args.s.now) ≡ length c.args.s.now = length-map c.args.s.now value in
      let i : c.loop-x.x-index < length (map value c.args.s.now) = omega (arith, c.loop-x-test.true) in
      digest-more _ _ _ _ _ i (c.loop-x.invariant.1 value h) (h _ _ c.into.ensures ∙ ap value c.x-item.is ∙ sym (get_or-map value c.args.s.now c.loop-x.x-index c.x-item.result 0 c.loop-x-test.true)) c.mix-h.ensures.0,
)

pub returns : goal.returns
returns g c = λ value h.
    let l : length (map value c.args.s.now) ≡ length c.args.s.now = length-map c.args.s.now value in
    digest-all _ _ _ (omega (arith, c.loop-x-test.false)) (c.loop-x.invariant.1 value h)
