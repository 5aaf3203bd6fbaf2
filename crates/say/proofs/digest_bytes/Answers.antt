-- `say::digest_bytes` meets its contract. Assumes nothing.
use mathlib.Core.Path.{ap, ◌∙◌}
use Rattle.std.proofs.lemmas.List.{map-id}
use Rattle.say.specs.Digest.{digest_of}
use Rattle.say.proofs.digest_bytes.Goals as goal

pub returns : goal.returns
returns c = c.digest.ensures (λ x. x) (λ x v e. e) ∙ ap digest_of (map-id c.args.s.now)
