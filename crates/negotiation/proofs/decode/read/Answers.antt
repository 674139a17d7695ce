use mathlib.Core.Path.{refl, ap, ◌∙◌}
use Rattle.negotiation.specs.State.{within}
use Rattle.negotiation.specs.laws.Read.{candidate-within, reading, no-reading}
use Rattle.negotiation.proofs.decode.read.Goals as goal

pub has_bytes-requires : goal.has_bytes-requires
has_bytes-requires c = (ap within c.candidate-n.ensures ∙ candidate-within c.args.s.now, c.requires)

pub returns-then-has_bytes : goal.returns-then-has_bytes
returns-then-has_bytes c = reading _ _ _ c.candidate-n.ensures refl c.has_bytes.ensures c.if-has_bytes.true

pub returns-else-has_bytes : goal.returns-else-has_bytes
returns-else-has_bytes c = no-reading _ _ _ c.candidate-n.ensures refl c.has_bytes.ensures c.if-has_bytes.false
