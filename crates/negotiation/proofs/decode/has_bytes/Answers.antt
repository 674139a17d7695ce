use mathlib.Core.Path.{ap, ◌∙◌}
use Rattle.negotiation.specs.Layout.{same_bytes}
use Rattle.negotiation.proofs.decode.has_bytes.Goals as goal

pub returns : goal.returns
returns c = c.same_bytes.ensures ∙ ap (same_bytes c.args.s.now) c.write.ensures
