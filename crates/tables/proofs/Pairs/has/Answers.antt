use Rattle.std.proofs.Common.{ap, ◌∙◌, is_some}
use Rattle.tables.specs.laws.Lookup.{found-sensitive}
use Rattle.tables.proofs.Pairs.has.Goals as goal

pub returns : goal.returns
returns c = c.is_some.ensures ∙ ap is_some c.other_of.ensures ∙ found-sensitive _ _
