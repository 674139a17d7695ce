use Rattle.legal.specs.laws.Edge.{formed-is}
use Rattle.legal.proofs.edges.formed_as.Goals as goal

pub returns : goal.returns
returns c = formed-is _ _ _ _ c.entity_of.ensures c.form.ensures
