use Rattle.legal.specs.laws.JudgedLaws.{join-linked}
use Rattle.legal.proofs.justify.is_join_linked.Goals as goal

pub returns : goal.returns
returns c = join-linked _ _ c.node_in-child.ensures c.requires.2 c.is_linked_for.ensures
