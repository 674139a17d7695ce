use Rattle.damage.specs.laws.Records.{node-is}
use Rattle.damage.proofs.nodes.node_sound.Goals as goal

pub returns : goal.returns
returns c = node-is _ _ c.well_formed-2.ensures c.legal_state.ensures c.type_of.ensures c.is_typed.ensures
