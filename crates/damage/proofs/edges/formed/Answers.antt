use mathlib.Core.Path.{refl}
use Rattle.damage.specs.laws.Edges.{formed-is}
use Rattle.damage.proofs.edges.formed.Goals as goal

pub returns : goal.returns
returns c n p q = formed-is _ _ _ refl (c.node-p.ensures n p) refl (c.node-c.ensures n q) c.entity_of.ensures c.form.ensures
