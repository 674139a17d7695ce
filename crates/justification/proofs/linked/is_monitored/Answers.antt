use mathlib.Core.Path.{refl}
use Rattle.justification.specs.laws.Justified.{monitored-by}
use Rattle.justification.proofs.linked.is_monitored.Goals as goal

pub returns : goal.returns
returns c =
    monitored-by _ _ _ refl (c.node-p.ensures _ c.requires.2) refl (c.node-c.ensures _ c.requires.3)
    (c.is_monitored_for.ensures c.args.nodes.now c.requires.4)
