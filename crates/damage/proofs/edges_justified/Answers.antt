use mathlib.Core.Path.{ap}
use mathlib.Core.Bool.{not}
use Rattle.damage.specs.laws.Damage.{not-implied, both-justified}
use Rattle.damage.proofs.edges_justified.Goals as goal

pub returns-then-not-edges_implied : goal.returns-then-not-edges_implied
returns-then-not-edges_implied c h = not-implied _ (c.edges_implied.ensures c.args.n.now.nodes) (ap not c.if-not-edges_implied.true)

pub returns : goal.returns
returns c h = both-justified _ (c.edges_implied.ensures c.args.n.now.nodes) (ap not c.if-not-edges_implied.false) c.links_justified.ensures
