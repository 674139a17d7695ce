use Rattle.candidates.specs.laws.Frontiers.{rest-first}
use Rattle.candidates.proofs.Place.rest_edges.Goals as goal

pub returns : goal.returns
returns c = rest-first c.args.own.now c.requires.0 _ c.args.self.now.node c.args.a c.with_frontier.ensures
