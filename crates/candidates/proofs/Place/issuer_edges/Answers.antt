use Rattle.candidates.specs.laws.Frontiers.{issuer-first}
use Rattle.candidates.proofs.Place.issuer_edges.Goals as goal

pub returns : goal.returns
returns c = issuer-first c.args.own.now c.requires.0 _ c.args.self.now.node c.args.a c.with_frontier.ensures
