use Rattle.candidates.specs.laws.Frontiers.{sens-first}
use Rattle.candidates.proofs.Place.plain_edges.Goals as goal

pub returns : goal.returns
returns c = sens-first c.args.own.now c.requires.0 _ c.args.self.now.node c.args.a c.requires.2 c.to_subject.ensures
