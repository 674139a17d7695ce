use Rattle.candidates.specs.laws.Frontiers.{simp-first}
use Rattle.candidates.proofs.Place.other_edges.Goals as goal

pub returns : goal.returns
returns c = simp-first c.args.own.now c.requires.0 _ c.args.self.now.node c.args.a c.to_subject.ensures
