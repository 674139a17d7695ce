use Rattle.candidates.specs.laws.Reach.{recalls-same}
use Rattle.candidates.proofs.LinkReach.find.Goals as goal

pub returns-then-self-same_role-clause-found : goal.returns-then-self-same_role-clause-found
returns-then-self-same_role-clause-found c =
    λ k. recalls-same c.args.own.now c.args.self.now c.args.a c.args.r c.requires.1 c.same_role.ensures c.if-self-same_role.true
