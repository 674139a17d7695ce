use Rattle.candidates.specs.laws.Goals.{solutions-first}
use Rattle.candidates.proofs.Place.solutions.Goals as goal

pub returns : goal.returns
returns c =
    solutions-first c.args.self.now.node c.args.r c.args.own.now.house.sensitive c.args.own.now.house.subject c.args.own.now.visible _
    (c.with_pairs-first.ensures _) (c.with_heads.ensures _ _)
