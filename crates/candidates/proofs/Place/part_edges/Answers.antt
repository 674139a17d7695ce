use Rattle.candidates.specs.laws.Parts.{parts-two, parts-three, parts-four}
use Rattle.candidates.proofs.Place.part_edges.Goals as goal

pub returns-then-p-eq2 : goal.returns-then-p-eq2
returns-then-p-eq2 c = parts-two _ c.args.self.now.node c.args.p c.with_part-a.ensures c.with_part-b.ensures c.if-p-eq2.true

pub returns-then-p-eq3 : goal.returns-then-p-eq3
returns-then-p-eq3 c =
    parts-three _ c.args.self.now.node c.args.p c.with_part-a.ensures c.with_part-b.ensures c.if-p-eq2.false
    c.with_part-c.ensures c.if-p-eq3.true

pub returns : goal.returns
returns c =
    parts-four _ c.args.self.now.node c.args.p c.with_part-a.ensures c.with_part-b.ensures c.if-p-eq2.false c.with_part-c.ensures
    c.if-p-eq3.false c.with_part.ensures
