use Rattle.graph.specs.laws.Columns.{nodes-length}
use Rattle.candidates.specs.laws.Done.{done-absent, done-self, done-edge}
use Rattle.candidates.proofs.Place.is_done.Goals as goal

pub returns-then-nodes-c : goal.returns-then-nodes-c
returns-then-nodes-c c = done-absent _ _ _ _ (nodes-length _) (c.find-c.ensures _) c.if-nodes-c.true

pub returns-then-wide-c : goal.returns-then-wide-c
returns-then-wide-c c = done-self _ _ _ _ (nodes-length _) (c.find-c.ensures _) c.if-nodes-c.false c.wide.ensures c.if-wide-c.true

pub returns : goal.returns
returns c = done-edge _ _ _ _ (nodes-length _) (c.find-c.ensures _) c.if-nodes-c.false c.wide.ensures c.if-wide-c.false c.has.ensures
