use Rattle.graph.specs.laws.Columns.{nodes-length}
use Rattle.negotiation.specs.laws.State.{state_of}
use Rattle.choice.specs.laws.Known.{acknowledged-absent, acknowledged-flag}
use Rattle.choice.proofs.known.is_acknowledged.Goals as goal

pub returns-then-count-i : goal.returns-then-count-i
unfolding state_of
returns-then-count-i c =
    acknowledged-absent (state_of c.args.n.now) c.args.r (nodes-length c.args.n.now.nodes) (c.find-i.ensures _)
    c.requires.1 c.if-count-i.true

pub returns : goal.returns
unfolding state_of
returns c =
    acknowledged-flag (state_of c.args.n.now) c.args.r (nodes-length c.args.n.now.nodes) (c.find-i.ensures _)
    c.requires.1 c.if-count-i.false
