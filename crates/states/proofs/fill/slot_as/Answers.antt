use mathlib.Core.Path.{◌∙◌}
use Rattle.rt0.specs.laws.Pool.{expression_in}
use Rattle.states.specs.laws.Fields.{raw_in, slot-implied, slot-unimplied, slot-other, slot-part}
use Rattle.states.proofs.fill.slot_as.Goals as goal

pub returns-then-k : goal.returns-then-k
unfolding expression_in
returns-then-k c = slot-implied _ (raw_in c.args.nodes.now c.args.p) (raw_in c.args.nodes.now c.args.c) c.if-t.true c.if-k.true

pub returns-then-t : goal.returns-then-t
unfolding expression_in
returns-then-t c = slot-unimplied _ (raw_in c.args.nodes.now c.args.p) (raw_in c.args.nodes.now c.args.c) c.if-t.true c.if-k.false

pub returns-then-t-k : goal.returns-then-t-k
unfolding expression_in
returns-then-t-k c = slot-other _ (raw_in c.args.nodes.now c.args.p) (raw_in c.args.nodes.now c.args.c) c.if-t.false c.if-t-k.true

pub returns : goal.returns
unfolding expression_in
returns c =
    c.slot_in.ensures ∙ slot-part c.args.k (raw_in c.args.nodes.now c.args.p) (raw_in c.args.nodes.now c.args.c) c.if-t-k.false
