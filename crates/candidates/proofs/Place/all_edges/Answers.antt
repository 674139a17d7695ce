use Rattle.candidates.specs.laws.Reach.{edges-roles, edges-others}
use Rattle.candidates.proofs.Place.all_edges.Goals as goal

pub returns-then-class_of-eq-SUBJECT_ALL : goal.returns-then-class_of-eq-SUBJECT_ALL
returns-then-class_of-eq-SUBJECT_ALL c = λ a L. edges-roles c.args.own.now c.requires.0 _ c.args.self.now.node c.args.r c.class_of.ensures a L
    c.if-class_of-eq-SUBJECT_ALL.true (c.with_roles.ensures _)

pub returns : goal.returns
returns c = λ a L. edges-others c.args.own.now c.requires.0 _ c.args.self.now.node c.args.r c.class_of.ensures a L c.if-class_of-eq-SUBJECT_ALL.false
    (c.with_members.ensures _)
