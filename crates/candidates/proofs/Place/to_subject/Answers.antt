use Rattle.candidates.specs.laws.Subject.{subject-found, subject-others}
use Rattle.candidates.proofs.Place.to_subject.Goals as goal

pub returns-then-has_subject : goal.returns-then-has_subject
returns-then-has_subject c = subject-found _ _ c.reached-found.ensures (c.has_subject.ensures _) c.if-has_subject.true c.child_for-w.ensures c.better.ensures

pub returns : goal.returns
returns c = subject-others _ _ c.reached-found.ensures (c.has_subject.ensures _) c.if-has_subject.false (c.with_members.ensures _)
