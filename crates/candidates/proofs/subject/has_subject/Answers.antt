use native.Mathlib.Omega.{arith}
use Rattle.rt0.specs.laws.Find.{missed_more, any_at, any_none}
use Rattle.candidates.specs.laws.Subject.{has_subject}
use Rattle.candidates.proofs.subject.has_subject.Goals as goal

pub returns-then-is_subject_at : goal.returns-then-is_subject_at
unfolding has_subject
returns-then-is_subject_at c H = any_at c.args.pool.now.count (c.loop-k.invariant H) (omega arith) (c.is_subject_at.ensures _ H) c.if-is_subject_at.true

pub loop-k-preserved : goal.loop-k-preserved
loop-k-preserved c H = missed_more (c.loop-k.invariant H) (c.is_subject_at.ensures _ H) c.if-is_subject_at.false

pub returns : goal.returns
unfolding has_subject
returns c H = any_none c.args.pool.now.count (c.loop-k.invariant H) (omega arith)
