use mathlib.Core.Path.{refl}
use Rattle.justification.specs.laws.Justified.{monitors-other, monitors-past, monitors-is}
use Rattle.justification.proofs.monitors.monitors_at.Goals as goal

pub returns-then-edges-j : goal.returns-then-edges-j
returns-then-edges-j c o says = monitors-other _ _ _ _ _ _ c.if-edges-j.true

pub returns-then-nodes-c : goal.returns-then-nodes-c
returns-then-nodes-c c o says = monitors-past _ _ _ _ _ _ refl c.if-nodes-c.true

pub returns : goal.returns
returns c o says = monitors-is _ _ _ _ _ _ c.if-edges-j.false refl c.if-nodes-c.false (c.is_solved.ensures o says)
