use mathlib.Core.Path.{sym, ap}
use Rattle.legal.specs.laws.Judged.{is_implication}
use Rattle.legal.proofs.justify.is_implication.Goals as goal

pub returns-in-Bring : goal.returns-in-Bring
returns-in-Bring c = ap is_implication (sym c.in-Bring.is)

pub returns-in-Join : goal.returns-in-Join
returns-in-Join c = ap is_implication (sym c.in-Join.is)
