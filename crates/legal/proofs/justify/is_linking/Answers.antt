use mathlib.Core.Path.{sym, ap}
use Rattle.legal.specs.laws.Judged.{is_linking}
use Rattle.legal.proofs.justify.is_linking.Goals as goal

pub returns-in-Bring : goal.returns-in-Bring
returns-in-Bring c = ap is_linking (sym c.in-Bring.is)

pub returns-in-Join : goal.returns-in-Join
returns-in-Join c = ap is_linking (sym c.in-Join.is)
