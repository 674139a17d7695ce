use Rattle.legal.specs.laws.JudgedLaws.{legal-judged}
use Rattle.take.proofs.commands.judge.Goals as goal

pub returns : goal.returns
returns c = legal-judged _ _ _ _ c.is_justified-justified.ensures c.legal.ensures
