use Rattle.expression.proofs.write_expression.Goals as goal

pub returns : goal.returns
returns c = cc
