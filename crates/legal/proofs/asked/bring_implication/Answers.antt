use Rattle.legal.proofs.asked.bring_implication.Goals as goal

pub returns : goal.returns
returns c = λ i. record { parent = (c.node_in.ensures i).expression; child = c.args.b.expression }
