use Rattle.legal.proofs.asked.join_implication.Goals as goal

pub returns : goal.returns
returns c = λ i. record { parent = (c.node_in.ensures i).expression; child = (c.node_in-2.ensures i).expression }
