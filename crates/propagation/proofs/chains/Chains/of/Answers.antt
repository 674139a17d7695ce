use Rattle.propagation.proofs.chains.Chains.of.Goals as goal

pub loop-j-init : goal.loop-j-init
loop-j-init c = c.empty-chains.ensures _
