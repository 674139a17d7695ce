use Rattle.propagation.specs.laws.Chains.{chain-start}
use Rattle.propagation.proofs.chains.Chains.empty.Goals as goal

pub returns : goal.returns
returns c = chain-start
