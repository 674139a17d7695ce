use native.Mathlib.Omega.{arith}
use Rattle.justification.specs.laws.ImpliedLaws.{from-none}
use Rattle.justification.proofs.implied.node_implied.Goals as goal

pub returns-then-used-c-ne1 : goal.returns-then-used-c-ne1
returns-then-used-c-ne1 c = from-none _ _ _ _ (omega arith) c.requires.6 c.if-used-c-ne1.true

pub column-vals-requires : goal.column-vals-requires
column-vals-requires c = (c.requires.3, (c.args.rules.now.words, c.requires.4), c.requires.5)
