use Rattle.legal.specs.laws.JudgedLaws.{node-none}
use native.Mathlib.Omega.{arith}
use Rattle.legal.proofs.justify.node_in.Goals as goal

pub returns-then-nodes-wide : goal.returns-then-nodes-wide
returns-then-nodes-wide c = node-none c.args.nodes.now c.args.i (omega (arith, c.wide.ensures, c.if-nodes-wide.true))
