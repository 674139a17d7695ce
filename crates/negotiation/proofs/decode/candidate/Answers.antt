use native.Mathlib.Omega.{arith}
use Rattle.negotiation.specs.laws.Read.{few-most, candidate-read}
use mathlib.Core.Path.{ap, ◌∙◌}
use Rattle.negotiation.specs.Layout.{few}
use Rattle.negotiation.proofs.decode.candidate.Goals as goal

pub read_nodes-requires : goal.read_nodes-requires
read_nodes-requires c = (omega (arith, few-most), omega arith)

pub read_edges-requires : goal.read_edges-requires
read_edges-requires c = (omega (arith, few-most), omega arith)

pub read_shown-requires : goal.read_shown-requires
read_shown-requires c = (omega (arith, few-most), omega arith)

pub returns : goal.returns
returns c = let s = c.args.s.now in
    candidate-read s _ c.at_most-nodes.result c.at_most-edges.result c.at_most-shown.result c.header_from.ensures c.at_most-nodes.ensures
    c.read_nodes.ensures
    (c.at_most-edges.ensures ∙ ap (few 256) c.number_at.ensures) c.read_edges.ensures c.at_most-shown.ensures c.read_shown.ensures
