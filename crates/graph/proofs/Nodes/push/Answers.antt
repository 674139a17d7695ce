use mathlib.Core.Path.{◌∙◌, ap, refl}
use Rattle.expression.specs.Form.{expression_of}
use Rattle.expression.specs.laws.Laws.{expression-raw}
use Rattle.graph.specs.laws.Graph.{nodes_of}
use Rattle.graph.specs.laws.Columns.{node-columns, add-node}
use borrow.Author.Rules.{rules}
use Rattle.graph.proofs.Nodes.push.Goals as goal

pub returns : goal.returns
returns c =
    ap nodes_of (node-columns c.args.self.now c.args.x c.raw_of-r.result c.store_kind.ensures c.store_numbers.ensures refl refl refl)
    ∙ add-node c.args.self.now c.args.x c.raw_of-r.result
    (record { kind = search rules; number = search rules; subject = search rules; verifier = search rules; state = search rules })
    c.requires (ap expression_of c.raw_of-r.ensures ∙ expression-raw c.args.x.expression)
