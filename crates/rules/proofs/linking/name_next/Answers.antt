use native.Mathlib.Omega.{arith}
use Rattle.rules.specs.laws.Column.{names-copy, names-add}
use Rattle.rules.proofs.linking.name_next.Goals as goal

pub returns-then-same_link : goal.returns-then-same_link
returns-then-same_link c =
    names-copy c.args.pool.now c.args.able.now c.args.k c.args.i c.args.named.now _ (omega (arith, c.requires.0, c.requires.1)) c.requires.3
    c.same_link.ensures c.if-same_link.true c.copy_row.ensures c.requires.4

pub returns : goal.returns
returns c =
    names-add c.args.pool.now c.args.able.now c.args.i c.body.result c.args.named.now _ c.body.ensures c.requires.4
    (c.name_link.ensures _ _)
