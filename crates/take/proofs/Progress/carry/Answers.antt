use mathlib.Core.Path.{sym, subst}
use mathlib.Core.Bool.{Bool, ◌||◌}
use Rattle.graph.specs.laws.Graph.{nodes_of}
use Rattle.take.specs.laws.Progress.{Carried, carried-unsettled, carried-settled}
use Rattle.take.proofs.Progress.carry.Goals as goal

pub returns-then-self : goal.returns-then-self
returns-then-self c =
    let k = c.args.self.now in
    subst (λ (u : Bool). Carried k (nodes_of c.args.n.now.nodes) c.args.c
    (record { moved = k.moved || c.is_move.result; stale = k.stale || c.is_credential.result; sat = k.sat; unsettled = u })) (sym c.if-self.true)
    (carried-unsettled _ _ _ c.is_move.ensures c.is_credential.ensures c.if-self.true)

pub returns : goal.returns
returns c = carried-settled _ _ _ c.is_move.ensures c.is_credential.ensures c.if-self.false c.keeps_states.ensures
