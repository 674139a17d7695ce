use native.Mathlib.Omega.{arith}
use mathlib.Core.Path.{ap, refl, ◌∙◌}
use Rattle.propagation.specs.declared.Links.{Links}
use Rattle.graph.specs.declared.Nodes.{Nodes}
use Rattle.graph.specs.laws.Graph.{nodes_from}
use Rattle.states.specs.laws.Filled.{link_start, link-add, link-skip, link-all}
use Rattle.states.proofs.fill.links.Goals as goal
use Rattle.states.proofs.fill.links.Goals.{then-s-lt-NO_SLOT, else-s-lt-NO_SLOT}

pub loop-j-init : goal.loop-j-init
loop-j-init c = (refl, λ o. link_start _ _)

pub loop-j-preserved : goal.loop-j-preserved
loop-j-preserved c = let N : Nodes → Nodes = λ o. nodes_from c.args.nodes.now.count c.args.nodes.now.kind c.args.nodes.now.number o.subject o.verifier
    o.state in
    let E = c.args.edges.now in
    let s = c.slot_by-s in
    elim c.if-s-lt-NO_SLOT.branch [
      | then-s-lt-NO_SLOT w ↦ (
        ap (λ (l : Links). l.count) w.links-is ∙ c.loop-j.invariant.0,
        λ o. link-add (N o) E c.loop-j.j _ _ s.result s.ensures (omega arith) (c.loop-j.invariant.1 o) w.if-s-lt-NO_SLOT.true
            (ap (λ (l : Links). l.from) w.links-is) (ap (λ (l : Links). l.slot) w.links-is),
      )
      | else-s-lt-NO_SLOT w ↦ (
        ap (λ (l : Links). l.count) w.links-is ∙ c.loop-j.invariant.0,
        λ o. link-skip (N o) E c.loop-j.j _ _ s.result s.ensures (omega arith) (c.loop-j.invariant.1 o) c.requires.0 w.if-s-lt-NO_SLOT.false
            (ap (λ (l : Links). l.from) w.links-is) (ap (λ (l : Links). l.slot) w.links-is),
      )
    ]

pub returns-clause-joined : goal.returns-clause-joined
returns-clause-joined c o = link-all _ _ c.requires.0 c.requires.1 (omega arith) (omega arith) (c.loop-j.invariant.1 o)
