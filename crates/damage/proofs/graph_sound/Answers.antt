use mathlib.Core.Path.{refl, ap}
use mathlib.Core.Bool.{not}
use Rattle.graph.specs.laws.Graph.{edges_of}
use Rattle.damage.specs.laws.Damage.{graph-count, graph-records, graph-edges, graph-unjustified, graph-end, records-formed, brought-fit}
use Rattle.damage.specs.laws.Damage.{edges-inside, edges-formed}
use Rattle.damage.proofs.graph_sound.Goals as goal

pub returns-then-not-count_sound : goal.returns-then-not-count_sound
returns-then-not-count_sound c = graph-count _ _ c.count_sound.ensures (ap not c.if-not-count_sound.true)

pub returns-then-not-records_sound : goal.returns-then-not-records_sound
returns-then-not-records_sound c = graph-records _ _ c.count_sound.ensures (ap not c.if-not-count_sound.false) (c.records_sound.ensures (edges_of c.args.n.now.edges)) (ap not c.if-not-records_sound.true)

pub returns-then-not-edges_fit : goal.returns-then-not-edges_fit
returns-then-not-edges_fit c =
    graph-edges _ _ c.count_sound.ensures (ap not c.if-not-count_sound.false) (c.records_sound.ensures (edges_of c.args.n.now.edges)) (ap not c.if-not-records_sound.false)
    c.edges_fit.ensures (ap not c.if-not-edges_fit.true)

pub edges_justified-requires : goal.edges_justified-requires
edges_justified-requires c = (
  c.requires.3,
  c.requires.4,
  c.requires.5,
  records-formed _ _ _ c.requires.3 refl (c.records_sound.ensures (edges_of c.args.n.now.edges)) (ap not c.if-not-records_sound.false),
  edges-inside _ _ _ c.requires.2 (brought-fit _ _ _ c.edges_fit.ensures (ap not c.if-not-edges_fit.false)),
)

pub returns-then-not-edges_justified : goal.returns-then-not-edges_justified
returns-then-not-edges_justified c =
    graph-unjustified _ _ c.count_sound.ensures (ap not c.if-not-count_sound.false) (c.records_sound.ensures (edges_of c.args.n.now.edges)) (ap not c.if-not-records_sound.false)
    c.edges_fit.ensures (ap not c.if-not-edges_fit.false) (c.edges_justified.ensures _) (ap not c.if-not-edges_justified.true)

pub state_of-requires : goal.state_of-requires
state_of-requires c = (
  c.requires.2,
  c.requires.3,
  c.requires.4,
  records-formed _ _ _ c.requires.3 refl (c.records_sound.ensures (edges_of c.args.n.now.edges)) (ap not c.if-not-records_sound.false),
  edges-formed _ _ _ c.requires.2 (brought-fit _ _ _ c.edges_fit.ensures (ap not c.if-not-edges_fit.false)),
)

pub returns : goal.returns
returns c =
    graph-end _ _ c.count_sound.ensures (ap not c.if-not-count_sound.false) (c.records_sound.ensures (edges_of c.args.n.now.edges)) (ap not c.if-not-records_sound.false)
    c.edges_fit.ensures (ap not c.if-not-edges_fit.false) (c.edges_justified.ensures _) (ap not c.if-not-edges_justified.false) c.state_of.ensures
    c.end_sound.ensures
