use mathlib.Core.Path.{ap}
use mathlib.Core.Bool.{not}
use Rattle.negotiation.specs.laws.Within.{within-few}
use native.Mathlib.Omega.{arith}
use Rattle.damage.specs.laws.Damage.{sound-header, sound-counts, sound_empty, sound-graph}
use Rattle.damage.proofs.sound.Goals as goal

pub returns-then-not-header_sound : goal.returns-then-not-header_sound
returns-then-not-header_sound c = sound-header _ _ c.header_sound.ensures (ap not c.if-not-header_sound.true)

pub returns-then-not-counts_agree : goal.returns-then-not-counts_agree
returns-then-not-counts_agree c = sound-counts _ _ c.header_sound.ensures (ap not c.if-not-header_sound.false) c.counts_agree.ensures (ap not c.if-not-counts_agree.true)

pub returns-then-n-eq0 : goal.returns-then-n-eq0
returns-then-n-eq0 c =
    sound_empty _ _ c.header_sound.ensures (ap not c.if-not-header_sound.false) c.counts_agree.ensures (ap not c.if-not-counts_agree.false)
    c.if-n-eq0.true c.empty_sound.ensures

pub graph_sound-requires : goal.graph_sound-requires
graph_sound-requires c = let few = within-few c.args.n.now c.requires.1 in
    (c.requires.0.names, c.requires.0.ascending, omega (arith, c.if-n-eq0.false), few.0, few.1, omega (arith, few.2))

pub returns : goal.returns
returns c =
    sound-graph _ _ c.header_sound.ensures (ap not c.if-not-header_sound.false) c.counts_agree.ensures (ap not c.if-not-counts_agree.false)
    c.if-n-eq0.false c.graph_sound.ensures
