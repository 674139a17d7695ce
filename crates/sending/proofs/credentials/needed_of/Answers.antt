use Rattle.sending.specs.laws.Relevant.{sends-part, sends-all}
use Rattle.sending.proofs.credentials.needed_of.Goals as goal

pub returns-then-enough : goal.returns-then-enough
returns-then-enough c =
    sends-part _ _ _ _ c.requires.0 c.relevant-flags.ensures c.part_of-part.ensures c.needed-kept.ensures.holds _
    c.if-enough.true c.needed-kept.ensures.all

pub returns : goal.returns
returns c =
    sends-all _ _ _ _ c.requires.0 c.relevant-flags.ensures c.part_of-part.ensures c.needed-kept.ensures.holds _
    c.if-enough.false c.requires.1 c.with_rest-on.ensures
