use mathlib.Core.Path.{◌∙◌, ap}
use mathlib.Core.List.{List}
use Rattle.expression.specs.declared.Credential.{Credential}
use Rattle.rt0.specs.Decide.{from?}
use Rattle.rules.specs.laws.Ruled.{ruled-fits}
use Rattle.relation.specs.laws.Reached.{all-on}
use Rattle.relation.proofs.from.Goals as goal

pub relation-mem-requires : goal.relation-mem-requires
relation-mem-requires c = (c.requires, ruled-fits c.args.pool.now c.requires _ c.rules_of-rules.ensures)

pub ask-requires : goal.ask-requires
ask-requires c = (c.requires, (c.rules_of-rules.result.words, c.rules_of-rules.ensures), c.relation-mem.ensures _ c.rules_of-rules.ensures)

pub returns : goal.returns
returns c = c.ask.ensures ∙ ap (λ (C : List Credential). from? C c.args.f c.args.e) (all-on c.args.pool.now c.requires)
