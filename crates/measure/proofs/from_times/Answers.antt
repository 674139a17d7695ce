use Rattle.std.proofs.Common.{List, ap, ◌∙◌}
use Rattle.expression.specs.declared.Credential.{Credential}
use Rattle.rt0.specs.Decide.{from?}
use Rattle.rules.specs.laws.Ruled.{ruled-fits}
use Rattle.relation.specs.laws.Reached.{all-on}
use Rattle.measure.specs.laws.Repeated.{count_of}
use Rattle.measure.proofs.from_times.Goals as goal

pub relation-mem-requires : goal.relation-mem-requires
relation-mem-requires c = (c.requires, ruled-fits c.args.pool.now c.requires _ c.rules_of-rules.ensures)

pub ask_times-requires : goal.ask_times-requires
ask_times-requires c = (c.requires, c.rules_of-rules.ensures, c.relation-mem.ensures _ c.rules_of-rules.ensures)

pub returns : goal.returns
returns c = c.ask_times.ensures ∙ ap (λ (C : List Credential). count_of (from? C c.args.f c.args.e) c.args.times) (all-on c.args.pool.now c.requires)
