use mathlib.Core.Path.{sym, ◌∙◌}
use Rattle.tables.specs.laws.Tables.{tables_of}
use Rattle.negotiation.specs.laws.State.{state_of}
use Rattle.choice.specs.laws.Ready.{ready-says}
use Rattle.choice.specs.laws.Known.{found-sensitive}
use Rattle.choice.specs.laws.OwnRules.{absent-sensitive}
use Rattle.choice.specs.laws.RuleChoice.{plain-choice, sensitive-choice}
use Rattle.choice.proofs.processing.own_rules.Goals as goal

pub plain_edges-requires : goal.plain_edges-requires
unfolding tables_of
plain_edges-requires c = (
  c.requires.0.prepared,
  (c.requires.0.nodes, c.requires.0.edges),
  absent-sensitive _ _
      (sym c.other_of.ensures ∙ c.in_default.is),
)

pub returns-in_default : goal.returns-in_default
unfolding tables_of
returns-in_default c =
    plain-choice (tables_of c.args.own.now.house) (state_of c.args.p.now.negotiation.now) _ c.args.p.now.number c.args.p.now.node c.args.a
    c.other_of.ensures c.in_default.is c.plain_edges.ensures c.or_else.ensures

pub known_of-known-requires : goal.known_of-known-requires
unfolding tables_of
known_of-known-requires c = (
  c.requires.0.prepared.housed,
  found-sensitive _ _ _ (sym c.other_of.ensures ∙ c.in-Some.is),
  c.requires.0.nodes,
  ready-says c.requires.0,
)

pub returns : goal.returns
unfolding tables_of
returns c =
    sensitive-choice (tables_of c.args.own.now.house) (state_of c.args.p.now.negotiation.now) _ c.args.p.now.number c.args.p.now.node c.args.a
    c.other_of.ensures c.in-Some.is c.rest_of-rest.ensures c.known_of-known.ensures c.by_known.ensures c.behind_ack.ensures
