use mathlib.Core.Path.{refl}
use Rattle.tables.specs.laws.Tables.{tables_of}
use Rattle.negotiation.specs.laws.State.{state_of}
use Rattle.moves.specs.Rules.{end_in}
use Rattle.candidates.specs.laws.Links.{linked-rules}
use Rattle.choice.specs.laws.RuleChoice.{opponent-as, opponent-link}
use Rattle.choice.proofs.processing.opponent_rules.Goals as goal

pub returns-in-Linked : goal.returns-in-Linked
unfolding end_in state_of
returns-in-Linked c = let T = tables_of c.args.own.now.house in
    let n = c.args.p.now.negotiation.now in
    let by = linked-rules (end_in T (state_of n)) n.nodes n.edges refl refl c.requires.0.formed c.requires.0.nodes c.requires.0.settled
    c.link_rules.ensures in
    opponent-as T (state_of n) _ c.args.p.now.number c.args.p.now.node c.in-Linked.is (opponent-link _ _ _ _ _ _ _ by)
