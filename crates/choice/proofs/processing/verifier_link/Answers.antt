use mathlib.Core.Path.{refl, sym, ◌∙◌}
use Rattle.tables.specs.laws.Tables.{tables_of}
use Rattle.negotiation.specs.laws.State.{state_of}
use Rattle.moves.specs.Rules.{end_in}
use Rattle.candidates.specs.laws.Links.{linked-rules}
use Rattle.choice.specs.laws.RuleChoice.{link-def, link-all}
use Rattle.choice.proofs.processing.verifier_link.Goals as goal

pub returns-then-k-eq-ISSUER_DEF : goal.returns-then-k-eq-ISSUER_DEF
unfolding tables_of end_in state_of
returns-then-k-eq-ISSUER_DEF c = let T = tables_of c.args.own.now.house in
    let n = c.args.p.now.negotiation.now in
    link-def T (state_of n) _ c.args.p.now.number c.args.p.now.node c.args.a c.args.r c.class_of-k.ensures c.if-k-eq-ISSUER_DEF.true
    (linked-rules (end_in T (state_of n)) n.nodes n.edges refl refl c.requires.0.formed c.requires.0.nodes c.requires.0.settled c.link_rules.ensures)

pub returns : goal.returns
unfolding tables_of
returns c =
    link-all (tables_of c.args.own.now.house) (state_of c.args.p.now.negotiation.now) _ c.args.p.now.number c.args.p.now.node c.args.a c.args.r
    c.class_of-k.ensures c.if-k-eq-ISSUER_DEF.false c.if-k-ne-ISSUER_ALL.false
    (c.all_edges.ensures c.args.a (c.requires.1.by c.args.a c.args.r refl (sym c.class_of-k.ensures ∙ c.if-k-ne-ISSUER_ALL.false)))
    c.or_else.ensures
