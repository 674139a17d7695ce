use Rattle.tables.specs.laws.Tables.{tables_of}
use Rattle.tables.specs.Public.{public_of}
use Rattle.sending.proofs.prepared.prepare.Goals as goal

pub returns-clause-prepared : goal.returns-clause-prepared
unfolding tables_of public_of
returns-clause-prepared c = record {
  housed = c.requires;
  visible = c.visible_of-visible.ensures;
  oppo = c.stops-oppo.ensures c.args.house.issuer.heads;
  simp = c.stops-simp.ensures c.args.house.subject.heads;
  sens = c.stops-sens.ensures c.args.house.subject.heads;
}
