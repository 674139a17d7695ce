use Rattle.std.proofs.Common.{ap, sym}
use Rattle.std.specs.Prelude.{Err}
use Rattle.tables.specs.laws.DecodingLaws.{first-issuer, first-access, first-other}
use Rattle.tables.proofs.records.own_of.Goals as goal

pub returns-in-IssuerStored : goal.returns-in-IssuerStored
returns-in-IssuerStored c = rw (sym c.in_ok-e.ensures) (rw c.in-IssuerStored.is (ap Err (sym (first-issuer _))))

pub returns-in-Access : goal.returns-in-Access
returns-in-Access c = rw (sym c.in_ok-e.ensures) (rw c.in-Access.is (ap Err (sym (first-access _))))

pub returns-in_default : goal.returns-in_default
returns-in_default c = rw (sym c.in_ok-e.ensures) (first-other _ c.in_default.not-Own c.in_default.not-IssuerStored c.in_default.not-Access)
