use Rattle.expression.specs.declared.Credential.{Credential}
use Rattle.expression.specs.Same.{same_credential}
use Rattle.rt0.specs.laws.Pool.{credential_at, credentials}
use Rattle.tables.specs.Lookup.{direct_of, holds}
use Rattle.tables.specs.laws.Lookup.{any_some}
use Rattle.tables.proofs.House.holds_from.Goals as goal

pub returns-then-is_at : goal.returns-then-is_at
unfolding holds credentials
returns-then-is_at c = let d = direct_of c.args.self.now.own c.args.r in
    any_some (λ (x : Credential). same_credential x d) (credential_at c.args.self.now.subject) c.args.self.now.subject.count c.loop-i-test.true
    (c.is_at.ensures d c.key_of-key.ensures c.raw_of-raw.ensures) c.if-is_at.true
