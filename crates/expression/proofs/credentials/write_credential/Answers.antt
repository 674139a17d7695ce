use Rattle.expression.specs.laws.Credential.{written}
use Rattle.expression.proofs.credentials.write_credential.Goals as goal

pub returns : goal.returns
returns c = written c.args.s.now _ _ c.args.at c.args.c _ c.requires c.role_bytes-b.ensures c.copy_in.ensures c.write_expression.ensures
