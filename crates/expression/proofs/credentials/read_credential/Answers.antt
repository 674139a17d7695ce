use Rattle.std.proofs.Common.{sym, ◌+◌}
use Rattle.expression.specs.Bytes.{raw_at}
use Rattle.expression.specs.laws.Laws.{canonical}
use Rattle.expression.proofs.credentials.read_credential.Goals as goal

pub checked-requires : goal.checked-requires
checked-requires c = (canonical (raw_at c.args.s.now (c.args.at + 4)) _ (sym c.in_ok-body.ensures)).1
