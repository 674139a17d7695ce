use Rattle.std.proofs.Common.{rules}
use Rattle.tables.specs.laws.Columns.{stored-pair}
use Rattle.tables.proofs.Pairs.push.Goals as goal

pub returns : goal.returns
returns c = stored-pair c.args.self.now _ c.requires (record { roles = search rules; others = search rules })
