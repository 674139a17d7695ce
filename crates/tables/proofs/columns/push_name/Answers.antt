use Rattle.std.proofs.Common.{rules}
use Rattle.tables.specs.laws.Columns.{stored-name}
use Rattle.tables.proofs.columns.push_name.Goals as goal

pub returns : goal.returns
returns c = stored-name c.args.names.now _ c.requires (record { name = search rules; class = search rules })
