use Rattle.sending.specs.laws.SentLaws.{sends-alone}
use Rattle.sending.proofs.credentials.alone.Goals as goal

pub returns : goal.returns
returns c = sends-alone _ c.empty.ensures _
