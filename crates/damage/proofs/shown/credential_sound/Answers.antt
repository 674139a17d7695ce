use Rattle.damage.specs.laws.Records.{credential-is}
use Rattle.damage.proofs.shown.credential_sound.Goals as goal

pub returns : goal.returns
returns c = credential-is _ _ c.well_formed_credential.ensures c.credential_number.ensures
