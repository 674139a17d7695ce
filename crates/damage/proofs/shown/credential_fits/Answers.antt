use mathlib.Core.Path.{ap}
use mathlib.Core.Bool.{not}
use Rattle.damage.specs.laws.Records.{credential-unsound, credential-new}
use Rattle.damage.proofs.shown.credential_fits.Goals as goal

pub returns-then-not-credential_sound : goal.returns-then-not-credential_sound
returns-then-not-credential_sound c =
    credential-unsound _ _ c.args.shown.now _ (λ t. (c.credential-c.ensures t).head) (λ t. (c.credential-c.ensures t).body)
    c.credential_sound.ensures (ap not c.if-not-credential_sound.true)

pub returns : goal.returns
returns c =
    credential-new _ _ c.args.shown.now _ (λ t. (c.credential-c.ensures t).head) (λ t. (c.credential-c.ensures t).body)
    c.credential_sound.ensures (ap not c.if-not-credential_sound.false) c.is_shown.ensures
