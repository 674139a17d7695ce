use Rattle.expression.specs.declared.Credential.{Credential}
use Rattle.expression.specs.Form.{raw_of}
use Rattle.expression.specs.Same.{same_credential}
use Rattle.expression.specs.laws.Key.{KeyOf}
use Rattle.rt0.specs.laws.Pool.{credential_at}
use Rattle.rt0.specs.laws.Find.{Missed}
use Rattle.std.proofs.Common.{◌≡◌}
use Rattle.rt0.proofs.Pool.is_shown.Given as goal

abbrev pub invariant-loop-i : goal.invariant-loop-i
invariant-loop-i l = (c : Credential) → KeyOf c.head l.key → l.raw ≡ raw_of c.body → Missed (λ d. same_credential d c) (credential_at l.self) l.i
