-- A credential among those of a list. Assumes nothing.
use Rattle.std.specs.Prelude.{Bool, List}
use Rattle.expression.specs.declared.Credential.{Credential}
use Rattle.rt0.specs.Lists.{any}
use Rattle.expression.specs.Same.{same_credential}

-- one of these
unfoldable pub is_shown : List Credential → Credential → Bool
is_shown before c = any (λ d. same_credential d c) before
