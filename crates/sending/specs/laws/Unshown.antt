-- The credentials that are not shown yet (document 01, "The reply"). Assumes nothing.
use Rattle.std.specs.Prelude.{not, List}
use Rattle.expression.specs.declared.Credential.{Credential}
use Rattle.tables.specs.Public.{keep}
use Rattle.rt0.specs.Shown.{is_shown}

-- "less .. those already shown"
unfoldable pub unshown_of : List Credential → List Credential → List Credential
unshown_of shown cs = keep (λ c. not (is_shown shown c)) cs
