-- A credential among those of a pool, found by its columns. Assumes nothing.
use Rattle.std.specs.Prelude.{ℕ, ◌≤◌, ◌<◌, ◌≡◌, Bool, true, false}
use Rattle.expression.specs.declared.Credential.{Credential}
use Rattle.rt0.specs.declared.Pool.{Pool}
use Rattle.rt0.specs.laws.Pool.{credentials, credential_at}
use Rattle.rt0.specs.laws.Find.{Missed, any_at, any_none}
use Rattle.expression.specs.Same.{same_credential}
use Rattle.rt0.specs.Shown.{is_shown}

module _ (P : Pool) (c : Credential) {j : ℕ} (h : Missed (λ d. same_credential d c) (credential_at P) j) where
  pub shown-at : {b : Bool} → j < P.count → b ≡ same_credential (credential_at P j) c → b ≡ true → true ≡ is_shown (credentials P) c
  unfolding is_shown credentials
  shown-at l e t = any_at P.count h l e t

  pub shown-none : P.count ≤ j → false ≡ is_shown (credentials P) c
  unfolding is_shown credentials
  shown-none l = any_none P.count h l
