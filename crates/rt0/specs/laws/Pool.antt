-- A pool's columns as a list of credentials. Assumes nothing.
use Rattle.std.specs.Prelude.{ℕ, ◌+◌, ◌*◌, List, get_or}
use Rattle.expression.specs.declared.Role.{Role}
use Rattle.expression.specs.declared.Raw.{Raw}
use Rattle.expression.specs.declared.Credential.{Credential}
use Rattle.expression.specs.declared.Expression.{Expression}
use Rattle.expression.specs.Form.{expression_of}
use Rattle.rt0.specs.From.{role_of}
use Rattle.rt0.specs.declared.Pool.{Pool}
use Rattle.rt0.specs.Pool.{up_to}

abbrev pub pool_of : ℕ → List ℕ → List ℕ → List ℕ → Pool
pool_of n H K N = record { count = n; heads = H; kinds = K; numbers = N }

abbrev pub head_in : List ℕ → ℕ → Role
head_in H i = role_of (get_or H (i * 2) 0) (get_or H (i * 2 + 1) 0)

abbrev pub head_at : Pool → ℕ → Role
head_at P i = head_in P.heads i

abbrev pub raw_at_columns : List ℕ → List ℕ → ℕ → Raw
raw_at_columns K N i =
    record {
      kind = get_or K (i * 2) 0;
      count = get_or K (i * 2 + 1) 0;
      n0 = get_or N (i * 8) 0;
      n1 = get_or N (i * 8 + 1) 0;
      n2 = get_or N (i * 8 + 2) 0;
      n3 = get_or N (i * 8 + 3) 0;
      n4 = get_or N (i * 8 + 4) 0;
      n5 = get_or N (i * 8 + 5) 0;
      n6 = get_or N (i * 8 + 6) 0;
      n7 = get_or N (i * 8 + 7) 0;
    }

unfoldable pub expression_in : List ℕ → List ℕ → ℕ → Expression
expression_in K N i = expression_of (raw_at_columns K N i)

abbrev pub body_at : Pool → ℕ → Expression
body_at P i = expression_in P.kinds P.numbers i

abbrev pub credential_in : List ℕ → List ℕ → List ℕ → ℕ → Credential
credential_in H K N i = record { head = head_in H i; body = expression_in K N i }

abbrev pub credential_at : Pool → ℕ → Credential
credential_at P i = credential_in P.heads P.kinds P.numbers i

-- the credentials of a pool, in the order in which they were added
unfoldable pub credentials : Pool → List Credential
credentials P = up_to P.count (credential_at P)
