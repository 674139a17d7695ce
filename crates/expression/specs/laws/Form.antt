-- Which bytes are an expression, as the code reads them. Assumes nothing.
use Rattle.std.specs.Prelude.{ℕ}
use Rattle.expression.specs.declared.Raw.{Raw}

-- the numbers of an expression with no parts
abbrev pub plain_raw : ℕ → ℕ → ℕ → ℕ → Raw
plain_raw kind n0 n1 n2 = record { kind = kind; count = 0; n0 = n0; n1 = n1; n2 = n2; n3 = 0; n4 = 0; n5 = 0; n6 = 0; n7 = 0 }
