-- The columns of a house as tables. Assumes nothing.
use Rattle.std.specs.Prelude.{ℕ, ◌+◌, ◌*◌, Bool, true, false, List, get_or}
use Rattle.expression.specs.declared.Credential.{Credential}
use Rattle.rt0.specs.From.{role_of}
use Rattle.rt0.specs.Pool.{up_to}
use Rattle.rt0.specs.laws.Pool.{credentials}
use Rattle.class.specs.laws.Names.{names_of}
use Rattle.record.specs.declared.Pair.{Pair}
use Rattle.tables.specs.declared.Pairs.{Pairs}
use Rattle.tables.specs.declared.House.{House}
use Rattle.tables.specs.Tables.{Tables}

-- the credentials of a storage: the subject's, or the issuer's
abbrev pub stored_in : Bool → Tables → List Credential
stored_in true T = T.subject_stored
stored_in false T = T.issuer_stored

-- the pairs of 0x15, or of 0x14
abbrev pub pairs_in : Bool → Tables → List Pair
pairs_in true T = T.access
pairs_in false T = T.sensitive

-- What columns hold

abbrev pub pairs_from : ℕ → List ℕ → List ℕ → Pairs
pairs_from n R S = record { count = n; roles = R; others = S }

-- pair i of columns
abbrev pub pair_from : List ℕ → List ℕ → ℕ → Pair
pair_from R S i =
    record {
      role = role_of (get_or R (i * 2) 0) (get_or R (i * 2 + 1) 0);
      other = role_of (get_or S (i * 2) 0) (get_or S (i * 2 + 1) 0);
    }

abbrev pub pair_at : Pairs → ℕ → Pair
pair_at P i = pair_from P.roles P.others i

-- the pairs of the columns, in their order
unfoldable pub pairs_of : Pairs → List Pair
pairs_of P = up_to P.count (pair_at P)

-- the tables that a house holds
unfoldable pub tables_of : House → Tables
tables_of H =
    record {
      own = H.own;
      names = names_of H.names;
      issuer_stored = credentials H.issuer;
      subject_stored = credentials H.subject;
      sensitive = pairs_of H.sensitive;
      access = pairs_of H.access;
    }
