-- What each part of the reading gives: the records of one command, and how the reading goes on behind them. Assumes nothing.
use Rattle.std.specs.Prelude.{ℕ, ◌≤◌, Bool, List, [], Result}
use Rattle.numbers.specs.Sizes.{MOST-NAMES, MOST-SENSITIVE}
use Rattle.expression.specs.declared.Credential.{Credential}
use Rattle.rt0.specs.declared.Pool.{Pool}
use Rattle.rt0.specs.laws.Pool.{credentials}
use Rattle.class.specs.declared.Name.{Name}
use Rattle.class.specs.declared.Names.{Names}
use Rattle.class.specs.laws.Names.{names_of, Ascending}
use Rattle.record.specs.declared.Pair.{Pair}
use Rattle.tables.specs.declared.House.{House}
use Rattle.tables.specs.declared.Pairs.{Pairs}
use Rattle.tables.specs.Tables.{Tables}
use Rattle.tables.specs.laws.Tables.{pairs_of}
use Rattle.tables.specs.Check.{stored_number, pair_number}
use Rattle.tables.specs.laws.Group.{Ends}
use Rattle.tables.specs.laws.Groups.{names, credentials_of, pairs}

-- a name earns neither 4 nor 5
abbrev pub no_number : Name → ℕ
no_number x = 0

-- the tables that pairs are judged by
abbrev pub tables_for : ℕ → List Name → List Credential → List Pair → Tables
tables_for own ns C P = record { own = own; names = ns; issuer_stored = []; subject_stored = C; sensitive = P; access = [] }

-- those of a house
abbrev pub judged_by : House → Tables
judged_by H = tables_for H.own (names_of H.names) (credentials H.subject) (pairs_of H.sensitive)

-- what a house has where pairs are judged by it
pub record Judging (H : House) : Type 0 where
  pub names : H.names.count ≤ MOST-NAMES
  pub ascending : Ascending H.names.count H.names.name
  pub subject : H.subject.count ≤ 128
  pub sensitive : H.sensitive.count ≤ MOST-SENSITIVE

-- the names from an index on
pub record NamesGone (s : List ℕ) (start : ℕ) (r : Result ℕ ℕ) (N : Names) : Type 0 where
  pub gone : Ends names no_number s start (names_of N) r
  pub ascending : Ascending N.count N.name

-- the credentials of a storage
abbrev pub StoredGone : List Name → Bool → List ℕ → ℕ → Result ℕ ℕ → Pool → Type 0
StoredGone ns subject s start r P = Ends (credentials_of subject) (stored_number ns subject) s start (credentials P) r

-- the sensitive roles, or the AC records
abbrev pub PairsGone : Tables → Bool → List ℕ → ℕ → Result ℕ ℕ → Pairs → Type 0
PairsGone U access s start r P = Ends (pairs access) (pair_number access U) s start (pairs_of P) r
