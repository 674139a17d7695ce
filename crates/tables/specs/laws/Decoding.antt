-- The reading of whole tables, part by part. Assumes nothing.
use Rattle.std.specs.Prelude.{ℕ, ◌≤◌, ◌≡◌, cond, List, [], ltb, length, Result, Ok, Err, IfOk}
use Rattle.numbers.specs.Sizes.{MOST-NAMES, MOST-STORED, MOST-SENSITIVE, MOST-ACCESS}
use Rattle.expression.specs.declared.Credential.{Credential}
use Rattle.class.specs.declared.Name.{Name}
use Rattle.class.specs.laws.Names.{Ascending}
use Rattle.record.specs.declared.Record.{Record}
use Rattle.record.specs.declared.Record.TheVariants.{Own, Named, IssuerStored, SubjectStored, Sensitive, Access}
use Rattle.record.specs.Record.{record_at}
use Rattle.tables.specs.declared.House.{House}
use Rattle.tables.specs.Tables.{Tables, unread}
use Rattle.tables.specs.Check.{or_else, class_number, judge, read_tables}
use Rattle.tables.specs.laws.Tables.{tables_of}
use Rattle.tables.specs.laws.Check.{outcome_of, read_from}
use Rattle.numbers.specs.Answer.{accepted, refused}
use Rattle.tables.specs.laws.BehindRecords.{BehindRecords}

-- the first record: self, or the number of another
abbrev pub first_record : Result Record ℕ → Result ℕ ℕ
first_record (Err k) = Err k
first_record (Ok (Own e)) = Ok e
first_record (Ok (Named n)) = Err (judge unread (Named n))
first_record (Ok (IssuerStored c)) = Err (judge unread (IssuerStored c))
first_record (Ok (SubjectStored c)) = Err (judge unread (SubjectStored c))
first_record (Ok (Sensitive p)) = Err (judge unread (Sensitive p))
first_record (Ok (Access p)) = Err (judge unread (Access p))

-- the number of a record that is out of order
abbrev pub out_of_order : Tables → Result Record ℕ → ℕ
out_of_order T (Err k) = k
out_of_order T (Ok r) = or_else (class_number T r) 6

-- what is left behind the records of all commands: nothing, or a record that is out of order
unfoldable pub left_number : List ℕ → ℕ → Tables → ℕ
left_number s at T = cond (ltb at (length s)) (out_of_order T (record_at s at)) 0

-- the same, as a result
unfoldable pub left_of : List ℕ → ℕ → Tables → Result (Unit {0}) ℕ
left_of s at T = cond (ltb at (length s)) (Err (out_of_order T (record_at s at))) (Ok (tt {0}))

-- tables of self, names and credentials
abbrev pub without_pairs : ℕ → List Name → List Credential → List Credential → Tables
without_pairs own ns I S = record { own = own; names = ns; issuer_stored = I; subject_stored = S; sensitive = []; access = [] }

-- the sizes of the groups, and the order of the names
pub record Housed (H : House) : Type 0 where
  pub names : H.names.count ≤ MOST-NAMES
  pub ascending : Ascending H.names.count H.names.name
  pub issuer : H.issuer.count ≤ MOST-STORED
  pub subject : H.subject.count ≤ MOST-STORED
  pub sensitive : H.sensitive.count ≤ MOST-SENSITIVE
  pub access : H.access.count ≤ MOST-ACCESS

-- the reading from an index on, behind the records of T, leads to the decoded tables
pub record Decodes (s : List ℕ) (at : ℕ) (T : Tables) (d : Result House ℕ) : Type 0 where
  pub same : outcome_of d ≡ read_from s at T
  pub housed : IfOk d Housed

-- the reading has come to an index, behind the records of T, which are of m commands
pub record Come (s : List ℕ) (at m : ℕ) (T : Tables) : Type 0 where
  pub same : read_tables s ≡ read_from s at T
  pub behind : BehindRecords m s at T

-- the tables are refused, and k is their number
abbrev pub Wrong : List ℕ → ℕ → Type 0
Wrong s k = refused k ≡ read_tables s

-- the tables stand in the house, or they are refused
abbrev pub Filled : List ℕ → Result (Unit {0}) ℕ → House → Type 0
Filled s (Ok u) H = (accepted (tables_of H) ≡ read_tables s) × Housed H
Filled s (Err k) H = Wrong s k
