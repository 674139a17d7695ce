-- The house tables as lists of their records (document 01, "Bytes"). Assumes nothing.
use Rattle.std.specs.Prelude.{ℕ, Bool, true, false, List, [], ◌∷◌, ◌++◌}
use Rattle.expression.specs.declared.Credential.{Credential}
use Rattle.class.specs.declared.Name.{Name}
use Rattle.record.specs.declared.Pair.{Pair}
use Rattle.record.specs.declared.Record.{Record}
use Rattle.record.specs.declared.Record.TheVariants.{Own, Named, IssuerStored, SubjectStored, Sensitive, Access}

-- self (zero before its record is read), and the records of each other command in their order
pub record Tables : Type 0 where
  pub own : ℕ
  pub names : List Name
  pub issuer_stored : List Credential
  pub subject_stored : List Credential
  pub sensitive : List Pair
  pub access : List Pair

-- no record has been read
abbrev pub unread : Tables
unread = record { own = 0; names = []; issuer_stored = []; subject_stored = []; sensitive = []; access = [] }

abbrev pub with_names : Tables → List Name → Tables
with_names T L =
    record { own = T.own; names = L; issuer_stored = T.issuer_stored; subject_stored = T.subject_stored; sensitive = T.sensitive; access = T.access }

abbrev pub with_stored : Bool → Tables → List Credential → Tables
with_stored true T L = record { own = T.own; names = T.names; issuer_stored = T.issuer_stored; subject_stored = L; sensitive = T.sensitive; access = T.access }
with_stored false T L =
    record { own = T.own; names = T.names; issuer_stored = L; subject_stored = T.subject_stored; sensitive = T.sensitive; access = T.access }

abbrev pub with_pairs : Bool → Tables → List Pair → Tables
with_pairs true T L =
    record { own = T.own; names = T.names; issuer_stored = T.issuer_stored; subject_stored = T.subject_stored; sensitive = T.sensitive; access = L }
with_pairs false T L =
    record { own = T.own; names = T.names; issuer_stored = T.issuer_stored; subject_stored = T.subject_stored; sensitive = L; access = T.access }

-- the tables with one record more
abbrev pub added : Tables → Record → Tables
added T (Own e) =
    record { own = e; names = T.names; issuer_stored = T.issuer_stored; subject_stored = T.subject_stored; sensitive = T.sensitive; access = T.access }
added T (Named n) = with_names T (T.names ++ (n ∷ []))
added T (IssuerStored c) = with_stored false T (T.issuer_stored ++ (c ∷ []))
added T (SubjectStored c) = with_stored true T (T.subject_stored ++ (c ∷ []))
added T (Sensitive p) = with_pairs false T (T.sensitive ++ (p ∷ []))
added T (Access p) = with_pairs true T (T.access ++ (p ∷ []))
