-- The bytes of house tables (document 01, "Bytes"). Assumes nothing.
use Rattle.std.specs.Prelude.{ℕ, List, [], ◌∷◌, ◌++◌}
use Rattle.record.specs.declared.Record.{Record}
use Rattle.record.specs.declared.Record.TheVariants.{Own, Named, IssuerStored, SubjectStored, Sensitive, Access}
use Rattle.record.specs.Record.{record_bytes}
use Rattle.tables.specs.Tables.{Tables}

-- the records of one command, one after another
abbrev pub bytes_of : {A : Type 0} → (A → Record) → List A → List ℕ
bytes_of wrap [] = []
bytes_of wrap (x ∷ L) = record_bytes (wrap x) ++ bytes_of wrap L

-- "House tables, in this order: 0x10 self (one number, once); 0x11 ..; 0x12 .. and 0x13 ..; 0x14 ..; 0x15 .. No end command."
unfoldable pub tables_bytes : Tables → List ℕ
tables_bytes T =
    record_bytes (Own T.own)
    ++ (bytes_of Named T.names
    ++ (bytes_of IssuerStored T.issuer_stored
    ++ (bytes_of SubjectStored T.subject_stored
    ++ (bytes_of Sensitive T.sensitive
    ++ bytes_of Access T.access))))
