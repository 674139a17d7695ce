-- The records of the house tables and their bytes (document 01, "Bytes"). Assumes nothing.
use Rattle.std.specs.Prelude.{ℕ, ◌+◌, ◌-◌, Bool, true, false, cond, ◌&&◌, ◌||◌, List, [], ◌∷◌, ◌++◌, ltb, eqb, length, get_or, Option, Some, None, Result, Ok, Err}
use Rattle.expression.specs.declared.Credential.{Credential}
use Rattle.expression.specs.Bytes.{number_at, number_bytes}
use Rattle.expression.specs.Form.{is_role}
use Rattle.expression.specs.Credential.{well_formed_credential, role_at, read_credential, role_bytes, credential_bytes}
use Rattle.class.specs.declared.Name.{Name}
use Rattle.record.specs.declared.Pair.{Pair}
use Rattle.record.specs.declared.Record.{Record}
use Rattle.record.specs.declared.Record.TheVariants.{Own, Named, IssuerStored, SubjectStored, Sensitive, Access}
use Rattle.numbers.specs.Refusals.{COMMAND, OPERAND}
use Rattle.numbers.specs.Bytes.{CREDENTIAL-BYTES, SELF-BYTES, NAME-BYTES, PAIR-BYTES}

-- names "run from 1"; "a class byte" is 1 to 3
abbrev pub formed_name : Name → Bool
formed_name n = ltb 0 n.name && ltb 0 n.class && ltb n.class 4

abbrev pub formed_pair : Pair → Bool
formed_pair p = is_role p.role && is_role p.other

-- the operands have right form
unfoldable pub formed : Record → Bool
formed (Own e) = ltb 0 e
formed (Named n) = formed_name n
formed (IssuerStored c) = well_formed_credential c
formed (SubjectStored c) = well_formed_credential c
formed (Sensitive p) = formed_pair p
formed (Access p) = formed_pair p

-- "0x12 issuer-stored credential and 0x13 subject-stored credential"
abbrev pub stored : Bool → Credential → Record
stored true c = SubjectStored c
stored false c = IssuerStored c

-- "0x14 sensitive role, its Ack role; 0x15 sensitive role, its AC role"
abbrev pub paired : Bool → Pair → Record
paired true p = Access p
paired false p = Sensitive p

-- "2 .. cut command" ("From the input"), whatever its bytes
abbrev pub whole : ℕ → List ℕ → ℕ → Result Record ℕ → Result Record ℕ
whole size s at r = cond (ltb (length s - at) size) (Err COMMAND) r

-- "3 an operand of wrong form"
abbrev pub checked : Bool → Record → Result Record ℕ
checked b r = cond b (Ok r) (Err OPERAND)

-- "0x10 self (one number, once)"
unfoldable pub own_at : List ℕ → ℕ → Result Record ℕ
own_at s at = whole SELF-BYTES s at (checked (ltb 0 (number_at s (at + 1))) (Own (number_at s (at + 1))))

abbrev pub name_of : List ℕ → ℕ → Name
name_of s at = record { name = number_at s at; class = get_or s (at + 2) 0 }

-- "0x11 name, class byte"
unfoldable pub name_at : List ℕ → ℕ → Result Record ℕ
name_at s at = whole NAME-BYTES s at (checked (formed_name (name_of s (at + 1))) (Named (name_of s (at + 1))))

abbrev pub stored_of : Bool → Option Credential → Result Record ℕ
stored_of subject (Some c) = Ok (stored subject c)
stored_of subject None = Err OPERAND

-- "(operands of 0x01)"
unfoldable pub stored_at : Bool → List ℕ → ℕ → Result Record ℕ
stored_at subject s at = whole CREDENTIAL-BYTES s at (stored_of subject (read_credential s (at + 1)))

abbrev pub pair_of : List ℕ → ℕ → Pair
pair_of s at = record { role = role_at s at; other = role_at s (at + 4) }

unfoldable pub pair_at : Bool → List ℕ → ℕ → Result Record ℕ
pair_at access s at = whole PAIR-BYTES s at (checked (formed_pair (pair_of s (at + 1))) (paired access (pair_of s (at + 1))))

-- how many bytes a record of a command has; zero: there is no such command
unfoldable pub size_by : ℕ → ℕ
size_by code =
    cond (eqb code 16) SELF-BYTES
    (cond (eqb code 17) NAME-BYTES
    (cond (eqb code 18 || eqb code 19) CREDENTIAL-BYTES
    (cond (eqb code 20 || eqb code 21) PAIR-BYTES
    0)))

-- the record by its first byte; "2 unknown command"
abbrev pub by_code : ℕ → List ℕ → ℕ → Result Record ℕ
by_code code s at =
    cond (eqb code 16) (own_at s at)
    (cond (eqb code 17) (name_at s at)
    (cond (eqb code 18) (stored_at false s at)
    (cond (eqb code 19) (stored_at true s at)
    (cond (eqb code 20) (pair_at false s at)
    (cond (eqb code 21) (pair_at true s at)
    (Err COMMAND))))))

-- the record at an index
unfoldable pub record_at : List ℕ → ℕ → Result Record ℕ
record_at s at = by_code (get_or s at 0) s at

-- the bytes of a record
unfoldable pub record_bytes : Record → List ℕ
record_bytes (Own e) = 16 ∷ number_bytes e
record_bytes (Named n) = 17 ∷ (number_bytes n.name ++ (n.class ∷ []))
record_bytes (IssuerStored c) = 18 ∷ credential_bytes c
record_bytes (SubjectStored c) = 19 ∷ credential_bytes c
record_bytes (Sensitive p) = 20 ∷ (role_bytes p.role ++ role_bytes p.other)
record_bytes (Access p) = 21 ∷ (role_bytes p.role ++ role_bytes p.other)

-- how many they are
abbrev pub size_of : Record → ℕ
size_of (Own e) = SELF-BYTES
size_of (Named n) = NAME-BYTES
size_of (IssuerStored c) = CREDENTIAL-BYTES
size_of (SubjectStored c) = CREDENTIAL-BYTES
size_of (Sensitive p) = PAIR-BYTES
size_of (Access p) = PAIR-BYTES
