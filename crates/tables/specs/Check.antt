-- The check of the house tables (document 01, "Classes", "From the input"): the records one after another, each by rising number. Assumes
-- nothing.
use Rattle.std.specs.Prelude.{ℕ, zero, suc, ◌+◌, Bool, true, false, cond, not, ◌&&◌, ◌||◌, List, [], ◌∷◌, ltb, leb, eqb, length, Result, Ok, Err}
use Rattle.numbers.specs.Sizes.{MOST-NAMES, MOST-STORED, MOST-SENSITIVE, MOST-ACCESS, MOST-TABLES-BYTES}
use Rattle.expression.specs.declared.Role.{Role}
use Rattle.expression.specs.declared.Credential.{Credential}
use Rattle.expression.specs.Form.{ascends}
use Rattle.expression.specs.Order.{before_credential}
use Rattle.rt0.specs.Lists.{all}
use Rattle.class.specs.declared.Name.{Name}
use Rattle.class.specs.Names.{class_of}
use Rattle.class.specs.Typing.{credential_number}
use Rattle.record.specs.declared.Pair.{Pair}
use Rattle.record.specs.declared.Record.{Record}
use Rattle.record.specs.declared.Record.TheVariants.{Own, Named, IssuerStored, SubjectStored, Sensitive, Access}
use Rattle.record.specs.Record.{record_at, size_of}
use Rattle.tables.specs.Tables.{Tables, unread, added}
use Rattle.tables.specs.Lookup.{holds, is_sensitive}
use Rattle.numbers.specs.Answer.{Answer, refused, accepted, judged, answer_of, no_value}
use Rattle.numbers.specs.Refusals.{LENGTH, CLASS, ORDER}

-- the first number that is not zero
abbrev pub or_else : ℕ → ℕ → ℕ
or_else k rest = cond (eqb k 0) rest k

-- "0x12 heads have class 1 or 2, 0x13 heads class 3."
abbrev pub suits_storage : Bool → ℕ → Bool
suits_storage true k = eqb k 3
suits_storage false k = eqb k 1 || eqb k 2

-- 5 of a stored credential, or zero
unfoldable pub stored_number : List Name → Bool → Credential → ℕ
stored_number ns subject c = or_else (credential_number ns c) (cond (suits_storage subject (class_of ns c.head.name)) 0 CLASS)

-- "Sensitive roles have class 3. An AC record needs the direct credential, role from self, in 0x13, and the role in 0x14."
abbrev pub suits_pair : Bool → Tables → Role → Bool
suits_pair true T r = holds T.own T.subject_stored r && is_sensitive T.sensitive r
suits_pair false T r = eqb (class_of T.names r.name) 3

-- 5 of a sensitive role with its Ack or AC role, or zero
unfoldable pub pair_number : Bool → Tables → Pair → ℕ
pair_number access T p = cond (suits_pair access T p.role) 0 CLASS

-- "5 a class rule broken", or zero
unfoldable pub class_number : Tables → Record → ℕ
class_number T (Own e) = 0
class_number T (Named n) = 0
class_number T (IssuerStored c) = stored_number T.names false c
class_number T (SubjectStored c) = stored_number T.names true c
class_number T (Sensitive p) = pair_number false T p
class_number T (Access p) = pair_number true T p

abbrev pub none : {A : Type 0} → List A → Bool
none [] = true
none (x ∷ xs) = false

-- "House tables, in this order": self is the first, and once; of the others no record of a later command stands yet
unfoldable pub in_order : Tables → Record → Bool
in_order T (Own e) = eqb T.own 0
in_order T (Named n) = not (eqb T.own 0) && none T.issuer_stored && none T.subject_stored && none T.sensitive && none T.access
in_order T (IssuerStored c) = not (eqb T.own 0) && none T.subject_stored && none T.sensitive && none T.access
in_order T (SubjectStored c) = not (eqb T.own 0) && none T.sensitive && none T.access
in_order T (Sensitive p) = not (eqb T.own 0) && none T.access
in_order T (Access p) = not (eqb T.own 0)

-- "Records of one command ascend strictly by bytes; 0x11, 0x14 and 0x15 never repeat their first operand": each earlier one comes before
unfoldable pub above : Tables → Record → Bool
above T (Own e) = true
above T (Named n) = all (λ (m : Name). ltb m.name n.name) T.names
above T (IssuerStored c) = all (λ (d : Credential). before_credential d c) T.issuer_stored
above T (SubjectStored c) = all (λ (d : Credential). before_credential d c) T.subject_stored
above T (Sensitive p) = all (λ (q : Pair). ascends q.role p.role) T.sensitive
above T (Access p) = all (λ (q : Pair). ascends q.role p.role) T.access

-- no size is passed
unfoldable pub room : Tables → Record → Bool
room T (Own e) = true
room T (Named n) = ltb (length T.names) MOST-NAMES
room T (IssuerStored c) = ltb (length T.issuer_stored) MOST-STORED
room T (SubjectStored c) = ltb (length T.subject_stored) MOST-STORED
room T (Sensitive p) = ltb (length T.sensitive) MOST-SENSITIVE
room T (Access p) = ltb (length T.access) MOST-ACCESS

-- "6 tables out of order, repeated, self missing, or a size passed"
unfoldable pub order_number : Tables → Record → ℕ
order_number T r = cond (in_order T r && above T r && room T r) 0 ORDER

-- a record behind those of T: the first of 5 and 6 that it earns, or zero
unfoldable pub judge : Tables → Record → ℕ
judge T r = or_else (class_number T r) (order_number T r)

abbrev pub on_record : (ℕ → Tables → Answer Tables) → Tables → Result Record ℕ → Answer Tables
on_record next T (Err k) = refused k
on_record next T (Ok r) = judged (judge T r) (next (size_of r) (added T r))

-- the records from an index on, behind those of T. The first number is at least that of the bytes left.
unfoldable pub records_from : ℕ → List ℕ → ℕ → Tables → Answer Tables
records_from zero s at T = accepted T
records_from (suc n) s at T =
    cond (ltb at (length s)) (on_record (λ size U. records_from n s (at + size) U) T (record_at s at)) (accepted T)

-- "1 a lent length outside the sizes"
unfoldable pub sized : ℕ → Bool
sized n = ltb 0 n && leb n MOST-TABLES-BYTES

-- what the bytes of tables are
unfoldable pub read_tables : List ℕ → Answer Tables
read_tables s = cond (sized (length s)) (records_from (length s) s 0 unread) (refused LENGTH)

-- the answer of the check: zero, or the refusal number
unfoldable pub check_of : List ℕ → ℕ
check_of s = answer_of no_value (read_tables s)
