-- What accepted house tables are (document 01, "Bytes", "Classes"), as facts over whole tables. Assumes nothing.
use Rattle.std.specs.Prelude.{ℕ, ◌<◌, ◌≤◌, ◌≡◌, Bool, true, false, ltb, length}
use mathlib.Core.List.{List, Memᴰ, [], ◌∷◌}
use Rattle.numbers.specs.Sizes.{MOST-NAMES, MOST-STORED, MOST-SENSITIVE, MOST-ACCESS}
use Rattle.expression.specs.Form.{ascends}
use Rattle.expression.specs.Order.{before_credential}
use Rattle.record.specs.declared.Record.{Record}
use Rattle.record.specs.declared.Record.TheVariants.{Named, IssuerStored, SubjectStored, Sensitive, Access}
use Rattle.record.specs.Record.{formed}
use Rattle.tables.specs.Tables.{Tables}
use Rattle.tables.specs.Check.{stored_number, pair_number}
use Rattle.rt0.specs.Lists.{all}

-- a list that ascends strictly: each element comes before all later ones
pub data Rising {A : Type 0} (before : A → A → Bool) : List A → Type 0 where
  rising_none : Rising before []
  rising-cons : {x : A} {L : List A} → all (λ y. before x y) L ≡ true → Rising before L → Rising before (x ∷ L)

-- what holds of all records of one command
pub record Records {A : Type 0} (wrap : A → Record) (before : A → A → Bool) (most : ℕ) (number : A → ℕ) (L : List A) : Type 0 where
  -- "Records of one command ascend strictly by bytes; 0x11, 0x14 and 0x15 never repeat their first operand."
  pub ascend : Rising before L
  -- "Sizes"
  pub few : length L ≤ most
  -- none has "an operand of wrong form"
  pub form : (x : A) → Memᴰ x L → formed (wrap x) ≡ true
  -- by none is "a class rule broken"
  pub rules : (x : A) → Memᴰ x L → number x ≡ 0

-- tables that keep all rules
pub record Sound (T : Tables) : Type 0 where
  -- "0x10 self (one number, once)"; "Entities and role names run from 1"
  pub own : 0 < T.own
  -- "0x11 name, class byte"; "64 names"
  pub names : Records Named (λ m n. ltb m.name n.name) MOST-NAMES (λ n. 0) T.names
  -- "0x12 issuer-stored credential"; "64 credentials of each storage"; "0x12 heads have class 1 or 2"
  pub issuer_stored : Records IssuerStored before_credential MOST-STORED (stored_number T.names false) T.issuer_stored
  -- "0x13 subject-stored credential"; "0x13 heads class 3"
  pub subject_stored : Records SubjectStored before_credential MOST-STORED (stored_number T.names true) T.subject_stored
  -- "0x14 sensitive role, its Ack role"; "32 sensitive roles"; "Sensitive roles have class 3."
  pub sensitive : Records Sensitive (λ p q. ascends p.role q.role) MOST-SENSITIVE (pair_number false T) T.sensitive
  -- "0x15 sensitive role, its AC role"; "32 AC records"; "An AC record needs the direct credential, role from self, in 0x13, and the role in 0x14."
  pub access : Records Access (λ p q. ascends p.role q.role) MOST-ACCESS (pair_number true T) T.access
