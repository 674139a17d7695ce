-- What a record keeps or breaks behind the tables read before it, number by number (document 01, "Classes", "From the input"). Assumes nothing.
use Rattle.std.specs.Prelude.{ℕ, ◌≡◌, Bool, true, false, ◌&&◌, List}
use Rattle.expression.specs.declared.Credential.{Credential}
use Rattle.class.specs.declared.Name.{Name}
use Rattle.class.specs.Names.{class_of}
use Rattle.class.specs.Typing.{type_of, suits}
use Rattle.record.specs.declared.Record.{Record}
use Rattle.record.specs.declared.Record.TheVariants.{Own, Named, IssuerStored, SubjectStored, Sensitive, Access}
use Rattle.tables.specs.Tables.{Tables}
use Rattle.tables.specs.Check.{suits_storage, suits_pair, in_order, above, room}
use Rattle.numbers.specs.Refusals.{CLASS, ORDER}

-- "A credential whose head is class 2 or 3 needs a body of that class; class 1 takes any well-typed body. 0x12 heads have class 1 or 2, 0x13
-- heads class 3."
abbrev pub keeps_stored : List Name → Bool → Credential → Bool
keeps_stored ns subject c = suits (type_of ns c.body) (class_of ns c.head.name) && suits_storage subject (class_of ns c.head.name)

-- no "class rule broken"
unfoldable pub keeps_rules : Tables → Record → Bool
keeps_rules T (Own e) = true
keeps_rules T (Named n) = true
keeps_rules T (IssuerStored c) = keeps_stored T.names false c
keeps_rules T (SubjectStored c) = keeps_stored T.names true c
keeps_rules T (Sensitive p) = suits_pair false T p.role
keeps_rules T (Access p) = suits_pair true T p.role

-- a record that keeps all rules behind the tables T
pub record Fit (T : Tables) (r : Record) : Type 0 where
  pub rules : keeps_rules T r ≡ true
  -- "House tables, in this order"
  pub order : in_order T r ≡ true
  -- "Records of one command ascend strictly by bytes; 0x11, 0x14 and 0x15 never repeat their first operand."
  pub ascends : above T r ≡ true
  -- "Sizes"
  pub size : room T r ≡ true

-- which rule a record breaks first behind the tables T, and k is its number
pub data Breaks (T : Tables) (r : Record) (k : ℕ) : Type 0 where
  -- "5 a class rule broken"
  class-rule : keeps_rules T r ≡ false → k ≡ CLASS → Breaks T r k
  -- "6 tables out of order, repeated, self missing, or a size passed"
  out_of_order_lem : keeps_rules T r ≡ true → (in_order T r && above T r && room T r) ≡ false → k ≡ ORDER → Breaks T r k
