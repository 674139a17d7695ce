-- Which 18 bytes are an expression: the form of kinds 1 to 5 (document 01, "Bytes").
use Rattle.std.specs.Prelude.{ℕ, List, Bool, true, false, ◌&&◌, ◌||◌, ltb, eqb, Option, Some, None}
use Rattle.expression.specs.declared.Role.{Role}
use Rattle.expression.specs.declared.Parts.{Parts}
use Rattle.expression.specs.declared.Raw.{Raw}
use Rattle.expression.specs.declared.Expression.{Expression}
use Rattle.expression.specs.declared.Expression.TheVariants as x
use Rattle.expression.specs.Bytes.{raw_at}

abbrev pub choose : Bool → Bool → Bool → Bool
choose true a b = a
choose false a b = b

abbrev pub pick : Bool → Option Expression → Option Expression → Option Expression
pick true a b = a
pick false a b = b

-- the numbers of an expression: kind, part count, eight numbers, unused ones zero
abbrev pub raw_of : Expression → Raw
raw_of (x.Entity n) = record { kind = 1; count = 0; n0 = n; n1 = 0; n2 = 0; n3 = 0; n4 = 0; n5 = 0; n6 = 0; n7 = 0 }
raw_of (x.Role r) = record { kind = 2; count = 0; n0 = r.entity; n1 = r.name; n2 = 0; n3 = 0; n4 = 0; n5 = 0; n6 = 0; n7 = 0 }
raw_of (x.Linked r n) = record { kind = 3; count = 0; n0 = r.entity; n1 = r.name; n2 = n; n3 = 0; n4 = 0; n5 = 0; n6 = 0; n7 = 0 }
raw_of (x.Intersection p) =
    record {
      kind = 4;
      count = p.count;
      n0 = p.first.entity;
      n1 = p.first.name;
      n2 = p.second.entity;
      n3 = p.second.name;
      n4 = p.third.entity;
      n5 = p.third.name;
      n6 = p.fourth.entity;
      n7 = p.fourth.name;
    }
raw_of (x.Goal n) = record { kind = 5; count = 0; n0 = n; n1 = 0; n2 = 0; n3 = 0; n4 = 0; n5 = 0; n6 = 0; n7 = 0 }

abbrev pub pick_expression : Bool → Expression → Expression → Expression
pick_expression true a b = a
pick_expression false a b = b

-- the only expression whose numbers may be these
abbrev pub expression_of : Raw → Expression
expression_of r =
    pick_expression (eqb r.kind 1) (x.Entity r.n0)
    (pick_expression (eqb r.kind 2) (x.Role (record { entity = r.n0; name = r.n1 }))
    (pick_expression (eqb r.kind 3) (x.Linked (record { entity = r.n0; name = r.n1 }) r.n2)
    (pick_expression (eqb r.kind 4)
    (x.Intersection (record {
      count = r.count;
      first = record { entity = r.n0; name = r.n1 };
      second = record { entity = r.n2; name = r.n3 };
      third = record { entity = r.n4; name = r.n5 };
      fourth = record { entity = r.n6; name = r.n7 };
    }))
    (x.Goal r.n0))))

-- strictly ascending by entity, then name
abbrev pub ascends : Role → Role → Bool
ascends a b = ltb a.entity b.entity || (eqb a.entity b.entity && ltb a.name b.name)

-- entities and names are not zero
abbrev pub is_role : Role → Bool
is_role r = ltb 0 r.entity && ltb 0 r.name

-- zero marks an unused field
abbrev pub is_empty : Role → Bool
is_empty r = eqb r.entity 0 && eqb r.name 0

-- the third and the fourth role stand or are empty by the count
abbrev pub tail_formed : Parts → Bool
tail_formed p =
    choose (eqb p.count 2) (is_empty p.third && is_empty p.fourth)
    (choose (eqb p.count 3) (is_role p.third && ascends p.second p.third && is_empty p.fourth)
    (choose (eqb p.count 4)
    (is_role p.third && ascends p.second p.third && is_role p.fourth && ascends p.third p.fourth)
    false))

-- two to four roles, strictly ascending
abbrev pub parts_formed : Parts → Bool
parts_formed p = is_role p.first && is_role p.second && ascends p.first p.second && tail_formed p

abbrev pub well_formed : Expression → Bool
well_formed (x.Entity n) = ltb 0 n
well_formed (x.Role r) = is_role r
well_formed (x.Linked r n) = is_role r && ltb 0 n
well_formed (x.Intersection p) = parts_formed p
well_formed (x.Goal n) = ltb 0 n

abbrev pub same_raw : Raw → Raw → Bool
same_raw a b =
    eqb a.kind b.kind && eqb a.count b.count && eqb a.n0 b.n0 && eqb a.n1 b.n1 && eqb a.n2 b.n2
    && eqb a.n3 b.n3 && eqb a.n4 b.n4 && eqb a.n5 b.n5 && eqb a.n6 b.n6 && eqb a.n7 b.n7

-- numbers of a kind from 1 to 5, zero where one is unused, of a well-formed expression
abbrev pub form_of : Raw → Option Expression
form_of r = pick (same_raw (raw_of (expression_of r)) r && well_formed (expression_of r)) (Some (expression_of r)) None

-- the expression that stands at an index
abbrev pub read_of : List ℕ → ℕ → Option Expression
read_of s at = form_of (raw_at s at)
