-- The commands of the tables as groups: names, the credentials of each storage, sensitive roles and AC records. Assumes nothing.
use Rattle.std.specs.Prelude.{ℕ, ◌≡◌, refl, Bool, true, false, cond, ◌&&◌, ltb, Option, Some, None}
use Rattle.std.proofs.Common.{ap}
use Rattle.numbers.specs.Sizes.{MOST-NAMES, MOST-STORED, MOST-SENSITIVE, MOST-ACCESS}
use Rattle.expression.specs.declared.Credential.{Credential}
use Rattle.expression.specs.Form.{ascends}
use Rattle.expression.specs.Order.{before_credential}
use Rattle.class.specs.declared.Name.{Name}
use Rattle.record.specs.declared.Pair.{Pair}
use Rattle.record.specs.declared.Record.{Record}
use Rattle.record.specs.declared.Record.TheVariants.{Own, Named, IssuerStored, SubjectStored, Sensitive, Access}
use Rattle.record.specs.Record.{stored, paired}
use Rattle.tables.specs.laws.Chain.{less-chain, before-chain, ascends-chain}
use Rattle.tables.specs.Tables.{with_names, with_stored, with_pairs}
use Rattle.tables.specs.Check.{or_else, stored_number, pair_number, class_number, in_order, above, room, order_number, judge}
use Rattle.tables.specs.laws.Group.{Group, Lawful, none-some}

-- The groups

abbrev pub pick_name : Record → Option Name
pick_name (Own e) = None
pick_name (Named n) = Some n
pick_name (IssuerStored c) = None
pick_name (SubjectStored c) = None
pick_name (Sensitive p) = None
pick_name (Access p) = None

abbrev pub pick_stored : Bool → Record → Option Credential
pick_stored subject (Own e) = None
pick_stored subject (Named n) = None
pick_stored subject (IssuerStored c) = cond subject None (Some c)
pick_stored subject (SubjectStored c) = cond subject (Some c) None
pick_stored subject (Sensitive p) = None
pick_stored subject (Access p) = None

abbrev pub pick_pair : Bool → Record → Option Pair
pick_pair access (Own e) = None
pick_pair access (Named n) = None
pick_pair access (IssuerStored c) = None
pick_pair access (SubjectStored c) = None
pick_pair access (Sensitive p) = cond access None (Some p)
pick_pair access (Access p) = cond access (Some p) None

-- 0x11
unfoldable pub names : Group Name
names = record { wrap = Named; pick = pick_name; put = with_names; before = λ m n. ltb m.name n.name; number = λ T n. 0; most = MOST-NAMES; size = 4 }

-- 0x12 and 0x13
unfoldable pub credentials_of : Bool → Group Credential
credentials_of subject =
    record {
      wrap = stored subject;
      pick = pick_stored subject;
      put = with_stored subject;
      before = before_credential;
      number = λ T c. stored_number
          T.names subject c;
      most = MOST-STORED;
      size = 23;
    }

-- "32 sensitive roles, 32 AC records"
abbrev pub pairs_most : Bool → ℕ
pairs_most true = MOST-ACCESS
pairs_most false = MOST-SENSITIVE

-- 0x14 and 0x15
unfoldable pub pairs : Bool → Group Pair
pairs access =
    record {
      wrap = paired access;
      pick = pick_pair access;
      put = with_pairs access;
      before = λ p q. ascends p.role q.role;
      number = pair_number
          access;
      most = pairs_most access;
      size = 9;
    }

same_some : {A : Type 0} {x y : A} → Some x ≡ Some y → x ≡ y
same_some h = cc

picked-name : (r : Record) (x : Name) → pick_name r ≡ Some x → r ≡ Named x
picked-name (Own e) x h = absurd (none-some h)
picked-name (Named n) x h = ap Named (same_some h)
picked-name (IssuerStored c) x h = absurd (none-some h)
picked-name (SubjectStored c) x h = absurd (none-some h)
picked-name (Sensitive p) x h = absurd (none-some h)
picked-name (Access p) x h = absurd (none-some h)

picked-stored : (b : Bool) (r : Record) (x : Credential) → pick_stored b r ≡ Some x → r ≡ stored b x
picked-stored b (Own e) x h = absurd (none-some h)
picked-stored b (Named n) x h = absurd (none-some h)
picked-stored true (IssuerStored c) x h = absurd (none-some h)
picked-stored false (IssuerStored c) x h = ap IssuerStored (same_some h)
picked-stored true (SubjectStored c) x h = ap SubjectStored (same_some h)
picked-stored false (SubjectStored c) x h = absurd (none-some h)
picked-stored b (Sensitive p) x h = absurd (none-some h)
picked-stored b (Access p) x h = absurd (none-some h)

picked_pair : (b : Bool) (r : Record) (x : Pair) → pick_pair b r ≡ Some x → r ≡ paired b x
picked_pair b (Own e) x h = absurd (none-some h)
picked_pair b (Named n) x h = absurd (none-some h)
picked_pair b (IssuerStored c) x h = absurd (none-some h)
picked_pair b (SubjectStored c) x h = absurd (none-some h)
picked_pair true (Sensitive p) x h = absurd (none-some h)
picked_pair false (Sensitive p) x h = ap Sensitive (same_some h)
picked_pair true (Access p) x h = ap Access (same_some h)
picked_pair false (Access p) x h = absurd (none-some h)

-- an order that holds leaves the other two tests
in_order_lem : (o u r : Bool) → o ≡ true → ◌≡◌ {A = ℕ} (cond (o && u && r) 0 6) (cond (u && r) 0 6)
in_order_lem o u r h = ap (λ (b : Bool). cond (b && u && r) 0 6) h

pub names-lawful : Lawful names
unfolding names judge class_number order_number in_order above room
names-lawful = record {
  picked = λ r x. picked-name r x;
  wrapped = λ x. refl;
  sized = λ x. refl;
  more = λ T L x. refl;
  judges = λ T L x h. in_order_lem _ _ _ h;
  chain = λ x y z. less-chain x.name y.name z.name;
}

pub credentials-lawful : (subject : Bool) → Lawful (credentials_of subject)
unfolding credentials_of judge class_number order_number in_order above room
credentials-lawful true = record {
  picked = λ r x. picked-stored true r x;
  wrapped = λ x. refl;
  sized = λ x. refl;
  more = λ T L x. refl;
  judges = λ T L x h. ap (or_else (stored_number T.names true x)) (in_order_lem _ _ _ h);
  chain = before-chain;
}
credentials-lawful false = record {
  picked = λ r x. picked-stored false r x;
  wrapped = λ x. refl;
  sized = λ x. refl;
  more = λ T L x. refl;
  judges = λ T L x h. ap (or_else (stored_number T.names false x)) (in_order_lem _ _ _ h);
  chain = before-chain;
}

pub pairs-lawful : (access : Bool) → Lawful (pairs access)
unfolding pairs judge class_number order_number in_order above room pair_number
pairs-lawful true = record {
  picked = λ r x. picked_pair true r x;
  wrapped = λ x. refl;
  sized = λ x. refl;
  more = λ T L x. refl;
  judges = λ T L x h. ap (or_else (pair_number true T x)) (in_order_lem _ _ _ h);
  chain = λ x y z. ascends-chain x.role y.role z.role;
}
pairs-lawful false = record {
  picked = λ r x. picked_pair false r x;
  wrapped = λ x. refl;
  sized = λ x. refl;
  more = λ T L x. refl;
  judges = λ T L x h. ap (or_else (pair_number false T x)) (in_order_lem _ _ _ h);
  chain = λ x y z. ascends-chain x.role y.role z.role;
}
