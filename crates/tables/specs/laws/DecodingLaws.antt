-- The parts of the reading put together. Assumes nothing.
use Rattle.std.specs.Prelude.{ℕ, suc, ◌<◌, ◌≤◌, ◌≡◌, Bool, not, ◌&&◌, leb, eqb, length, Result, Ok, Err, IfOk, MatchResult}
use Rattle.std.proofs.Math.Path.{refl, sym, ap}
use Rattle.std.proofs.Common.{◌∙◌, subst, arith}
use Rattle.std.proofs.Math.Bool.{true, false, cond}
use mathlib.Core.List.{List, []}
use borrow.Author.Tests.{lt-ltb, le-ltb, ltb-true, ltb-false, eqb-false, ne_eqb, not-false, not-true}
use Rattle.std.proofs.Math.Dec.{ltb}
use Rattle.numbers.specs.Sizes.{MOST-STORED, MOST-TABLES-BYTES}
use Rattle.expression.specs.declared.Credential.{Credential}
use Rattle.rt0.specs.declared.Pool.{Pool}
use Rattle.rt0.specs.laws.Pool.{credentials}
use Rattle.rt0.specs.laws.Added.{count-length}
use Rattle.word.specs.laws.Bools.{and_parts}
use Rattle.class.specs.declared.Name.{Name}
use Rattle.class.specs.Names.{class_of}
use Rattle.class.specs.Typing.{credential_number}
use Rattle.class.specs.laws.Listed.{suits-unlisted}
use Rattle.record.specs.declared.Pair.{Pair}
use Rattle.record.specs.declared.Record.{Record}
use Rattle.record.specs.declared.Record.TheVariants.{Own, Named, IssuerStored, SubjectStored, Sensitive, Access}
use Rattle.record.specs.Record.{record_at, formed}
use Rattle.record.specs.laws.RecordExact.{record-refusal, record-formed}
use Rattle.tables.specs.declared.Pairs.{Pairs}
use Rattle.tables.specs.Tables.{Tables, unread, with_pairs}
use Rattle.tables.specs.Lookup.{holds}
use Rattle.tables.specs.declared.House.{House}
use Rattle.tables.specs.laws.Tables.{pairs_of, tables_of}
use Rattle.class.specs.laws.Names.{names_of}
use Rattle.tables.specs.laws.Columns.{pairs-length}
use Rattle.tables.specs.Check.{or_else, stored_number, pair_number, class_number, in_order, above, room, order_number, judge, read_tables, records_from, sized}
use Rattle.tables.specs.Check.{check_of}
use Rattle.tables.specs.laws.Check.{outcome_of, read_from, from_past, from-refused, from-judged}
use Rattle.tables.specs.laws.Group.{Group, Open, Gone, Refused, refusal_of, judged-refused, some-refusal}
use Rattle.tables.specs.laws.Groups.{names, credentials_of, pairs}
use Rattle.tables.specs.laws.Reading.{no_number, tables_for}
use Rattle.tables.specs.laws.BehindRecords.{rank_of, BehindRecords, Ranked, passed-next}
use Rattle.tables.specs.laws.Decoding.{first_record, out_of_order, left_number, left_of, without_pairs, Housed, Decodes, Come, Wrong}
use Rattle.numbers.specs.Answer.{refused, accepted, answer_of, no_value, judged}
use Rattle.numbers.specs.Refusals.{LENGTH}

-- a pool without credentials counts none
pub empty-pool : (P : Pool) → credentials P ≡ [] → P.count ≤ MOST-STORED
empty-pool P h = omega (arith, sym (count-length P) ∙ ap length h)

-- and so do columns without pairs
pub empty-pairs : (P : Pairs) → pairs_of P ≡ [] → P.count ≤ 32
empty-pairs P h = omega (arith, sym (pairs-length P) ∙ ap length h)

-- refused tables
pub outcome-refused : (d : Result House ℕ) (k : ℕ) → d ≡ Err k → outcome_of d ≡ refused k
outcome-refused d k h = ap outcome_of h

-- a house with no record
module _ (H : House) (h : tables_of H ≡ unread) where
  pub names-unread : names_of H.names ≡ []
  unfolding tables_of
  names-unread = ap (λ (T : Tables). T.names) h

  pub issuer-unread : credentials H.issuer ≡ []
  unfolding tables_of
  issuer-unread = ap (λ (T : Tables). T.issuer_stored) h

  pub subject-unread : credentials H.subject ≡ []
  unfolding tables_of
  subject-unread = ap (λ (T : Tables). T.subject_stored) h

  pub sensitive-unread : pairs_of H.sensitive ≡ []
  unfolding tables_of
  sensitive-unread = ap (λ (T : Tables). T.sensitive) h

-- The first record

-- no name is listed before it: its names are subject-all
pub first-named : (n : Name) → judge unread (Named n) ≡ 6
unfolding judge class_number order_number in_order
first-named n = refl

pub first-issuer : (c : Credential) → judge unread (IssuerStored c) ≡ 5
unfolding judge class_number stored_number credential_number class_of
first-issuer c = ap (λ (b : Bool). or_else (or_else (cond b 0 5) 5) (order_number unread (IssuerStored c))) (suits-unlisted c.body)

pub first-subject : (c : Credential) → judge unread (SubjectStored c) ≡ 6
unfolding judge class_number stored_number credential_number class_of order_number in_order
first-subject c = ap (λ (b : Bool). or_else (or_else (cond b 0 5) 0) 6) (suits-unlisted c.body)

pub first-sensitive : (p : Pair) → judge unread (Sensitive p) ≡ 6
unfolding judge class_number pair_number class_of order_number in_order
first-sensitive p = refl

pub first-access : (p : Pair) → judge unread (Access p) ≡ 5
unfolding judge class_number pair_number holds
first-access p = refl

-- any other record
pub first-other : (r : Record) → ((e : ℕ) → r ≡ Own e → ⊥) → ((c : Credential) → r ≡ IssuerStored c → ⊥) → ((p : Pair) → r ≡ Access p → ⊥)
    → Err 6 ≡ first_record (Ok r)
first-other (Own e) h k m = absurd (h e refl)
first-other (Named n) h k m = ap Err (sym (first-named n))
first-other (IssuerStored c) h k m = absurd (k c refl)
first-other (SubjectStored c) h k m = ap Err (sym (first-subject c))
first-other (Sensitive p) h k m = ap Err (sym (first-sensitive p))
first-other (Access p) h k m = absurd (m p refl)

first-numbers : (r : Record) (k : ℕ) → first_record (Ok r) ≡ Err k → (judge unread r ≡ k) × (k ≡ 0 → ⊥)
first-numbers (Own e) k h = absurd (let z : ◌≡◌ {A = ℕ} 0 1 = cc in omega arith)
first-numbers (Named n) k h = let q : judge unread (Named n) ≡ k = cc in (q, λ e. omega (arith, first-named n))
first-numbers (IssuerStored c) k h = let q : judge unread (IssuerStored c) ≡ k = cc in (q, λ e. omega (arith, first-issuer c))
first-numbers (SubjectStored c) k h = let q : judge unread (SubjectStored c) ≡ k = cc in (q, λ e. omega (arith, first-subject c))
first-numbers (Sensitive p) k h = let q : judge unread (Sensitive p) ≡ k = cc in (q, λ e. omega (arith, first-sensitive p))
first-numbers (Access p) k h = let q : judge unread (Access p) ≡ k = cc in (q, λ e. omega (arith, first-access p))

first-own-only : (r : Record) (e : ℕ) → first_record (Ok r) ≡ Ok e → r ≡ Own e
first-own-only (Own d) e h = let q : d ≡ e = cc in ap Own q
first-own-only (Named n) e h = absurd (let z : ◌≡◌ {A = ℕ} 0 1 = cc in omega arith)
first-own-only (IssuerStored c) e h = absurd (let z : ◌≡◌ {A = ℕ} 0 1 = cc in omega arith)
first-own-only (SubjectStored c) e h = absurd (let z : ◌≡◌ {A = ℕ} 0 1 = cc in omega arith)
first-own-only (Sensitive p) e h = absurd (let z : ◌≡◌ {A = ℕ} 0 1 = cc in omega arith)
first-own-only (Access p) e h = absurd (let z : ◌≡◌ {A = ℕ} 0 1 = cc in omega arith)

-- a first record that cannot be read
pub first-unread : {x y : Result Record ℕ} {k m : ℕ} → x ≡ y → x ≡ Err k → m ≡ refusal_of x → Err m ≡ first_record y
first-unread h q e = ap Err (e ∙ ap refusal_of q) ∙ ap first_record (sym q ∙ h)

-- a first record that is not taken
first-refused : (s : List ℕ) (k : ℕ) → 0 < length s → Err k ≡ first_record (record_at s 0) → (read_from s 0 unread ≡ refused k) × (k ≡ 0 → ⊥)
first-refused s k more h = go (record_at s 0) refl (sym h)
  where
    go : (x : Result Record ℕ) → record_at s 0 ≡ x → first_record x ≡ Err k → (read_from s 0 unread ≡ refused k) × (k ≡ 0 → ⊥)
    go (Err m) e q =
        let z : m ≡ k = cc in
        (from-refused s 0 unread more m e ∙ ap refused z, some-refusal k (record-refusal s 0 k (e ∙ ap Err z)))
    go (Ok r) e q =
        let w = first-numbers r k q in
        (from-judged s 0 unread more r k e w.0 ∙ judged-refused k _ w.1, w.1)

-- self
module _ (s : List ℕ) (own : ℕ) (more : 0 < length s) (h : Ok own ≡ first_record (record_at s 0)) where
  first-there : record_at s 0 ≡ Ok (Own own)
  first-there = go (record_at s 0) refl (sym h)
    where
      go : (x : Result Record ℕ) → record_at s 0 ≡ x → first_record x ≡ Ok own → x ≡ Ok (Own own)
      go (Err m) e q = absurd (let z : ◌≡◌ {A = ℕ} 0 1 = cc in omega arith)
      go (Ok r) e q = ap Ok (first-own-only r own q)

  first-own : read_from s 0 unread ≡ read_from s 3 (without_pairs own [] [] [])
  unfolding judge class_number order_number in_order above room
  first-own = from-judged s 0 unread more (Own own) 0 first-there refl

  some-own : eqb own 0 ≡ false
  unfolding formed
  some-own = let l : 0 < own = ltb-true 0 own (record-formed s 0 (Own own) first-there) in ne_eqb own 0 (λ e. omega arith)

  passed-own : BehindRecords 1 s 3 (without_pairs own [] [] [])
  unfolding in_order
  passed-own = record { begun = some-own; out = λ l r e k. go r k }
    where
      go : (r : Record) → rank_of r < 1 → in_order (without_pairs own [] [] []) r ≡ false
      go (Own e) k = some-own
      go (Named n) k = absurd (omega arith)
      go (IssuerStored c) k = absurd (omega arith)
      go (SubjectStored c) k = absurd (omega arith)
      go (Sensitive p) k = absurd (omega arith)
      go (Access p) k = absurd (omega arith)

-- Where the records of a command may begin

module _ (own : ℕ) (begun : eqb own 0 ≡ false) where
  begun-true : not (eqb own 0) ≡ true
  begun-true = ap not begun

  pub open-names : Open names no_number (without_pairs own [] [] [])
  unfolding names in_order
  open-names = record { order = λ x. rw begun-true; first = refl; numbers = λ x. refl }

  pub open-issuer : (ns : List Name) → Open (credentials_of false) (stored_number ns false) (without_pairs own ns [] [])
  unfolding credentials_of in_order
  open-issuer ns = record { order = λ x. rw begun-true; first = refl; numbers = λ x. refl }

  pub open-subject : (ns : List Name) (I : List Credential) → Open (credentials_of true) (stored_number ns true) (without_pairs own ns I [])
  unfolding credentials_of in_order
  open-subject ns I = record { order = λ x. rw begun-true; first = refl; numbers = λ x. refl }

  pub open-sensitive : (ns : List Name) (I S : List Credential) (P : List Pair)
      → Open (pairs false) (pair_number false (tables_for own ns S P)) (without_pairs own ns I S)
  unfolding pairs in_order pair_number
  open-sensitive ns I S P = record { order = λ x. rw begun-true; first = refl; numbers = λ x. refl }

  pub open-access : (ns : List Name) (I S : List Credential) (P : List Pair)
      → Open (pairs true) (pair_number true (tables_for own ns S P)) (with_pairs false (without_pairs own ns I S) P)
  unfolding pairs in_order pair_number
  open-access ns I S P = record { order = λ x. begun-true; first = refl; numbers = λ x. refl }

-- The records of a command and what comes behind them

module _ {A : Type 0} {G : Group A} {num : A → ℕ} {s : List ℕ} {start : ℕ} {L : List A} {k at : ℕ} {T : Tables} (g : Gone G num s start L k at)
    (w : Open G num T) where
  -- one of them is refused
  pub decodes-refused : {d : Result House ℕ} → (k ≡ 0 → ⊥) → d ≡ Err k → Decodes s start T d
  decodes-refused {d} z h =
      record {
        same = outcome-refused d k h ∙ sym (g.same T w ∙ judged-refused k _ z);
        housed = subst (λ (r : Result House ℕ). IfOk r Housed) (sym h) tt;
      }

  -- the reading goes on
  pub decodes-on : {d : Result House ℕ} → k ≡ 0 → Decodes s at (G.put T L) d → Decodes s start T d
  decodes-on {d} z h = record { same = h.same ∙ sym (g.same T w ∙ ap (λ (m : ℕ). judged m (read_from s at (G.put T L))) z); housed = h.housed }

  pub passed_on : {m : ℕ} → k ≡ 0 → Ranked G m → BehindRecords m s start T → BehindRecords (suc m) s at (G.put T L)
  passed_on z ranked p = passed-next ranked w.first p (subst (λ (j : ℕ). Gone G num s start L j at) z g)

module _ {A : Type 0} {G : Group A} {num : A → ℕ} {s : List ℕ} {start m : ℕ} {L : List A} {T : Tables} (c : Come s start m T) (w : Open G num T) where
  -- one of them is refused
  pub come-wrong : {k : ℕ} → Refused G num s start L k → Wrong s k
  come-wrong {k} g = sym (c.same ∙ g.gone.same T w ∙ judged-refused k _ g.some)

  -- the reading goes on
  pub come-on : {at : ℕ} → Gone G num s start L 0 at → Ranked G m → Come s at (suc m) (G.put T L)
  come-on g ranked = record { same = c.same ∙ g.same T w; behind = passed-next ranked w.first c.behind g }

-- What is left

some-rank : (r : Record) → rank_of r < 6
some-rank (Own e) = omega arith
some-rank (Named n) = omega arith
some-rank (IssuerStored c) = omega arith
some-rank (SubjectStored c) = omega arith
some-rank (Sensitive p) = omega arith
some-rank (Access p) = omega arith

or_else_some : (k m : ℕ) → (m ≡ 0 → ⊥) → or_else k m ≡ 0 → ⊥
or_else_some k m z h = go (eqb k 0) refl h
  where
    go : (b : Bool) → eqb k 0 ≡ b → cond b m k ≡ 0 → ⊥
    go true e q = z q
    go false e q = eqb-false k 0 e q

-- a record that is not in order
judge-out : (T : Tables) (r : Record) → in_order T r ≡ false → judge T r ≡ or_else (class_number T r) 6
unfolding judge order_number
judge-out T r h = ap (λ (b : Bool). or_else (class_number T r) (cond (b && above T r && room T r) 0 6)) h

module _ (s : List ℕ) (at : ℕ) (T U : Tables) (same : (r : Record) → class_number U r ≡ class_number T r) (p : BehindRecords 6 s at T) where
  left-record : at < length s → (x : Result Record ℕ) → record_at s at ≡ x → read_from s at T ≡ refused (out_of_order U x)
  left-record more (Err k) e = from-refused s at T more k e
  left-record more (Ok r) e =
      let z : or_else (class_number U r) 6 ≡ 0 → ⊥ = or_else_some (class_number U r) 6 (λ q. omega arith) in
      let q : judge T r ≡ or_else (class_number U r) 6 = judge-out T r (p.out more r e (some-rank r)) ∙ ap (λ (k : ℕ). or_else k 6) (sym (same r)) in
      from-judged s at T more r (or_else (class_number U r) 6) e q ∙ judged-refused (or_else (class_number U r) 6) _ z

  -- nothing is left
  pub left-nothing : Ok (tt {0}) ≡ left_of s at U → accepted T ≡ read_from s at T
  unfolding left_of
  left-nothing h = go (ltb at (length s)) refl h
    where
      go : (b : Bool) → ltb at (length s) ≡ b → Ok (tt {0}) ≡ cond b (Err (out_of_order U (record_at s at))) (Ok (tt {0})) → accepted T ≡ read_from s at T
      go true e q = cc
      go false e q = sym (from_past s at T (ltb-false at (length s) e))

  -- a record that is refused
  pub left-wrong : {k : ℕ} → Err k ≡ left_of s at U → refused k ≡ read_from s at T
  unfolding left_of
  left-wrong {k} h = go (ltb at (length s)) refl h
    where
      go : (b : Bool) → ltb at (length s) ≡ b → Err k ≡ cond b (Err (out_of_order U (record_at s at))) (Ok (tt {0})) → refused k ≡ read_from s at T
      go true e q = let z : k ≡ out_of_order U (record_at s at) = cc in ap refused z ∙ sym (left-record (ltb-true at (length s) e) (record_at s at) refl)
      go false e q = cc

  -- nothing is left, or a record that is refused
  pub left-outcome : (r : Result (Unit {0}) ℕ) → r ≡ left_of s at U
      → MatchResult r (λ u. accepted T ≡ read_from s at T) (λ k. refused k ≡ read_from s at T)
  left-outcome (Ok u) h = left-nothing h
  left-outcome (Err k) h = left-wrong h

-- the number of what is left: zero, that of a record that cannot be read, or that of a record that is read
pub left-none : (s : List ℕ) (at : ℕ) (U : Tables) → length s ≤ at → 0 ≡ left_number s at U
unfolding left_number
left-none s at U h = sym (ap (λ (b : Bool). cond b (out_of_order U (record_at s at)) 0) (le-ltb at (length s) h))

left_there : (s : List ℕ) (at : ℕ) (U : Tables) → at < length s → {x : Result Record ℕ} → x ≡ record_at s at → out_of_order U x ≡ left_number s at U
unfolding left_number
left_there s at U more h = ap (out_of_order U) h ∙ sym (ap (λ (b : Bool). cond b (out_of_order U (record_at s at)) 0) (lt-ltb at (length s) more))

pub left-unread : (s : List ℕ) (at : ℕ) (U : Tables) → at < length s → {x : Result Record ℕ} {k m : ℕ} → x ≡ record_at s at → x ≡ Err k
    → m ≡ refusal_of x → m ≡ left_number s at U
left-unread s at U more h q e = e ∙ ap refusal_of q ∙ ap (out_of_order U) (sym q) ∙ left_there s at U more h

pub left-number : (s : List ℕ) (at : ℕ) (U : Tables) → at < length s → {x : Result Record ℕ} {r : Record} {k m : ℕ} → x ≡ record_at s at → x ≡ Ok r
    → k ≡ class_number U r → m ≡ or_else k 6
    → m ≡ left_number s at U
left-number s at U more h q e w = w ∙ ap (λ (n : ℕ). or_else n 6) e ∙ ap (out_of_order U) (sym q) ∙ left_there s at U more h

-- the class rules look at self, names, subject-stored credentials and sensitive roles only
pub class_same : (own : ℕ) (ns : List Name) (I S : List Credential) (P Q : List Pair) (r : Record)
    → class_number (tables_for own ns S P) r ≡ class_number (with_pairs true (with_pairs false (without_pairs own ns I S) P) Q) r
unfolding class_number pair_number
class_same own ns I S P Q (Own e) = refl
class_same own ns I S P Q (Named n) = refl
class_same own ns I S P Q (IssuerStored c) = refl
class_same own ns I S P Q (SubjectStored c) = refl
class_same own ns I S P Q (Sensitive p) = refl
class_same own ns I S P Q (Access p) = refl

-- The whole

-- a length outside the sizes
pub tables-outside : (s : List ℕ) {b : Bool} → b ≡ sized (length s) → not b ≡ true → Wrong s 1
unfolding read_tables
tables-outside s {b} h n = sym (ap (λ (t : Bool). cond t (records_from (length s) s 0 unread) (refused LENGTH)) (sym h ∙ not-true b n))

module _ (s : List ℕ) {b : Bool} (h : b ≡ sized (length s)) (n : not b ≡ false) where
  -- a length within the sizes
  pub some_bytes : 0 < length s
  unfolding sized
  some_bytes = ltb-true 0 (length s) (and_parts (ltb 0 (length s)) (leb (length s) MOST-TABLES-BYTES) (sym h ∙ not-false b n)).0

  inside : read_tables s ≡ read_from s 0 unread
  unfolding read_tables read_from
  inside = ap (λ (t : Bool). cond t (records_from (length s) s 0 unread) (refused LENGTH)) (sym h ∙ not-false b n)

  -- the first record is refused
  pub tables-refused : {k : ℕ} → Err k ≡ first_record (record_at s 0) → Wrong s k
  tables-refused {k} e = sym (inside ∙ (first-refused s k some_bytes e).0)

  -- behind self
  pub tables-own : {own : ℕ} → Ok own ≡ first_record (record_at s 0) → Come s 3 1 (without_pairs own [] [] [])
  tables-own {own} e = record { same = inside ∙ first-own s own some_bytes e; behind = passed-own s own some_bytes e }

  pub passed_first : {x : Result ℕ ℕ} {own : ℕ} → x ≡ first_record (record_at s 0) → x ≡ Ok own → BehindRecords 1 s 3 (without_pairs own [] [] [])
  passed_first {x} {own} e q = passed-own s own some_bytes (sym q ∙ e)

  -- the same, for the check
  pub check-refused : {x : Result ℕ ℕ} {k : ℕ} → x ≡ first_record (record_at s 0) → x ≡ Err k → k ≡ check_of s
  unfolding check_of
  check-refused {x} {k} e q = sym (ap (answer_of no_value) (inside ∙ (first-refused s k some_bytes (sym q ∙ e)).0))

  pub check-behind : {x : Result ℕ ℕ} {own k : ℕ} → x ≡ first_record (record_at s 0) → x ≡ Ok own
      → k ≡ answer_of no_value (read_from s 3 (without_pairs own [] [] [])) → k ≡ check_of s
  unfolding check_of
  check-behind {x} {own} e q h = h ∙ sym (ap (answer_of no_value) (inside ∙ first-own s own some_bytes (sym q ∙ e)))

pub check-outside : (s : List ℕ) {b : Bool} → b ≡ sized (length s) → not b ≡ true → 1 ≡ check_of s
unfolding check_of read_tables
check-outside s {b} h n =
    sym (ap (λ (t : Bool). answer_of no_value (cond t (records_from (length s) s 0 unread) (refused LENGTH))) (sym h ∙ not-true b n))

-- the number of decoded tables
pub number-outcome : (d : Result House ℕ) → MatchResult d (λ H. 0 ≡ answer_of no_value (outcome_of d)) (λ k. k ≡ answer_of no_value (outcome_of d))
number-outcome (Ok H) = refl
number-outcome (Err k) = refl
