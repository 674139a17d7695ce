-- What passes the check of the tables is its own arrangement: of all arrangements of records without exact repeats, only the one in the order of
-- their bytes can pass. Assumes nothing.
use Rattle.std.specs.Prelude.{ℕ, zero, suc, ◌/◌, ◌%◌, ◌<◌, ◌≤◌, ◌≡◌, refl, ◌⊎◌, Bool, true, false, ltb, length}
use Rattle.std.proofs.Common.{sym, ap, ◌∙◌, subst, ⊎_elim, arith, ltb-true}
use mathlib.Core.List.Memᴰ
use mathlib.Core.List.{List, [], ◌∷◌, ◌++◌, map, append_assoc, append-nil, Memᴰ}
use Rattle.numbers.specs.Answer.{Answer, answer_of, no_value, refused, accepted}
use Rattle.numbers.specs.Sizes.{MOST-TABLES-BYTES}
use Rattle.word.specs.laws.Bools.{and_both, false-true}
use Rattle.expression.specs.declared.Role.{Role}
use Rattle.expression.specs.declared.Credential.{Credential}
use Rattle.expression.specs.Credential.{role_bytes, credential_bytes}
use Rattle.expression.specs.Order.{leads, lex_less, before_credential}
use Rattle.expression.specs.laws.Order.{before-credential-bytes, leads-bytes}
use Rattle.expression.specs.Bytes.{number_bytes}
use Rattle.expression.specs.laws.Lexicographic.{leads-cases, leads-first, leads-rest}
use Rattle.expression.specs.laws.There.{Bytes}
use Rattle.expression.specs.Form.{ascends}
use Rattle.rt0.specs.Lists.{all}
use Rattle.rt0.specs.laws.Lists.{all-each, all_of, map-find}
use Rattle.class.specs.declared.Name.{Name}
use Rattle.record.specs.declared.Pair.{Pair}
use Rattle.record.specs.declared.Record.{Record}
use Rattle.record.specs.declared.Record.TheVariants.{Own, Named, IssuerStored, SubjectStored, Sensitive, Access}
use Rattle.record.specs.Record.{record_bytes}
use Rattle.record.specs.laws.RecordExact.{record-length, some_size}
use Rattle.record.specs.laws.Size.{size-by}
use Rattle.tables.specs.Accepted.{Rising, rising_none, rising-cons, Sound}
use Rattle.tables.specs.Tables.{Tables}
use Rattle.tables.specs.Bytes.{bytes_of, tables_bytes}
use Rattle.tables.specs.laws.Accepted.{accepted-sound, accepted-bytes, check-numbers, accepted-length}
use Rattle.tables.specs.Check.{read_tables, check_of}
use Rattle.arrange.specs.Arrangement.{SameMembers, Once, once-none, once-cons, Arrangement}
use Rattle.arrange.specs.laws.Records.{is_record, record_of_lem, joined_same}
use Rattle.arrange.specs.laws.Order.{lex-strict}
use Rattle.arrange.specs.Records.{joined}
use Rattle.arrange.specs.Arranged.{arranged}
use Rattle.arrange.specs.laws.Arranged.{arranged-same, arranged-rising, arranged-only}

-- The bytes of a record

-- are a record
bytes-record : (r : Record) → is_record (record_bytes r) ≡ true
bytes-record r = record_of_lem (record_bytes r) (omega (arith, record-length r, some_size r)) (size-by r ∙ sym (record-length r))

-- numbers in order are in the order of their bytes
number-order : (m n : ℕ) (r : Bool) → leads m n r ≡ true → leads (m / 256) (n / 256) (leads (m % 256) (n % 256) r) ≡ true
number-order m n r h = sym (leads-bytes m n r) ∙ h

-- so the orders of the commands are those of the bytes
same_code : (c : ℕ) (s t : List ℕ) → lex_less s t ≡ true → lex_less (c ∷ s) (c ∷ t) ≡ true
same_code c s t h = leads-rest c c (lex_less s t) refl h

name-order : (m n : Name) → ltb m.name n.name ≡ true → lex_less (record_bytes (Named m)) (record_bytes (Named n)) ≡ true
unfolding record_bytes
name-order m n h =
    same_code 17 (number_bytes m.name ++ (m.class ∷ [])) (number_bytes n.name ++ (n.class ∷ []))
    (number-order m.name n.name (lex_less (m.class ∷ []) (n.class ∷ [])) (leads-first m.name n.name (lex_less (m.class ∷ []) (n.class ∷ [])) (ltb-true m.name n.name h)))

stored-order : (c : ℕ) (d e : Credential) → before_credential d e ≡ true → lex_less (c ∷ credential_bytes d) (c ∷ credential_bytes e) ≡ true
stored-order c d e h = same_code c (credential_bytes d) (credential_bytes e) (sym (before-credential-bytes d e) ∙ h)

-- the order of two roles is that of their bytes, whatever follows
role-order : (p q : Role) (s t : List ℕ) → ascends p q ≡ true → lex_less (role_bytes p ++ s) (role_bytes q ++ t) ≡ true
role-order p q s t h =
    number-order p.entity q.entity names
    (by-entity (leads-cases p.entity q.entity (ltb p.name q.name) h))
  where
    names : Bool
    names = leads (p.name / 256) (q.name / 256) (leads (p.name % 256) (q.name % 256) (lex_less s t))

    by-entity : (p.entity < q.entity) ⊎ ((p.entity ≡ q.entity) × (ltb p.name q.name ≡ true)) → leads p.entity q.entity names ≡ true
    by-entity c =
        ⊎_elim (λ l. leads-first p.entity q.entity names l)
        (λ w. leads-rest p.entity q.entity names w.0
        (number-order p.name q.name (lex_less s t) (leads-first p.name q.name (lex_less s t) (ltb-true p.name q.name w.1))))
        c

pair-order : (c : ℕ) (p q : Pair) → ascends p.role q.role ≡ true → lex_less (c ∷ (role_bytes p.role ++ role_bytes p.other)) (c ∷ (role_bytes q.role ++ role_bytes q.other)) ≡ true
pair-order c p q h =
    same_code c (role_bytes p.role ++ role_bytes p.other) (role_bytes q.role ++ role_bytes q.other) (role-order p.role q.role (role_bytes p.other) (role_bytes q.other) h)

-- Tables

-- records that ascend, all of commands later than c
record Later (c : ℕ) (L : List (List ℕ)) : Type 0 where
  up : Rising lex_less L
  codes : (p : List ℕ) → Memᴰ p L → (d : ℕ) × (t : List ℕ) × (c < d) × (p ≡ d ∷ t)
  records : all is_record L ≡ true

later-none : (c : ℕ) → Later c []
later-none c = record { up = rising_none; codes = λ p m. absurd (Memᴰ.not-nil m); records = refl }

-- a command and how it orders its records
record Command {A : Type 0} (d : ℕ) (wrap : A → Record) (before : A → A → Bool) : Type 0 where
  operands : A → List ℕ
  coded : (x : A) → record_bytes (wrap x) ≡ d ∷ operands x
  ordered : (x y : A) → before x y ≡ true → lex_less (record_bytes (wrap x)) (record_bytes (wrap y)) ≡ true

-- its records in front of those of later commands
module _ {A : Type 0} (c d : ℕ) (below : c < d) (wrap : A → Record) (before : A → A → Bool) (K : Command d wrap before) where
  abbrev bytes_by : A → List ℕ
  bytes_by x = record_bytes (wrap x)

  lower : (x : A) {M : List (List ℕ)} → Later d M → (q : List ℕ) → Memᴰ q M → lex_less (bytes_by x) q ≡ true
  lower x w q m =
      let k = w.codes q m in
      (λ i. lex_less (K.coded x i) (k.3 i)) ∙ leads-first d k.0 (lex_less (K.operands x) k.1) k.2

  later-command : {L : List A} {M : List (List ℕ)} → Rising before L → Later d M → Later c (map bytes_by L ++ M)
  later-command rising_none w =
      record { up = w.up; codes = λ p m. let k = w.codes p m in (k.0, k.1, omega (arith, k.2), k.3); records = w.records }
  later-command {M = M} (rising-cons {x = x} {L = L} up r) w =
      let ih = later-command r w in
      record {
        up =
            rising-cons
            (all_of (λ q. lex_less (bytes_by x) q) (map bytes_by L ++ M)
            (λ q m.
            ⊎_elim
            (λ n. let z = map-find bytes_by L n in ap (lex_less (bytes_by x)) z.2 ∙ K.ordered x z.0 (all-each (λ y. before x y) z.1 up))
            (λ n. lower x w q n)
            (Memᴰ.append_cases (map bytes_by L) m)))
            ih.up;
        codes = λ p m. ⊎_elim (λ e. (d, K.operands x, below, e ∙ K.coded x)) (λ n. ih.codes p n) (Memᴰ.cases_cons m);
        records = and_both (is_record (bytes_by x)) (all is_record (map bytes_by L ++ M)) (bytes-record (wrap x)) ih.records;
      }

names-command : Command 17 Named (λ m n. ltb m.name n.name)
unfolding record_bytes
names-command = record { operands = λ n. number_bytes n.name ++ (n.class ∷ []); coded = λ n. refl; ordered = name-order }

issuer-command : Command 18 IssuerStored before_credential
unfolding record_bytes
issuer-command = record { operands = λ c. credential_bytes c; coded = λ c. refl; ordered = λ d e h. stored-order 18 d e h }

subject-command : Command 19 SubjectStored before_credential
unfolding record_bytes
subject-command = record { operands = λ c. credential_bytes c; coded = λ c. refl; ordered = λ d e h. stored-order 19 d e h }

sensitive-command : Command 20 Sensitive (λ p q. ascends p.role q.role)
unfolding record_bytes
sensitive-command = record { operands = λ p. role_bytes p.role ++ role_bytes p.other; coded = λ p. refl; ordered = λ p q h. pair-order 20 p q h }

access-command : Command 21 Access (λ p q. ascends p.role q.role)
unfolding record_bytes
access-command = record { operands = λ p. role_bytes p.role ++ role_bytes p.other; coded = λ p. refl; ordered = λ p q h. pair-order 21 p q h }

own-command : Command 16 Own (λ d e. false)
unfolding record_bytes
own-command = record { operands = λ e. number_bytes e; coded = λ e. refl; ordered = λ d e h. absurd (false-true h) }

-- the records of tables
table_records : Tables → List (List ℕ)
table_records T =
    map (λ e. record_bytes (Own e)) (T.own ∷ [])
    ++ (map (λ n. record_bytes (Named n)) T.names
    ++ (map (λ c. record_bytes (IssuerStored c)) T.issuer_stored
    ++ (map (λ c. record_bytes (SubjectStored c)) T.subject_stored
    ++ (map (λ p. record_bytes (Sensitive p)) T.sensitive
    ++ (map (λ p. record_bytes (Access p)) T.access
    ++ [])))))

-- they ascend
table-later : (T : Tables) → Sound T → Later 0 (table_records T)
unfolding table_records
table-later T w =
    later-command 0 16 (omega arith) Own (λ d e. false) own-command (rising-cons refl rising_none)
    (later-command 16 17 (omega arith) Named (λ m n. ltb m.name n.name) names-command w.names.ascend
    (later-command 17 18 (omega arith) IssuerStored before_credential issuer-command w.issuer_stored.ascend
    (later-command 18 19 (omega arith) SubjectStored before_credential subject-command w.subject_stored.ascend
    (later-command 19 20 (omega arith) Sensitive (λ p q. ascends p.role q.role) sensitive-command w.sensitive.ascend
    (later-command 20 21 (omega arith) Access (λ p q. ascends p.role q.role) access-command w.access.ascend
    (later-none 21))))))

joined-command : {A : Type 0} (wrap : A → Record) (L : List A) (M : List (List ℕ)) → joined (map (λ x. record_bytes (wrap x)) L ++ M) ≡ bytes_of wrap L ++ joined M
unfolding joined
joined-command wrap [] M = refl
joined-command wrap (x ∷ L) M =
    ap (λ (t : List ℕ). record_bytes (wrap x) ++ t) (joined-command wrap L M) ∙ sym (append_assoc (record_bytes (wrap x)) (bytes_of wrap L) (joined M))

joined-behind : {A : Type 0} (wrap : A → Record) (L : List A) (M : List (List ℕ)) (t : List ℕ) → joined M ≡ t → joined (map (λ x. record_bytes (wrap x)) L ++ M) ≡ bytes_of wrap L ++ t
joined-behind wrap L M t e = joined-command wrap L M ∙ ap (λ (u : List ℕ). bytes_of wrap L ++ u) e

-- they are the records of the bytes of the tables
table-joined : (T : Tables) → joined (table_records T) ≡ tables_bytes T
unfolding table_records tables_bytes joined
table-joined T =
    ap (λ (t : List ℕ). record_bytes (Own T.own) ++ t)
    (joined-behind Named T.names _ _
    (joined-behind IssuerStored T.issuer_stored _ _
    (joined-behind SubjectStored T.subject_stored _ _
    (joined-behind Sensitive T.sensitive _ _
    (joined-command Access T.access [] ∙ append-nil (bytes_of Access T.access))))))

-- What passes the check

check-accepted : (s : List ℕ) → check_of s ≡ 0 → (T : Tables) × (read_tables s ≡ accepted T)
unfolding check_of
check-accepted s h = go (read_tables s) refl h
  where
    go : (o : Answer Tables) → read_tables s ≡ o → answer_of no_value o ≡ 0 → (T : Tables) × (read_tables s ≡ accepted T)
    go (accepted T) e q = (T, e)
    go (refused k) e q = absurd (omega (arith, (check-numbers s k e).0))

-- bytes that pass are records that ascend strictly
pub record Passes (s : List ℕ) : Type 0 where
  pub records : List (List ℕ)
  pub bytes : joined records ≡ s
  pub each : all is_record records ≡ true
  pub ascend : Rising lex_less records
  pub some : 0 < length s
  pub most : length s ≤ MOST-TABLES-BYTES

pub check-passes : (s : List ℕ) → Bytes s → check_of s ≡ 0 → Passes s
check-passes s b q =
    let a = check-accepted s q in
    let w = table-later a.0 (accepted-sound s a.0 a.1) in
    let l = accepted-length s a.0 a.1 in
    record {
      records = table_records a.0;
      bytes = table-joined a.0 ∙ sym (accepted-bytes s a.0 b a.1);
      each = w.records;
      ascend = w.up;
      some = l.0;
      most = l.1;
    }

passing-rising : (L : List (List ℕ)) → all is_record L ≡ true → Bytes (joined L) → check_of (joined L) ≡ 0 → Rising lex_less L
passing-rising L h b q =
    let w = check-passes (joined L) b q in
    subst (Rising lex_less) (joined_same w.records L w.each h w.bytes) w.ascend

-- Bytes of records one after another

bytes-append : (s t : List ℕ) → Bytes s → Bytes t → Bytes (s ++ t)
bytes-append [] t h k i = k i
bytes-append (x ∷ s) t h k zero = h 0
bytes-append (x ∷ s) t h k (suc i) = bytes-append s t (λ j. h (suc j)) k i

bytes_left : (s t : List ℕ) → Bytes (s ++ t) → Bytes s
bytes_left [] t h i = omega arith
bytes_left (x ∷ s) t h zero = h 0
bytes_left (x ∷ s) t h (suc i) = bytes_left s t (λ j. h (suc j)) i

bytes-right : (s t : List ℕ) → Bytes (s ++ t) → Bytes t
bytes-right [] t h = h
bytes-right (x ∷ s) t h = bytes-right s t (λ j. h (suc j))

bytes-member : (L : List (List ℕ)) → Bytes (joined L) → (p : List ℕ) → Memᴰ p L → Bytes p
unfolding joined
bytes-member [] b p m = absurd (Memᴰ.not-nil m)
bytes-member (q ∷ L) b p m =
    ⊎_elim (λ e. subst Bytes (sym e) (bytes_left q (joined L) b)) (λ n. bytes-member L (bytes-right q (joined L) b) p n) (Memᴰ.cases_cons m)

bytes-joined : (L : List (List ℕ)) → ((p : List ℕ) → Memᴰ p L → Bytes p) → Bytes (joined L)
unfolding joined
bytes-joined [] h i = omega arith
bytes-joined (q ∷ L) h i = bytes-append q (joined L) (h q (Memᴰ.head refl)) (λ j. bytes-joined L (λ p m. h p (Memᴰ.tail m)) j) i

-- The only arrangement that can pass

pub rising-once : {L : List (List ℕ)} → Rising lex_less L → Once L
rising-once rising_none = once-none
rising-once (rising-cons {x = p} up r) = once-cons (λ m. false-true (sym (lex-strict.irreflexive p) ∙ all-each (λ q. lex_less p q) m up)) (rising-once r)

-- the arrangement by bytes is one
pub arranged_is : (L : List (List ℕ)) → Arrangement L (arranged L)
arranged_is L = record { same = arranged-same L; once = rising-once (arranged-rising L) }

-- of records of bytes
same_bytes_lem : {L M : List (List ℕ)} → SameMembers M L → Bytes (joined L) → Bytes (joined M)
same_bytes_lem {L} {M} w b = bytes-joined M (λ p m. bytes-member L b p (w.there p m))

pub arranged-bytes : (L : List (List ℕ)) → Bytes (joined L) → Bytes (joined (arranged L))
arranged-bytes L b = same_bytes_lem (arranged-same L) b

-- "what it writes is the only such arrangement"
pub passing-only : (L M : List (List ℕ)) → all is_record L ≡ true → Bytes (joined L) → Arrangement L M → check_of (joined M) ≡ 0 → M ≡ arranged L
passing-only L M records bytes a q =
    let w = a.same in
    arranged-only (passing-rising M (all_of is_record M (λ p m. all-each is_record (w.there p m) records)) (same_bytes_lem w bytes) q) w
