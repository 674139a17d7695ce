-- Tables of two runs differ only in what is hidden exactly where what may show is equal; both parts together are the tables. Assumes nothing.
use Rattle.std.specs.Prelude.{ℕ, ◌≡◌, refl, ◌↔◌, Bool, true, false, cond, ◌&&◌, ◌||◌, eqb}
use Rattle.std.proofs.Common.{sym, ◌∙◌, subst, ⊎_elim, arith}
use Rattle.std.proofs.Math.Path.{ap}
use Rattle.std.proofs.Math.Bool.{not}
use mathlib.Core.List.Memᴰ
use mathlib.Core.List.{List, [], ◌∷◌, map, Memᴰ}
use borrow.Author.Tests.{le-ltb, not-true}
use Rattle.expression.specs.declared.Role.{Role}
use Rattle.expression.specs.declared.Credential.{Credential}
use Rattle.expression.specs.declared.Expression.TheVariants as E
use Rattle.expression.specs.Order.{lex_less, credential_numbers, before_credential}
use Rattle.expression.specs.Same.{same_role, same, same_credential}
use Rattle.expression.specs.laws.Same.{same_role-eq, eq-same_role, same-eq, eq-same}
use Rattle.rt0.specs.laws.Lists.{all-each, all_of, any-find, any_here, map-find, map-mem}
use Rattle.word.specs.laws.Bools.{and_parts, and_both}
use Rattle.record.specs.declared.Pair.{Pair}
use Rattle.tables.specs.Tables.{Tables}
use Rattle.tables.specs.Lookup.{direct_of, holds, is_sensitive, is_direct}
use Rattle.tables.specs.laws.Chain.{before-chain}
use Rattle.tables.specs.laws.Sorted.{Strict, rising-same}
use Rattle.tables.specs.Accepted.{Rising, rising_none, rising-cons}
use Rattle.tables.specs.Public.{keep, less_direct, held_of, Public, Hidden, public_of, hidden_of, DifferOnly}

-- The order by bytes of credentials

lex-self : (s : List ℕ) → lex_less s s ≡ false
lex-self [] = refl
lex-self (n ∷ s) = λ i. le-ltb n n (omega arith) i || go (eqb n n) (lex_less s s) (lex-self s) i
  where
    go : (a b : Bool) → b ≡ false → (a && b) ≡ false
    go true b h = h
    go false b h = refl

-- no credential comes before itself
pub before_self : (c : Credential) → before_credential c c ≡ false
unfolding before_credential
before_self c = lex-self (credential_numbers c)

-- the order by bytes of credentials is strict
pub before-strict : Strict before_credential
before-strict = record { irreflexive = before_self; transitive = before-chain }

-- The elements that pass a test

module _ {A : Type 0} (f : A → Bool) where
  -- what is kept is an element that passes
  pub keep-find : (L : List A) {x : A} → Memᴰ x (keep f L) → Memᴰ x L × (f x ≡ true)
  keep-find [] m = absurd (Memᴰ.not-nil m)
  keep-find (y ∷ L) {x} m = go (f y) refl m (λ n. keep-find L n)
    where
      go : (b : Bool) → f y ≡ b → Memᴰ x (cond b (y ∷ keep f L) (keep f L)) → (Memᴰ x (keep f L) → Memᴰ x L × (f x ≡ true))
          → Memᴰ x (y ∷ L) × (f x ≡ true)
      go true h n ih = ⊎_elim (λ e. (Memᴰ.head e, ap f e ∙ h)) (λ k. let r = ih k in (Memᴰ.tail r.0, r.1)) (Memᴰ.cases_cons n)
      go false h n ih = let r = ih n in (Memᴰ.tail r.0, r.1)

  -- an element that passes is kept
  pub keep-mem : {x : A} {L : List A} → Memᴰ x L → f x ≡ true → Memᴰ x (keep f L)
  keep-mem (Memᴰ.head e) h = rw (sym (ap f e) ∙ h) (Memᴰ.head e)
  keep-mem {x = x} (Memᴰ.tail {x = y} {xs = L} m) h = go (f y) (keep-mem m h)
    where
      go : (b : Bool) → Memᴰ x (keep f L) → Memᴰ x (cond b (y ∷ keep f L) (keep f L))
      go true n = Memᴰ.tail n
      go false n = n

  -- what is kept ascends as the list does
  pub rising-keep : {before : A → A → Bool} {L : List A} → Rising before L → Rising before (keep f L)
  rising-keep rising_none = rising_none
  rising-keep {before} (rising-cons {x = x} {L = L} up r) = go (f x) (rising-keep r)
    where
      go : (b : Bool) → Rising before (keep f L) → Rising before (cond b (x ∷ keep f L) (keep f L))
      go true s = rising-cons (all_of (λ y. before x y) (keep f L) (λ y m. all-each (λ z. before x z) (keep-find L m).0 up)) s
      go false s = s

-- What may show

module _ (own : ℕ) (P : List Pair) where
  -- what remains is in the set, and no direct credential of a sensitive role
  pub less-find : (C : List Credential) {c : Credential} → Memᴰ c (less_direct own P C) → Memᴰ c C × (is_direct own P c ≡ false)
  unfolding less_direct
  less-find C {c} m = let r = keep-find (λ d. not (is_direct own P d)) C m in (r.0, not-true (is_direct own P c) r.1)

  -- what is in the set, and no direct credential of a sensitive role, remains
  pub less-mem : {C : List Credential} {c : Credential} → Memᴰ c C → is_direct own P c ≡ false → Memᴰ c (less_direct own P C)
  unfolding less_direct
  less-mem m h = keep-mem (λ d. not (is_direct own P d)) m (ap not h)

  -- what remains ascends as the set does
  pub less-rising : {before : Credential → Credential → Bool} {C : List Credential} → Rising before C → Rising before (less_direct own P C)
  unfolding less_direct
  less-rising r = rising-keep (λ d. not (is_direct own P d)) r

-- sets that have the same credentials but for direct ones of sensitive roles: what remains is equal
pub less_equal : (own : ℕ) (P : List Pair) {C D : List Credential} → Rising before_credential C → Rising before_credential D
    → ((c : Credential) → is_direct own P c ≡ false → Memᴰ c C ↔ Memᴰ c D) → less_direct own P C ≡ less_direct own P D
less_equal own P {C} {D} r s h =
    rising-same before-strict (less-rising own P r) (less-rising own P s)
    (λ c m. let k = less-find own P C m in less-mem own P ((h c k.1).0 k.0) k.1)
    (λ c m. let k = less-find own P D m in less-mem own P ((h c k.1).1 k.0) k.1)

-- where tables differ only in what is hidden, what may show is equal
pub differ-public : (T U : Tables) → Rising before_credential T.subject_stored → Rising before_credential U.subject_stored → DifferOnly T U
    → public_of T ≡ public_of U
unfolding public_of
differ-public T U r s d =
    let e = less_equal T.own T.sensitive r s d.subject_stored in
    λ i.
    record {
      own = d.own i;
      names = d.names i;
      issuer_stored = d.issuer_stored i;
      subject_stored = (e ∙ (λ j. less_direct (d.own j) (d.sensitive j) U.subject_stored)) i;
      sensitive = d.sensitive i;
    }

module _ (T U : Tables) (h : public_of T ≡ public_of U) where
  own_same : T.own ≡ U.own
  unfolding public_of
  own_same = ap (λ (p : Public). p.own) h

  names_same : T.names ≡ U.names
  unfolding public_of
  names_same = ap (λ (p : Public). p.names) h

  issuer-same : T.issuer_stored ≡ U.issuer_stored
  unfolding public_of
  issuer-same = ap (λ (p : Public). p.issuer_stored) h

  sensitive-same : T.sensitive ≡ U.sensitive
  unfolding public_of
  sensitive-same = ap (λ (p : Public). p.sensitive) h

  less-same : less_direct T.own T.sensitive T.subject_stored ≡ less_direct U.own U.sensitive U.subject_stored
  unfolding public_of
  less-same = ap (λ (p : Public). p.subject_stored) h

  -- a credential that is no direct credential of a sensitive role is in both
  shown-in : (c : Credential) → is_direct T.own T.sensitive c ≡ false → Memᴰ c T.subject_stored → Memᴰ c U.subject_stored
  shown-in c q m =
      (less-find U.own U.sensitive U.subject_stored (subst (λ (C : List Credential). Memᴰ c C) less-same (less-mem T.own T.sensitive m q))).0

-- where what may show is equal, tables differ only in what is hidden
pub public-differ : (T U : Tables) → public_of T ≡ public_of U → DifferOnly T U
public-differ T U h =
    record {
      own = own_same T U h;
      names = names_same T U h;
      issuer_stored = issuer-same T U h;
      sensitive = sensitive-same T U h;
      subject_stored = λ c q. (shown-in T U h c q, shown-in U T (sym h) c ((λ i. is_direct (own_same U T (sym h) i) (sensitive-same U T (sym h) i) c) ∙ q));
    }

-- What is hidden

-- a role that is held has its direct credential there
pub holds-find : (own : ℕ) (C : List Credential) (r : Role) → holds own C r ≡ true → Memᴰ (direct_of own r) C
unfolding holds
holds-find own C r h =
    let f = any-find (λ (c : Credential). same_credential c (direct_of own r)) C h in
    let c = f.0 in
    let b = and_parts (same_role c.head r) (same c.body (E.Entity own)) f.2 in
    let p : c.head ≡ r = same_role-eq c.head r b.0 in
    let q : c.body ≡ E.Entity own = same-eq c.body (E.Entity own) b.1 in
    Memᴰ.cast (λ i. record { head = sym p i; body = sym q i }) f.1

-- a role whose direct credential is there is held
pub holds-mem : (own : ℕ) (C : List Credential) (r : Role) → Memᴰ (direct_of own r) C → holds own C r ≡ true
unfolding holds
holds-mem own C r m =
    any_here (λ (c : Credential). same_credential c (direct_of own r)) m
    (and_both (same_role r r) (same (E.Entity own) (E.Entity own)) (eq-same_role r r refl) (eq-same (E.Entity own) (E.Entity own) refl))

-- a direct credential of a sensitive role: its head is sensitive, and it is the direct credential of its head
pub direct-parts : (own : ℕ) (P : List Pair) (c : Credential) → is_direct own P c ≡ true → (is_sensitive P c.head ≡ true) × (c ≡ direct_of own c.head)
unfolding is_direct
direct-parts own P c h =
    let b = and_parts (is_sensitive P c.head) (same c.body (E.Entity own)) h in
    let q : c.body ≡ E.Entity own = same-eq c.body (E.Entity own) b.1 in
    (b.0, λ i. record { head = c.head; body = q i })

sensitive-in : (P : List Pair) (r : Role) → is_sensitive P r ≡ true → Memᴰ r (map (λ (p : Pair). p.role) P)
unfolding is_sensitive
sensitive-in P r h =
    let f = any-find (λ (p : Pair). same_role p.role r) P h in
    Memᴰ.cast (sym (same_role-eq f.0.role r f.2)) (map-mem (λ (p : Pair). p.role) f.1)

-- a sensitive role that is held is listed
pub held-mem : (own : ℕ) (P : List Pair) (C : List Credential) (r : Role) → is_sensitive P r ≡ true → holds own C r ≡ true → Memᴰ r (held_of own P C)
unfolding held_of
held-mem own P C r h k = keep-mem (λ x. holds own C x) (sensitive-in P r h) k

-- a role that is listed is sensitive and held
pub held-find : (own : ℕ) (P : List Pair) (C : List Credential) (r : Role) → Memᴰ r (held_of own P C) → (is_sensitive P r ≡ true) × (holds own C r ≡ true)
unfolding held_of is_sensitive
held-find own P C r m =
    let k = keep-find (λ x. holds own C x) (map (λ (p : Pair). p.role) P) m in
    let f = map-find (λ (p : Pair). p.role) P k.0 in
    (any_here (λ (p : Pair). same_role p.role r) f.1 (eq-same_role f.0.role r (sym f.2)), k.1)

-- Both parts together

module _ (T U : Tables) (h : public_of T ≡ public_of U) (k : hidden_of T ≡ hidden_of U) where
  held_same : held_of T.own T.sensitive T.subject_stored ≡ held_of U.own U.sensitive U.subject_stored
  unfolding hidden_of
  held_same = ap (λ (p : Hidden). p.held) k

  access-same : T.access ≡ U.access
  unfolding hidden_of
  access-same = ap (λ (p : Hidden). p.access) k

  -- a direct credential of a sensitive role is in both, its role being held in both
  direct-in : (c : Credential) → is_direct T.own T.sensitive c ≡ true → Memᴰ c T.subject_stored → Memᴰ c U.subject_stored
  direct-in c q m =
      let d = direct-parts T.own T.sensitive c q in
      let t = held-mem T.own T.sensitive T.subject_stored c.head d.0
      (holds-mem T.own T.subject_stored c.head (Memᴰ.cast (sym d.1) m)) in
      let u = held-find U.own U.sensitive U.subject_stored c.head (subst (λ (R : List Role). Memᴰ c.head R) held_same t) in
      Memᴰ.cast (d.1 ∙ (λ i. direct_of (own_same T U h i) c.head)) (holds-find U.own U.subject_stored c.head u.1)

  stored-in : (c : Credential) → Memᴰ c T.subject_stored → Memᴰ c U.subject_stored
  stored-in c m = go (is_direct T.own T.sensitive c) refl
    where
      go : (b : Bool) → is_direct T.own T.sensitive c ≡ b → Memᴰ c U.subject_stored
      go true q = direct-in c q m
      go false q = shown-in T U h c q m

-- where what may show and what is hidden are equal, so are the tables
pub public-hidden : (T U : Tables) → Rising before_credential T.subject_stored → Rising before_credential U.subject_stored → public_of T ≡ public_of U
    → hidden_of T ≡ hidden_of U → T ≡ U
public-hidden T U r s h k =
    let e = rising-same before-strict r s (stored-in T U h k) (stored-in U T (sym h) (sym k)) in
    λ i.
    record {
      own = own_same T U h i;
      names = names_same T U h i;
      issuer_stored = issuer-same T U h i;
      subject_stored = e i;
      sensitive = sensitive-same T U h i;
      access = access-same T U h k i;
    }
