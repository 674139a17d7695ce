-- The decision is right: `from?` says yes exactly where the relation holds; and containment only grows with the credentials.
-- Assumes nothing.
use Rattle.std.specs.Prelude.{ℕ, zero, suc, ◌≤◌, ◌≡◌, ◌⊎◌, Bool, false, ◌&&◌, ◌||◌, cond, eqb, length}
use Rattle.std.proofs.Common.{arith, sym, ◌∙◌, ap, inl, inr, eqb-true}
use Rattle.std.proofs.Math.Path.{refl, subst}
use Rattle.std.proofs.Math.Logic.{⊎_elim}
use Rattle.std.proofs.Math.Bool.{true}
use mathlib.Core.List.{List, [], ◌∷◌, ◌++◌, map, Memᴰ}
use Rattle.std.proofs.lemmas.Bool.{eqb-false}
use Rattle.expression.specs.declared.Role.{Role}
use Rattle.expression.specs.declared.Parts.{Parts}
use Rattle.expression.specs.declared.Credential.{Credential}
use Rattle.expression.specs.declared.Expression.{Expression}
use Rattle.expression.specs.declared.Expression.TheVariants as E
use Rattle.expression.specs.Credential.{is_body}
use Rattle.expression.specs.Same.{same, same_role}
use Rattle.expression.specs.laws.Same.{same-eq, eq-same, same_role-eq, eq-same_role}
use Rattle.rt0.specs.From.{role_of, roles_of, From, reflexive, transitive, credential, linking, intersection}
use Rattle.rt0.specs.laws.Lists.{any-find, any_here, all-each, all_of, map-find, map-mem}
use Rattle.word.specs.laws.Bools.{false-true, or_cases, or_left, or_right, and_parts, and_both, bool_iff}
use Rattle.rt0.specs.Decide.{Fact, says, role_from, via, reaches, learn, found, pass, unknowns, close, ask, start, entity_first, entities, sources}
use Rattle.rt0.specs.Decide.{closure, from?}

-- More credentials

pub more : {C D : List Credential} → ((c : Credential) → Memᴰ c C → Memᴰ c D) → {f e : Expression} → From C f e → From D f e
more sub reflexive = reflexive
more sub (transitive h k) = transitive (more sub h) (more sub k)
more sub (credential {c = c} m) = credential (sub c m)
more sub (linking h) = linking (more sub h)
more sub (intersection h) = intersection (λ p m. more sub (h p m))

-- more credentials, more members
pub from_more : {C : List Credential} (D : List Credential) {f e : Expression} → From C f e → From (C ++ D) f e
from_more D h = more (λ c m. mathlib.Core.List.Memᴰ.append_left D m) h

-- The relation without transitivity: each rule's premises end in the source

pub data Reach (C : List Credential) : Expression → Expression → Type 0 where
  here : {e : Expression} → Reach C e e
  step : {c : Credential} {e : Expression} → Memᴰ c C → Reach C c.body e → Reach C (E.Role c.head) e
  link : {a : Role} {n b : ℕ} {e : Expression} → Reach C (E.Role a) (E.Entity b) → Reach C (E.Role (role_of b n)) e → Reach C (E.Linked a n) e
  each : {ps : Parts} {e : Expression} → ((p : Role) → Memᴰ p (roles_of ps) → Reach C (E.Role p) e) → Reach C (E.Intersection ps) e

then : {C : List Credential} {x y z : Expression} → Reach C x y → Reach C y z → Reach C x z
then here k = k
then (step m h) k = step m (then h k)
then (link h₁ h₂) k = link h₁ (then h₂ k)
then (each h) k = each (λ p m. then (h p m) k)

pub reach : {C : List Credential} {f e : Expression} → From C f e → Reach C f e
reach reflexive = here
reach (transitive h k) = then (reach h) (reach k)
reach (credential m) = step m here
reach (linking h) = link (reach h) here
reach (intersection h) = each (λ p m. reach (h p m))

-- Soundness

abbrev KnownAt : List Credential → Fact → Type 0
KnownAt C t = Memᴰ t.cred C × (t.known ≡ true → From C (E.Role t.cred.head) t.src)

abbrev Known : List Credential → List Fact → Type 0
Known C T = (t : Fact) → Memᴰ t T → KnownAt C t

module _ (C : List Credential) (T : List Fact) (known : Known C T) where
  by-fact : (p : Role) (s : Expression) → (t : Fact) × Memᴰ t T × (says p s t ≡ true) → From C (E.Role p) s
  by-fact p s r =
      let t : Fact = r.0 in
      let h : (t.known ≡ true) × ((same_role p t.cred.head && same t.src s) ≡ true) = and_parts _ _ r.2 in
      let k : (same_role p t.cred.head ≡ true) × (same t.src s ≡ true) = and_parts _ _ h.1 in
      subst (λ (q : Role). From C (E.Role q) s) (sym (same_role-eq p t.cred.head k.0))
      (subst (λ (x : Expression). From C (E.Role t.cred.head) x) (same-eq t.src s k.1) ((known t r.1).1 h.0))

  by-same : (x s : Expression) → same x s ≡ true → From C x s
  by-same x s h = subst (λ (y : Expression). From C x y) (same-eq x s h) reflexive

  role_from-sound : (p : Role) (s : Expression) → role_from T p s ≡ true → From C (E.Role p) s
  unfolding role_from
  role_from-sound p s h = ⊎_elim (λ e. by-same (E.Role p) s e) (λ a. by-fact p s (any-find (says p s) T a)) (or_cases _ _ h)

  via-sound : (a : Role) (n : ℕ) (s x : Expression) → via T a n s x ≡ true → From C (E.Linked a n) s
  via-sound a n s (E.Entity b) h =
      let k : (role_from T a (E.Entity b) ≡ true) × (role_from T (role_of b n) s ≡ true) = and_parts _ _ h in
      transitive (linking (role_from-sound a (E.Entity b) k.0)) (role_from-sound (role_of b n) s k.1)
  via-sound a n s (E.Role p) h = absurd (false-true h)
  via-sound a n s (E.Linked p m) h = absurd (false-true h)
  via-sound a n s (E.Intersection ps) h = absurd (false-true h)
  via-sound a n s (E.Goal m) h = absurd (false-true h)

  reaches-sound : (S : List Expression) (x s : Expression) → reaches T S x s ≡ true → From C x s
  unfolding reaches
  reaches-sound S (E.Entity b) s h = by-same (E.Entity b) s h
  reaches-sound S (E.Role p) s h = role_from-sound p s h
  reaches-sound S (E.Linked a n) s h =
      ⊎_elim (λ e. by-same (E.Linked a n) s e)
      (λ v. let r = any-find (via T a n s) S v in via-sound a n s r.0 r.2) (or_cases _ _ h)
  reaches-sound S (E.Intersection ps) s h =
      ⊎_elim (λ e. by-same (E.Intersection ps) s e)
      (λ v. intersection (λ p m. role_from-sound p s (all-each (λ q. role_from T q s) m v))) (or_cases _ _ h)
  reaches-sound S (E.Goal n) s h = by-same (E.Goal n) s h

  learn-sound : (S : List Expression) (t : Fact) → KnownAt C t → KnownAt C (learn (found S T) t)
  learn-sound S t k =
      (k.0, λ h. ⊎_elim k.1 (λ r. transitive (credential k.0) (reaches-sound S t.cred.body t.src r)) (or_cases _ _ h))

  pass-sound : (S : List Expression) → Known C (pass S T)
  unfolding pass
  pass-sound S u m =
      let r = map-find (learn (found S T)) T m in
      subst (KnownAt C) (sym r.2) (learn-sound S r.0 (known r.0 r.1))

close-sound : (C : List Credential) (n : ℕ) (S : List Expression) (T : List Fact) → Known C T → Known C (close n S T)
unfolding close
close-sound C zero S T known = known
close-sound C (suc n) S T known =
    pick (eqb (unknowns (pass S T)) (unknowns T)) known (close-sound C n S (pass S T) (pass-sound C T known S))
  where
    pick : (b : Bool) {U W : List Fact} → Known C U → Known C W → Known C (cond b U W)
    pick true u v = u
    pick false u v = v

start-sound : (C D : List Credential) (S : List Expression) → ((c : Credential) → Memᴰ c D → Memᴰ c C) → Known C (start D S)
start-sound C [] S sub t m = absurd (mathlib.Core.List.Memᴰ.not-nil m)
start-sound C (c ∷ D) S sub t m =
    ⊎_elim (λ k. let r = map-find (ask c) S k in subst (KnownAt C) (sym r.2) (sub c (mathlib.Core.List.Memᴰ.head refl), λ h. absurd (false-true h)))
    (start-sound C D S (λ d k. sub d (mathlib.Core.List.Memᴰ.tail k)) t) (mathlib.Core.List.Memᴰ.append_cases (map (ask c) S) m)

pub sound : (C : List Credential) (f e : Expression) → from? C f e ≡ true → From C f e
unfolding from? closure
sound C f e h =
    reaches-sound C _ (close-sound C _ (sources C e) _ (start-sound C C (sources C e) (λ c m. m))) (sources C e) f e h

-- Completeness: at a table that a pass leaves as it is

-- a pass adds no fact to T
abbrev Saturated : List Expression → List Fact → Type 0
Saturated S T = (t : Fact) → Memᴰ t T → found S T t ≡ true → t.known ≡ true

fewer : (g : Fact → Bool) (T : List Fact) → unknowns (map (learn g) T) ≤ unknowns T
fewer g [] = omega arith
fewer g (t ∷ T) = go t.known (g t) (fewer g T)
  where
    go : (k b : Bool) {m n : ℕ} → m ≤ n → cond (k || b) m (suc m) ≤ cond k n (suc n)
    go true b h = h
    go false true h = omega arith
    go false false h = omega arith

stays : (g : Fact → Bool) (T : List Fact) → unknowns (map (learn g) T) ≡ unknowns T → (t : Fact) → Memᴰ t T → g t ≡ true → t.known ≡ true
stays g [] e t m h = absurd (mathlib.Core.List.Memᴰ.not-nil m)
stays g (u ∷ T) e t m h =
    let r = split u.known (g u) (fewer g T) e in
    ⊎_elim (λ p. ap (λ (x : Fact). x.known) p ∙ r.0 (sym (ap g p) ∙ h)) (λ k. stays g T r.1 t k h) (mathlib.Core.List.Memᴰ.cases_cons m)
  where
    split : (k b : Bool) {m n : ℕ} → m ≤ n → cond (k || b) m (suc m) ≡ cond k n (suc n) → (b ≡ true → k ≡ true) × (m ≡ n)
    split true b h e = (λ _. refl, e)
    split false true h e = absurd (omega arith)
    split false false h e = (λ k. k, omega arith)

unknowns-length : (T : List Fact) → unknowns T ≤ length T
unknowns-length [] = omega arith
unknowns-length (t ∷ T) = go t.known (unknowns-length T)
  where
    go : (k : Bool) {m n : ℕ} → m ≤ n → cond k m (suc m) ≤ suc n
    go true h = omega arith
    go false h = omega arith

close-saturated : (n : ℕ) (S : List Expression) (T : List Fact) → unknowns T ≤ n → Saturated S (close n S T)
unfolding close pass
close-saturated zero S T h = stays (found S T) T (omega (arith, fewer (found S T) T))
close-saturated (suc n) S T h = pick (eqb (unknowns (pass S T)) (unknowns T)) refl (λ k. close-saturated n S (pass S T) k)
  where
    pick : (b : Bool) → eqb (unknowns (pass S T)) (unknowns T) ≡ b → (unknowns (pass S T) ≤ n → Saturated S (close n S (pass S T)))
        → Saturated S (cond b T (close n S (pass S T)))
    pick true e ih = stays (found S T) T (eqb-true _ _ e)
    pick false e ih = ih (omega (arith, fewer (found S T) T, eqb-false (unknowns (pass S T)) (unknowns T) e))

-- each credential has a fact for each source
abbrev Full : List Credential → List Expression → List Fact → Type 0
Full C S T = (c : Credential) → Memᴰ c C → (s : Expression) → Memᴰ s S → (t : Fact) × Memᴰ t T × (t.cred ≡ c) × (t.src ≡ s)

start-full : (C : List Credential) (S : List Expression) → Full C S (start C S)
start-full [] S c m s k = absurd (mathlib.Core.List.Memᴰ.not-nil m)
start-full (d ∷ C) S c m s k =
    ⊎_elim (λ p. (ask d s, mathlib.Core.List.Memᴰ.append_left (start C S) (map-mem (ask d) k), sym p, refl))
    (λ q. let r = start-full C S c q s k in (r.0, mathlib.Core.List.Memᴰ.append_right (map (ask d) S) r.1, r.2, r.3)) (mathlib.Core.List.Memᴰ.cases_cons m)

pass-full : (C : List Credential) (S : List Expression) (T : List Fact) → Full C S T → Full C S (pass S T)
unfolding pass
pass-full C S T full c m s k =
    let r = full c m s k in (learn (found S T) r.0, map-mem (learn (found S T)) r.1, r.2, r.3)

close-full : (C : List Credential) (n : ℕ) (S : List Expression) (T : List Fact) → Full C S T → Full C S (close n S T)
unfolding close
close-full C zero S T full = full
close-full C (suc n) S T full =
    pick (eqb (unknowns (pass S T)) (unknowns T)) full (close-full C n S (pass S T) (pass-full C S T full))
  where
    pick : (b : Bool) {U W : List Fact} → Full C S U → Full C S W → Full C S (cond b U W)
    pick true u w = u
    pick false u w = w

-- an entity that something else is from is the body of a credential
entities-mem : (C : List Credential) (c : Credential) (b : ℕ) → Memᴰ c C → c.body ≡ E.Entity b → Memᴰ (E.Entity b) (entities C)
entities-mem [] c b m e = absurd (mathlib.Core.List.Memᴰ.not-nil m)
entities-mem (d ∷ C) c b m e =
    ⊎_elim (λ p. subst (λ (x : Expression). Memᴰ (E.Entity b) (entity_first x (entities C))) (sym e ∙ ap (λ (x : Credential). x.body) p)
    (mathlib.Core.List.Memᴰ.head refl)) (λ q. later d.body (entities-mem C c b q e)) (mathlib.Core.List.Memᴰ.cases_cons m)
  where
    later : (x : Expression) → Memᴰ (E.Entity b) (entities C) → Memᴰ (E.Entity b) (entity_first x (entities C))
    later (E.Entity a) k = mathlib.Core.List.Memᴰ.tail k
    later (E.Role p) k = k
    later (E.Linked p n) k = k
    later (E.Intersection ps) k = k
    later (E.Goal n) k = k

-- an intersection has a role
first : (ps : Parts) → (p : Role) × Memᴰ p (roles_of ps)
first p = (p.first, mathlib.Core.List.Memᴰ.head refl)

pub role-entity : {p : Role} {b : ℕ} → E.Role p ≡ E.Entity b → ⊥
role-entity e = let z : ◌≡◌ {A = ℕ} 0 1 = cc in omega arith

-- where x is from an entity, x is that entity, or the entity is the body of a credential
abbrev pub BodyOf : List Credential → Expression → Type 0
BodyOf C x = (c : Credential) × Memᴰ c C × (c.body ≡ x)

pub ends : {C : List Credential} {x s : Expression} (b : ℕ) → Reach C x s → s ≡ E.Entity b → (x ≡ E.Entity b) ⊎ BodyOf C (E.Entity b)
ends b here e = inl e
ends {C} b (step {c = c} m h) e = inr (⊎_elim (λ p. (c, m, p)) (λ k. k) (ends b h e))
ends b (link h₁ h₂) e = inr (⊎_elim (λ p. absurd (role-entity p)) (λ k. k) (ends b h₂ e))
ends b (each {ps = ps} h) e = inr (⊎_elim (λ p. absurd (role-entity p)) (λ k. k) (ends b (h (first ps).0 (first ps).1) e))

pub role-ends : {C : List Credential} {p : Role} (b : ℕ) → Reach C (E.Role p) (E.Entity b) → BodyOf C (E.Entity b)
role-ends b h = ⊎_elim (λ p. absurd (role-entity p)) (λ k. k) (ends b h refl)

module _ (C : List Credential) (e : Expression) (T : List Fact) (full : Full C (sources C e) T) (saturated : Saturated (sources C e) T) where
  self : (x : Expression) → reaches T (sources C e) x x ≡ true
  unfolding reaches role_from
  self (E.Entity b) = eq-same (E.Entity b) (E.Entity b) refl
  self (E.Role p) = or_left _ _ (eq-same (E.Role p) (E.Role p) refl)
  self (E.Linked a n) = or_left _ _ (eq-same (E.Linked a n) (E.Linked a n) refl)
  self (E.Intersection ps) = or_left _ _ (eq-same (E.Intersection ps) (E.Intersection ps) refl)
  self (E.Goal n) = eq-same (E.Goal n) (E.Goal n) refl

  -- what reaches the body of a credential is known of its head
  head-from : {c : Credential} (s : Expression) → Memᴰ c C → Memᴰ s (sources C e) → reaches T (sources C e) c.body s ≡ true
      → role_from T c.head s ≡ true
  unfolding role_from
  head-from {c} s mc ms h =
      let r = full c mc s ms in
      let t : Fact = r.0 in
      let k : t.known ≡ true = saturated t r.1 (rw (r.2, r.3) h) in
      or_right (same (E.Role c.head) s) _ (any_here (says c.head s) r.1
      (and_both _ _ k (and_both _ _ (eq-same_role _ _ (ap (λ (x : Credential). x.head) (sym r.2))) (eq-same _ _ r.3))))

  to-reaches : {x s : Expression} → Reach C x s → Memᴰ s (sources C e) → reaches T (sources C e) x s ≡ true
  unfolding reaches
  to-reaches {x} here m = self x
  to-reaches {s = s} (step mc h) m = head-from s mc m (to-reaches h m)
  to-reaches {s = s} (link {a = a} {n = n} {b = b} h₁ h₂) m =
      let w = role-ends b h₁ in
      let k : Memᴰ (E.Entity b) (sources C e) = mathlib.Core.List.Memᴰ.tail (entities-mem C w.0 b w.1 w.2) in
      or_right (same (E.Linked a n) s) _ (any_here (via T a n s) k (and_both _ _ (to-reaches h₁ k) (to-reaches h₂ m)))
  to-reaches {s = s} (each {ps = ps} h) m = or_right (same (E.Intersection ps) s) _ (all_of (λ p. role_from T p s) (roles_of ps) (λ p k. to-reaches (h p k) m))

pub complete : (C : List Credential) (f e : Expression) → From C f e → from? C f e ≡ true
unfolding from? closure
complete C f e h =
    let S : List Expression = sources C e in
    let T : List Fact = start C S in
    to-reaches C e (close (length T) S T) (close-full C _ S T (start-full C S)) (close-saturated _ S T (unknowns-length T)) (reach h) (mathlib.Core.List.Memᴰ.head refl)

-- the decision is yes exactly where the relation holds
pub from-exact : (C : List Credential) (f e : Expression) → (from? C f e ≡ true → From C f e) × (From C f e → from? C f e ≡ true)
from-exact C f e = (sound C f e, complete C f e)

-- What a caller uses

-- an answer that is right is the decision
pub decides : (C : List Credential) (f e : Expression) (b : Bool) → (b ≡ true → From C f e) → (From C f e → b ≡ true) → b ≡ from? C f e
decides C f e b yes' no' = bool_iff b (from? C f e) (λ h. complete C f e (yes' h)) (λ h. no' (sound C f e h))

-- the decision goes by the set of the credentials: order and repeats do not matter
pub same_set : (C D : List Credential) → ((c : Credential) → Memᴰ c C → Memᴰ c D) → ((c : Credential) → Memᴰ c D → Memᴰ c C)
    → (f e : Expression) → from? C f e ≡ from? D f e
same_set C D to fro f e = decides D f e (from? C f e) (λ h. more to (sound C f e h)) (λ h. complete C f e (more fro h))

pub from?-grows : (C D : List Credential) (f e : Expression) → from? C f e ≡ true → from? (C ++ D) f e ≡ true
from?-grows C D f e h = complete (C ++ D) f e (from_more D (sound C f e h))

-- Goals stand apart: where each credential's body has kind 1 to 4, what is from a goal is that goal

no-goal : {C : List Credential} → ((c : Credential) → Memᴰ c C → is_body c.body ≡ true) → {f e : Expression} → Reach C f e → is_body e ≡ false → f ≡ e
no-goal bodies here g = refl
no-goal bodies (step {c = c} m h) g = absurd (false-true (sym (sym (bodies c m) ∙ (ap is_body (no-goal bodies h g) ∙ g))))
no-goal bodies (link h₁ h₂) g = absurd (false-true (sym (ap is_body (no-goal bodies h₂ g) ∙ g)))
no-goal bodies (each {ps = ps} h) g = absurd (false-true (sym (ap is_body (no-goal bodies (h (first ps).0 (first ps).1) g) ∙ g)))

pub goal-alone : {C : List Credential} → ((c : Credential) → Memᴰ c C → is_body c.body ≡ true) → {f e : Expression} → From C f e
    → is_body e ≡ false → f ≡ e
goal-alone bodies h g = no-goal bodies (reach h) g
