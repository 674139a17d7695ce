-- The answer about an expression, by its form and rows that answer. Assumes nothing.
use Rattle.std.specs.Prelude.{ℕ, zero, suc, ◌≤◌, ◌<◌, ◌≡◌, refl, ◌⊎◌, Bool, true, not, eqb, get_or, replicate}
use Rattle.std.proofs.Common.{arith, ◌∙◌, ap, subst, inl, inr}
use Rattle.std.proofs.Math.Path.{sym}
use Rattle.std.proofs.Math.Logic.{⊎_elim}
use Rattle.std.proofs.Math.Bool.{false}
use mathlib.Core.List.{List, Memᴰ}
use borrow.Author.Tests.{eqb-true, eq-eqb, ne_eqb, le-ltb, not-false, not-true}
use Rattle.std.proofs.lemmas.List.{length-replicate}
use Rattle.expression.specs.declared.Role.{Role}
use Rattle.expression.specs.declared.Parts.{Parts}
use Rattle.expression.specs.declared.Credential.{Credential}
use Rattle.expression.specs.declared.Expression.{Expression}
use Rattle.expression.specs.declared.Expression.TheVariants as E
use Rattle.expression.specs.Same.{same}
use Rattle.expression.specs.laws.Same.{same-eq, eq-same}
use Rattle.rt0.specs.declared.Pool.{Pool}
use Rattle.rt0.specs.From.{role_of, roles_of, From, reflexive, transitive, credential, linking, intersection}
use Rattle.word.specs.laws.Bools.{false-true, and_parts, and_both, no-and}
use Rattle.rt0.specs.Decide.{from?}
use Rattle.rt0.proofs.laws.Laws as R
use Rattle.rt0.proofs.laws.Laws.{Reach, reach, sound, complete, decides}
use Rattle.rt0.specs.laws.Pool.{head_at, credentials}
use Rattle.closure.specs.declared.Rules.{Rules}
use Rattle.closure.specs.laws.Rules.{bits, Closed}
use Rattle.word.specs.laws.Search.{any_to, any_to-here}
use Rattle.rules.specs.laws.Table.{row_of, bit_of, row_for, chosen, third, fourth}
use Rattle.rules.specs.laws.Search.{first_found}
use Rattle.rules.specs.laws.Exact.{chosen-all, bit-cases, row-for, unreach, four-all, all-four}
use Rattle.rules.specs.laws.Columns.{PartsTo}
use Rattle.rules.specs.laws.Column.{no_bits}
use Rattle.rules.specs.laws.Ruled.{Ruled, compiled-of}
use Rattle.relation.specs.laws.Relation.{Relation, at_once, Asked, Answers}
use Rattle.relation.specs.laws.Answer.{answers, answered-alone, Moved, answers-none, answers-moved, answers-entity, in_body, bits_below, member-says}
use Rattle.relation.specs.laws.Answer.{once-says, once-same, once_link}
use Rattle.relation.specs.laws.Question.{leads_at}

-- why x is from e, by the form of x
abbrev Why : List Credential → Expression → Expression → Type 0
Why C e (E.Entity b) = E.Entity b ≡ e
Why C e (E.Role p) = From C (E.Role p) e
Why C e (E.Linked a m) = (E.Linked a m ≡ e) ⊎ ((b : ℕ) × From C (E.Role a) (E.Entity b) × From C (E.Role (role_of b m)) e)
Why C e (E.Intersection p) = (E.Intersection p ≡ e) ⊎ ((a : Role) → Memᴰ a (roles_of p) → From C (E.Role a) e)
Why C e (E.Goal m) = E.Goal m ≡ e

why : {C : List Credential} {x y : Expression} (e : Expression) → Reach C x y → y ≡ e → Why C e x
why {C} {x} e (R.here) q = at-once x q
  where
    at-once : (x : Expression) → x ≡ e → Why C e x
    at-once (E.Entity b) q = q
    at-once (E.Role p) q = subst (λ (y : Expression). From C (E.Role p) y) q reflexive
    at-once (E.Linked a m) q = inl q
    at-once (E.Intersection p) q = inl q
    at-once (E.Goal m) q = q
why {C} e (R.step {c = c} m h) q = transitive (credential m) (unreach (subst (λ (y : Expression). Reach C c.body y) q h))
why {C} e (R.link {a = a} {n = n} {b = b} h₁ h₂) q = inr (b, unreach h₁, unreach (subst (λ (y : Expression). Reach C (E.Role (role_of b n)) y) q h₂))
why {C} e (R.each h) q = inr (λ p k. unreach (subst (λ (y : Expression). Reach C (E.Role p) y) q (h p k)))

is-from : (C : List Credential) (x e : Expression) → x ≡ e → From C x e
is-from C x e q = subst (λ (y : Expression). From C x y) q reflexive

-- an entity is from itself alone
pub entity-from : (C : List Credential) (x : Expression) (b : ℕ) (e : Expression) {t : Bool} → x ≡ E.Entity b → t ≡ same x e → t ≡ from? C x e
entity-from C x b e {t} q h =
    rw q (decides C (E.Entity b) e t (λ k. is-from C _ e (same-eq _ e (sym g ∙ k))) (λ k. g ∙ eq-same (E.Entity b) e (why e (reach k) refl)))
  where
    g : t ≡ same (E.Entity b) e
    g = rw q at h

-- a goal is from itself alone
pub goal-from : (C : List Credential) (x : Expression) (m : ℕ) (e : Expression) {t : Bool} → x ≡ E.Goal m → t ≡ same x e → t ≡ from? C x e
goal-from C x m e {t} q h =
    rw q (decides C (E.Goal m) e t (λ k. is-from C _ e (same-eq _ e (sym g ∙ k))) (λ k. g ∙ eq-same (E.Goal m) e (why e (reach k) refl)))
  where
    g : t ≡ same (E.Goal m) e
    g = rw q at h

-- an intersection is from e where it is e
pub meet-same : (C : List Credential) (p : Parts) (e : Expression) {t : Bool} → t ≡ same (E.Intersection p) e → t ≡ true → true ≡ from? C (E.Intersection p) e
meet-same C p e h k = sym (complete C (E.Intersection p) e (is-from C _ e (same-eq _ e (sym h ∙ k))))

-- an intersection that is not e is not from e where one of its roles is not
pub meet-no : (C : List Credential) (p : Parts) (e : Expression) {t u : Bool} → t ≡ same (E.Intersection p) e → t ≡ false → (a : Role)
    → ((G : Role → Type 0) → G p.first × G p.second × G (third p) × G (fourth p) → G a)
    → u ≡ from? C (E.Role a) e → not u ≡ true → false ≡ from? C (E.Intersection p) e
meet-no C p e {t} {u} h k a one g n = decides C (E.Intersection p) e false (λ z. absurd (false-true z))
    (λ z. absurd (⊎_elim (λ q. false-true (sym k ∙ (h ∙ eq-same (E.Intersection p) e q)))
    (λ q. false-true (sym (not-true u n) ∙ (g ∙ complete C (E.Role a) e
    (one (λ (o : Role). From C (E.Role o) e) (all-four p (λ (o : Role). From C (E.Role o) e) q)))))
    (why e (reach z) refl)))

-- an intersection is from e where its roles are
pub meet_all : (C : List Credential) (p : Parts) (e : Expression) {t a b c d : Bool} → t ≡ same (E.Intersection p) e → t ≡ false
    → a ≡ from? C (E.Role p.first) e → not a ≡ false → b ≡ from? C (E.Role p.second) e → not b ≡ false
    → c ≡ from? C (E.Role (third p)) e → not c ≡ false → d ≡ from? C (E.Role (fourth p)) e → d ≡ from? C (E.Intersection p) e
meet_all C p e {t} {a} {b} {c} {d} h k ha ka hb kb hc kc hd = decides C (E.Intersection p) e d
    (λ z. intersection (λ o m. four-all p (λ (o : Role). From C (E.Role o) e) (sound C _ e (sym ha ∙ not-false a ka))
    (sound C _ e (sym hb ∙ not-false b kb)) (sound C _ e (sym hc ∙ not-false c kc)) (sound C _ e (sym hd ∙ z)) o m))
    (λ z. ⊎_elim (λ q. absurd (false-true (sym k ∙ (h ∙ eq-same (E.Intersection p) e q))))
    (λ q. hd ∙ complete C (E.Role (fourth p)) e (all-four p (λ (o : Role). From C (E.Role o) e) q).3) (why e (reach z) refl))

module _ (P : Pool) (K L : List ℕ) (z r m j : ℕ) where
  pub leads-name : ((head_at P j).name ≡ m → ⊥) → false ≡ leads_at P K L z r m j
  unfolding leads_at
  leads-name h = rw (ne_eqb (head_at P j).name m h)

  pub leads-bit : {b : Bool} → b ≡ bits L j z → not b ≡ true → false ≡ leads_at P K L z r m j
  unfolding leads_at
  leads-bit {b} h k = no-and (eqb (head_at P j).name m) _ (rw (sym h ∙ not-true b k) refl)

  pub leads-source : (s : ℕ) → s ≡ bit_of P (head_at P j).entity → 128 ≤ s → false ≡ leads_at P K L z r m j
  unfolding leads_at bits
  leads-source s h l = no-and (eqb (head_at P j).name m) _ (sym (no-and (bits L j z) _ none))
    where
      none : bits K r (bit_of P (head_at P j).entity) ≡ false
      none = rw (← h, le-ltb s 128 l)

  pub leads-is : {b t : Bool} (s : ℕ) → (head_at P j).name ≡ m → b ≡ bits L j z → not b ≡ false → s ≡ bit_of P (head_at P j).entity → t ≡ bits K r s
      → t ≡ leads_at P K L z r m j
  unfolding leads_at
  leads-is {b} {t} s n h k q g = rw (eq-eqb (head_at P j).name m n, sym h ∙ not-false b k, ← q) g

module _ (P : Pool) (on : List ℕ) (small : P.count ≤ 128) (e : Expression) (z : ℕ) (L : List ℕ) (ans : Answers P on e z L) where
  -- the row of a role is that of a head, where the rows have its bit, or the role is e
  row-answers : (p : Role) → From (chosen P on) (E.Role p) e
      → ((row_of P p < P.count) × (head_at P (row_of P p) ≡ p) × (bits L (row_of P p) z ≡ true)) ⊎ ((row_of P p ≡ 128) × (E.Role p ≡ e))
  row-answers p h =
      let q = ans.all p h in
      ⊎_elim (λ k. inl (k.1, k.2, rw k.0 at q))
      (λ v. ⊎_elim (λ k. absurd (⊎_elim (λ w. let y : ◌≡◌ {A = ℕ} 128 129 = w in omega arith) (λ w. let y : 128 < P.count = w.0 in omega arith)
      (ans.says 128 (rw k.0 at q)))) (λ k. inr (k.1, k.2)) v)
      (row-for P on small e (λ s. e) true (λ q s. refl) p)

  -- a head's row says whether the role is from e
  pub role-head : (p : Role) (r : ℕ) {b : Bool} → r ≡ row_of P p → r < 128 → b ≡ bits L r z → b ≡ from? (chosen P on) (E.Role p) e
  role-head p r {b} q l h = decides (chosen P on) (E.Role p) e b
      (λ k.
      let y : bits L (row_of P p) z ≡ true = subst (λ (x : ℕ). bits L x z ≡ true) q (sym h ∙ k) in
      ⊎_elim (λ w. absurd (omega arith)) (λ w. subst (λ (o : Role). From (chosen P on) (E.Role o) e) (here w.0) w.1) (ans.says (row_of P p) y))
      (λ k. ⊎_elim (λ w. h ∙ subst (λ (x : ℕ). bits L x z ≡ true) (sym q) w.2) (λ w. let y : row_of P p ≡ 128 = w.0 in absurd (omega arith))
      (row-answers p k))
    where
      here : row_of P p < P.count → head_at P (row_of P p) ≡ p
      here l =
          ⊎_elim (λ k. k.2) (λ v. ⊎_elim (λ k. let y : row_of P p ≡ 128 = k.1 in absurd (omega arith))
          (λ k. let y : row_of P p ≡ 128 = k.1 in absurd (omega arith)) v) (row-for P on small e (λ s. e) true (λ q s. refl) p)

  -- a role that is no head is from itself alone
  pub role-none : (p : Role) (r : ℕ) {b : Bool} → r ≡ row_of P p → 128 ≤ r → b ≡ same (E.Role p) e → b ≡ from? (chosen P on) (E.Role p) e
  role-none p r {b} q l h = decides (chosen P on) (E.Role p) e b (λ k. is-from (chosen P on) _ e (same-eq _ e (sym h ∙ k)))
      (λ k. ⊎_elim (λ w. let y : row_of P p < P.count = w.0 in absurd (omega arith)) (λ w. h ∙ eq-same (E.Role p) e w.1) (row-answers p k))

  module _ (K : List ℕ) (rel : Relation P on K) (a : Role) (m : ℕ) where
    -- a link is from e where it is so at once
    pub link-once : {t : Bool} → t ≡ at_once P K e (E.Linked a m) → t ≡ true → true ≡ from? (chosen P on) (E.Linked a m) e
    link-once h k = sym (complete (chosen P on) (E.Linked a m) e (once-says P on small K rel e (E.Linked a m) (sym h ∙ k)))

    leads-from : (j : ℕ) → j < P.count → leads_at P K L z (row_of P a) m j ≡ true → From (chosen P on) (E.Linked a m) e
    unfolding leads_at
    leads-from j l h =
        let x = and_parts (eqb (head_at P j).name m) _ h in
        let y = and_parts (bits L j z) _ x.1 in
        let s : bit_of P (head_at P j).entity < P.count = ⊎_elim (λ l. l)
        (λ w. absurd (let v : bit_of P (head_at P j).entity < 128 = bits_below K (row_of P a) _ y.1 in omega arith))
        (bit-cases P small (head_at P j).entity) in
        let h₁ : From (chosen P on) (E.Role a) (E.Entity (head_at P j).entity) = member-says P on small K rel a (head_at P j).entity y.1 s in
        let h₂ : From (chosen P on) (E.Role (head_at P j)) e = ⊎_elim (λ w. absurd (omega arith)) (λ w. w.1) (ans.says j y.0) in
        transitive (linking h₁) (subst (λ (n : ℕ). From (chosen P on) (E.Role (role_of (head_at P j).entity n)) e) (eqb-true (head_at P j).name m x.0) h₂)

    leads-here : (b : ℕ) → bits K (row_of P a) (bit_of P b) ≡ true → head_at P (row_of P (role_of b m)) ≡ role_of b m
        → bits L (row_of P (role_of b m)) z ≡ true → leads_at P K L z (row_of P a) m (row_of P (role_of b m)) ≡ true
    unfolding leads_at
    leads-here b k hd l =
        and_both _ _ (eq-eqb _ m (ap (λ (o : Role). o.name) hd))
        (and_both _ _ l (subst (λ (x : ℕ). bits K (row_of P a) (bit_of P x) ≡ true) (sym (ap (λ (o : Role). o.entity) hd)) k))

    -- else it is where a head leads on
    pub link_on : {t u : Bool} → t ≡ at_once P K e (E.Linked a m) → t ≡ false → (r : ℕ) → r ≡ row_of P a → u ≡ any_to P.count (leads_at P K L z r m)
        → u ≡ from? (chosen P on) (E.Linked a m) e
    link_on {t} {u} h k r q g = decides (chosen P on) (E.Linked a m) e u
        (λ y. let w = first_found P.count (leads_at P K L z (row_of P a) m) (sym is ∙ y) in leads-from _ w.0 w.1)
        (λ y. ⊎_elim (λ w. absurd (false-true (sym k ∙ (h ∙ once-same P on small K rel e (E.Linked a m) w)))) (λ w. via w.0 w.1 w.2)
        (why e (reach y) refl))
      where
        is : u ≡ any_to P.count (leads_at P K L z (row_of P a) m)
        is = subst (λ (x : ℕ). u ≡ any_to P.count (leads_at P K L z x m)) q g

        via : (b : ℕ) → From (chosen P on) (E.Role a) (E.Entity b) → From (chosen P on) (E.Role (role_of b m)) e → u ≡ true
        via b h₁ h₂ =
            let k₁ = rel.all a b (in_body P on small b (reach h₁)) h₁ in
            ⊎_elim (λ w. is ∙ any_to-here P.count (leads_at P K L z (row_of P a) m) (row_of P (role_of b m)) w.0 (leads-here b k₁ w.1 w.2))
            (λ w. absurd (false-true (sym k ∙ (h ∙ once_link P on small K rel e (E.Linked a m) a m b refl k₁ w.1))))
            (row-answers (role_of b m) h₂)

-- The rows that answer

-- rows closed from where a question starts answer it
pub column-of : (P : Pool) (on : List ℕ) → P.count ≤ 128 → (K : List ℕ) → Relation P on K → (e : Expression) (X Y : Rules) → Ruled P X
    → Y.count ≡ X.count → Y.words ≡ 1 → Y.head ≡ X.head → Y.first ≡ X.first → Y.named ≡ X.named → Y.src ≡ X.src
    → PartsTo (row_for P e) P P.count Y.part
    → (K₀ L : List ℕ) → Asked P on K e K₀ → Closed Y on false K K₀ L → Answers P on e 0 L
column-of P on small K rel e X Y ruled qc qw qh qf qn qs parts K₀ L asked closed =
    answers P on small K rel e Y (compiled-of P small e X Y ruled qc (omega arith) qh qf qn qs parts) qw K₀ L asked closed

-- no role is from an entity that is no body
pub no-column : (P : Pool) (on : List ℕ) → P.count ≤ 128 → (K : List ℕ) → Relation P on K → (b s : ℕ) → s ≡ bit_of P b → 128 ≤ s
    → Answers P on (E.Entity b) 0 (replicate 260 0)
no-column P on small K rel b s q l =
    answers-none P on small K rel b (⊎_elim (λ k. absurd (omega arith)) (λ k. k) (bit-cases P small b)) (replicate 260 0)
    (length-replicate {A = ℕ} 260 0) (λ r t h. no_bits 260 r t h)

-- the bits of an entity that is a body answer what is from it
pub entity-column : (P : Pool) (on : List ℕ) → P.count ≤ 128 → (K : List ℕ) → Relation P on K → (b s : ℕ) → s ≡ bit_of P b → s < 128 → (k : ℕ)
    → P.count ≤ k → (L : List ℕ) → Moved K s k L → Answers P on (E.Entity b) 0 L
entity-column P on small K rel b s q l k e L m =
    let z : bit_of P b < P.count = ⊎_elim (λ k. k) (λ k. absurd (omega arith)) (bit-cases P small b) in
    answers-moved P on small K rel b z k e L (subst (λ (t : ℕ). Moved K t k L) q m)

-- the relation's rows answer about an entity that is a body
pub entity-answers : (P : Pool) (on : List ℕ) → P.count ≤ 128 → (K : List ℕ) → Relation P on K → (b s : ℕ) → s ≡ bit_of P b → s < 128
    → Answers P on (E.Entity b) s K
entity-answers P on small K rel b s q l =
    let z : bit_of P b < P.count = ⊎_elim (λ k. k) (λ k. absurd (omega arith)) (bit-cases P small b) in
    subst (λ (t : ℕ). Answers P on (E.Entity b) t K) (sym q) (answers-entity P on small K rel b z)

-- an entity that is no body is from itself alone
pub alone_of : (P : Pool) (on : List ℕ) → P.count ≤ 128 → (K : List ℕ) → Relation P on K → (b s : ℕ) (f : Expression) (t : Bool) → s ≡ bit_of P b
    → 128 ≤ s → t ≡ same f (E.Entity b) → t ≡ from? (chosen P on) f (E.Entity b)
alone_of P on small K rel b s f t q l h =
    h ∙ answered-alone P on small K rel b (⊎_elim (λ k. absurd (omega arith)) (λ k. k) (bit-cases P small b)) f

ones : (n i : ℕ) → i < n → ◌≡◌ {A = ℕ} (get_or (replicate n 1) i 0) 1
ones zero i l = absurd (omega arith)
ones (suc n) zero l = refl
ones (suc n) (suc i) l = ones n i (omega arith)

-- with all credentials on, the chosen are those of the pool
pub all-on : (P : Pool) → P.count ≤ 128 → chosen P (replicate 128 1) ≡ credentials P
unfolding chosen credentials
all-on P small = chosen-all P (replicate 128 1) P.count (λ i l. ones 128 i (omega arith))
