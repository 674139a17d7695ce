-- Closed rows are the relation, and closed rows of a question answer it. Assumes nothing.
use Rattle.std.specs.Prelude.{ℕ, ◌*◌, ◌≤◌, ◌<◌, ◌≡◌, refl, Bool, false, List, eqb, ltb, length}
use Rattle.std.proofs.Common.{arith, sym, ◌∙◌, ap, inl, inr, eqb-true, eq-eqb, ltb-true}
use Rattle.std.proofs.Math.Path.{subst}
use Rattle.std.proofs.Math.Logic.{⊎_elim}
use Rattle.std.proofs.Math.Bool.{true}
use Rattle.expression.specs.declared.Role.{Role}
use Rattle.expression.specs.declared.Credential.{Credential}
use Rattle.expression.specs.declared.Expression.{Expression}
use Rattle.expression.specs.declared.Expression.TheVariants as E
use Rattle.expression.specs.Same.{same}
use Rattle.expression.specs.laws.Same.{same-eq, eq-same}
use Rattle.rt0.specs.declared.Pool.{Pool}
use Rattle.rt0.specs.From.{role_of, From, reflexive, linking}
use Rattle.word.specs.laws.Bools.{false-true, or_cases, or_left, or_right, and_parts, and_both}
use Rattle.rt0.specs.Decide.{from?}
use Rattle.rt0.proofs.laws.Laws.{Reach, reach, ends, role-ends, role-entity, decides}
use Rattle.rt0.specs.laws.Pool.{head_at, body_at}
use Rattle.closure.specs.declared.Rules.{Rules}
use Rattle.closure.specs.laws.Rules.{el, bits, Used, Within, Closed}
use Rattle.rules.specs.laws.Table.{row_of, bit_of, row_for, chosen, Compiled}
use Rattle.rules.specs.laws.Ruled.{row_plain}
use Rattle.rules.specs.laws.Exact.{chosen-find, unreach, row-found, bit_found, bit-cases, bit-here, row-for, Truth, from-truth, to-truth, truth-row}
use Rattle.rules.specs.laws.Exact.{truth-model, all_held}
use Rattle.relation.specs.laws.Relation.{Relation, Start, own_role, own_link, at_once, Asked, Answers}

not-asked : false ≡ true → {A : Type 0} → A
not-asked h = absurd (false-true h)

-- The relation of roles and entities

module _ (P : Pool) (on : List ℕ) (small : P.count ≤ 128) (e : Expression) (X : Rules) (comp : Compiled P e X) (wide : P.count ≤ 64 * X.words)
    (M K₀ K : List ℕ) (start : Start P on K₀) (closed : Closed X on true M K₀ K) where
  abbrev Truly : ℕ → ℕ → Bool
  Truly = Truth P on small e (body_at P) false (λ q. not-asked q)

  row-true : (r s : ℕ) → Truly r s ≡ true → (r < P.count) × From (chosen P on) (E.Role (head_at P r)) (body_at P s)
  row-true r s h = ⊎_elim (λ k. not-asked k.1) (λ l. (l, from-truth P on small e (body_at P) false (λ q. not-asked q) r s l h))
      (truth-row P on small e (body_at P) false (λ q. not-asked q) r s h)

  member-true : (a : Role) (b : ℕ) → bit_of P b < P.count → Truly (row_of P a) (bit_of P b) ≡ true → From (chosen P on) (E.Role a) (E.Entity b)
  member-true a b l h =
      let r = row-true (row_of P a) (bit_of P b) h in
      let lr : row_of P a < P.count = r.0 in
      let ha = row-found P small a (omega arith) in
      let hb = bit_found P small b (omega arith) in
      subst (λ (x : Expression). From (chosen P on) (E.Role a) x) hb.1
      (subst (λ (p : Role). From (chosen P on) (E.Role p) (body_at P (bit_of P b))) ha.1 r.1)

  within-true : Within (bits K) Truly
  within-true = closed.grown.least Truly
      (truth-model P on small e (body_at P) false (λ q. not-asked q) X comp true M member-true)
      (record { within = λ r s h. let k = start.says r s h in to-truth P on small e (body_at P) false (λ q. not-asked q) r s k.0 k.1 })

  abbrev Valid : ℕ → Type 0
  Valid s = (b : ℕ) × (s ≡ bit_of P b) × (bit_of P b < P.count)

  abbrev Held : ℕ → Role → Type 0
  Held s p = bits K (row_for P e p) s ≡ true

  valid-used : (s : ℕ) → Valid s → Used X s
  valid-used s v = let q : s ≡ bit_of P v.0 = v.1 in let l : bit_of P v.0 < P.count = v.2 in omega arith

  valid-entity : (s : ℕ) → (v : Valid s) → body_at P s ≡ E.Entity v.0
  valid-entity s v = let l : bit_of P v.0 < P.count = v.2 in rw v.1 (bit_found P small v.0 (omega arith)).1

  held-row : (a : Role) (s : ℕ) → Held s a → bits K (row_of P a) s ≡ true
  held-row a s h = ⊎_elim (λ r. rw r.0 at h)
      (λ v. ⊎_elim (λ r. rw (r.0 ∙ sym r.1) at h)
      (λ r. let k = row-true 129 s (within-true.within 129 s (rw r.0 at h)) in absurd (let l : 129 < P.count = k.0 in omega arith)) v)
      (row-for P on small e (body_at P) false (λ q. not-asked q) a)

  seeded : (i s : ℕ) → i < P.count → el on i ≡ 1 → Valid s → body_at P i ≡ body_at P s → bits K (row_of P (head_at P i)) s ≡ true
  seeded i s l o v q = rw v.1 (closed.grown.kept.within _ _ (start.seeds i v.0 l o (q ∙ valid-entity s v)))

  -- rows closed from a start are the relation
  pub related : Relation P on K
  related =
      record {
        sized = closed.grown.sized;
        says = λ r s h. row-true r s (within-true.within r s h);
        all = λ a b l h. held-row a (bit_of P b) (held a b (reach h) (bit_of P b) (b, refl, l) (sym (valid-entity (bit_of P b) (b, refl, l))));
      }
    where
      held : (a : Role) (b : ℕ) → Reach (chosen P on) (E.Role a) (E.Entity b) → (s : ℕ) → Valid s → E.Entity b ≡ body_at P s → Held s a
      held a b r s v q = all_held P on small e (body_at P) false (λ q. not-asked q) X (Used X) K (bits K) within-true comp
          (λ i l o. closed.model.rule i (rw comp.count l) o) Valid valid-used
          (λ s p v q. absurd (role-entity (q ∙ valid-entity s v))) seeded
          (λ i s l o v w. absurd (role-entity (w.6 ∙ valid-entity s v)))
          (λ a b l rec h. held-row a (bit_of P b) (rec (bit_of P b) (b, refl, l) (sym (valid-entity (bit_of P b) (b, refl, l))))) r s v q

-- Membership by the relation

module _ (P : Pool) (on : List ℕ) (small : P.count ≤ 128) (K : List ℕ) (rel : Relation P on K) where
  -- a bit that the relation has is a membership
  pub member-says : (a : Role) (b : ℕ) → bits K (row_of P a) (bit_of P b) ≡ true → bit_of P b < P.count → From (chosen P on) (E.Role a) (E.Entity b)
  member-says a b h l =
      let r = rel.says (row_of P a) (bit_of P b) h in
      let lr : row_of P a < P.count = r.0 in
      let ha = row-found P small a (omega arith) in
      let hb = bit_found P small b (omega arith) in
      subst (λ (x : Expression). From (chosen P on) (E.Role a) x) hb.1
      (subst (λ (p : Role). From (chosen P on) (E.Role p) (body_at P (bit_of P b))) ha.1 r.1)

-- What is from e at once

pub bits_below : (K : List ℕ) (r s : ℕ) → bits K r s ≡ true → s < 128
unfolding bits
bits_below K r s h = ltb-true s 128 (and_parts (ltb s 128) _ h).0

module _ (P : Pool) (on : List ℕ) (small : P.count ≤ 128) (K : List ℕ) (rel : Relation P on K) (e : Expression) where
  own-says : (a : Role) (m : ℕ) (y : Expression) → own_role P K a m y ≡ true → From (chosen P on) (E.Linked a m) y
  own-says a m (E.Entity b) h = absurd (false-true h)
  own-says a m (E.Role q) h =
      let k = and_parts (eqb q.name m) _ h in
      let l : bit_of P q.entity < P.count = ⊎_elim (λ l. l)
      (λ z. absurd (let s : bit_of P q.entity < 128 = bits_below K (row_of P a) _ k.1 in omega arith)) (bit-cases P small q.entity) in
      subst (λ (z : ℕ). From (chosen P on) (E.Linked a m) (E.Role (role_of q.entity z))) (sym (eqb-true q.name m k.0))
      (linking (member-says P on small K rel a q.entity k.1 l))
  own-says a m (E.Linked p n) h = absurd (false-true h)
  own-says a m (E.Intersection p) h = absurd (false-true h)
  own-says a m (E.Goal n) h = absurd (false-true h)

  link-says : (x : Expression) → own_link P K e x ≡ true → From (chosen P on) x e
  link-says (E.Entity b) h = absurd (false-true h)
  link-says (E.Role p) h = absurd (false-true h)
  link-says (E.Linked a m) h = own-says a m e h
  link-says (E.Intersection p) h = absurd (false-true h)
  link-says (E.Goal n) h = absurd (false-true h)

  -- what is from e at once is from e
  pub once-says : (x : Expression) → at_once P K e x ≡ true → From (chosen P on) x e
  unfolding at_once
  once-says x h = ⊎_elim (λ q. subst (λ (y : Expression). From (chosen P on) x y) (same-eq x e q) reflexive) (λ q. link-says x q) (or_cases _ _ h)

  -- e is from e at once
  pub once-same : (x : Expression) → x ≡ e → at_once P K e x ≡ true
  unfolding at_once
  once-same x q = or_left _ _ (eq-same x e q)

  own-set : (a : Role) (m b : ℕ) (y : Expression) → bits K (row_of P a) (bit_of P b) ≡ true → E.Role (role_of b m) ≡ y → own_role P K a m y ≡ true
  own-set a m b y h q = subst (λ (z : Expression). own_role P K a m z ≡ true) q (and_both _ _ (eq-eqb m m refl) h)

  -- a.m is from B.m at once, where B is in a
  pub once_link : (x : Expression) (a : Role) (m b : ℕ) → x ≡ E.Linked a m → bits K (row_of P a) (bit_of P b) ≡ true → E.Role (role_of b m) ≡ e
      → at_once P K e x ≡ true
  unfolding at_once
  once_link x a m b q h z = rw q (or_right (same (E.Linked a m) e) _ (own-set a m b e h z))

-- A question: bit 0 of the rows L stands for e

module _ (P : Pool) (on : List ℕ) (small : P.count ≤ 128) (K : List ℕ) (rel : Relation P on K) (e : Expression) (X : Rules) (comp : Compiled P e X)
    (one : X.words ≡ 1)
    (K₀ L : List ℕ) (asked : Asked P on K e K₀) (closed : Closed X on false K K₀ L) where
  abbrev Truer : ℕ → ℕ → Bool
  Truer = Truth P on small e (λ s. e) true (λ q s. refl)

  members : (a : Role) (b : ℕ) → bit_of P b < P.count → bits K (row_of P a) (bit_of P b) ≡ true → From (chosen P on) (E.Role a) (E.Entity b)
  members a b l h = member-says P on small K rel a b h l

  start-true : Within (bits K₀) Truer
  unfolding Truth
  start-true =
      record { within = λ r s h. ⊎_elim (λ q. rw q refl) (λ k. to-truth P on small e (λ s. e) true (λ q s. refl) r s k.0 k.1) (asked.says r s h) }

  within-asked : Within (bits L) Truer
  within-asked = closed.grown.least Truer (truth-model P on small e (λ s. e) true (λ q s. refl) X comp false K members) start-true

  in-zero : (s : ℕ) → s ≡ 0 → Used X s
  in-zero s q = omega arith

  at-start : (i s : ℕ) → i < P.count → el on i ≡ 1 → s ≡ 0 → at_once P K e (body_at P i) ≡ true → bits L (row_of P (head_at P i)) s ≡ true
  at-start i s l o v h = rw v (closed.grown.kept.within _ 0 (asked.seeds i l o h))

  -- rows closed from where a question starts answer it
  pub answers : Answers P on e 0 L
  answers =
      record {
        sized = closed.grown.sized;
        says =
            λ r h. let k = within-asked.within r 0 h in ⊎_elim (λ z. inl z.0)
            (λ l. inr (l, from-truth P on small e (λ s. e) true (λ q s. refl) r 0 l k)) (truth-row P on small e (λ s. e) true (λ q s. refl) r 0 k);
        all =
            λ p h. all_held P on small e (λ s. e) true (λ q s. refl) X (Used X) L (bits K) within-asked comp
            (λ i l o. closed.model.rule i (rw comp.count l) o) (λ s. s ≡ 0) in-zero
            (λ s p v q. rw v (closed.grown.kept.within (row_for P e p) 0 (asked.own p q)))
            (λ i s l o v q. at-start i s l o v (once-same P on small K rel e (body_at P i) q))
            (λ i s l o v k. at-start i s l o v (once_link P on small K rel e (body_at P i) k.0 k.1 k.2 k.3 k.5 k.6))
            (λ a b l rec r. rel.all a b l (unreach r))
            (reach h) 0 refl refl;
      }

-- the entities of a role have bits
pub in_body : (P : Pool) (on : List ℕ) → P.count ≤ 128 → (c : ℕ) {a : Role} → Reach (chosen P on) (E.Role a) (E.Entity c) → bit_of P c < P.count
unfolding chosen
in_body P on small c h =
    let k = role-ends c h in
    let r = chosen-find P on P.count k.0 k.1 in
    (bit-here P small c r.0 r.1 (ap (λ (x : Credential). x.body) (sym r.3) ∙ k.2)).0

-- The rows of an entity

-- the rows L have, as bit 0, bit s of the rows of K below k
pub record Moved (K : List ℕ) (s k : ℕ) (L : List ℕ) : Type 0 where
  pub sized : length L ≡ 260
  pub says : (r t : ℕ) → bits L r t ≡ true → bits K r s ≡ true
  pub all : (r : ℕ) → r < k → bits K r s ≡ true → bits L r 0 ≡ true

module _ (P : Pool) (on : List ℕ) (small : P.count ≤ 128) (K : List ℕ) (rel : Relation P on K) (b : ℕ) where
  -- the relation's rows answer about an entity that is a body, by its bit
  pub answers-entity : bit_of P b < P.count → Answers P on (E.Entity b) (bit_of P b) K
  answers-entity l =
      record {
        sized = rel.sized;
        says =
            λ r h. let z = rel.says r (bit_of P b) h in inr
            (z.0, subst (λ (y : Expression). From (chosen P on) (E.Role (head_at P r)) y) (bit_found P small b (omega arith)).1 z.1);
        all = λ p h. rw (← row_plain P b p) (rel.all p b l h);
      }

  -- where no credential has the entity as its body, it is from itself alone
  pub answered-alone : bit_of P b ≡ 128 → (f : Expression) → same f (E.Entity b) ≡ from? (chosen P on) f (E.Entity b)
  unfolding chosen
  answered-alone none f = decides (chosen P on) f (E.Entity b) (same f (E.Entity b))
      (λ h. subst (λ (y : Expression). From (chosen P on) f y) (same-eq f (E.Entity b) h) reflexive)
      (λ h. ⊎_elim (λ q. eq-same f (E.Entity b) q)
      (λ k.
      let r = chosen-find P on P.count k.0 k.1 in
      let l = bit-here P small b r.0 r.1 (ap (λ (x : Credential). x.body) (sym r.3) ∙ k.2) in
      let m : bit_of P b < P.count = l.0 in
      absurd (omega arith)) (ends b (reach h) refl))

  -- an entity that is no body is in no role
  pub answers-none : bit_of P b ≡ 128 → (L : List ℕ) → length L ≡ 260 → ((r s : ℕ) → bits L r s ≡ true → ⊥) → Answers P on (E.Entity b) 0 L
  answers-none z L sized empty =
      record {
        sized = sized;
        says = λ r h. absurd (empty r 0 h);
        all = λ p h. absurd (let l = in_body P on small b (reach h) in omega arith);
      }

  -- its bits, moved, answer what is from it
  pub answers-moved : bit_of P b < P.count → (k : ℕ) → P.count ≤ k → (L : List ℕ) → Moved K (bit_of P b) k L → Answers P on (E.Entity b) 0 L
  answers-moved l k le L m =
      let ans = answers-entity l in
      record {
        sized = m.sized;
        says = λ r h. ans.says r (m.says r 0 h);
        all = λ p h.
            let q = ans.all p h in
            let lr : row_for P (E.Entity b) p < P.count = (rel.says (row_for P (E.Entity b) p) (bit_of P b) q).0 in
            m.all (row_for P (E.Entity b) p) (omega arith) q;
      }
