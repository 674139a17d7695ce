-- The form of each kind of edge (sections 4.1 and 4.2), from its parts. Assumes nothing.
use Rattle.std.specs.Prelude.{ℕ, ◌≡◌, refl, Bool, true, false, cond, ◌&&◌, eqb, ltb}
use Rattle.std.proofs.Common.{arith, sym, ◌∙◌, ap, eq-eqb, ne_eqb, eqb-true}
use Rattle.std.proofs.Math.Bool.{not}
use mathlib.Core.List.{List, Memᴰ}
use Rattle.std.proofs.lemmas.Bool.{eqb-false}
use Rattle.expression.specs.declared.Role.{Role}
use Rattle.expression.specs.declared.Parts.{Parts}
use Rattle.expression.specs.declared.Expression.{Expression}
use Rattle.expression.specs.declared.Expression.TheVariants as E
use Rattle.expression.specs.Credential.{is_body}
use Rattle.expression.specs.Same.{same}
use Rattle.expression.specs.laws.Same.{same-eq, eq-same}
use Rattle.rt0.specs.From.{roles_of}
use Rattle.rt0.specs.laws.Lists.{any_here}
use Rattle.word.specs.laws.Bools.{false-true, and_both}
use Rattle.graph.specs.declared.Node.{Node}
use Rattle.graph.specs.Form.{is_standard, is_target, is_named, is_monitor, is_solution, is_first, has_role, is_part, same_verifier, same_ends, form, legal_state}
use Rattle.class.specs.declared.Name.{Name}
use Rattle.negotiation.specs.Ends.{other_side}
use Rattle.moves.specs.Initial.{traced, initial_state}
use Rattle.moves.specs.Rules.{suits_node}

module _ (v : ℕ) (p c : Node) where
  ends : c.verifier ≡ p.verifier → c.subject ≡ p.subject → same_ends p c ≡ true
  ends a b =
      and_both (eqb c.verifier p.verifier) (eqb c.subject p.subject) (eq-eqb c.verifier p.verifier a) (eq-eqb c.subject p.subject b)

  pub form-one : is_standard p.expression ≡ true → is_target c.expression c.subject ≡ true → c.verifier ≡ p.verifier
      → c.subject ≡ p.subject → form 1 v p c ≡ true
  unfolding form
  form-one s t a b =
      and_both (is_standard p.expression && is_target c.expression c.subject) (same_ends p c)
      (and_both (is_standard p.expression) (is_target c.expression c.subject) s t) (ends a b)

  pub form-two : {a : Role} {r : ℕ} → p.expression ≡ E.Linked a r → c.expression ≡ E.Goal r → c.verifier ≡ p.verifier → c.subject ≡ p.subject
      → form 2 v p c ≡ true
  unfolding form
  form-two {r = r} e f a b =
      and_both (is_monitor p.expression c.expression) (same_ends p c)
      (ap (λ (x : Expression). is_monitor x c.expression) e ∙ eq-same c.expression (E.Goal r) f) (ends a b)

  pub form-three : {r : ℕ} → p.expression ≡ E.Goal r → is_named r c.expression ≡ true → c.verifier ≡ p.verifier → c.subject ≡ p.subject
      → form 3 v p c ≡ true
  unfolding form
  form-three e f a b =
      and_both (is_solution p.expression c.expression) (same_ends p c) (ap (λ (x : Expression). is_solution x c.expression) e ∙ f) (ends a b)

  pub form-four : {a : Role} {r : ℕ} → p.expression ≡ E.Linked a r → c.expression ≡ E.Role a → c.verifier ≡ p.verifier → form 4 v p c ≡ true
  unfolding form
  form-four {a = a} e f b =
      and_both (is_first p.expression c.expression) (same_verifier p c)
      (ap (λ (x : Expression). is_first x c.expression) e ∙ eq-same c.expression (E.Role a) f) (eq-eqb c.verifier p.verifier b)

  pub form-five : {q : Parts} {a : Role} → p.expression ≡ E.Intersection q → Memᴰ a (roles_of q) → c.expression ≡ E.Role a
      → c.verifier ≡ p.verifier → c.subject ≡ p.subject → form 5 v p c ≡ true
  unfolding form has_role
  form-five {a = a} e m f b d =
      and_both (is_part p.expression c.expression) (same_ends p c)
      (ap (λ (x : Expression). is_part x c.expression) e
      ∙ any_here (λ (r : Role). same c.expression (E.Role r)) m (eq-same c.expression (E.Role a) f)) (ends b d)

  pub form-six : is_standard p.expression ≡ true → is_standard c.expression ≡ true → (c.verifier ≡ p.verifier → ⊥) → c.subject ≡ v → form 6 v p c ≡ true
  unfolding form
  form-six s t a b =
      and_both (is_standard p.expression && is_standard c.expression && not (same_verifier p c)) (eqb c.subject v)
      (and_both (is_standard p.expression && is_standard c.expression) (not (same_verifier p c))
      (and_both (is_standard p.expression) (is_standard c.expression) s t) (ap not (ne_eqb c.verifier p.verifier a)))
      (eq-eqb c.subject v b)

abbrev number : Expression → ℕ
number (E.Entity a) = a
number (E.Role a) = 0
number (E.Linked a r) = 0
number (E.Intersection p) = 0
number (E.Goal r) = 0

pub entity-eq : {a b : ℕ} → E.Entity a ≡ E.Entity b → a ≡ b
entity-eq e = ap number e

-- a body that suits the node is a target about its subject
pub body-target : (n : Node) (x : Expression) → is_body x ≡ true → suits_node n x ≡ true → is_target x n.subject ≡ true
body-target n (E.Entity a) b s = eq-eqb a n.subject (entity-eq (same-eq (E.Entity a) (E.Entity n.subject) s))
body-target n (E.Role a) b s = refl
body-target n (E.Linked a r) b s = refl
body-target n (E.Intersection p) b s = refl
body-target n (E.Goal r) b s = absurd (false-true b)

-- the other side is another
pub other-side : (v : ℕ) → other_side v ≡ v → ⊥
other-side v h = go (eqb v 0) refl h
  where
    go : (b : Bool) → eqb v 0 ≡ b → cond b 1 0 ≡ v → ⊥
    go true e q = let z : v ≡ 0 = eqb-true v 0 e in omega (arith, z, q)
    go false e q = eqb-false v 0 e (sym q)

-- the state in which a new node starts is legal
traced-cases : (b : Bool) → ((ltb 0 (traced b) ≡ true) × (ltb (traced b) 4 ≡ true))
unfolding traced
traced-cases true = (refl, refl)
traced-cases false = (refl, refl)

pub initial-legal : (ns : List Name) (own : Bool) (x : Expression) → legal_state x (initial_state ns own x) ≡ true
unfolding legal_state initial_state
initial-legal ns own (E.Entity a) = refl
initial-legal ns own (E.Role a) = (traced-cases _).1
initial-legal ns own (E.Linked a r) = (traced-cases _).1
initial-legal ns own (E.Intersection p) = and_both (ltb 0 (traced (not own))) (ltb (traced (not own)) 4) (traced-cases (not own)).0 (traced-cases (not own)).1
initial-legal ns own (E.Goal r) = refl
