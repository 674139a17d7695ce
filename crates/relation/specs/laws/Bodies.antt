-- Whether the body of a credential is from e at once, by its numbers. Assumes nothing.
use Rattle.std.specs.Prelude.{ℕ, ◌+◌, ◌*◌, ◌≤◌, ◌<◌, ◌≡◌, Bool, ◌||◌, List, eqb}
use Rattle.std.proofs.Common.{arith, ◌∙◌, ap}
use Rattle.std.proofs.Math.Path.{refl, sym}
use Rattle.std.proofs.Math.Bool.{true, false}
use borrow.Author.Tests.{eqb-true, eq-eqb, ne_eqb, le-ltb}
use Rattle.expression.specs.declared.Role.{Role}
use Rattle.expression.specs.declared.Expression.{Expression}
use Rattle.expression.specs.declared.Expression.TheVariants as E
use Rattle.expression.specs.Form.{raw_of}
use Rattle.expression.specs.Same.{same}
use Rattle.rt0.specs.declared.Pool.{Pool}
use Rattle.rt0.specs.From.{role_of}
use Rattle.rt0.specs.laws.Pool.{body_at, expression_in}
use Rattle.closure.specs.laws.Rules.{el, bits}
use Rattle.rules.specs.laws.Table.{bit_of, row_of}
use Rattle.rules.specs.laws.Columns.{body_first, first_row}
use Rattle.rules.specs.laws.Column.{linked-kind}
use Rattle.relation.specs.laws.Relation.{own_role, own_link, at_once}
use Rattle.relation.specs.laws.Question.{own_bit, starts_at}
use Rattle.word.specs.laws.Bools.{no-and}

-- The body is a link that leads to e

module _ (P : Pool) (K : List ℕ) (i : ℕ) (e : Expression) where
  -- a body of another kind is no link
  pub own-kind : (el P.kinds (i * 2) ≡ 3 → ⊥) → false ≡ own_link P K e (body_at P i)
  own-kind h = go (body_at P i) refl
    where
      go : (x : Expression) → body_at P i ≡ x → false ≡ own_link P K e x
      go (E.Entity b) q = refl
      go (E.Role p) q = refl
      go (E.Linked a m) q = absurd (h (eqb-true (el P.kinds (i * 2)) 3 (linked-kind P i a m q)))
      go (E.Intersection p) q = refl
      go (E.Goal m) q = refl

  body-link : el P.kinds (i * 2) ≡ 3 → body_at P i ≡ E.Linked (role_of (el P.numbers (i * 8)) (el P.numbers (i * 8 + 1))) (el P.numbers (i * 8 + 2))
  unfolding expression_in
  body-link h = rw h

  abbrev A : Role
  A = role_of (el P.numbers (i * 8)) (el P.numbers (i * 8 + 1))

  -- a link with another name than e does not
  pub own_name : el P.kinds (i * 2) ≡ 3 → (el P.numbers (i * 8 + 2) ≡ (raw_of e).n1 → ⊥) → false ≡ own_link P K e (body_at P i)
  own_name h n = rw (body-link h) (go e n)
    where
      go : (e : Expression) → (el P.numbers (i * 8 + 2) ≡ (raw_of e).n1 → ⊥) → false ≡ own_role P K A (el P.numbers (i * 8 + 2)) e
      go (E.Entity b) n = refl
      go (E.Role q) n = rw (ne_eqb q.name (el P.numbers (i * 8 + 2)) (λ z. n (sym z)))
      go (E.Linked a m) n = refl
      go (E.Intersection p) n = refl
      go (E.Goal m) n = refl

  -- none does where e is no role, or its entity has no bit
  pub own-none : (s : ℕ) → s ≡ own_bit (bit_of P) e → 128 ≤ s → false ≡ own_link P K e (body_at P i)
  unfolding bits
  own-none s q l = over (body_at P i)
    where
      role : (a : Role) (m : ℕ) (e : Expression) → s ≡ own_bit (bit_of P) e → false ≡ own_role P K a m e
      role a m (E.Entity b) q = refl
      role a m (E.Role r) q = no-and (eqb r.name m) _ (rw (← q, le-ltb s 128 l))
      role a m (E.Linked p n) q = refl
      role a m (E.Intersection p) q = refl
      role a m (E.Goal n) q = refl

      over : (x : Expression) → false ≡ own_link P K e x
      over (E.Entity b) = refl
      over (E.Role p) = refl
      over (E.Linked a m) = role a m e q
      over (E.Intersection p) = refl
      over (E.Goal m) = refl

  -- a link with the name of e does where the membership row has the bit
  pub own_is : (s f : ℕ) {t : Bool} → el P.kinds (i * 2) ≡ 3 → el P.numbers (i * 8 + 2) ≡ (raw_of e).n1 → s ≡ own_bit (bit_of P) e → s < 128
      → f ≡ body_first P i → t ≡ bits K f s → t ≡ own_link P K e (body_at P i)
  own_is s f {t} h n q l g k = rw (body-link h) (go e n q)
    where
      first : f ≡ row_of P A
      first = g ∙ ap (first_row (row_of P)) (body-link h)

      go : (e : Expression) → el P.numbers (i * 8 + 2) ≡ (raw_of e).n1 → s ≡ own_bit (bit_of P) e → t ≡ own_role P K A (el P.numbers (i * 8 + 2)) e
      go (E.Entity b) n q = absurd (omega arith)
      go (E.Role r) n q = rw (eq-eqb r.name (el P.numbers (i * 8 + 2)) (sym n), ← q, ← first) k
      go (E.Linked a m) n q = absurd (omega arith)
      go (E.Intersection p) n q = absurd (omega arith)
      go (E.Goal m) n q = absurd (omega arith)

-- Whether credential i starts

module _ (P : Pool) (on K : List ℕ) (e : Expression) (i : ℕ) where
  -- it is off
  pub starts-off : (el on i ≡ 1 → ⊥) → false ≡ starts_at P on K e i
  unfolding starts_at
  starts-off h = rw (ne_eqb (el on i) 1 h)

  -- its body is a link that leads to e
  pub starts-link : {t : Bool} → el on i ≡ 1 → t ≡ own_link P K e (body_at P i) → t ≡ true → true ≡ starts_at P on K e i
  unfolding starts_at at_once
  starts-link o h k = rw (eq-eqb (el on i) 1 o, sym h ∙ k) (go (same (body_at P i) e))
    where
      go : (b : Bool) → true ≡ (b || true)
      go true = refl
      go false = refl

  -- its body is e, or not
  pub starts-same : {t u : Bool} → el on i ≡ 1 → t ≡ own_link P K e (body_at P i) → t ≡ false → u ≡ same (body_at P i) e → u ≡ starts_at P on K e i
  unfolding starts_at at_once
  starts-same {t} {u} o h k g = rw (eq-eqb (el on i) 1 o, sym h ∙ k, ← g) (go u)
    where
      go : (b : Bool) → b ≡ (b || false)
      go true = refl
      go false = refl
