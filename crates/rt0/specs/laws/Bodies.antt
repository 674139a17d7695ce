-- Whether the body of a credential is an expression, by its numbers. Assumes nothing.
use Rattle.std.specs.Prelude.{ℕ, ◌+◌, ◌*◌, ◌<◌, ◌≡◌, refl, Bool, true, false, List, eqb, get_or}
use Rattle.std.proofs.Common.{arith, ◌∙◌, subst, eqb-true, eq-eqb}
use Rattle.std.proofs.Math.Path.{sym, ap}
use Rattle.expression.specs.declared.Raw.{Raw}
use Rattle.expression.specs.declared.Expression.{Expression}
use Rattle.expression.specs.declared.Expression.TheVariants as E
use Rattle.expression.specs.Form.{raw_of, expression_of, pick_expression, same_raw}
use Rattle.expression.specs.Same.{same}
use Rattle.expression.specs.laws.Same.{same-eq, eq-same}
use Rattle.word.specs.laws.Bools.{bool_iff, false-true}
use Rattle.rt0.specs.From.{role_of}
use Rattle.rt0.specs.laws.Pool.{expression_in, raw_at_columns}

lead : (r : Raw) → (raw_of (expression_of r)).n0 ≡ r.n0
lead r = go (eqb r.kind 1) (eqb r.kind 2) (eqb r.kind 3) (eqb r.kind 4)
  where
    go : (t u v w : Bool) → (raw_of (pick_expression t (E.Entity r.n0)
        (pick_expression u (E.Role (record { entity = r.n0; name = r.n1 }))
        (pick_expression v (E.Linked (record { entity = r.n0; name = r.n1 }) r.n2)
        (pick_expression w (E.Intersection (record {
          count = r.count;
          first = record { entity = r.n0; name = r.n1 };
          second =
              record { entity = r.n2; name = r.n3 };
          third = record { entity = r.n4; name = r.n5 };
          fourth = record { entity = r.n6; name = r.n7 };
        }))
        (E.Goal r.n0)))))).n0 ≡ r.n0
    go true u v w = refl
    go false true v w = refl
    go false false true w = refl
    go false false false true = refl
    go false false false false = refl

kind-of : (r : Raw) → (raw_of (expression_of r)).kind < 5 → r.kind ≡ (raw_of (expression_of r)).kind
kind-of r = go (eqb r.kind 1) (eqb r.kind 2) (eqb r.kind 3) (eqb r.kind 4) refl refl refl refl
  where
    go : (t u v w : Bool) → eqb r.kind 1 ≡ t → eqb r.kind 2 ≡ u → eqb r.kind 3 ≡ v → eqb r.kind 4 ≡ w
        → (raw_of (pick_expression t (E.Entity r.n0)
        (pick_expression u (E.Role (record { entity = r.n0; name = r.n1 }))
        (pick_expression v (E.Linked (record { entity = r.n0; name = r.n1 }) r.n2)
        (pick_expression w (E.Intersection (record {
          count = r.count;
          first = record { entity = r.n0; name = r.n1 };
          second =
              record { entity = r.n2; name = r.n3 };
          third = record { entity = r.n4; name = r.n5 };
          fourth = record { entity = r.n6; name = r.n7 };
        }))
        (E.Goal r.n0)))))).kind < 5
        → r.kind ≡ (raw_of (pick_expression t (E.Entity r.n0)
        (pick_expression u (E.Role (record { entity = r.n0; name = r.n1 }))
        (pick_expression v (E.Linked (record { entity = r.n0; name = r.n1 }) r.n2)
        (pick_expression w (E.Intersection (record {
          count = r.count;
          first = record { entity = r.n0; name = r.n1 };
          second =
              record { entity = r.n2; name = r.n3 };
          third = record { entity = r.n4; name = r.n5 };
          fourth = record { entity = r.n6; name = r.n7 };
        })) (E.Goal r.n0)))))).kind
    go true u v w a b c d l = eqb-true r.kind 1 a
    go false true v w a b c d l = eqb-true r.kind 2 b
    go false false true w a b c d l = eqb-true r.kind 3 c
    go false false false true a b c d l = eqb-true r.kind 4 d
    go false false false false a b c d l = absurd (omega arith)

module _ (K N : List ℕ) (i : ℕ) (e : Expression) (raw : Raw) (is : raw ≡ raw_of e) where
  other : (same (expression_in K N i) e ≡ true → ⊥) → false ≡ same (expression_in K N i) e
  other n = bool_iff false _ (λ z. absurd (false-true z)) (λ h. absurd (n h))

  -- a body of another kind is not e
  pub body-kind : raw.kind < 5 → (get_or K (i * 2) 0 ≡ raw.kind → ⊥) → false ≡ same (expression_in K N i) e
  unfolding expression_in
  body-kind l n =
      other (λ h.
      let q = same-eq (expression_in K N i) e h in
      n (kind-of (raw_at_columns K N i) (subst (λ (x : Expression). (raw_of x).kind < 5) (sym q) (subst (λ (r : Raw). r.kind < 5) is l))
      ∙ (ap (λ (x : Expression). (raw_of x).kind) q ∙ sym (ap (λ (r : Raw). r.kind) is))))

  -- nor is one that begins with another number
  pub body-lead : (get_or N (i * 8) 0 ≡ raw.n0 → ⊥) → false ≡ same (expression_in K N i) e
  unfolding expression_in
  body-lead n =
      other (λ h. n (sym (lead (raw_at_columns K N i))
      ∙ (ap (λ (x : Expression). (raw_of x).n0) (same-eq (expression_in K N i) e h) ∙ sym (ap (λ (r : Raw). r.n0) is))))

  body-role : get_or K (i * 2) 0 ≡ 2 → expression_in K N i ≡ E.Role (role_of (get_or N (i * 8) 0) (get_or N (i * 8 + 1) 0))
  unfolding expression_in
  body-role h = rw h

  -- a role is e where both numbers are
  pub body-two : raw.kind ≡ 2 → get_or K (i * 2) 0 ≡ raw.kind → get_or N (i * 8) 0 ≡ raw.n0
      → eqb (get_or N (i * 8 + 1) 0) raw.n1 ≡ same (expression_in K N i) e
  body-two k g n = rw (body-role (g ∙ k), is) (go e (rw is at k) (rw is at n))
    where
      go : (e : Expression) → (raw_of e).kind ≡ 2 → get_or N (i * 8) 0 ≡ (raw_of e).n0
          → eqb (get_or N (i * 8 + 1) 0) (raw_of e).n1 ≡ same (E.Role (role_of (get_or N (i * 8) 0) (get_or N (i * 8 + 1) 0))) e
      go (E.Entity b) k n = absurd (omega arith)
      go (E.Role q) k n = bool_iff _ _ (λ h. eq-same _ _ (λ j. E.Role (record { entity = n j; name = eqb-true (get_or N (i * 8 + 1) 0) q.name h j })))
          (λ h. eq-eqb _ _ (ap (λ (x : Expression). (raw_of x).n1) (same-eq _ _ h)))
      go (E.Linked a m) k n = absurd (omega arith)
      go (E.Intersection p) k n = absurd (omega arith)
      go (E.Goal m) k n = absurd (omega arith)

  -- any body is e where all its numbers are
  pub body-raw : {b : Expression} {r : Raw} {t : Bool} → b ≡ expression_in K N i → r ≡ raw_of b → t ≡ same_raw r raw → t ≡ same (expression_in K N i) e
  unfolding same
  body-raw {b} {r} h k g = g ∙ (ap (λ (o : Raw). same_raw o raw) (k ∙ ap raw_of h) ∙ ap (same_raw (raw_of (expression_in K N i))) is)
