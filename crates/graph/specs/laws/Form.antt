-- Legal states are the four that a state byte has. Assumes nothing.
use Rattle.std.specs.Prelude.{ℕ, ◌<◌, ◌≡◌, true, eqb, ltb}
use Rattle.std.proofs.Common.{arith, ⊎_elim, eqb-true, ltb-true}
use Rattle.expression.specs.declared.Expression.{Expression}
use Rattle.expression.specs.declared.Expression.TheVariants as E
use Rattle.word.specs.laws.Bools.{and_parts, or_cases}
use Rattle.graph.specs.Form.{legal_state}

pub legal-few : (x : Expression) (t : ℕ) → legal_state x t ≡ true → t < 4
unfolding legal_state
legal-few (E.Entity a) t h = let z : t ≡ 3 = eqb-true t 3 h in omega arith
legal-few (E.Role a) t h = ltb-true t 4 h
legal-few (E.Linked a r) t h = ltb-true t 4 h
legal-few (E.Intersection p) t h = ltb-true t 4 (and_parts (ltb 0 t) (ltb t 4) h).1
legal-few (E.Goal r) t h =
    ⊎_elim (λ a. let z : t ≡ 1 = eqb-true t 1 a in omega arith) (λ a. let z : t ≡ 3 = eqb-true t 3 a in omega arith) (or_cases (eqb t 1) (eqb t 3) h)
