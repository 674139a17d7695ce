-- Initial states, case by case. Assumes nothing.
use Rattle.std.specs.Prelude.{ℕ, ◌≡◌, Bool, not, cond, ◌&&◌, List}
use Rattle.std.proofs.Common.{sym, ◌∙◌}
use Rattle.std.proofs.Math.Path.{ap}
use Rattle.expression.specs.declared.Role.{Role}
use Rattle.expression.specs.declared.Parts.{Parts}
use Rattle.expression.specs.declared.Expression.{Expression}
use Rattle.expression.specs.declared.Expression.TheVariants as E
use Rattle.class.specs.declared.Name.{Name}
use Rattle.moves.specs.Initial.{is_subject_all, traced, initial_state}

pub traced-is : (b : Bool) {c : Bool} → b ≡ c → cond c 1 2 ≡ traced b
unfolding traced
traced-is b h = ap (λ (a : Bool). cond a 1 2) (sym h)

module _ (ns : List Name) (own : Bool) (e : Expression) where
  pub starts-entity : {a : ℕ} → e ≡ E.Entity a → 3 ≡ initial_state ns own e
  unfolding initial_state
  starts-entity h = ap (initial_state ns own) (sym h)

  pub starts-role : {a : Role} {b : Bool} {r : ℕ} → e ≡ E.Role a → b ≡ is_subject_all ns a.name → r ≡ traced b → r ≡ initial_state ns own e
  unfolding initial_state
  starts-role h be re = re ∙ ap traced be ∙ ap (initial_state ns own) (sym h)

  pub starts-linked : {a : Role} {s : ℕ} {b c : Bool} {r : ℕ} → e ≡ E.Linked a s → b ≡ is_subject_all ns a.name → c ≡ is_subject_all ns s
      → r ≡ traced (b && c) → r ≡ initial_state ns own e
  unfolding initial_state
  starts-linked h be ce re = re ∙ (λ i. traced (be i && ce i)) ∙ ap (initial_state ns own) (sym h)

  pub starts-intersection : {p : Parts} {r : ℕ} → e ≡ E.Intersection p → r ≡ traced (not own) → r ≡ initial_state ns own e
  unfolding initial_state
  starts-intersection h re = re ∙ ap (initial_state ns own) (sym h)

  pub starts-goal : {s : ℕ} → e ≡ E.Goal s → 1 ≡ initial_state ns own e
  unfolding initial_state
  starts-goal h = ap (initial_state ns own) (sym h)
