-- Where a frontier stops: the bodies of which its predicate is true. Assumes nothing.
use Rattle.std.specs.Prelude.{ℕ, ◌+◌, ◌≤◌, ◌<◌, ◌≡◌, Bool, true, false, cond, List, eqb, length, set}
use Rattle.std.proofs.Common.{arith, sym, ◌∙◌, ⊎_elim, eqb-true, length-set, get_or-set_same, get_or-set_other}
use Rattle.std.proofs.Math.Path.{refl, ap}
use Rattle.std.proofs.lemmas.Bool.{eqb-false}
use Rattle.expression.specs.declared.Role.{Role}
use Rattle.expression.specs.declared.Expression.{Expression}
use Rattle.expression.specs.declared.Expression.TheVariants as E
use Rattle.expression.specs.Kinds.{is_role_expression}
use Rattle.word.specs.laws.Bools.{false-true}
use Rattle.rt0.specs.declared.Pool.{Pool}
use Rattle.rt0.specs.laws.Pool.{body_at}
use Rattle.class.specs.declared.Name.{Name}
use Rattle.record.specs.declared.Pair.{Pair}
use Rattle.tables.specs.Lookup.{is_sensitive}
use Rattle.propagation.specs.laws.Flags.{flag, decided, flag_is}
use Rattle.frontier.specs.laws.Frontier.{Stops}
use Rattle.moves.specs.declared.Predicate.{Predicate}
use Rattle.moves.specs.declared.Predicate.TheVariants.{Oppo, Simp, Sens}
use Rattle.moves.specs.Initial.{is_subject_all}
use Rattle.moves.specs.Frontiers.{oppo, simp, sens}

unfoldable pub predicate_of : Predicate → List Name → List Pair → Expression → Bool
predicate_of Oppo ns P x = oppo ns x
predicate_of Simp ns P x = simp x
predicate_of Sens ns P x = sens P x

-- of a role
module _ (p : Predicate) (ns : List Name) (P : List Pair) (a : Role) {b : Bool} where
  pub oppo-at : p ≡ Oppo → b ≡ is_subject_all ns a.name → b ≡ predicate_of p ns P (E.Role a)
  unfolding predicate_of
  oppo-at h e = e ∙ ap (λ (q : Predicate). predicate_of q ns P (E.Role a)) (sym h)

  pub simp-at : p ≡ Simp → b ≡ false → b ≡ predicate_of p ns P (E.Role a)
  unfolding predicate_of
  simp-at h e = e ∙ ap (λ (q : Predicate). predicate_of q ns P (E.Role a)) (sym h)

  pub sens-at : p ≡ Sens → b ≡ is_sensitive P a → b ≡ predicate_of p ns P (E.Role a)
  unfolding predicate_of
  sens-at h e = e ∙ ap (λ (q : Predicate). predicate_of q ns P (E.Role a)) (sym h)

-- every predicate is true of what is no role
module _ (ns : List Name) (P : List Pair) where
  no-role : (p : Predicate) (x : Expression) → is_role_expression x ≡ false → true ≡ predicate_of p ns P x
  unfolding predicate_of
  no-role Oppo (E.Entity a) h = refl
  no-role Oppo (E.Role a) h = absurd (false-true (sym h))
  no-role Oppo (E.Linked a r) h = refl
  no-role Oppo (E.Intersection q) h = refl
  no-role Oppo (E.Goal r) h = refl
  no-role Simp (E.Entity a) h = refl
  no-role Simp (E.Role a) h = absurd (false-true (sym h))
  no-role Simp (E.Linked a r) h = refl
  no-role Simp (E.Intersection q) h = refl
  no-role Simp (E.Goal r) h = refl
  no-role Sens (E.Entity a) h = refl
  no-role Sens (E.Role a) h = absurd (false-true (sym h))
  no-role Sens (E.Linked a r) h = refl
  no-role Sens (E.Intersection q) h = refl
  no-role Sens (E.Goal r) h = refl

  module _ (p : Predicate) (e : Expression) where
    pub stop-other : (x : Expression) → e ≡ x → is_role_expression x ≡ false → true ≡ predicate_of p ns P e
    stop-other x h z = no-role p e (ap is_role_expression h ∙ z)

    pub stop-role : {a : Role} {b : Bool} → e ≡ E.Role a → b ≡ predicate_of p ns P (E.Role a) → b ≡ predicate_of p ns P e
    stop-role h be = be ∙ ap (predicate_of p ns P) (sym h)

-- the first i are told
pub record Told (pred : Expression → Bool) (P : Pool) (i : ℕ) (r : List ℕ) : Type 0 where
  pub sized : length r ≡ 128
  pub says : (j : ℕ) → j < i → flag r j ≡ pred (body_at P j)

module _ (pred : Expression → Bool) (P : Pool) where
  pub told-start : (r : List ℕ) → length r ≡ 128 → Told pred P 0 r
  told-start r l = record { sized = l; says = λ j h. absurd (omega arith) }

  pub told-next : {i v : ℕ} {r q : List ℕ} {b : Bool} {e : Expression} → Told pred P i r → i < 128 → e ≡ body_at P i → b ≡ pred e → v ≡ cond b 1 0
      → q ≡ set r i v → Told pred P (i + 1) q
  told-next {i} {v} {r} {q} {b} {e} t l ee be ve qe =
      record {
        sized = ap length qe ∙ length-set r i v ∙ t.sized;
        says = λ j h.
            ⊎_elim
            (λ z.
            let same : j ≡ i = eqb-true j i z in
            ap (λ (x : List ℕ). flag x j) qe ∙ ap (flag (set r i v)) same ∙ ap (λ (x : ℕ). eqb x 1) (get_or-set_same r i v 0 (omega (arith, t.sized)))
            ∙ ap (λ (x : ℕ). eqb x 1) ve ∙ flag_is b ∙ be ∙ ap pred ee ∙ ap (λ (k : ℕ). pred (body_at P k)) (sym same))
            (λ z. ap (λ (x : List ℕ). flag x j) qe ∙ ap (λ (x : ℕ). eqb x 1) (get_or-set_other r i j v 0 (eqb-false j i z))
            ∙ t.says j (omega (arith, eqb-false j i z)))
            (decided (eqb j i));
      }

  pub told-all : {i : ℕ} {r : List ℕ} → Told pred P i r → P.count ≤ i → Stops pred P r
  told-all t l = record { stops = λ j h. t.says j (omega arith) }
