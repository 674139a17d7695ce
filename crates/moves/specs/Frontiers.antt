-- Frontiers, computed (section 5.3), and their three predicates. Assumes nothing.
use Rattle.std.specs.Prelude.{ℕ, zero, suc, Bool, true, false, not, List, [], ◌∷◌, ◌++◌, map, length}
use Rattle.expression.specs.declared.Credential.{Credential}
use Rattle.expression.specs.declared.Expression.{Expression}
use Rattle.expression.specs.declared.Expression.TheVariants as E
use Rattle.expression.specs.Same.{same}
use Rattle.rt0.specs.Lists.{any}
use Rattle.class.specs.declared.Name.{Name}
use Rattle.record.specs.declared.Pair.{Pair}
use Rattle.tables.specs.Lookup.{is_sensitive}
use Rattle.tables.specs.Public.{keep}
use Rattle.moves.specs.Initial.{is_subject_all}

-- all lists, one after another
abbrev pub gather : {A B : Type 0} → (A → List B) → List A → List B
gather f [] = []
gather f (x ∷ xs) = f x ++ gather f xs

-- the e' with x ← e' among the credentials
abbrev pub bodies_of : List Credential → Expression → List Expression
bodies_of C x = map (λ (c : Credential). c.body) (keep (λ (c : Credential). same (E.Role c.head) x) C)

-- the expressions reached from those of xs past the ones of which pred is not true, in so many steps
unfoldable pub spread : ℕ → (Expression → Bool) → List Credential → List Expression → List Expression
spread zero pred C xs = xs
spread (suc k) pred C xs = spread k pred C (xs ++ keep (λ y. not (any (same y) xs)) (gather (bodies_of C) (keep (λ x. not (pred x)) xs)))

-- frontier[pred, C] of all of xs together
unfoldable pub frontier_of : (Expression → Bool) → List Credential → List Expression → List Expression
frontier_of pred C xs = keep pred (spread (length C) pred C xs)

-- "oppo(e) is true when e is an entity, a subject-traces-all role, a linked role, or an intersection"
abbrev pub oppo : List Name → Expression → Bool
oppo ns (E.Entity a) = true
oppo ns (E.Role a) = is_subject_all ns a.name
oppo ns (E.Linked a r) = true
oppo ns (E.Intersection p) = true
oppo ns (E.Goal r) = true

-- "simp(e) is true when e is not a role"
abbrev pub simp : Expression → Bool
simp (E.Entity a) = true
simp (E.Role a) = false
simp (E.Linked a r) = true
simp (E.Intersection p) = true
simp (E.Goal r) = true

-- "sens(e) is true when e is not a non-sensitive role"
abbrev pub sens : List Pair → Expression → Bool
sens P (E.Entity a) = true
sens P (E.Role a) = is_sensitive P a
sens P (E.Linked a r) = true
sens P (E.Intersection p) = true
sens P (E.Goal r) = true
