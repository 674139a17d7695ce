-- Names that are listed, and names that are not (request 2). Assumes nothing.
use Rattle.std.specs.Prelude.{ℕ, ◌≡◌, refl, Bool, true, false, cond, eqb}
use Rattle.std.proofs.Common.{sym, ap, ⊎_elim, eqb-true}
use mathlib.Core.List.Memᴰ
use mathlib.Core.List.{List, [], ◌∷◌, map, Memᴰ}
use Rattle.std.proofs.lemmas.Bool.{eqb-false}
use Rattle.expression.specs.declared.Role.{Role}
use Rattle.expression.specs.declared.Expression.{Expression}
use Rattle.expression.specs.declared.Expression.TheVariants as E
use Rattle.rt0.specs.From.{roles_of}
use Rattle.rt0.specs.Lists.{all}
use Rattle.class.specs.declared.Name.{Name}
use Rattle.class.specs.Names.{class_of}
use Rattle.class.specs.Typing.{linked, together, type_of, suits}

-- a listed name has the class of its record, if no two records differ on it
pub class-listed : (ns : List Name) (n : Name) → Memᴰ n ns → ((k : Name) → Memᴰ k ns → k.name ≡ n.name → k.class ≡ n.class)
    → class_of ns n.name ≡ n.class
unfolding class_of
class-listed [] n m u = absurd (Memᴰ.not-nil m)
class-listed (k ∷ ns) n m u = go (eqb k.name n.name) refl (λ j. class-listed ns n j (λ x p. u x (Memᴰ.tail p)))
  where
    go : (b : Bool) → eqb k.name n.name ≡ b → (Memᴰ n ns → class_of ns n.name ≡ n.class)
        → cond b k.class (class_of ns n.name) ≡ n.class
    go true e rest = u k (Memᴰ.head refl) (eqb-true k.name n.name e)
    go false e rest =
        ⊎_elim (λ q. absurd (eqb-false k.name n.name e (ap (λ (x : Name). x.name) (sym q)))) rest (Memᴰ.cases_cons m)

-- one that is not listed is subject-all
pub class-unlisted : (ns : List Name) (m : ℕ) → ((k : Name) → Memᴰ k ns → k.name ≡ m → ⊥) → class_of ns m ≡ 3
unfolding class_of
class-unlisted [] m u = refl
class-unlisted (k ∷ ns) m u = go (eqb k.name m) refl (class-unlisted ns m (λ x p. u x (Memᴰ.tail p)))
  where
    go : (b : Bool) → eqb k.name m ≡ b → class_of ns m ≡ 3 → cond b k.class (class_of ns m) ≡ 3
    go true e rest = absurd (u k (Memᴰ.head refl) (eqb-true k.name m e))
    go false e rest = rest

-- Where no name is listed

all-unlisted : (L : List Role) → all (λ k. eqb k 3) (map (λ (r : Role). class_of [] r.name) L) ≡ true
unfolding class_of
all-unlisted [] = refl
all-unlisted (r ∷ L) = all-unlisted L

-- every body suits a head that is subject-all
pub suits-unlisted : (e : Expression) → suits (type_of [] e) 3 ≡ true
unfolding type_of linked together class_of
suits-unlisted (E.Entity b) = refl
suits-unlisted (E.Role r) = refl
suits-unlisted (E.Linked r m) = refl
suits-unlisted (E.Intersection p) = rw (all-unlisted (roles_of p))
suits-unlisted (E.Goal m) = refl
