-- What class an expression has, and which credentials keep the class rules (document 01, "Classes"). Assumes nothing.
use Rattle.std.specs.Prelude.{ℕ, Bool, true, false, cond, ◌&&◌, ◌||◌, List, map, eqb}
use Rattle.expression.specs.declared.Role.{Role}
use Rattle.expression.specs.declared.Credential.{Credential}
use Rattle.expression.specs.declared.Expression.{Expression}
use Rattle.expression.specs.declared.Expression.TheVariants as E
use Rattle.rt0.specs.From.{roles_of}
use Rattle.rt0.specs.Lists.{all}
use Rattle.class.specs.declared.Name.{Name}
use Rattle.class.specs.declared.Typing.{Typing}
use Rattle.class.specs.declared.Typing.TheVariants.{Ill, Any, Class}
use Rattle.class.specs.Names.{class_of}
use Rattle.numbers.specs.Refusals.{CLASS}

-- "A linked role is subject-all if both names are; issuer-all if both are; issuer-def if the first is 1 or 2 and the second 3, or the first 2
-- and the second 1; otherwise ill-typed."
unfoldable pub linked : ℕ → ℕ → Typing
linked a b =
    cond (eqb a 3 && eqb b 3) (Class 3)
    (cond (eqb a 2 && eqb b 2) (Class 2)
    (cond ((eqb a 1 || eqb a 2) && eqb b 3) (Class 1)
    (cond (eqb a 2 && eqb b 1) (Class 1)
    Ill)))

-- "An intersection is of class 2 or 3 if all parts are, else 1."
unfoldable pub together : List ℕ → Typing
together ks =
    cond (all (λ k. eqb k 3) ks) (Class 3)
    (cond (all (λ k. eqb k 2) ks) (Class 2)
    (Class 1))

-- "An entity suits every class." A role and a goal have the class of their name.
unfoldable pub type_of : List Name → Expression → Typing
type_of ns (E.Entity b) = Any
type_of ns (E.Role r) = Class (class_of ns r.name)
type_of ns (E.Linked r m) = linked (class_of ns r.name) (class_of ns m)
type_of ns (E.Intersection p) = together (map (λ (r : Role). class_of ns r.name) (roles_of p))
type_of ns (E.Goal m) = Class (class_of ns m)

-- "A credential whose head is class 2 or 3 needs a body of that class; class 1 takes any well-typed body."
abbrev pub suits : Typing → ℕ → Bool
suits Ill k = false
suits Any k = true
suits (Class a) k = eqb k 1 || eqb a k

-- a credential: "5 a class rule broken" ("From the input"), or zero
unfoldable pub credential_number : List Name → Credential → ℕ
credential_number ns c = cond (suits (type_of ns c.body) (class_of ns c.head.name)) 0 CLASS
