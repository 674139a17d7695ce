-- A decision of role containment: the facts "head of c from s" for each credential c and each source s, learnt pass by pass until a pass
-- learns none. Sources are the expression asked about and the entities that stand as bodies. Assumes nothing.
use Rattle.std.specs.Prelude.{ℕ, zero, suc, Bool, false, ◌&&◌, ◌||◌, cond, List, [], ◌∷◌, ◌++◌, map, eqb, length}
use Rattle.expression.specs.declared.Role.{Role}
use Rattle.expression.specs.declared.Credential.{Credential}
use Rattle.expression.specs.declared.Expression.{Expression}
use Rattle.expression.specs.declared.Expression.TheVariants as E
use Rattle.expression.specs.Same.{same, same_role}
use Rattle.rt0.specs.From.{role_of, roles_of}
use Rattle.rt0.specs.Lists.{any, all}

pub record Fact : Type 0 where
  pub cred : Credential
  pub src : Expression
  pub known : Bool

-- the fact t says that p is from s
abbrev pub says : Role → Expression → Fact → Bool
says p s t = t.known && (same_role p t.cred.head && same t.src s)

unfoldable pub role_from : List Fact → Role → Expression → Bool
role_from T p s = same (E.Role p) s || any (says p s) T

-- a.n from s by way of the entity b
abbrev pub via : List Fact → Role → ℕ → Expression → Expression → Bool
via T a n s (E.Entity b) = role_from T a (E.Entity b) && role_from T (role_of b n) s
via T a n s (E.Role p) = false
via T a n s (E.Linked p m) = false
via T a n s (E.Intersection p) = false
via T a n s (E.Goal m) = false

-- f from s by the facts T, links going by way of the entities among S
unfoldable pub reaches : List Fact → List Expression → Expression → Expression → Bool
reaches T S (E.Entity b) s = same (E.Entity b) s
reaches T S (E.Role p) s = role_from T p s
reaches T S (E.Linked a n) s = same (E.Linked a n) s || any (via T a n s) S
reaches T S (E.Intersection p) s = same (E.Intersection p) s || all (λ a. role_from T a s) (roles_of p)
reaches T S (E.Goal n) s = same (E.Goal n) s

-- a fact is learnt where the test g finds it
abbrev pub learn : (Fact → Bool) → Fact → Fact
learn g t = record { cred = t.cred; src = t.src; known = t.known || g t }

abbrev pub found : List Expression → List Fact → Fact → Bool
found S T t = reaches T S t.cred.body t.src

unfoldable pub pass : List Expression → List Fact → List Fact
pass S T = map (learn (found S T)) T

abbrev pub unknown : Fact → ℕ → ℕ
unknown t n = cond t.known n (suc n)

abbrev pub unknowns : List Fact → ℕ
unknowns [] = 0
unknowns (t ∷ T) = unknown t (unknowns T)

-- passes until one learns nothing, at most n
unfoldable pub close : ℕ → List Expression → List Fact → List Fact
close zero S T = T
close (suc n) S T =
    let U : List Fact = pass S T in
    let r : List Fact = close n S U in
    cond (eqb (unknowns U) (unknowns T)) T r

abbrev pub ask : Credential → Expression → Fact
ask c s = record { cred = c; src = s; known = false }

abbrev pub start : List Credential → List Expression → List Fact
start [] S = []
start (c ∷ C) S = map (ask c) S ++ start C S

abbrev pub entity_first : Expression → List Expression → List Expression
entity_first (E.Entity b) S = E.Entity b ∷ S
entity_first (E.Role p) S = S
entity_first (E.Linked p n) S = S
entity_first (E.Intersection p) S = S
entity_first (E.Goal n) S = S

abbrev pub entities : List Credential → List Expression
entities [] = []
entities (c ∷ C) = entity_first c.body (entities C)

abbrev pub sources : List Credential → Expression → List Expression
sources C e = e ∷ entities C

unfoldable pub closure : List Credential → Expression → List Fact
closure C e = close (length (start C (sources C e))) (sources C e) (start C (sources C e))

-- whether f from e
unfoldable pub from? : List Credential → Expression → Expression → Bool
from? C f e = reaches (closure C e) (sources C e) f e
