-- frontier[pred, C] of document 003, section 5.3, and the chains of credentials by which it is found. Assumes nothing.
use Rattle.std.specs.Prelude.{◌≡◌, Bool, true, false}
use mathlib.Core.List.{List, Memᴰ}
use Rattle.expression.specs.declared.Credential.{Credential}
use Rattle.expression.specs.declared.Expression.{Expression}
use Rattle.expression.specs.declared.Expression.TheVariants as E

-- f is in frontier[pred, C](e), "the pointwise-minimal function satisfying the following system of equalities and inequalities":
-- "If pred(e) is true, frontier[pred, C](e) = {e}", "If pred(e) is not true, and e <- e' in C, then frontier[pred, C](e) includes
-- frontier[pred, C](e')".
pub data Frontier (pred : Expression → Bool) (C : List Credential) : Expression → Expression → Type 0 where
  here : {e : Expression} → pred e ≡ true → Frontier pred C e e
  through : {e f : Expression} {c : Credential} → pred e ≡ false → Memᴰ c C → e ≡ E.Role c.head → Frontier pred C c.body f → Frontier pred C e f
