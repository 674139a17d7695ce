-- The credentials that an edge needs (document 01, "The reply"). Assumes nothing.
use Rattle.std.specs.Prelude.{Bool, cond, false, List, [], ◌∷◌, ◌++◌, ◌≡◌}
use Rattle.expression.specs.declared.Credential.{Credential}
use Rattle.expression.specs.declared.Expression.{Expression}
use Rattle.rt0.specs.Decide.{from?}

-- no element of the second list can be missed, those of the first and its other ones being there
pub data Each {A : Type 0} (g : List A → Bool) : List A → List A → Type 0 where
  last : {ks : List A} → Each g ks []
  next : {ks : List A} {c : A} {zs : List A} → g (ks ++ zs) ≡ false → Each g (ks ++ (c ∷ [])) zs → Each g ks (c ∷ zs)

-- "drop each, first to last, without which the edge is still justified": ks are kept so far, the others are still to be tried, and g says
-- whether a list is enough
unfoldable pub kept : {A : Type 0} → (List A → Bool) → List A → List A → List A
kept g ks [] = ks
kept g ks (c ∷ cs) = kept g (cond (g (ks ++ cs)) ks (ks ++ (c ∷ []))) cs

-- enough, beside the credentials shown, for f from e
abbrev pub enough : List Credential → Expression → Expression → List Credential → Bool
enough shown f e cs = from? (shown ++ cs) f e

-- "the credentials it needs": those of the own ones that are kept, in table order
unfoldable pub needed : List Credential → Expression → Expression → List Credential → List Credential
needed shown f e own = kept (enough shown f e) [] own
