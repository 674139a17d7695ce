-- The class of an intersection. Assumes nothing.
use Rattle.std.specs.Prelude.{ℕ, ◌≡◌, refl, Bool, true, false, cond, ◌&&◌, List, [], ◌∷◌, ◌++◌, eqb}
use Rattle.std.proofs.Common.{sym, ◌∙◌, ap}
use borrow.Author.Tests.{eq-eqb, ne_eqb}
use Rattle.expression.specs.declared.Parts.{Parts}
use Rattle.expression.specs.declared.Expression.TheVariants as E
use Rattle.rt0.specs.Lists.{all}
use Rattle.class.specs.declared.Name.{Name}
use Rattle.class.specs.declared.Typing.{Typing}
use Rattle.class.specs.declared.Typing.TheVariants.{Class}
use Rattle.class.specs.Names.{class_of}
use Rattle.class.specs.Typing.{together, type_of}

module _ {A : Type 0} (f : A → Bool) (a : A) where
  all-last : f a ≡ true → (xs : List A) → all f (xs ++ (a ∷ [])) ≡ all f xs
  all-last e [] = rw e
  all-last e (x ∷ xs) = ap (λ (b : Bool). f x && b) (all-last e xs)

  all-again : (xs : List A) → all f (a ∷ (xs ++ (a ∷ []))) ≡ all f (a ∷ xs)
  all-again xs = go (f a) refl
    where
      go : (b : Bool) → f a ≡ b → (b && all f (xs ++ (a ∷ []))) ≡ (b && all f xs)
      go true e = all-last e xs
      go false e = refl

-- the first class given once more at the end changes nothing
together-again : (a : ℕ) (xs : List ℕ) → together (a ∷ (xs ++ (a ∷ []))) ≡ together (a ∷ xs)
unfolding together
together-again a xs =
    λ i. cond (all-again (λ k. eqb k 3) a xs i) (Class 3) (cond (all-again (λ k. eqb k 2) a xs i) (Class 2) (Class 1))

module _ (ns : List Name) (p : Parts) {a b : ℕ} {r : Typing} where
  -- two roles: the first class stands for the third and the fourth
  pub parts-two : p.count ≡ 2 → a ≡ class_of ns p.first.name → b ≡ class_of ns p.second.name → r ≡ together (a ∷ b ∷ a ∷ a ∷ [])
      → r ≡ type_of ns (E.Intersection p)
  unfolding type_of
  parts-two n x y h = rw (eq-eqb p.count 2 n) (h ∙ (together-again a (b ∷ a ∷ []) ∙ (together-again a (b ∷ []) ∙ (λ i. together (x i ∷ y i ∷ [])))))

  -- three roles: the first class stands for the fourth
  pub parts-three : {c : ℕ} → (p.count ≡ 2 → ⊥) → p.count ≡ 3 → a ≡ class_of ns p.first.name → b ≡ class_of ns p.second.name
      → c ≡ class_of ns p.third.name → r ≡ together (a ∷ b ∷ c ∷ a ∷ []) → r ≡ type_of ns (E.Intersection p)
  unfolding type_of
  parts-three {c} m n x y z h = rw (ne_eqb p.count 2 m, eq-eqb p.count 3 n) (h ∙ (together-again a (b ∷ c ∷ []) ∙ (λ i. together (x i ∷ y i ∷ z i ∷ []))))

  -- four roles
  pub parts-four : {c d : ℕ} → (p.count ≡ 2 → ⊥) → (p.count ≡ 3 → ⊥) → a ≡ class_of ns p.first.name → b ≡ class_of ns p.second.name
      → c ≡ class_of ns p.third.name → d ≡ class_of ns p.fourth.name → r ≡ together (a ∷ b ∷ c ∷ d ∷ []) → r ≡ type_of ns (E.Intersection p)
  unfolding type_of
  parts-four m n x y z w h = rw (ne_eqb p.count 2 m, ne_eqb p.count 3 n) (h ∙ (λ i. together (x i ∷ y i ∷ z i ∷ w i ∷ [])))

all-four : (x y z w : Bool) → (((x && y) && z) && w) ≡ (x && (y && (z && (w && true))))
all-four false y z w = refl
all-four true false z w = refl
all-four true true false w = refl
all-four true true true true = refl
all-four true true true false = refl

-- four classes, by the tests of the code
pub together-four : (a b c d : ℕ) → together (a ∷ b ∷ c ∷ d ∷ [])
    ≡ cond (((eqb a 3 && eqb b 3) && eqb c 3) && eqb d 3) (Class 3) (cond (((eqb a 2 && eqb b 2) && eqb c 2) && eqb d 2) (Class 2) (Class 1))
unfolding together
together-four a b c d =
    sym (λ i. cond (all-four (eqb a 3) (eqb b 3) (eqb c 3) (eqb d 3) i) (Class 3)
    (cond (all-four (eqb a 2) (eqb b 2) (eqb c 2) (eqb d 2) i) (Class 2) (Class 1)))
