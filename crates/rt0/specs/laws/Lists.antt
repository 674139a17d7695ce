-- Laws of tests over lists. Assumes nothing.
use Rattle.std.specs.Prelude.{◌≡◌, refl, ◌⊎◌, Bool, true}
use Rattle.std.proofs.Common.{sym, ◌∙◌, ap, inl, inr}
use mathlib.Core.List.{List, [], ◌∷◌, map, Memᴰ}
use Rattle.word.specs.laws.Bools.{false-true, or_cases, or_left, or_right, and_parts, and_both}
use Rattle.rt0.specs.Lists.{any, all}

module _ {A : Type 0} where
  pub any-find : (f : A → Bool) (l : List A) → any f l ≡ true → (x : A) × Memᴰ x l × (f x ≡ true)
  any-find f [] h = absurd (false-true h)
  any-find f (x ∷ xs) h = step (or_cases (f x) (any f xs) h) (any-find f xs)
    where
      step : (f x ≡ true) ⊎ (any f xs ≡ true) → (any f xs ≡ true → (y : A) × Memᴰ y xs × (f y ≡ true)) → (y : A) × Memᴰ y (x ∷ xs) × (f y ≡ true)
      step (inl p) ih = (x, Memᴰ.head refl, p)
      step (inr q) ih = let r = ih q in (r.0, Memᴰ.tail r.1, r.2)

  pub any_here : (f : A → Bool) {x : A} {l : List A} → Memᴰ x l → f x ≡ true → any f l ≡ true
  any_here f (Memᴰ.head {x = y} {xs = ys} e) h = or_left (f y) (any f ys) (sym (ap f e) ∙ h)
  any_here f (Memᴰ.tail {x = y} {xs = ys} m) h = or_right (f y) (any f ys) (any_here f m h)

  pub all-each : (f : A → Bool) {x : A} {l : List A} → Memᴰ x l → all f l ≡ true → f x ≡ true
  all-each f (Memᴰ.head {x = y} {xs = ys} e) h = ap f e ∙ (and_parts (f y) (all f ys) h).0
  all-each f (Memᴰ.tail {x = y} {xs = ys} m) h = all-each f m (and_parts (f y) (all f ys) h).1

  pub all_of : (f : A → Bool) (l : List A) → ((x : A) → Memᴰ x l → f x ≡ true) → all f l ≡ true
  all_of f [] h = refl
  all_of f (x ∷ xs) h = and_both (f x) (all f xs) (h x (Memᴰ.head refl)) (all_of f xs (λ y m. h y (Memᴰ.tail m)))

module _ {A B : Type 0} where
  pub map-find : (f : A → B) (l : List A) {y : B} → Memᴰ y (map f l) → (x : A) × Memᴰ x l × (y ≡ f x)
  map-find f [] m = absurd (mathlib.Core.List.Memᴰ.not-nil m)
  map-find f (x ∷ xs) {y} m = step (mathlib.Core.List.Memᴰ.cases_cons m) (λ k. map-find f xs k)
    where
      step : (y ≡ f x) ⊎ Memᴰ y (map f xs) → (Memᴰ y (map f xs) → (z : A) × Memᴰ z xs × (y ≡ f z)) → (z : A) × Memᴰ z (x ∷ xs) × (y ≡ f z)
      step (inl p) ih = (x, Memᴰ.head refl, p)
      step (inr q) ih = let r = ih q in (r.0, Memᴰ.tail r.1, r.2)

  pub map-mem : (f : A → B) {x : A} {l : List A} → Memᴰ x l → Memᴰ (f x) (map f l)
  map-mem f (Memᴰ.head e) = Memᴰ.head (ap f e)
  map-mem f (Memᴰ.tail m) = Memᴰ.tail (map-mem f m)
