-- A frontier as it is computed has the members that section 5.3 gives it, and no other. Assumes nothing.
use Prim.Native.Nat.{ℕ, zero, suc}
use Rattle.std.specs.Prelude.{◌≡◌, ◌⊎◌, Bool, true, false, not, length}
use Rattle.std.proofs.Math.Path.{refl, sym}
use Rattle.std.proofs.Common.{ap, ◌∙◌, subst, inl, inr, ⊎_elim, arith}
use mathlib.Core.List.Memᴰ
use mathlib.Core.List.{List, [], ◌∷◌, ◌++◌, Memᴰ}
use Rattle.std.proofs.lemmas.Bool.{not-true}
use Rattle.expression.specs.declared.Credential.{Credential}
use Rattle.expression.specs.declared.Expression.{Expression}
use Rattle.expression.specs.declared.Expression.TheVariants as E
use Rattle.expression.specs.Same.{same}
use Rattle.expression.specs.laws.Same.{same-eq, eq-same}
use Rattle.rt0.specs.Lists.{any}
use Rattle.rt0.specs.laws.Lists.{any-find, any_here, map-find, map-mem}
use Rattle.tables.specs.Public.{keep}
use Rattle.tables.specs.laws.Public.{keep-find, keep-mem}
use Rattle.frontier.specs.Frontier.{Frontier, here, through}
use Rattle.frontier.specs.laws.Frontier.{frontier-pred}
use Rattle.moves.specs.Frontiers.{gather, bodies_of, spread, frontier_of}

-- Lists

module _ {A : Type 0} where
  -- a list less one of its elements
  less : {c : A} {L : List A} → Memᴰ c L
      → (D : List A) × (length L ≡ suc (length D)) × ((d : A) → Memᴰ d L → (d ≡ c) ⊎ Memᴰ d D) × ((d : A) → Memᴰ d D → Memᴰ d L)
  less (Memᴰ.head {x = y} {xs = ys} e) = (ys, refl, λ d m. ⊎_elim (λ q. inl (q ∙ sym e)) (λ k. inr k) (Memᴰ.cases_cons m), λ d m. Memᴰ.tail m)
  less {c} (Memᴰ.tail {x = y} {xs = ys} m) =
      let r = less m in (
        y ∷ r.0,
        ap suc r.1,
        λ d k. ⊎_elim (λ q. inr (Memᴰ.head q)) (λ k. ⊎_elim (λ q. inl q) (λ t. inr (Memᴰ.tail t)) (r.2 d k)) (Memᴰ.cases_cons k),
        λ d k. ⊎_elim (λ q. Memᴰ.head q) (λ t. Memᴰ.tail (r.3 d t)) (Memᴰ.cases_cons k),
      )

  module _ {B : Type 0} (f : A → List B) where
    pub gather-mem : {x : A} {xs : List A} {y : B} → Memᴰ x xs → Memᴰ y (f x) → Memᴰ y (gather f xs)
    gather-mem {y = y} (Memᴰ.head {x = z} {xs = zs} e) k = Memᴰ.append_left (gather f zs) (subst (λ (w : A). Memᴰ y (f w)) e k)
    gather-mem (Memᴰ.tail {x = z} {xs = zs} m) k = Memᴰ.append_right (f z) (gather-mem m k)

    pub gather-find : (xs : List A) {y : B} → Memᴰ y (gather f xs) → (x : A) × Memᴰ x xs × Memᴰ y (f x)
    gather-find [] m = absurd (Memᴰ.not-nil m)
    gather-find (x ∷ xs) m =
        ⊎_elim (λ k. (x, Memᴰ.head refl, k)) (λ k. let r = gather-find xs k in (r.0, Memᴰ.tail r.1, r.2)) (Memᴰ.append_cases (f x) m)

-- One step

module _ (pred : Expression → Bool) (C : List Credential) where
  -- the bodies that one step looks at
  abbrev bodies : List Expression → List Expression
  bodies xs = gather (bodies_of C) (keep (λ x. not (pred x)) xs)

  -- those that are new
  abbrev fresh : List Expression → List Expression
  fresh xs = keep (λ y. not (any (same y) xs)) (bodies xs)

  -- the expressions after one step more
  abbrev stepped : List Expression → List Expression
  stepped xs = xs ++ fresh xs

  -- a step reaches the bodies of the credentials whose heads are there
  step-mem : (xs : List Expression) {c : Credential} {x : Expression} → pred x ≡ false → Memᴰ c C → x ≡ E.Role c.head → Memᴰ x xs
      → Memᴰ c.body (stepped xs)
  step-mem xs {c} {x} n k q m = go (any (same c.body) xs) refl
    where
      body : Memᴰ c.body (bodies xs)
      body = gather-mem (bodies_of C) (keep-mem (λ y. not (pred y)) m (ap not n))
          (map-mem (λ (d : Credential). d.body) (keep-mem (λ (d : Credential). same (E.Role d.head) x) k (eq-same (E.Role c.head) x (sym q))))

      go : (b : Bool) → any (same c.body) xs ≡ b → Memᴰ c.body (stepped xs)
      go true h =
          let w = any-find (same c.body) xs h in Memᴰ.append_left (fresh xs)
          (subst (λ (y : Expression). Memᴰ y xs) (sym (same-eq c.body w.0 w.2)) w.1)
      go false h = Memᴰ.append_right xs (keep-mem (λ y. not (any (same y) xs)) body (ap not h))

  -- and the frontier of what it reaches is part of the frontier of one that was there
  step-find : (xs : List Expression) {y f : Expression} → Memᴰ y (stepped xs) → Frontier pred C y f
      → (x : Expression) × Memᴰ x xs × Frontier pred C x f
  step-find xs {y} {f} m h = ⊎_elim (λ k. (y, k, h)) new (Memᴰ.append_cases xs m)
    where
      new : Memᴰ y (fresh xs) → (x : Expression) × Memᴰ x xs × Frontier pred C x f
      new k =
          let g = gather-find (bodies_of C) (keep (λ x. not (pred x)) xs) (keep-find (λ y. not (any (same y) xs)) (bodies xs) k).0 in
          let p = keep-find (λ x. not (pred x)) xs g.1 in
          let b = map-find (λ (c : Credential). c.body) (keep (λ (c : Credential). same (E.Role c.head) g.0) C) g.2 in
          let c = keep-find (λ (c : Credential). same (E.Role c.head) g.0) C b.1 in (
            g.0,
            p.0,
            through {c = b.0} (not-true (pred g.0) p.1) c.0 (sym (same-eq (E.Role b.0.head) g.0 c.1))
                (subst (λ (z : Expression). Frontier pred C z f) b.2 h),
          )

  -- Steps

  -- what is there stays
  spread-more : (k : ℕ) (xs : List Expression) {x : Expression} → Memᴰ x xs → Memᴰ x (spread k pred C xs)
  unfolding spread
  spread-more zero xs m = m
  spread-more (suc k) xs m = spread-more k (stepped xs) (Memᴰ.append_left (fresh xs) m)

  -- the frontier of an expression that is reached is part of the frontier of one of xs
  spread-find : (k : ℕ) (xs : List Expression) {y f : Expression} → Memᴰ y (spread k pred C xs) → Frontier pred C y f
      → (x : Expression) × Memᴰ x xs × Frontier pred C x f
  unfolding spread
  spread-find zero xs {y} m h = (y, m, h)
  spread-find (suc k) xs m h = let r = spread-find k (stepped xs) m h in step-find xs r.1 r.2

  -- a member is found without c, or from the body of c without c: after c is used for the last time
  without : {c : Credential} {L D : List Credential} {e f : Expression} → ((d : Credential) → Memᴰ d L → (d ≡ c) ⊎ Memᴰ d D)
      → Frontier pred L e f → Frontier pred D e f ⊎ Frontier pred D c.body f
  without s (here h) = inl (here h)
  without {c} {L} {D} {e} {f} s (through {c = d} n m q k) =
      ⊎_elim (λ t. ⊎_elim (λ z. inr (subst (λ (y : Credential). Frontier pred D y.body f) z t)) (λ z. inl (through {c = d} n z q t)) (s d m)) (λ t. inr t)
      (without s k)

  -- so a member is found with each credential used once at most, and as many steps as there are credentials suffice
  spread-mem : (k : ℕ) (D : List Credential) → length D ≡ k → ((d : Credential) → Memᴰ d D → Memᴰ d C)
      → (xs : List Expression) {x f : Expression} → Memᴰ x xs → Frontier pred D x f → Memᴰ f (spread k pred C xs)
  unfolding spread
  spread-mem zero D l s xs m (here h) = m
  spread-mem zero D l s xs m (through {c = c} n t q h) = absurd (let z : suc (length (less t).0) ≡ 0 = sym (less t).1 ∙ l in omega (arith, z))
  spread-mem (suc k) D l s xs m (here h) = spread-more (suc k) xs m
  spread-mem (suc k) D l s xs m (through {c = c} n t q h) =
      let w = less t in
      let z : suc (length w.0) ≡ suc k = sym w.1 ∙ l in
      spread-mem k w.0 (omega (arith, z)) (λ d j. s d (w.3 d j)) (stepped xs) (step-mem xs n (s c t) q m)
      (⊎_elim (λ j. j) (λ j. j) (without {c = c} w.2 h))

-- The frontier

module _ (pred : Expression → Bool) (C : List Credential) (xs : List Expression) {f : Expression} where
  -- each member that is found is one of the frontier of an expression of xs
  pub frontier-find : Memᴰ f (frontier_of pred C xs) → (x : Expression) × Memᴰ x xs × Frontier pred C x f
  unfolding frontier_of
  frontier-find m = let r = keep-find pred (spread (length C) pred C xs) m in spread-find pred C (length C) xs r.0 (here r.1)

  -- each member is found
  pub frontier-mem : {x : Expression} → Memᴰ x xs → Frontier pred C x f → Memᴰ f (frontier_of pred C xs)
  unfolding frontier_of
  frontier-mem m h = keep-mem pred (spread-mem pred C (length C) C refl (λ d k. k) xs m h) (frontier-pred h)

-- the computed frontier is the frontier of section 5.3
pub frontier-exact : (pred : Expression → Bool) (C : List Credential) (xs : List Expression) (f : Expression)
    → (any (same f) (frontier_of pred C xs) ≡ true → (x : Expression) × Memᴰ x xs × Frontier pred C x f)
    × ((x : Expression) → Memᴰ x xs → Frontier pred C x f → any (same f) (frontier_of pred C xs) ≡ true)
frontier-exact pred C xs f = (find, λ x m h. any_here (same f) (frontier-mem pred C xs m h) (eq-same f f refl))
  where
    find : any (same f) (frontier_of pred C xs) ≡ true → (x : Expression) × Memᴰ x xs × Frontier pred C x f
    find h =
        let w = any-find (same f) (frontier_of pred C xs) h in frontier-find pred C xs
        (subst (λ (y : Expression). Memᴰ y (frontier_of pred C xs)) (sym (same-eq f w.0 w.2)) w.1)
