-- Which of its roles an intersection's child is: well-formed roles ascend, so each has one place. Assumes nothing.
use Rattle.std.specs.Prelude.{ℕ, zero, suc, ◌+◌, ◌≤◌, ◌<◌, ◌≡◌, refl, ◌⊎◌, Bool, true, false, cond, ◌&&◌, eqb, ltb, get_or, length}
use native.Mathlib.Omega.{arith}
use Rattle.std.proofs.Common.{sym, ◌∙◌, inl, inr, ⊎_elim, eq-eqb, eqb-true, lt-ltb, ltb-true}
use Rattle.std.proofs.Math.Path.{ap}
use mathlib.Core.List.{List, [], ◌∷◌, Memᴰ}
use Rattle.expression.specs.declared.Role.{Role}
use Rattle.expression.specs.declared.Parts.{Parts}
use Rattle.expression.specs.declared.Expression.{Expression}
use Rattle.expression.specs.declared.Expression.TheVariants as E
use Rattle.expression.specs.Form.{choose, ascends, is_role, is_empty, tail_formed, parts_formed}
use Rattle.expression.specs.Same.{same_role}
use Rattle.expression.specs.laws.Same.{same_role-eq, eq-same_role}
use Rattle.rt0.specs.Lists.{all}
use Rattle.rt0.specs.laws.Lists.{all-each}
use Rattle.word.specs.laws.Bools.{false-true, or_cases, or_left, or_right, and_parts, and_both, not-of}
use Rattle.rt0.specs.From.{role_of, roles_of}
use Rattle.states.specs.laws.Brings.{place_in, slot_in}

module _ {A : Type 0} (d : A) where
  -- an element stands at an index
  pub mem_index : {x : A} {l : List A} → Memᴰ x l → (k : ℕ) × (k < length l) × (get_or l k d ≡ x)
  mem_index (Memᴰ.head {x = y} {xs = ys} e) = (0, omega arith, sym e)
  mem_index (Memᴰ.tail {x = y} {xs = ys} m) = let r = mem_index m in let l : r.0 < length ys = r.1 in (suc r.0, omega arith, r.2)

  pub index-mem : (l : List A) (k : ℕ) → k < length l → Memᴰ (get_or l k d) l
  index-mem [] k h = absurd (omega arith)
  index-mem (x ∷ xs) zero h = Memᴰ.head refl
  index-mem (x ∷ xs) (suc k) h = Memᴰ.tail (index-mem xs k (omega arith))

-- stands past the end
abbrev pub no_role : Role
no_role = role_of 0 0

-- The order of roles

above : (a b : Role) → ascends a b ≡ true → (a.entity < b.entity) ⊎ ((a.entity ≡ b.entity) × (a.name < b.name))
above a b h =
    ⊎_elim (λ t. inl (ltb-true a.entity b.entity t))
    (λ t. let p = and_parts (eqb a.entity b.entity) (ltb a.name b.name) t in inr
    (eqb-true a.entity b.entity p.0, ltb-true a.name b.name p.1))
    (or_cases (ltb a.entity b.entity) (eqb a.entity b.entity && ltb a.name b.name) h)

above_of : (a b : Role) → (a.entity < b.entity) ⊎ ((a.entity ≡ b.entity) × (a.name < b.name)) → ascends a b ≡ true
above_of a b h =
    ⊎_elim (λ t. or_left (ltb a.entity b.entity) (eqb a.entity b.entity && ltb a.name b.name) (lt-ltb a.entity b.entity t))
    (λ t. or_right (ltb a.entity b.entity) (eqb a.entity b.entity && ltb a.name b.name)
    (and_both (eqb a.entity b.entity) (ltb a.name b.name) (eq-eqb a.entity b.entity t.0) (lt-ltb a.name b.name t.1))) h

ascends-on : (a b c : Role) → ascends a b ≡ true → ascends b c ≡ true → ascends a c ≡ true
ascends-on a b c h k =
    above_of a c
    (⊎_elim (λ t. ⊎_elim (λ u. inl (omega arith)) (λ u. inl (omega (arith, u.0))) (above b c k))
    (λ t. ⊎_elim (λ u. inl (omega (arith, t.0))) (λ u. inr (t.0 ∙ u.0, omega (arith, t.1, u.1))) (above b c k)) (above a b h))

-- a role above another is another one
apart : (a b : Role) → ascends b a ≡ true → same_role a b ≡ false
apart a b h =
    not-of (same_role a b)
    (λ s. let e : a ≡ b = same_role-eq a b s in
    let n : a.entity ≡ b.entity = ap (λ (r : Role). r.entity) e in
    let m : a.name ≡ b.name = ap (λ (r : Role). r.name) e in
    ⊎_elim (λ t. omega arith) (λ t. omega (arith, t.1)) (above b a h))

-- each role is below all that follow
abbrev sorted : List Role → Bool
sorted [] = true
sorted (a ∷ bs) = all (ascends a) bs && sorted bs

-- the roles of a well-formed intersection: as many as it says, and ascending
pub record RolesFormed (p : Parts) : Type 0 where
  pub sorts : sorted (roles_of p) ≡ true
  pub size : length (roles_of p) ≡ p.count
  pub few : length (roles_of p) ≤ 4

pub roles-formed : (p : Parts) → parts_formed p ≡ true → RolesFormed p
roles-formed p h =
    let t = and_parts (is_role p.first && is_role p.second && ascends p.first p.second) (tail_formed p) h in
    let u = and_parts (is_role p.first && is_role p.second) (ascends p.first p.second) t.0 in
    let r = go (eqb p.count 2) (eqb p.count 3) (eqb p.count 4) refl refl refl u.1 t.1 in
    record { sorts = r.0; size = r.1; few = r.2 }
  where
    roles : Bool → Bool → List Role
    roles two three = p.first ∷ p.second ∷ cond two [] (p.third ∷ cond three [] (p.fourth ∷ []))

    three? : Bool
    three? = is_role p.third && ascends p.second p.third && is_empty p.fourth

    four? : Bool
    four? = is_role p.third && ascends p.second p.third && is_role p.fourth && ascends p.third p.fourth

    go : (a b c : Bool) → eqb p.count 2 ≡ a → eqb p.count 3 ≡ b → eqb p.count 4 ≡ c → ascends p.first p.second ≡ true
        → choose a (is_empty p.third && is_empty p.fourth) (choose b three? (choose c four? false)) ≡ true
        → (sorted (roles a b) ≡ true) × (length (roles a b) ≡ p.count) × (length (roles a b) ≤ 4)
    go true b c e f g fs h = (rw fs refl, sym (eqb-true p.count 2 e), omega arith)
    go false true c e f g fs h =
        let t = and_parts (is_role p.third && ascends p.second p.third) (is_empty p.fourth) h in
        let st = (and_parts (is_role p.third) (ascends p.second p.third) t.0).1 in
        let ft = ascends-on p.first p.second p.third fs st in
        (rw (fs, ft, st) refl, sym (eqb-true p.count 3 f), omega arith)
    go false false true e f g fs h =
        let t = and_parts (is_role p.third && ascends p.second p.third && is_role p.fourth) (ascends p.third p.fourth) h in
        let tu = t.1 in
        let s = and_parts (is_role p.third && ascends p.second p.third) (is_role p.fourth) t.0 in
        let st = (and_parts (is_role p.third) (ascends p.second p.third) s.0).1 in
        let ft = ascends-on p.first p.second p.third fs st in
        let su = ascends-on p.second p.third p.fourth st tu in
        let fu = ascends-on p.first p.second p.fourth fs su in
        (rw (fs, ft, fu, st, su, tu) refl, sym (eqb-true p.count 4 g), omega arith)
    go false false false e f g fs h = absurd (false-true h)

-- Places

place-low : (a : Role) (k : ℕ) (l : List Role) → k + length l ≤ 4 → k ≤ place_in a k l
place-low a k [] h = omega arith
place-low a k (b ∷ bs) h = go (same_role a b) (place-low a (k + 1) bs (omega arith))
  where
    go : (t : Bool) → k + 1 ≤ place_in a (k + 1) bs → k ≤ cond t k (place_in a (k + 1) bs)
    go true m = omega arith
    go false m = omega arith

-- the role at the place that was found
place-role : (a : Role) (k : ℕ) (l : List Role) (i : ℕ) → k + length l ≤ 4 → i < length l → place_in a k l ≡ k + i → a ≡ get_or l i no_role
place-role a k [] i h m e = absurd (omega arith)
place-role a k (b ∷ bs) zero h m e = go (same_role a b) refl e (place-low a (k + 1) bs (omega arith))
  where
    go : (t : Bool) → same_role a b ≡ t → cond t k (place_in a (k + 1) bs) ≡ k + 0 → k + 1 ≤ place_in a (k + 1) bs → a ≡ b
    go true s e m = same_role-eq a b s
    go false s e m = absurd (omega arith)
place-role a k (b ∷ bs) (suc i) h m e = go (same_role a b) e (λ z. place-role a (k + 1) bs i (omega arith) (omega arith) z)
  where
    go : (t : Bool) → cond t k (place_in a (k + 1) bs) ≡ k + suc i → (place_in a (k + 1) bs ≡ k + 1 + i → a ≡ get_or bs i no_role) → a ≡ get_or bs i no_role
    go true e ih = absurd (omega arith)
    go false e ih = ih (omega arith)

-- each of the roles has a place
place_found : {a : Role} (k : ℕ) {l : List Role} → k + length l ≤ 4 → Memᴰ a l → place_in a k l < 4
place_found {a} k h (Memᴰ.head {x = b} {xs = bs} e) = let t : same_role a b ≡ true = eq-same_role a b e in rw t (omega arith)
place_found {a} k h (Memᴰ.tail {x = b} {xs = bs} m) = go (same_role a b) (place_found (k + 1) (omega arith) m)
  where
    go : (t : Bool) → place_in a (k + 1) bs < 4 → cond t k (place_in a (k + 1) bs) < 4
    go true m = omega arith
    go false m = m

-- which is its number where they ascend
place_at : (k : ℕ) (l : List Role) (i : ℕ) → sorted l ≡ true → i < length l → place_in (get_or l i no_role) k l ≡ k + i
place_at k [] i s m = absurd (omega arith)
place_at k (b ∷ bs) zero s m = let t : same_role b b ≡ true = eq-same_role b b refl in rw t (omega arith)
place_at k (b ∷ bs) (suc i) s m =
    let r = and_parts (all (ascends b) bs) (sorted bs) s in
    let t : same_role (get_or bs i no_role) b ≡ false = apart (get_or bs i no_role) b (all-each (ascends b) (index-mem no_role bs i (omega arith)) r.0) in
    let u : place_in (get_or bs i no_role) (k + 1) bs ≡ k + 1 + i = place_at (k + 1) bs i r.1 (omega arith) in
    rw t (omega arith)

-- Slots of an intersection

module _ (p : Parts) (f : RolesFormed p) where
  pub slot-role : (i : ℕ) (y : Expression) → i < p.count → slot_in p y ≡ i → y ≡ E.Role (get_or (roles_of p) i no_role)
  unfolding slot_in
  slot-role i (E.Entity a) l e = absurd (omega (arith, f.size, f.few))
  slot-role i (E.Role a) l e =
      ap (λ (b : Role). E.Role b) (place-role a 0 (roles_of p) i (omega (arith, f.few)) (omega (arith, f.size)) (e ∙ (let z : i ≡ 0 + i = omega arith in z)))
  slot-role i (E.Linked a r) l e = absurd (omega (arith, f.size, f.few))
  slot-role i (E.Intersection q) l e = absurd (omega (arith, f.size, f.few))
  slot-role i (E.Goal r) l e = absurd (omega (arith, f.size, f.few))

  pub role-slot : (i : ℕ) → i < p.count → slot_in p (E.Role (get_or (roles_of p) i no_role)) ≡ i
  unfolding slot_in
  role-slot i l = place_at 0 (roles_of p) i f.sorts (omega (arith, f.size)) ∙ (let z : 0 + i ≡ i = omega arith in z)

  pub role-found : {a : Role} → Memᴰ a (roles_of p) → slot_in p (E.Role a) < 4
  unfolding slot_in
  role-found m = place_found 0 (omega (arith, f.few)) m
