-- The search for a name among ascending names. Assumes nothing.
use Rattle.std.specs.Prelude.{ℕ, ◌<◌, ◌+◌, ◌-◌, ◌≤◌, List, ltb, ◌≡◌, refl, Bool, true, false, cond}
use Rattle.std.proofs.Math.Dec.{eqb}
use Rattle.std.proofs.Math.ListN.{get_or}
use Rattle.rt0.specs.Pool.{up_to}
use Rattle.class.specs.declared.Name.{Name}
use Rattle.class.specs.declared.Names.{Names}
use Rattle.std.proofs.Common.{arith, ◌∙◌, ap}
use Rattle.std.proofs.Math.Path.{sym}
use borrow.Author.Tests.{eq-eqb, ne_eqb, eqb-true, eqb-false, ltb-true, ltb-false}
use Rattle.rt0.specs.laws.Find.{first-at, first-none}
use Rattle.class.specs.Names.{class_of}

abbrev pub names_from : ℕ → List ℕ → List ℕ → Names
names_from n M C = record { count = n; name = M; class = C }

abbrev pub name_at : Names → ℕ → Name
name_at N i = record { name = get_or N.name i 0; class = get_or N.class i 0 }

-- the names of the columns, in their order
unfoldable pub names_of : Names → List Name
names_of N = up_to N.count (name_at N)

-- the first n names ascend strictly
pub record Ascending (n : ℕ) (M : List ℕ) : Type 0 where
  pub less : (i j : ℕ) → i < j → j < n → get_or M i 0 < get_or M j 0

-- where m stands among the first n names, it stands among those from low on, so many
pub record Between (n : ℕ) (M : List ℕ) (m low size : ℕ) : Type 0 where
  pub fits : low + size ≤ n
  pub from : (i : ℕ) → i < n → get_or M i 0 ≡ m → low ≤ i
  pub until : (i : ℕ) → i < n → get_or M i 0 ≡ m → i < low + size

-- where m stands among the names from low on, so many, it stands at r
pub record Placed (M : List ℕ) (m low size r : ℕ) : Type 0 where
  pub at : (n : ℕ) → Ascending n M → Between n M m low size → Between n M m r 1

module _ {n : ℕ} {M : List ℕ} where
  -- before the search nothing is known
  pub between-all : (m : ℕ) → Between n M m 0 n
  between-all m = record { fits = omega arith; from = λ i l e. omega arith; until = λ i l e. omega (arith, l) }

  -- more names
  pub between_more : {m low size : ℕ} → Between n M m low size → (low' size' : ℕ) → low' ≤ low → low + size ≤ low' + size' → low' + size' ≤ n
      → Between n M m low' size'
  between_more w low' size' a b c = record { fits = c; from = λ i l e. omega (arith, w.from i l e); until = λ i l e. omega (arith, w.until i l e) }

  -- a name is less than m, and so are all before it
  pub between-after : {m low size : ℕ} → Ascending n M → Between n M m low size → (half : ℕ) → 0 < half → half ≤ size → get_or M (low + half - 1) 0 < m
      → Between n M m (low + half) (size - half)
  between-after {m} {low} {size} a w half h k q =
      record { fits = omega (arith, w.fits); from = λ i l e. go i l e (ltb i (low + half)) refl; until = λ i l e. omega (arith, w.until i l e) }
    where
      go : (i : ℕ) → i < n → get_or M i 0 ≡ m → (s : Bool) → ltb i (low + half) ≡ s → low + half ≤ i
      go i l e false z = ltb-false i (low + half) z
      go i l e true z = absurd (not-before (eqb i (low + half - 1)) refl)
        where
          not-before : (s : Bool) → eqb i (low + half - 1) ≡ s → ⊥
          not-before true y = omega (arith, sym (ap (λ (j : ℕ). get_or M j 0) (eqb-true i (low + half - 1) y)) ∙ e)
          not-before false y =
              let o : i < low + half - 1 = omega (arith, ltb-true i (low + half) z, eqb-false i (low + half - 1) y) in
              omega (arith, a.less i (low + half - 1) o (omega (arith, w.fits)))

  -- a name is not less than m, and neither is one after it
  pub between-before : {m low size : ℕ} → Ascending n M → Between n M m low size → (half : ℕ) → 0 < half → half ≤ size → m ≤ get_or M (low + half - 1) 0
      → Between n M m low half
  between-before {m} {low} {size} a w half h k q =
      record { fits = omega (arith, w.fits); from = w.from; until = λ i l e. go i l e (ltb i (low + half)) refl }
    where
      go : (i : ℕ) → i < n → get_or M i 0 ≡ m → (s : Bool) → ltb i (low + half) ≡ s → i < low + half
      go i l e true z = ltb-true i (low + half) z
      go i l e false z =
          let o : low + half - 1 < i = omega (arith, ltb-false i (low + half) z) in
          absurd (omega (arith, a.less (low + half - 1) i o l))

  -- the search ends at the name m: its class is the one beside it
  pub class-here : (C : List ℕ) {m : ℕ} → Ascending n M → (i : ℕ) → i < n → get_or M i 0 ≡ m → get_or C i 0 ≡ class_of (names_of (names_from n M C)) m
  unfolding class_of names_of
  class-here C {m} a i l e =
      sym (first-at {t = λ (k : Name). eqb k.name m} {g = name_at (names_from n M C)} (λ (k : Name). k.class) 3 n
      (record { none = λ j h. ne_eqb (get_or M j 0) m (λ q. omega (arith, a.less j i h l)) }) l (eq-eqb (get_or M i 0) m e))

  -- the search ends at another name, or there are none: the name m is not listed
  pub class-none : (C : List ℕ) {m low size : ℕ} → Between n M m low size → size ≤ 1 → (low < n → get_or M low 0 ≡ m → ⊥)
      → 3 ≡ class_of (names_of (names_from n M C)) m
  unfolding class_of names_of
  class-none C {m} {low} w l h =
      sym (first-none {t = λ (k : Name). eqb k.name m} {g = name_at (names_from n M C)} (λ (k : Name). k.class) 3 n
      (record { none = λ i k. ne_eqb (get_or M i 0) m (λ q. other i k q) }))
    where
      other : (i : ℕ) → i < n → get_or M i 0 ≡ m → ⊥
      other i k q =
          let z : i ≡ low = omega (arith, w.from i k q, w.until i k q) in
          h (omega arith) (sym (ap (λ (j : ℕ). get_or M j 0) z) ∙ q)

-- among names from start on, so many, the search has come to those from low on, so many
pub record Searched (M : List ℕ) (m start most low size : ℕ) : Type 0 where
  pub some : 0 < size
  pub bounded : low + size ≤ 64
  pub narrowed : (n : ℕ) → Ascending n M → Between n M m start most → Between n M m low size

module _ {M : List ℕ} {m start most : ℕ} where
  -- before the search
  pub searched-all : 0 < most → start + most ≤ 64 → Searched M m start most start most
  searched-all h b = record { some = h; bounded = b; narrowed = λ n a w. w }

  -- the search goes on in one half
  pub searched-half : {low size r : ℕ} → Searched M m start most low size → (half : ℕ) → 0 < half → half + half ≤ size
      → r ≡ cond (ltb (get_or M (low + half - 1) 0) m) (low + half) low → Searched M m start most r (size - half)
  searched-half {low} {size} {r} s half h k e = go (ltb (get_or M (low + half - 1) 0) m) refl
    where
      go : (b : Bool) → ltb (get_or M (low + half - 1) 0) m ≡ b → Searched M m start most r (size - half)
      go true z =
          let q : r ≡ low + half = e ∙ ap (λ (b : Bool). cond b (low + half) low) z in
          rw q (record {
            some = omega arith;
            bounded = omega (arith, s.bounded);
            narrowed = λ n a w. between-after a (s.narrowed n a w) half h (omega arith) (ltb-true (get_or M (low + half - 1) 0) m z);
          })
      go false z =
          let q : r ≡ low = e ∙ ap (λ (b : Bool). cond b (low + half) low) z in
          rw q (record {
            some = omega arith;
            bounded = omega (arith, s.bounded);
            narrowed =
                λ n a w. between_more (between-before a (s.narrowed n a w) half h (omega arith) (ltb-false (get_or M (low + half - 1) 0) m z))
                low (size - half) (omega arith) (omega arith) (omega (arith, (s.narrowed n a w).fits));
          })

  -- one name is left
  pub searched-one : {low size : ℕ} → Searched M m start most low size → size ≤ 1 → Placed M m start most low
  searched-one {low} {size} s l =
      record { at = λ n a w. between_more (s.narrowed n a w) low 1 (omega arith) (omega arith) (omega (arith, s.some, (s.narrowed n a w).fits)) }
