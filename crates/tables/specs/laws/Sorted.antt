-- Lists that ascend strictly: two with the same members are equal. Assumes nothing.
use Rattle.std.specs.Prelude.{◌≡◌, refl, Bool, true, false, ◌&&◌}
use Rattle.std.proofs.Common.{sym, ap, ◌∙◌, ⊎_elim}
use mathlib.Core.List.Memᴰ
use mathlib.Core.List.{List, [], ◌∷◌, ◌++◌, Memᴰ}
use Rattle.rt0.specs.Lists.{all}
use Rattle.rt0.specs.laws.Lists.{all-each}
use Rattle.word.specs.laws.Bools.{false-true, and_parts, and_both}
use Rattle.tables.specs.Accepted.{Rising, rising_none, rising-cons}

-- a strict order
pub record Strict {A : Type 0} (before : A → A → Bool) : Type 0 where
  pub irreflexive : (x : A) → before x x ≡ false
  pub transitive : (x y z : A) → before x y ≡ true → before y z ≡ true → before x z ≡ true

module _ {A : Type 0} where
  all-add : (f : A → Bool) (L : List A) (x : A) → all f L ≡ true → f x ≡ true → all f (L ++ (x ∷ [])) ≡ true
  all-add f [] x h k = and_both (f x) true k refl
  all-add f (y ∷ L) x h k = let b = and_parts (f y) (all f L) h in and_both (f y) (all f (L ++ (x ∷ []))) b.0 (all-add f L x b.1 k)

module _ {A : Type 0} {before : A → A → Bool} where
  -- a list ascends on with an element that comes after all of it
  pub rising-add : {L : List A} → Rising before L → (x : A) → all (λ y. before y x) L ≡ true → Rising before (L ++ (x ∷ []))
  rising-add rising_none x h = rising-cons refl rising_none
  rising-add (rising-cons {x = y} {L = L} up r) x h =
      let b = and_parts (before y x) (all (λ z. before z x) L) h in
      rising-cons (all-add (λ z. before y z) L x up b.0) (rising-add r x b.1)

  -- the first comes before all others, which ascend
  pub rising-parts : {x : A} {L : List A} → Rising before (x ∷ L) → (all (λ y. before x y) L ≡ true) × Rising before L
  rising-parts (rising-cons up r) = (up, r)

  -- each element comes after all before it
  pub rising-middle : (L : List A) (x : A) (M : List A) → Rising before (L ++ (x ∷ M)) → all (λ y. before y x) L ≡ true
  rising-middle [] x M r = refl
  rising-middle (y ∷ L) x M r =
      let w = rising-parts r in
      λ i. all-each (λ z. before y z) (Memᴰ.append_right L (Memᴰ.head refl)) w.0 i && rising-middle L x M w.1 i

  module _ (strict : Strict before) where
    -- of two elements not each comes before the other
    never : (x y : A) → before x y ≡ true → before y x ≡ true → ⊥
    never x y h k = false-true (sym (strict.irreflexive x) ∙ strict.transitive x y x h k)

    -- where the first elements are equal, each later element of the one list is a later element of the other
    rest : {x y : A} {L M : List A} → x ≡ y → Rising before (x ∷ L) → ((z : A) → Memᴰ z (x ∷ L) → Memᴰ z (y ∷ M)) → (z : A) → Memᴰ z L
        → Memᴰ z M
    rest {x} e r h z m =
        ⊎_elim
        (λ q. let up : before x z ≡ true = all-each (λ w. before x w) m (rising-parts r).0 in absurd
        (false-true (sym (strict.irreflexive x) ∙ ap (before x) (e ∙ sym q) ∙ up)))
        (λ n. n)
        (Memᴰ.cases_cons (h z (Memᴰ.tail m)))

    -- the first elements are equal
    first : {x y : A} {L M : List A} → Rising before (x ∷ L) → Rising before (y ∷ M) → Memᴰ x (y ∷ M) → Memᴰ y (x ∷ L) → x ≡ y
    first {x} {y} r s m n =
        ⊎_elim (λ e. e)
        (λ m'. ⊎_elim (λ e. sym e) (λ n'. absurd (never x y (all-each (λ w. before x w) n' (rising-parts r).0)
        (all-each (λ w. before y w) m' (rising-parts s).0))) (Memᴰ.cases_cons n))
        (Memᴰ.cases_cons m)

    -- lists that ascend strictly and have the same members are equal
    pub rising-same : {L M : List A} → Rising before L → Rising before M → ((x : A) → Memᴰ x L → Memᴰ x M)
        → ((x : A) → Memᴰ x M → Memᴰ x L) → L ≡ M
    rising-same {L = []} {M = []} r s h k = refl
    rising-same {L = []} {M = y ∷ M} r s h k = absurd (Memᴰ.not-nil (k y (Memᴰ.head refl)))
    rising-same {L = x ∷ L} {M = []} r s h k = absurd (Memᴰ.not-nil (h x (Memᴰ.head refl)))
    rising-same {L = x ∷ L} {M = y ∷ M} r s h k =
        let e = first r s (h x (Memᴰ.head refl)) (k y (Memᴰ.head refl)) in
        let q = rising-same {L = L} {M = M} (rising-parts r).1 (rising-parts s).1 (rest e r h) (rest (sym e) s k) in
        λ i. e i ∷ q i
