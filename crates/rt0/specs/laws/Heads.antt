-- Credentials of which none has a head. Assumes nothing.
use Rattle.std.specs.Prelude.{ℕ, ◌+◌, ◌≤◌, ◌<◌, ◌≡◌, refl, Bool, true, false, not, ◌||◌, List, eqb}
use Rattle.std.proofs.Common.{arith, sym, ◌∙◌, ap, eqb-true}
use Rattle.std.proofs.lemmas.Bool.{eqb-false, not-true}
use Rattle.expression.specs.declared.Role.{Role}
use Rattle.expression.specs.Same.{same_role}
use Rattle.word.specs.laws.Bools.{or-neither}
use Rattle.rt0.specs.laws.Pool.{head_in}

-- no head from credential i up to k is p
pub record NoHead (H : List ℕ) (p : Role) (i k : ℕ) : Type 0 where
  pub none : (j : ℕ) → i ≤ j → j < k → same_role (head_in H j) p ≡ false

module _ {H : List ℕ} {p : Role} where
  start : (i : ℕ) → NoHead H p i i
  start i = record { none = λ j l h. absurd (omega arith) }

  more : {i k m : ℕ} {b : Bool} → NoHead H p i k → m ≡ k + 1 → b ≡ same_role (head_in H k) p → b ≡ false → NoHead H p i m
  more {i} {k} {m} h s e f = record { none = λ j l u. go j l u (eqb j k) refl }
    where
      go : (j : ℕ) → i ≤ j → j < m → (t : Bool) → eqb j k ≡ t → same_role (head_in H j) p ≡ false
      go j l u true q = ap (λ (n : ℕ). same_role (head_in H n) p) (eqb-true j k q) ∙ (sym e ∙ f)
      go j l u false q = h.none j l (omega (arith, eqb-false j k q))

  -- one head is compared
  pub none-of-one : (i : ℕ) {b : Bool} → b ≡ same_role (head_in H i) p → not b ≡ true → NoHead H p i (i + 1)
  none-of-one i {b} e n = more (start i) refl e (not-true b n)

  -- eight heads are compared at once
  pub none-of-eight : (i : ℕ) {a b c d e f g h : Bool} → a ≡ same_role (head_in H i) p → b ≡ same_role (head_in H (i + 1)) p
      → c ≡ same_role (head_in H (i + 2)) p → d ≡ same_role (head_in H (i + 3)) p → e ≡ same_role (head_in H (i + 4)) p → f ≡ same_role (head_in H (i + 5)) p
      → g ≡ same_role (head_in H (i + 6)) p → h ≡ same_role (head_in H (i + 7)) p → (((((((a || b) || c) || d) || e) || f) || g) || h) ≡ false
      → NoHead H p i (i + 8)
  none-of-eight i {a} {b} {c} {d} {e} {f} {g} {h} ea eb ec ed ee ef eg eh z =
      let w7 = or-neither ((((((a || b) || c) || d) || e) || f) || g) h z in
      let w6 = or-neither (((((a || b) || c) || d) || e) || f) g w7.0 in
      let w5 = or-neither ((((a || b) || c) || d) || e) f w6.0 in
      let w4 = or-neither (((a || b) || c) || d) e w5.0 in
      let w3 = or-neither ((a || b) || c) d w4.0 in
      let w2 = or-neither (a || b) c w3.0 in
      let w1 = or-neither a b w2.0 in
      let n1 : NoHead H p i (i + 1) = more (start i) refl ea w1.0 in
      let n2 : NoHead H p i (i + 2) = more n1 (omega arith) eb w1.1 in
      let n3 : NoHead H p i (i + 3) = more n2 (omega arith) ec w2.1 in
      let n4 : NoHead H p i (i + 4) = more n3 (omega arith) ed w3.1 in
      let n5 : NoHead H p i (i + 5) = more n4 (omega arith) ee w4.1 in
      let n6 : NoHead H p i (i + 6) = more n5 (omega arith) ef w5.1 in
      let n7 : NoHead H p i (i + 7) = more n6 (omega arith) eg w6.1 in
      more n7 (omega arith) eh w7.1
