-- What a look-up finds, by the first index that passes its test. Assumes nothing.
use Rattle.std.specs.Prelude.{ℕ, zero, suc, ◌+◌, ◌≤◌, ◌<◌, ◌≡◌, refl, Bool, true, false, cond, not, ◌&&◌, ◌||◌, List, [], ◌∷◌, eqb, Option, Some, None, is_some}
use Rattle.std.proofs.Math.Path.{sym, ap}
use Rattle.std.proofs.Common.{◌∙◌, arith, eqb-true, add-one}
use Rattle.std.proofs.lemmas.Bool.{eqb-false}
use Rattle.expression.specs.declared.Role.{Role}
use Rattle.expression.specs.Same.{same_role}
use Rattle.word.specs.laws.Bools.{false-true, or_left, or_right}
use Rattle.rt0.specs.Lists.{any, first_or}
use Rattle.rt0.specs.Pool.{up_to}
use Rattle.rt0.specs.laws.Find.{Missed, missed_more, missed-fewer, first-at, first-none, any-first, any-more}
use Rattle.record.specs.declared.Pair.{Pair}
use Rattle.tables.specs.declared.Pairs.{Pairs}
use Rattle.tables.specs.laws.Tables.{pair_at, pairs_of}
use Rattle.tables.specs.Lookup.{is_sensitive, other_of}

-- Two tests, one after the other

-- where the first one fails, they fail together
pub first-fails : {a s : Bool} (b : Bool) → s ≡ a → not s ≡ true → false ≡ (a && b)
first-fails {s = true} b e f = absurd (false-true f)
first-fails {s = false} b e f = λ i. e i && b

-- else the second one decides
pub second-decides : {a b s u : Bool} → s ≡ a → not s ≡ false → u ≡ b → u ≡ (a && b)
second-decides {b = b} {s = true} e f h = h ∙ (λ i. e i && b)
second-decides {s = false} e f h = absurd (false-true (sym f))

-- Whether any element passes

module _ {A B C : Type 0} where
  -- a function of what is found goes inside the search
  first-image : (f : B → C) (t : A → Bool) (v : A → B) (d : B) (L : List A) → f (first_or t v d L) ≡ first_or t (λ x. f (v x)) (f d) L
  first-image f t v d [] = refl
  first-image f t v d (x ∷ xs) = go (t x) (first-image f t v d xs)
    where
      go : (s : Bool) → f (first_or t v d xs) ≡ first_or t (λ x. f (v x)) (f d) xs
          → f (cond s (v x) (first_or t v d xs)) ≡ cond s (f (v x)) (first_or t (λ x. f (v x)) (f d) xs)
      go true h = refl
      go false h = h

module _ {A : Type 0} (t : A → Bool) where
  -- an element that passes, whichever it is
  pub any_some : (g : ℕ → A) (n : ℕ) {j : ℕ} {b : Bool} → j < n → b ≡ t (g j) → b ≡ true → true ≡ any t (up_to n g)
  any_some g zero l e p = absurd (omega arith)
  any_some g (suc n) {j} l e p =
      sym (go (eqb j n) refl (λ k. any_some g n k e p)) ∙ (any-more t g n refl refl ∙ ap (λ (m : ℕ). any t (up_to m g)) (add-one n))
    where
      go : (s : Bool) → eqb j n ≡ s → (j < n → true ≡ any t (up_to n g)) → (any t (up_to n g) || t (g n)) ≡ true
      go true q ih = or_right (any t (up_to n g)) (t (g n)) (sym (ap (λ (k : ℕ). t (g k)) (eqb-true j n q)) ∙ sym e ∙ p)
      go false q ih = or_left (any t (up_to n g)) (t (g n)) (sym (ih (omega (arith, eqb-false j n q))))

-- Pairs by their role

-- whether a pair is that of role r
abbrev pub is_of : Role → Pair → Bool
is_of r p = same_role p.role r

module _ (P : Pairs) (r : Role) {j : ℕ} {p : Pair} {b : Bool} where
  -- pair j is not that of r
  pub missed-pair : Missed (is_of r) (pair_at P) j → p ≡ pair_at P j → b ≡ same_role p.role r → b ≡ false → Missed (is_of r) (pair_at P) (j + 1)
  missed-pair h q e m = missed_more h (e ∙ ap (is_of r) q) m

  -- pair j is the first one of r
  pub other_at : Missed (is_of r) (pair_at P) j → j < P.count → p ≡ pair_at P j → b ≡ same_role p.role r → b ≡ true → Some p.other ≡ other_of (pairs_of P) r
  unfolding other_of pairs_of
  other_at h l q e m =
      ap (λ (x : Pair). Some x.other) q ∙ sym (first-at (λ (x : Pair). Some x.other) None P.count h l (sym (e ∙ ap (is_of r) q) ∙ m))

-- no pair is that of r
pub other_none : (P : Pairs) (r : Role) {j : ℕ} → Missed (is_of r) (pair_at P) j → P.count ≤ j → None ≡ other_of (pairs_of P) r
unfolding other_of pairs_of
other_none P r h l = sym (first-none (λ (x : Pair). Some x.other) None P.count (missed-fewer h l))

-- a role is sensitive where its Ack role is found
pub found-sensitive : (P : List Pair) (r : Role) → is_some (other_of P r) ≡ is_sensitive P r
unfolding other_of is_sensitive
found-sensitive P r = first-image is_some (is_of r) (λ p. Some p.other) None P ∙ sym (any-first (is_of r) P)

module _ (P : List Pair) (r : Role) {a : Option Role} where
  -- an Ack role is found
  pub sensitive-yes : {q : Role} → a ≡ other_of P r → a ≡ Some q → true ≡ is_sensitive P r
  sensitive-yes e f = ap is_some (sym f ∙ e) ∙ found-sensitive P r

  -- none is found
  pub sensitive-not : a ≡ other_of P r → a ≡ None → false ≡ is_sensitive P r
  sensitive-not e f = ap is_some (sym f ∙ e) ∙ found-sensitive P r
