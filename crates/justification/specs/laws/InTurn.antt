-- Elements of a list, each judged by those before it: laws. Assumes nothing.
use Rattle.std.specs.Prelude.{ℕ, zero, suc, ◌+◌, ◌≤◌, ◌<◌, ◌≡◌, Bool, true, false, ◌&&◌, eqb}
use Rattle.std.proofs.Common.{arith, add-one, ◌∙◌, subst, ⊎_elim, eqb-true}
use Rattle.std.proofs.Math.Path.{refl, sym, ap}
use Rattle.std.proofs.Math.Bool.{and-true, and-false, and_assoc}
use mathlib.Core.List.{List, [], ◌∷◌, ◌++◌, append_assoc, append-nil}
use Rattle.std.proofs.lemmas.Bool.{eqb-false}
use Rattle.rt0.specs.Lists.{all}
use Rattle.word.specs.laws.Bools.{and_both, false-true}
use Rattle.rt0.specs.Pool.{up_to}
use Rattle.propagation.specs.laws.Flags.{decided}
use Rattle.justification.specs.InTurn.{in_turn}

swap : (a b c d : Bool) → ((a && b) && (c && d)) ≡ ((a && c) && (b && d))
swap true true c d = refl
swap true false true d = refl
swap true false false d = refl
swap false b c d = refl

module _ {A : Type 0} where
  -- two tests in one
  pub turn-and : (t u : List A → A → Bool) (before xs : List A) → in_turn (λ b x. t b x && u b x) before xs ≡ (in_turn t before xs && in_turn u before xs)
  unfolding in_turn
  turn-and t u before [] = refl
  turn-and t u before (x ∷ xs) =
      ap (λ (r : Bool). (t before x && u before x) && r) (turn-and t u (before ++ (x ∷ [])) xs)
      ∙ swap (t before x) (u before x) (in_turn t (before ++ (x ∷ [])) xs) (in_turn u (before ++ (x ∷ [])) xs)

  -- a test that looks at nothing before
  pub turn-all : (f : A → Bool) (before xs : List A) → in_turn (λ b x. f x) before xs ≡ all f xs
  unfolding in_turn
  turn-all f before [] = refl
  turn-all f before (x ∷ xs) = ap (λ (r : Bool). f x && r) (turn-all f (before ++ (x ∷ [])) xs)

  -- one element more at the end
  turn-snoc : (t : List A → A → Bool) (before xs : List A) (x : A) → in_turn t before (xs ++ (x ∷ [])) ≡ (in_turn t before xs && t (before ++ xs) x)
  unfolding in_turn
  turn-snoc t before [] x = and-true (t before x) ∙ ap (λ (l : List A). t l x) (sym (append-nil before))
  turn-snoc t before (y ∷ ys) x =
      ap (λ (r : Bool). t before y && r) (turn-snoc t (before ++ (y ∷ [])) ys x
      ∙ ap (λ (l : List A). in_turn t (before ++ (y ∷ [])) ys && t l x) (append_assoc before (y ∷ []) ys))
      ∙ sym (and_assoc (t before y) (in_turn t (before ++ (y ∷ [])) ys) (t (before ++ (y ∷ ys)) x))

  module _ (t : List A → A → Bool) (f : ℕ → A) where
    -- nothing is judged yet
    pub turn-start : in_turn t [] (up_to 0 f) ≡ true
    unfolding in_turn
    turn-start = refl

    turn_step : (j : ℕ) → in_turn t [] (up_to (j + 1) f) ≡ (in_turn t [] (up_to j f) && t (up_to j f) (f j))
    turn_step j = ap (λ (n : ℕ). in_turn t [] (up_to n f)) (add-one j) ∙ turn-snoc t [] (up_to j f) (f j)

    -- the next one passes
    pub turn-next : {j : ℕ} {b : Bool} → in_turn t [] (up_to j f) ≡ true → b ≡ t (up_to j f) (f j) → b ≡ true → in_turn t [] (up_to (j + 1) f) ≡ true
    turn-next {j} h e p = turn_step j ∙ and_both _ _ h (sym e ∙ p)

    -- it does not, so that the whole list does not
    pub turn-stop : {j : ℕ} {b : Bool} (n : ℕ) → j < n → b ≡ t (up_to j f) (f j) → b ≡ false → false ≡ in_turn t [] (up_to n f)
    turn-stop zero l e p = absurd (omega arith)
    turn-stop {j} (suc m) l e p = step (eqb j m) refl (λ k. turn-stop m k e p)
      where
        step : (d : Bool) → eqb j m ≡ d → (j < m → false ≡ in_turn t [] (up_to m f)) → false ≡ in_turn t [] (up_to (suc m) f)
        step true q h =
            sym (turn-snoc t [] (up_to m f) (f m) ∙ ap (λ (r : Bool). in_turn t [] (up_to m f) && r)
            (ap (λ (i : ℕ). t (up_to i f) (f i)) (sym (eqb-true j m q)) ∙ sym e ∙ p) ∙ and-false (in_turn t [] (up_to m f)))
        step false q h = sym (turn-snoc t [] (up_to m f) (f m) ∙ ap (λ (r : Bool). r && t (up_to m f) (f m)) (sym (h (omega (arith, eqb-false j m q)))))

    -- all are judged
    pub turn-done : {j : ℕ} (n : ℕ) → j ≤ n → n ≤ j → in_turn t [] (up_to j f) ≡ true → true ≡ in_turn t [] (up_to n f)
    turn-done {j} n k l h = let z : j ≡ n = omega arith in sym (subst (λ (m : ℕ). in_turn t [] (up_to m f) ≡ true) z h)

    -- each of a list that passes
    pub turn-each : (n : ℕ) → in_turn t [] (up_to n f) ≡ true → (j : ℕ) → j < n → t (up_to j f) (f j) ≡ true
    turn-each n h j l = ⊎_elim (λ p. p) (λ p. absurd (false-true (turn-stop n l refl p ∙ h))) (decided (t (up_to j f) (f j)))

    -- a list that passes, cut off
    pub turn-front : (n : ℕ) → in_turn t [] (up_to n f) ≡ true → (j : ℕ) → j ≤ n → in_turn t [] (up_to j f) ≡ true
    turn-front n h zero l = turn-start
    turn-front n h (suc j) l =
        ap (λ (k : ℕ). in_turn t [] (up_to k f)) (sym (add-one j)) ∙ turn-next {j = j} (turn-front n h j (omega arith)) refl (turn-each n h j (omega arith))
