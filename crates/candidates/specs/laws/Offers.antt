-- Edges offered one after another, by number: the best of them. Assumes nothing.
use Prim.Native.Nat.{ℕ, zero, suc, ◌+◌, ◌≤◌, ◌<◌}
use native.Mathlib.Omega.{arith}
use Rattle.std.specs.Prelude.{◌≡◌, ◌⊎◌, Bool, true, false, eqb}
use Rattle.std.proofs.Math.Path.{refl, ap}
use Rattle.std.proofs.Common.{sym, ◌∙◌, subst, inr, eqb-true}
use Rattle.std.proofs.Math.Logic.{inl, ⊎_elim}
use Rattle.std.proofs.Math.Bool.{cond}
use mathlib.Core.List.Memᴰ
use mathlib.Core.List.{List, [], ◌∷◌, Memᴰ}
use Rattle.std.proofs.lemmas.Bool.{eqb-false}
use Rattle.word.specs.laws.Bools.{false-true}
use Rattle.propagation.specs.laws.Flags.{decided}
use Rattle.moves.specs.declared.Candidate.{Candidate}
use Rattle.moves.specs.declared.Choice.{Choice}
use Rattle.moves.specs.declared.Choice.TheVariants as C
use Rattle.moves.specs.Candidates.{ordered, first_not}
use Rattle.candidates.specs.laws.Least.{better, Best, best-start, best-same, best-next, Uniform, best-first}

-- what a loop over the numbers below m makes of b
abbrev pub turned : ℕ → (Choice → ℕ → Choice) → Choice → Choice
turned zero f b = b
turned (suc m) f b = f (turned m f b) m

-- what is chosen behind the numbers below m
unfoldable pub folded : ℕ → (Choice → ℕ → Choice) → Choice → Choice
folded m f b = turned m f b

module _ (f : Choice → ℕ → Choice) (b : Choice) where
  pub folded_start : b ≡ folded 0 f b
  unfolding folded
  folded_start = refl

  pub folded-next : {k : ℕ} {c e : Choice} → c ≡ folded k f b → e ≡ f c k → e ≡ folded (k + 1) f b
  unfolding folded
  folded-next {k} p q = let z : suc k ≡ k + 1 = omega arith in q ∙ (ap (λ (x : Choice). f x k) p ∙ ap (λ (j : ℕ). turned j f b) z)

  pub folded-all : {k m : ℕ} {c : Choice} → c ≡ folded k f b → m ≤ k → k ≤ m → c ≡ folded m f b
  folded-all {k} {m} p l h = p ∙ ap (λ (j : ℕ). folded j f b) (omega arith)

-- the edge of a number, where it is offered
unfoldable pub offer : (Candidate → Bool) → (ℕ → Bool) → (ℕ → Candidate) → Choice → ℕ → Choice
offer d is edge b k = cond (is k) (better d b (edge k)) b

pub offer-taken : (d : Candidate → Bool) (is : ℕ → Bool) (edge : ℕ → Candidate) (b : Choice) (k : ℕ) {r : Choice} → is k ≡ true
    → r ≡ better d b (edge k) → r ≡ offer d is edge b k
unfolding offer
offer-taken d is edge b k h e = e ∙ sym (ap (λ (x : Bool). cond x (better d b (edge k)) b) h)

pub offer-left : (d : Candidate → Bool) (is : ℕ → Bool) (edge : ℕ → Candidate) (b : Choice) (k : ℕ) → is k ≡ false → b ≡ offer d is edge b k
unfolding offer
offer-left d is edge b k h = sym (ap (λ (x : Bool). cond x (better d b (edge k)) b) h)

-- Which edges were offered

-- one of the numbers below m passes the test and leads to w
pub record Among (m : ℕ) (is : ℕ → Bool) (L : ℕ → Candidate → Type 0) (w : Candidate) : Type 0 where
  pub at : ℕ
  pub below : at < m
  pub passes : is at ≡ true
  pub leads : L at w

-- w is the edge of number k
pub record Is (edge : ℕ → Candidate) (k : ℕ) (w : Candidate) : Type 0 where
  pub same : w ≡ edge k

module _ {d : Candidate → Bool} (is : ℕ → Bool) (L : ℕ → Candidate → Type 0) (g : Choice → ℕ → Choice)
    (step : (Q : Candidate → Type 0) (b : Choice) (k : ℕ) → is k ≡ true → Best d Q b → Best d (λ w. Q w ⊎ L k w) (g b k)) where
  one_more : (Q : Candidate → Type 0) (b : Choice) (m : ℕ) (a : Bool) → is m ≡ a → Best d (λ w. Q w ⊎ Among m is L w) b
      → Best d (λ w. Q w ⊎ Among (suc m) is L w) (cond a (g b m) b)
  one_more Q b m true e h = best-same to fro (step (λ w. Q w ⊎ Among m is L w) b m e h)
    where
      to : (w : Candidate) → (Q w ⊎ Among m is L w) ⊎ L m w → Q w ⊎ Among (suc m) is L w
      to w (inl (inl q)) = inl q
      to w (inl (inr x)) = let l = x.below in inr (record { at = x.at; below = omega arith; passes = x.passes; leads = x.leads })
      to w (inr x) = inr (record { at = m; below = omega arith; passes = e; leads = x })

      fro : (w : Candidate) → Q w ⊎ Among (suc m) is L w → (Q w ⊎ Among m is L w) ⊎ L m w
      fro w (inl q) = inl (inl q)
      fro w (inr x) = last x.at x.below x.passes x.leads
        where
          last : (j : ℕ) → j < suc m → is j ≡ true → L j w → (Q w ⊎ Among m is L w) ⊎ L m w
          last j l p y =
              ⊎_elim (λ z. inr (subst (λ (t : ℕ). L t w) (eqb-true j m z) y))
              (λ z. inl (inr (record { at = j; below = omega (arith, eqb-false j m z); passes = p; leads = y }))) (decided (eqb j m))
  one_more Q b m false e h = best-same to fro h
    where
      to : (w : Candidate) → Q w ⊎ Among m is L w → Q w ⊎ Among (suc m) is L w
      to w (inl q) = inl q
      to w (inr x) = let l = x.below in inr (record { at = x.at; below = omega arith; passes = x.passes; leads = x.leads })

      fro : (w : Candidate) → Q w ⊎ Among (suc m) is L w → Q w ⊎ Among m is L w
      fro w (inl q) = inl q
      fro w (inr x) = other x.at x.below x.passes x.leads
        where
          other : (j : ℕ) → j < suc m → is j ≡ true → L j w → Q w ⊎ Among m is L w
          other j l p y =
              ⊎_elim (λ z. absurd (false-true (sym e ∙ (ap is (sym (eqb-true j m z)) ∙ p))))
              (λ z. inr (record { at = j; below = omega (arith, eqb-false j m z); passes = p; leads = y })) (decided (eqb j m))

  -- the best of what was there and of all that the numbers lead to
  pub among-best : (Q : Candidate → Type 0) (b : Choice) (m : ℕ) → Best d Q b → Best d (λ w. Q w ⊎ Among m is L w) (folded m (λ c k. cond (is k) (g c k) c) b)
  unfolding folded
  among-best Q b zero h = best-same (λ w q. inl q) (λ w x. ⊎_elim (λ q. q) (λ y. let l = y.below in absurd (omega arith)) x) h
  among-best Q b (suc m) h = one_more Q (turned m (λ c k. cond (is k) (g c k) c) b) m (is m) refl (among-best Q b m h)

-- the edges of the numbers themselves
pub offers-best : (d : Candidate → Bool) (is : ℕ → Bool) (edge : ℕ → Candidate) (Q : Candidate → Type 0) (b : Choice) (m : ℕ) → Best d Q b
    → Best d (λ w. Q w ⊎ Among m is (Is edge) w) (folded m (offer d is edge) b)
unfolding offer
offers-best d is edge Q b m h =
    among-best is (Is edge) (λ c k. better d c (edge k))
    (λ R c k e x. best-next (edge k) (λ v q. inl q) (inr (record { same = refl })) (λ v y. ⊎_elim (λ q. inl q) (λ z. inr z.same) y) x)
    Q b m h

-- edges in order: the first that is not done is the best of those offered
pub offers-first : (d : Candidate → Bool) {kind verifier : ℕ} (is : ℕ → Bool) (edge : ℕ → Candidate) (m : ℕ) (vs : List Candidate) → Uniform kind verifier vs
    → ((w : Candidate) → Memᴰ w vs → Among m is (Is edge) w) → ((w : Candidate) → Among m is (Is edge) w → Memᴰ w vs)
    → folded m (offer d is edge) C.Nothing ≡ first_not d C.Nothing (ordered vs)
offers-first d is edge m vs U f g =
    sym (best-first vs U d (best-same (λ w x. ⊎_elim (λ z. absurd z) (λ y. g w y) x) (λ w y. inr (f w y))
    (offers-best d is edge (λ w. ⊥) C.Nothing m (best-start (λ v z. z)))))

-- A list of edges

-- the best of b and the edges of a list
abbrev pub best_of : (Candidate → Bool) → Choice → List Candidate → Choice
best_of d b [] = b
best_of d b (w ∷ ws) = best_of d (better d b w) ws

list-best : {d : Candidate → Bool} (Q : Candidate → Type 0) (b : Choice) (ws : List Candidate) → Best d Q b → Best d (λ w. Q w ⊎ Memᴰ w ws) (best_of d b ws)
list-best Q b [] h = best-same (λ w q. inl q) (λ w x. ⊎_elim (λ q. q) (λ y. absurd (Memᴰ.not-nil y)) x) h
list-best {d} Q b (v ∷ ws) h =
    best-same (λ w x. ⊎_elim (λ y. ⊎_elim (λ q. inl q) (λ z. inr (Memᴰ.head z)) y) (λ z. inr (Memᴰ.tail z)) x)
    (λ w x. ⊎_elim (λ q. inl (inl q)) (λ y. ⊎_elim (λ z. inl (inr z)) (λ z. inr z) (Memᴰ.cases_cons y)) x)
    (list-best (λ w. Q w ⊎ (w ≡ v)) (better d b v) ws (best-next v (λ w q. inl q) (inr refl) (λ w y. y) h))

pub list-first : (d : Candidate → Bool) {kind verifier : ℕ} (vs : List Candidate) → Uniform kind verifier vs
    → best_of d C.Nothing vs ≡ first_not d C.Nothing (ordered vs)
list-first d vs U =
    sym (best-first vs U d (best-same (λ w x. ⊎_elim (λ z. absurd z) (λ y. y) x) (λ w y. inr y) (list-best (λ w. ⊥) C.Nothing vs (best-start (λ v z. z)))))
