-- What is kept of a list by a test that only gains by more, and the quick way to it: where those kept are enough, none of the others is; else
-- the next one kept is the last with which the tail of the list is enough, and all before it are dropped. Assumes nothing.
use Rattle.std.specs.Prelude.{ℕ, ◌+◌, ◌-◌, Bool, cond, ◌≡◌}
use Rattle.std.proofs.Math.Bool.{true, false}
use mathlib.Core.List.Memᴰ
use mathlib.Core.List.{List, [], ◌∷◌, ◌++◌, append_assoc, append-nil, Memᴰ}
use Rattle.expression.specs.declared.Credential.{Credential}
use Rattle.expression.specs.declared.Expression.{Expression}
use Rattle.rt0.specs.declared.Pool.{Pool}
use Rattle.rt0.specs.Decide.{from?}
use Rattle.rt0.specs.Pool.{up_to}
use Rattle.rt0.specs.laws.Pool.{credential_at}
use Rattle.std.proofs.Math.Path.{refl, sym, ap, subst}
use Rattle.std.proofs.Common.{◌∙◌}
use Rattle.std.proofs.Math.Logic.{⊎_elim}
use Rattle.rt0.proofs.laws.Laws.{more, sound, complete}
use Rattle.word.specs.laws.Bools.{false-true, bool_iff, not-of}
use Rattle.needed.specs.Needed.{kept, enough, needed, Each, last, next}

-- the first s credentials of a pool
unfoldable pub first_of : Pool → ℕ → List Credential
first_of P s = up_to s (credential_at P)

-- the credentials of a pool from number s on
unfoldable pub rest_of : Pool → ℕ → List Credential
rest_of P s = up_to (P.count - s) (λ (i : ℕ). credential_at P (s + i))

-- the test only gains by more elements, whatever their order
pub record Gains (A : Type 0) (g : List A → Bool) : Type 0 where
  pub gains : {C D : List A} → ((c : A) → Memᴰ c C → Memᴰ c D) → g C ≡ true → g D ≡ true

-- more credentials justify more
pub enough-gains : (shown : List Credential) (f e : Expression) → Gains Credential (enough shown f e)
enough-gains shown f e =
    record {
      gains = λ {C} {D} sub h. complete (shown ++ D) f e
          (more (λ c m. ⊎_elim (λ k. Memᴰ.append_left D k) (λ k. Memᴰ.append_right shown (sub c k)) (Memᴰ.append_cases shown m))
          (sound (shown ++ C) f e h));
    }

-- the first list is the second with some elements left out
pub data Sublist {A : Type 0} : List A → List A → Type 0 where
  nothing : Sublist [] []
  dropped : {c : A} {xs ys : List A} → Sublist xs ys → Sublist xs (c ∷ ys)
  taken : {c : A} {xs ys : List A} → Sublist xs ys → Sublist (c ∷ xs) (c ∷ ys)

-- a sublist has no other elements
pub sub-mem : {A : Type 0} {xs ys : List A} → Sublist xs ys → (d : A) → Memᴰ d xs → Memᴰ d ys
sub-mem nothing d m = m
sub-mem (dropped h) d m = Memᴰ.tail (sub-mem h d m)
sub-mem (taken h) d m = ⊎_elim (λ q. Memᴰ.head q) (λ k. Memᴰ.tail (sub-mem h d k)) (Memᴰ.cases_cons m)

module _ {A : Type 0} (g : List A → Bool) where
  -- one that can be missed is dropped
  pub kept-drop : (ks : List A) (c : A) (cs : List A) → g (ks ++ cs) ≡ true → kept g ks (c ∷ cs) ≡ kept g ks cs
  unfolding kept
  kept-drop ks c cs h = rw h refl

  -- one that cannot is kept
  pub kept-keep : (ks : List A) (c : A) (cs : List A) → g (ks ++ cs) ≡ false → kept g ks (c ∷ cs) ≡ kept g (ks ++ (c ∷ [])) cs
  unfolding kept
  kept-keep ks c cs h = rw h refl

  -- with none to be tried, those kept so far are kept
  pub kept-nil : (ks : List A) → kept g ks [] ≡ ks
  unfolding kept
  kept-nil ks = refl

  -- what is kept is enough where the whole is
  pub kept-enough : (ks cs : List A) → g (ks ++ cs) ≡ true → g (kept g ks cs) ≡ true
  unfolding kept
  kept-enough ks [] h = ap g (sym (append-nil ks)) ∙ h
  kept-enough ks (c ∷ cs) h = go (g (ks ++ cs)) refl (λ k. kept-enough ks cs k) (kept-enough (ks ++ (c ∷ [])) cs (ap g (append_assoc ks (c ∷ []) cs) ∙ h))
    where
      go : (b : Bool) → g (ks ++ cs) ≡ b → (g (ks ++ cs) ≡ true → g (kept g ks cs) ≡ true) → g (kept g (ks ++ (c ∷ [])) cs) ≡ true
          → g (kept g (cond b ks (ks ++ (c ∷ []))) cs) ≡ true
      go true q drop keep = drop q
      go false q drop keep = keep

  module _ (more : Gains A g) where
    -- where those kept are enough, all others are dropped
    pub kept-done : (ks cs : List A) → g ks ≡ true → kept g ks cs ≡ ks
    kept-done ks [] h = kept-nil ks
    kept-done ks (c ∷ cs) h = kept-drop ks c cs (more.gains (λ d m. Memᴰ.append_left cs m) h) ∙ kept-done ks cs h

    -- all before a tail that is enough are dropped
    pub kept-skip : (ks before after : List A) → g (ks ++ after) ≡ true → kept g ks (before ++ after) ≡ kept g ks after
    kept-skip ks [] after h = refl
    kept-skip ks (c ∷ before) after h = kept-drop ks c (before ++ after) (more.gains tail h) ∙ kept-skip ks before after h
      where
        tail : (d : A) → Memᴰ d (ks ++ after) → Memᴰ d (ks ++ (before ++ after))
        tail d m = ⊎_elim (λ k. Memᴰ.append_left (before ++ after) k) (λ k. Memᴰ.append_right ks (Memᴰ.append_right before k)) (Memᴰ.append_cases ks m)

    -- the last one with which the tail is enough is kept, and all before it are dropped
    pub kept-jump : (ks before : List A) (c : A) (after : List A) → g (ks ++ (c ∷ after)) ≡ true → g (ks ++ after) ≡ false
        → kept g ks (before ++ (c ∷ after)) ≡ kept g (ks ++ (c ∷ [])) after
    kept-jump ks before c after h k = kept-skip ks before (c ∷ after) h ∙ kept-keep ks c after k

    -- where the whole is not enough, all are kept
    pub kept-all : (ks cs : List A) → g (ks ++ cs) ≡ false → kept g ks cs ≡ ks ++ cs
    kept-all ks [] h = kept-nil ks ∙ sym (append-nil ks)
    kept-all ks (c ∷ cs) h =
        kept-keep ks c cs (not-of (g (ks ++ cs)) (λ k. false-true (sym h ∙ more.gains fewer k)))
        ∙ (kept-all (ks ++ (c ∷ [])) cs (ap g (append_assoc ks (c ∷ []) cs) ∙ h) ∙ append_assoc ks (c ∷ []) cs)
      where
        fewer : (d : A) → Memᴰ d (ks ++ cs) → Memᴰ d (ks ++ (c ∷ cs))
        fewer d m = ⊎_elim (λ k. Memᴰ.append_left (c ∷ cs) k) (λ k. Memᴰ.append_right ks (Memᴰ.tail k)) (Memᴰ.append_cases ks m)

    -- those kept so far stay; after them come some of the others, in their order, and none of these can be missed
    pub kept-each : (ks cs : List A) → (zs : List A) × (kept g ks cs ≡ ks ++ zs) × Sublist zs cs × Each g ks zs
    unfolding kept
    kept-each ks [] = ([], sym (append-nil ks), nothing, last)
    kept-each ks (c ∷ cs) = go (g (ks ++ cs)) refl (kept-each ks cs) (kept-each (ks ++ (c ∷ [])) cs)
      where
        fewer : {zs : List A} → Sublist zs cs → (d : A) → Memᴰ d (ks ++ zs) → Memᴰ d (ks ++ cs)
        fewer h d m = ⊎_elim (λ k. Memᴰ.append_left cs k) (λ k. Memᴰ.append_right ks (sub-mem h d k)) (Memᴰ.append_cases ks m)

        go : (b : Bool) → g (ks ++ cs) ≡ b → (zs : List A) × (kept g ks cs ≡ ks ++ zs) × Sublist zs cs × Each g ks zs
            → (zs : List A) × (kept g (ks ++ (c ∷ [])) cs ≡ (ks ++ (c ∷ [])) ++ zs) × Sublist zs cs × Each g (ks ++ (c ∷ [])) zs
            → (zs : List A) × (kept g (cond b ks (ks ++ (c ∷ []))) cs ≡ ks ++ zs) × Sublist zs (c ∷ cs) × Each g ks zs
        go true q drop keep = (drop.0, drop.1, dropped drop.2, drop.3)
        go false q drop keep = (
          c ∷ keep.0,
          keep.1 ∙ append_assoc ks (c ∷ []) keep.0,
          taken keep.2,
          next
              (not-of (g (ks ++ keep.0)) (λ k. false-true (sym q ∙ more.gains (fewer keep.2) k))) keep.3,
        )

-- The needed credentials

module _ (shown : List Credential) (f e : Expression) (own : List Credential) where
  -- where all own credentials together are not enough, all are needed
  pub needed-all : from? (shown ++ own) f e ≡ false → needed shown f e own ≡ own
  unfolding needed
  needed-all h = kept-all (enough shown f e) (enough-gains shown f e) [] own h

  -- where they are, the needed ones are
  pub needed-enough : from? (shown ++ own) f e ≡ true → from? (shown ++ needed shown f e own) f e ≡ true
  unfolding needed
  needed-enough h = kept-enough (enough shown f e) [] own h

  -- where those shown are enough, none is needed
  pub needed-none : from? shown f e ≡ true → needed shown f e own ≡ []
  unfolding needed
  needed-none h = kept-done (enough shown f e) (enough-gains shown f e) [] own (ap (λ (l : List Credential). from? l f e) (append-nil shown) ∙ h)

  -- none of the needed ones can be missed
  pub needed-each : Each (enough shown f e) [] (needed shown f e own)
  unfolding needed
  needed-each =
      let r = kept-each (enough shown f e) (enough-gains shown f e) [] own in
      subst (λ (zs : List Credential). Each (enough shown f e) [] zs) (sym r.1) r.3

  -- the needed ones are some of the own ones, in their order
  pub needed-some : Sublist (needed shown f e own) own
  unfolding needed
  needed-some =
      let r = kept-each (enough shown f e) (enough-gains shown f e) [] own in
      subst (λ (zs : List Credential). Sublist zs own) (sym r.1) r.2

  -- the needed ones are enough exactly where all own ones are
  pub needed-same : from? (shown ++ own) f e ≡ from? (shown ++ needed shown f e own) f e
  needed-same = bool_iff _ _ needed-enough (λ h. (enough-gains shown f e).gains (sub-mem needed-some) h)
