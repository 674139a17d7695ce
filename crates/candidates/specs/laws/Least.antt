-- The least edge that is not done, found edge by edge, is the first in order. Assumes nothing.
use Rattle.std.specs.Prelude.{ℕ, ◌≡◌, ◌⊎◌, Bool}
use Rattle.std.proofs.Math.Path.{refl, ap}
use Rattle.std.proofs.Common.{sym, ◌∙◌}
use Rattle.std.proofs.Math.Logic.{inl, inr, ⊎_elim}
use Rattle.std.proofs.Math.Bool.{true, false, cond}
use mathlib.Core.List.{List, [], ◌∷◌, ◌++◌, Memᴰ}
use Rattle.rt0.specs.Lists.{all}
use Rattle.rt0.specs.laws.Lists.{all_of}
use Rattle.word.specs.laws.Bools.{and_parts, false-true}
use Rattle.moves.specs.declared.Candidate.{Candidate}
use Rattle.moves.specs.declared.Choice.{Choice}
use Rattle.moves.specs.declared.Choice.TheVariants as C
use Rattle.moves.specs.Candidates.{precedes, equals, ordered, first_not}
use Rattle.moves.specs.laws.Candidates.{equals-self, equals-parts, equals-after, precedes-strict, precedes-total, First, first-here, first_next, alike-one}
use Rattle.moves.specs.laws.Candidates.{ordered-first, least_first, ordered-all}

-- One edge more

-- w comes before the edge that is chosen
abbrev pub improves : Choice → Candidate → Bool
improves (C.Edge v) w = precedes w v
improves C.Mark w = true
improves C.Nothing w = true

-- the lesser of what is chosen and w, unless w is done
unfoldable pub better : (Candidate → Bool) → Choice → Candidate → Choice
better d b w = cond (improves b w) (cond (d w) b (C.Edge w)) b

-- the choice is the least of the edges of Q that are not done, or nothing where all are
pub data Best (d : Candidate → Bool) (Q : Candidate → Type 0) : Choice → Type 0 where
  none : ((v : Candidate) → Q v → d v ≡ true) → Best d Q C.Nothing
  some : (w : Candidate) → Q w → d w ≡ false → ((v : Candidate) → Q v → d v ≡ false → (equals v w ≡ true) ⊎ (precedes w v ≡ true)) → Best d Q (C.Edge w)

module _ {d : Candidate → Bool} where
  pub best-start : {Q : Candidate → Type 0} → ((v : Candidate) → Q v → ⊥) → Best d Q C.Nothing
  best-start h = none (λ v q. absurd (h v q))

  pub best-same : {Q R : Candidate → Type 0} {b : Choice} → ((v : Candidate) → Q v → R v) → ((v : Candidate) → R v → Q v) → Best d Q b → Best d R b
  best-same f g (none h) = none (λ v r. h v (g v r))
  best-same f g (some w q n l) = some w (f w q) n (λ v r. l v (g v r))

  -- with w among the edges
  pub best-next : {Q R : Candidate → Type 0} {b : Choice} (w : Candidate) → ((v : Candidate) → Q v → R v) → R w
      → ((v : Candidate) → R v → Q v ⊎ (v ≡ w)) → Best d Q b → Best d R (better d b w)
  unfolding better
  best-next {Q} {R} w f rw g (none h) = go (d w) refl
    where
      go : (a : Bool) → d w ≡ a → Best d R (cond a C.Nothing (C.Edge w))
      go true k = none (λ v r. ⊎_elim (λ q. h v q) (λ e. ap d e ∙ k) (g v r))
      go false k =
          some w rw k (λ v r n. ⊎_elim (λ q. absurd (false-true (sym n ∙ h v q))) (λ e. inl (ap (λ (z : Candidate). equals z w) e ∙ equals-self w)) (g v r))
  best-next {Q} {R} w f rw g (some u q n l) = go (precedes w u) (d w) refl refl
    where
      -- w is not before u
      stay : precedes w u ≡ false → Best d R (C.Edge u)
      stay k = some u (f u q) n (λ v r m. ⊎_elim (λ s. l v s m) (λ e. apart v e (equals w u) refl) (g v r))
        where
          apart : (v : Candidate) → v ≡ w → (b : Bool) → equals w u ≡ b → (equals v u ≡ true) ⊎ (precedes u v ≡ true)
          apart v e true z = inl (ap (λ (x : Candidate). equals x u) e ∙ z)
          apart v e false z = inr (ap (precedes u) e ∙ precedes-total w u k z)

      go : (a b : Bool) → precedes w u ≡ a → d w ≡ b → Best d R (cond a (cond b (C.Edge u) (C.Edge w)) (C.Edge u))
      go true true k m = some u (f u q) n (λ v r o. ⊎_elim (λ s. l v s o) (λ e. absurd (false-true (sym o ∙ (ap d e ∙ m)))) (g v r))
      go true false k m =
          some w rw m
          (λ v r o.
          ⊎_elim
          (λ s. ⊎_elim (λ z. inr (equals-after v u w z ∙ k)) (λ z. inr (precedes-strict.transitive w u v k z)) (l v s o))
          (λ e. inl (ap (λ (z : Candidate). equals z w) e ∙ equals-self w))
          (g v r))
      go false b k m = stay k

-- The first edge that is not done

-- the choice, or else the rest
abbrev pub or_else : Choice → Choice → Choice
or_else (C.Edge w) rest = C.Edge w
or_else C.Mark rest = C.Mark
or_else C.Nothing rest = rest

module _ (d : Candidate → Bool) where
  pub first_rest : (rest : Choice) (ws : List Candidate) → first_not d rest ws ≡ or_else (first_not d C.Nothing ws) rest
  unfolding first_not
  first_rest rest [] = refl
  first_rest rest (w ∷ ws) = go (d w) (first_rest rest ws)
    where
      go : (b : Bool) → first_not d rest ws ≡ or_else (first_not d C.Nothing ws) rest
          → cond b (first_not d rest ws) (C.Edge w) ≡ or_else (cond b (first_not d C.Nothing ws) (C.Edge w)) rest
      go true ih = ih
      go false ih = refl

  pub first-append : (rest : Choice) (vs ws : List Candidate) → first_not d rest (vs ++ ws) ≡ first_not d (first_not d rest ws) vs
  unfolding first_not
  first-append rest [] ws = refl
  first-append rest (v ∷ vs) ws = ap (λ (c : Choice). cond (d v) c (C.Edge v)) (first-append rest vs ws)

  first_found : (rest : Choice) {L : List Candidate} {w : Candidate} → First d L w → first_not d rest L ≡ C.Edge w
  unfolding first_not
  first_found rest (first-here {w = w} {ws = ws} h) = ap (λ (b : Bool). cond b (first_not d rest ws) (C.Edge w)) h
  first_found rest (first_next {v = v} {ws = ws} h f) = ap (λ (b : Bool). cond b (first_not d rest ws) (C.Edge v)) h ∙ first_found rest f

  first-none : (rest : Choice) (L : List Candidate) → all d L ≡ true → first_not d rest L ≡ rest
  unfolding first_not
  first-none rest [] h = refl
  first-none rest (w ∷ ws) h =
      let p = and_parts (d w) (all d ws) h in
      ap (λ (b : Bool). cond b (first_not d rest ws) (C.Edge w)) p.0 ∙ first-none rest ws p.1

-- edges of one kind to children of one verifier
pub record Uniform (k v : ℕ) (ws : List Candidate) : Type 0 where
  pub each : (w : Candidate) → Memᴰ w ws → (w.kind ≡ k) × (w.verifier ≡ v) × (w.direct ≡ false)

module _ {k v : ℕ} (vs : List Candidate) (U : Uniform k v vs) where
  pairs : (u w : Candidate) → Memᴰ u vs → Memᴰ w vs → (u.kind ≡ w.kind) × (u.verifier ≡ w.verifier) × (u.direct ≡ w.direct)
  pairs u w m n = let a = U.each u m in let b = U.each w n in (a.0 ∙ sym b.0, a.1 ∙ sym b.1, a.2 ∙ sym b.2)

  -- the best of the list is the first in order that is not done
  pub best-first : (d : Candidate → Bool) {b : Choice} → Best d (λ w. Memᴰ w vs) b → first_not d C.Nothing (ordered vs) ≡ b
  best-first d (none h) = first-none d C.Nothing (ordered vs) (ordered-all vs (alike-one d vs pairs) ∙ all_of d vs h)
  best-first d (some w m n l) =
      let f = least_first vs (alike-one d vs pairs) (record { there = m; fails = n; least = l }) in
      first_found d C.Nothing f.1 ∙ ap C.Edge (sym (one f.0 (first-mem-of f.1) f.2))
    where
      first-mem-of : {x : Candidate} → First d (ordered vs) x → Memᴰ x vs
      first-mem-of h = (ordered-first vs (alike-one d vs pairs) h).there

      one : (x : Candidate) → Memᴰ x vs → equals w x ≡ true → w ≡ x
      one x o e =
          let p = pairs w x m o in let q = equals-parts w x e in λ i.
          record { kind = p.0 i; verifier = p.1 i; expression = q.0 i; subject = q.1 i; direct = p.2 i }
