-- The credentials that are found from the roles B.r of several entities B, in one column. Assumes nothing.
use Rattle.std.specs.Prelude.{ℕ, ◌+◌, ◌≤◌, ◌<◌, ◌≡◌, refl, ◌⊎◌, Bool, true, false, cond, ◌||◌, List, eqb, ltb, length, set, replicate}
use Rattle.std.proofs.Common.{arith, sym, ◌∙◌, ap, subst, inl, inr, ⊎_elim, eqb-true, ltb-true, ltb-false, length-set, get_or-set_same, get_or-set_other}
use Rattle.std.proofs.lemmas.Bool.{eqb-false}
use Rattle.std.proofs.lemmas.List.{length-replicate}
use Rattle.expression.specs.declared.Expression.{Expression}
use Rattle.expression.specs.declared.Expression.TheVariants as E
use Rattle.expression.specs.Kinds.{is_entity}
use Rattle.rt0.specs.declared.Pool.{Pool}
use Rattle.rt0.specs.From.{role_of}
use Rattle.rt0.specs.laws.Pool.{body_at}
use Rattle.word.specs.laws.Bools.{false-true, or_cases, or_left, or_right}
use Rattle.propagation.specs.laws.Flags.{flag, flag-zeros, decided}
use Rattle.frontier.specs.laws.Frontier.{Chain, Reaches, chain-below}
use Rattle.candidates.specs.laws.Skipped.{Skipped}

pub entity-eq : {a b : ℕ} → E.Entity a ≡ E.Entity b → a ≡ b
entity-eq h = cc

pub other-entity : {x y : Expression} {b : ℕ} → x ≡ y → is_entity y ≡ false → x ≡ E.Entity b → ⊥
other-entity p z q = false-true (sym z ∙ (ap is_entity (sym p) ∙ ap is_entity q))

-- Flagged credentials whose bodies are entities

-- b is the body of one of the first k credentials, which is flagged
pub record MemberTo (P : Pool) (F : List ℕ) (k b : ℕ) : Type 0 where
  pub at : ℕ
  pub below : at < k
  pub flagged : flag F at ≡ true
  pub body : body_at P at ≡ E.Entity b

module _ {P : Pool} {F : List ℕ} where
  more : {k m b : ℕ} → k ≤ m → MemberTo P F k b → MemberTo P F m b
  more h x = let l = x.below in record { at = x.at; below = omega arith; flagged = x.flagged; body = x.body }

  -- one of the first k, or credential k
  last : {k b : ℕ} → MemberTo P F (k + 1) b → MemberTo P F k b ⊎ (body_at P k ≡ E.Entity b)
  last {k} {b} x = go x.at x.below x.flagged x.body
    where
      go : (j : ℕ) → j < k + 1 → flag F j ≡ true → body_at P j ≡ E.Entity b → MemberTo P F k b ⊎ (body_at P k ≡ E.Entity b)
      go j l f y =
          ⊎_elim (λ z. inr (ap (body_at P) (sym (eqb-true j k z)) ∙ y))
          (λ z. inl (record { at = j; below = omega (arith, eqb-false j k z); flagged = f; body = y })) (decided (eqb j k))

  -- none of the credentials from k to m is flagged
  fewer : {k m n b : ℕ} → Skipped (flag F) k n m → MemberTo P F m b → MemberTo P F k b
  fewer {k} {m} {n} {b} S x = go x.at x.below x.flagged x.body
    where
      go : (j : ℕ) → j < m → flag F j ≡ true → body_at P j ≡ E.Entity b → MemberTo P F k b
      go j l f y =
          ⊎_elim (λ z. record { at = j; below = ltb-true j k z; flagged = f; body = y })
          (λ z. absurd (false-true (sym (S.none j (ltb-false j k z) l) ∙ f))) (decided (ltb j k))

-- Flags of one column in another

-- the first k flags of one column are set in another too
pub record Added (k : ℕ) (all found out : List ℕ) : Type 0 where
  pub sized : length out ≡ 128
  pub joined : (i : ℕ) → i < k → flag out i ≡ (flag all i || flag found i)
  pub kept : (i : ℕ) → k ≤ i → flag out i ≡ flag all i

pub added-start : (all found : List ℕ) → length all ≡ 128 → Added 0 all found all
added-start all found l = record { sized = l; joined = λ i h. absurd (omega arith); kept = λ i h. refl }

pub added_next : {k v : ℕ} {all found out next : List ℕ} {b : Bool} → Added k all found out → k < 128 → b ≡ (flag out k || flag found k)
    → v ≡ cond b 1 0 → next ≡ set out k v → Added (k + 1) all found next
added_next {k} {v} {all} {found} {out} {next} {b} A l e f q =
    record {
      sized = ap length q ∙ length-set out k v ∙ A.sized;
      joined =
          λ i h. ⊎_elim (λ z. here-at i (eqb-true i k z)) (λ z. other i (eqb-false i k z) ∙ A.joined i (omega (arith, eqb-false i k z))) (decided (eqb i k));
      kept = λ i h. other i (λ z. omega (arith, z)) ∙ A.kept i (omega arith);
    }
  where
    is : (b : Bool) → eqb (cond b 1 0) 1 ≡ b
    is true = refl
    is false = refl

    at-k : flag next k ≡ (flag all k || flag found k)
    at-k =
        ap (λ (x : List ℕ). flag x k) q ∙ ap (λ (x : ℕ). eqb x 1) (get_or-set_same out k v 0 (omega (arith, A.sized)) ∙ f) ∙ is b ∙ e
        ∙ ap (λ (t : Bool). t || flag found k) (A.kept k (omega arith))

    here-at : (i : ℕ) → i ≡ k → flag next i ≡ (flag all i || flag found i)
    here-at i z = ap (flag next) z ∙ at-k ∙ sym (ap (λ (j : ℕ). flag all j || flag found j) z)

    other : (i : ℕ) → (i ≡ k → ⊥) → flag next i ≡ flag out i
    other i h = ap (λ (x : List ℕ). flag x i) q ∙ ap (λ (x : ℕ). eqb x 1) (get_or-set_other out k i v 0 h)

pub added-count : {k m : ℕ} {all found out : List ℕ} → Added k all found out → m ≤ k → k ≤ m → Added m all found out
added-count {k} {m} {all} {found} {out} A h l = let z : k ≡ m = omega arith in subst (λ (j : ℕ). Added j all found out) z A

-- The credentials that are found

-- the credentials found from B.r are flagged too, if x is an entity B
pub record Grown (P : Pool) (on stop : List ℕ) (r : ℕ) (x : Expression) (all out : List ℕ) : Type 0 where
  pub sized : length out ≡ 128
  pub grows : (i : ℕ) → flag all i ≡ true → flag out i ≡ true
  pub seen : (b i : ℕ) → x ≡ E.Entity b → Chain P on stop (role_of b r) i → flag out i ≡ true
  pub only : (i : ℕ) → flag out i ≡ true → (flag all i ≡ true) ⊎ ((b : ℕ) × (x ≡ E.Entity b) × Chain P on stop (role_of b r) i)

module _ {P : Pool} {on stop : List ℕ} {r : ℕ} {x : Expression} {all : List ℕ} where
  pub grown-entity : {a : ℕ} {found out : List ℕ} → x ≡ E.Entity a → Reaches P on stop (role_of a r) found → Added P.count all found out
      → Grown P on stop r x all out
  grown-entity {a} {found} {out} e R A =
      record {
        sized = A.sized;
        grows =
            λ i h. ⊎_elim (λ z. A.joined i (ltb-true i P.count z) ∙ or_left (flag all i) (flag found i) h)
            (λ z. A.kept i (ltb-false i P.count z) ∙ h) (decided (ltb i P.count));
        seen = λ b i q c.
            let z : Chain P on stop (role_of a r) i = subst (λ (t : ℕ). Chain P on stop (role_of t r) i) (entity-eq (sym q ∙ e)) c in
            A.joined i (chain-below z) ∙ or_right (flag all i) (flag found i) (R.complete i z);
        only = λ i h.
            ⊎_elim
            (λ z. ⊎_elim (λ t. inl t) (λ t. inr (a, e, R.sound i t)) (or_cases (flag all i) (flag found i) (sym (A.joined i (ltb-true i P.count z)) ∙ h)))
            (λ z. inl (sym (A.kept i (ltb-false i P.count z)) ∙ h))
            (decided (ltb i P.count));
      }

  pub grown-other : {y : Expression} → length all ≡ 128 → x ≡ y → is_entity y ≡ false → Grown P on stop r x all all
  grown-other l e z = record { sized = l; grows = λ i h. h; seen = λ b i q c. absurd (other-entity e z q); only = λ i h. inl h }

-- the column flags the credentials found from the roles B.r of the members among the first k bodies, and no other
pub record Collected (P : Pool) (on stop F : List ℕ) (r k : ℕ) (all : List ℕ) : Type 0 where
  pub sized : length all ≡ 128
  pub sound : (i : ℕ) → flag all i ≡ true → (b : ℕ) × MemberTo P F k b × Chain P on stop (role_of b r) i
  pub complete : (b i : ℕ) → MemberTo P F k b → Chain P on stop (role_of b r) i → flag all i ≡ true

module _ (P : Pool) (on stop F : List ℕ) (r : ℕ) where
  pub collected-start : Collected P on stop F r 0 (replicate 128 0)
  collected-start =
      record {
        sized = length-replicate {A = ℕ} 128 0;
        sound = λ i h. absurd (false-true (sym (flag-zeros 128 i) ∙ h));
        complete = λ b i x c. let l = x.below in absurd (omega arith);
      }

  -- credentials that are not flagged are passed over
  pub collected-skip : {k m n : ℕ} {all : List ℕ} → Collected P on stop F r k all → Skipped (flag F) k n m → Collected P on stop F r m all
  collected-skip C S =
      record {
        sized = C.sized;
        sound = λ i h. let s = C.sound i h in (s.0, more S.from s.1, s.2);
        complete = λ b i x c. C.complete b i (fewer S x) c;
      }

  pub collected-next : {k : ℕ} {all out : List ℕ} {x : Expression} → Collected P on stop F r k all → flag F k ≡ true → x ≡ body_at P k
      → Grown P on stop r x all out → Collected P on stop F r (k + 1) out
  collected-next {k} C f e G =
      record {
        sized = G.sized;
        sound = λ i h.
            ⊎_elim (λ t. let s = C.sound i t in (s.0, more (omega arith) s.1, s.2))
            (λ t. (t.0, record { at = k; below = omega arith; flagged = f; body = sym e ∙ t.1 }, t.2))
            (G.only i h);
        complete = λ b i x c. ⊎_elim (λ t. G.grows i (C.complete b i t c)) (λ t. G.seen b i (e ∙ t) c) (last x);
      }

  pub collected-count : {k m : ℕ} {all : List ℕ} → Collected P on stop F r k all → m ≤ k → k ≤ m → Collected P on stop F r m all
  collected-count {k} {m} {all} C h l = let z : k ≡ m = omega arith in subst (λ (j : ℕ). Collected P on stop F r j all) z C
