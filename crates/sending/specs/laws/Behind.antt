-- A pool with credentials of another one behind its own. Assumes nothing.
use Rattle.std.specs.Prelude.{ℕ, ◌+◌, ◌≤◌, ◌<◌, ◌≡◌, refl, Bool, true, false, not, cond, eqb, length}
use Rattle.std.proofs.Common.{arith, add-one, ◌∙◌, length-append}
use Rattle.std.proofs.Math.Path.{sym, ap}
use mathlib.Core.List.{List, [], ◌∷◌, ◌++◌, append-nil, append_assoc, head-eq_of_cons-eq, tail-eq_of_cons-eq}
use Rattle.std.proofs.lemmas.Bool.{not-true, not-false}
use Rattle.expression.specs.declared.Credential.{Credential}
use Rattle.rt0.specs.declared.Pool.{Pool}
use Rattle.rt0.specs.laws.Pool.{credential_at, credentials}
use Rattle.rt0.specs.laws.Added.{Stored, count-length, length-up_to}
use Rattle.closure.specs.laws.Rules.{el}
use Rattle.rules.specs.laws.Table.{chosen_to, chosen}
use Rattle.needed.specs.laws.Needed.{first_of, rest_of}
use Rattle.needed.specs.laws.Column.{first_rest}

-- the pool Q is P with the credential c behind the others where b says so
pub record StoredIf (b : Bool) (c : Credential) (P Q : Pool) : Type 0 where
  pub all : credentials Q ≡ credentials P ++ cond b (c ∷ []) []

module _ {b : Bool} {c : Credential} {P : Pool} where
  pub is-stored : {i : ℕ} {Q : Pool} → not b ≡ false → Stored i c P Q → StoredIf b c P Q
  is-stored h s = record { all = s.all ∙ ap (λ (x : Bool). credentials P ++ cond x (c ∷ []) []) (sym (not-false b h)) }

  pub not-stored : not b ≡ true → StoredIf b c P P
  not-stored h = record { all = sym (append-nil (credentials P)) ∙ ap (λ (x : Bool). credentials P ++ cond x (c ∷ []) []) (sym (not-true b h)) }

-- one more is stored at most
pub stored-few : (b : Bool) (c : Credential) (P Q : Pool) → StoredIf b c P Q → Q.count ≤ P.count + 1
stored-few b c P Q s = omega (arith, count-length P, count-length Q, ap length s.all, length-append (credentials P) (cond b (c ∷ []) []), at_most_one b)
  where
    at_most_one : (x : Bool) → length (cond x (c ∷ []) []) ≤ 1
    at_most_one true = omega arith
    at_most_one false = omega arith

-- the pool Q has the credentials of S and, behind them, those of the first i of P that are on
pub record Behind (S P : Pool) (on : List ℕ) (i : ℕ) (Q : Pool) : Type 0 where
  pub within : i ≤ P.count
  pub few : Q.count ≤ S.count + i
  pub all : credentials Q ≡ credentials S ++ chosen_to P on i

module _ (S P : Pool) (on : List ℕ) where
  pub behind-start : Behind S P on 0 S
  behind-start = record { within = omega arith; few = omega arith; all = sym (append-nil (credentials S)) }

  pub behind-next : {i : ℕ} {Q R : Pool} → Behind S P on i Q → i < P.count → StoredIf (eqb (el on i) 1) (credential_at P i) Q R → Behind S P on (i + 1) R
  behind-next {i} {Q} {R} h l s =
      record {
        within = omega arith;
        few = omega (arith, h.few, stored-few (eqb (el on i) 1) (credential_at P i) Q R s);
        all = s.all
            ∙ ap (λ (l : List Credential). l ++ cond (eqb (el on i) 1) (credential_at P i ∷ []) []) h.all
            ∙ append_assoc (credentials S) (chosen_to P on i) (cond (eqb (el on i) 1) (credential_at P i ∷ []) [])
            ∙ ap (λ (k : ℕ). credentials S ++ chosen_to P on k) (sym (add-one i));
      }

  pub behind-all : {i : ℕ} {Q : Pool} → Behind S P on i Q → P.count ≤ i → credentials Q ≡ credentials S ++ chosen P on
  unfolding chosen
  behind-all {i} {Q} h l = let z : i ≡ P.count = omega (arith, h.within) in h.all ∙ ap (λ (k : ℕ). credentials S ++ chosen_to P on k) z

pub append-parts : {A : Type 0} (a c b d : List A) → length a ≡ length c → a ++ b ≡ c ++ d → (a ≡ c) × (b ≡ d)
append-parts [] [] b d l h = (refl, h)
append-parts [] (y ∷ c) b d l h = absurd (omega arith)
append-parts (x ∷ a) [] b d l h = absurd (omega arith)
append-parts (x ∷ a) (y ∷ c) b d l h =
    let r = append-parts a c b d (omega arith) (tail-eq_of_cons-eq h) in
    (λ i. head-eq_of_cons-eq h i ∷ r.0 i, r.1)

-- the credentials of a pool that has those of S first
module _ (S Q : Pool) (L : List Credential) (h : credentials Q ≡ credentials S ++ L) where
  pub behind-count : S.count ≤ Q.count
  behind-count = omega (arith, count-length Q, count-length S, ap length h, length-append (credentials S) L)

  pub behind-parts : (first_of Q S.count ≡ credentials S) × (rest_of Q S.count ≡ L)
  unfolding first_of
  behind-parts =
      append-parts (first_of Q S.count) (credentials S) (rest_of Q S.count) L
      (length-up_to S.count (credential_at Q) ∙ sym (count-length S))
      (sym (first_rest Q S.count behind-count) ∙ h)
