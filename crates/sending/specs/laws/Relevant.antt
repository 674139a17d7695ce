-- A pool with the credentials of another one that a column flags. Assumes nothing.
use Rattle.std.specs.Prelude.{ℕ, suc, ◌+◌, ◌-◌, ◌≤◌, ◌<◌, ◌≡◌, refl, Bool, true, false, not, cond, List, [], ◌∷◌, ◌++◌, eqb, replicate}
use Rattle.std.proofs.Common.{arith, sym, ◌∙◌, ap, ap₂, subst, append-nil, append_assoc, eq-eqb, ne_eqb}
use Rattle.std.proofs.lemmas.Bool.{eqb-false}
use Rattle.expression.specs.declared.Credential.{Credential}
use Rattle.expression.specs.declared.Expression.{Expression}
use Rattle.rt0.specs.declared.Pool.{Pool}
use Rattle.rt0.specs.Decide.{from?}
use Rattle.rt0.specs.laws.Pool.{credential_at, credentials}
use Rattle.rt0.specs.Pool.{up_to}
use Rattle.rt0.specs.laws.Added.{Stored, up_to-same}
use Rattle.closure.specs.laws.Rules.{el}
use Rattle.rules.specs.laws.Table.{chosen}
use Rattle.needed.specs.Needed.{needed}
use Rattle.needed.specs.laws.Needed.{first_of, rest_of, needed-all}
use Rattle.needed.specs.laws.Columns.{WithRest}
use Rattle.needed.specs.laws.Column.{first_rest, rest-alone}
use Rattle.needed.specs.laws.Relevant.{Sufficient, Reduced, nothing, dropped, taken, Flagged, ClosedFor}
use Rattle.needed.specs.laws.RelevantLaws.{reduced-append, from-relevant, needed-relevant, closed-column}
use Rattle.message.specs.declared.Command.{Command}
use Rattle.moves.specs.declared.Outgoing.{Outgoing}
use Rattle.sending.specs.laws.Behind.{StoredIf, is-stored, not-stored, stored-few, behind-count, behind-parts}
use Rattle.sending.specs.laws.Sent.{Sends}
use Rattle.sending.specs.laws.SentLaws.{sends-as}

-- the pool Q has the credentials of S and, behind them, the d credentials of P from number a on with some left out, none with a flagged head
pub record Selected (P : Pool) (flags : List ℕ) (a d : ℕ) (S Q : Pool) : Type 0 where
  pub few : Q.count ≤ S.count + d
  pub some : List Credential
  pub all : credentials Q ≡ credentials S ++ some
  pub reduced : Reduced (Flagged P flags) some (up_to d (λ (i : ℕ). credential_at P (a + i)))

-- the pool R has the credentials of P with some left out, none with a flagged head; its first t are those of the first s
pub record PartOf (P : Pool) (s : ℕ) (flags : List ℕ) (R : Pool) (t : ℕ) : Type 0 where
  pub few : R.count ≤ 128
  pub within : t ≤ R.count
  pub first : Reduced (Flagged P flags) (first_of R t) (first_of P s)
  pub rest : Reduced (Flagged P flags) (rest_of R t) (rest_of P s)

-- one credential

module _ {v : ℕ} {c : Credential} {P : Pool} where
  pub flag-stored : {i : ℕ} {d : Credential} {Q : Pool} → v ≡ 1 → d ≡ c → Stored i d P Q → StoredIf (eqb v 1) c P Q
  flag-stored {Q = Q} h q s = subst (λ (x : Credential). StoredIf (eqb v 1) x P Q) q (is-stored (ap not (eq-eqb v 1 h)) s)

  pub flag-not : (v ≡ 1 → ⊥) → StoredIf (eqb v 1) c P P
  flag-not h = not-stored (ap not (ne_eqb v 1 h))

-- one after the other

module _ {P : Pool} {flags : List ℕ} {a : ℕ} {S : Pool} where
  pub selected-start : (d : ℕ) → d ≡ 0 → Selected P flags a d S S
  selected-start d q =
      record {
        few = omega arith;
        some = [];
        all = sym (append-nil (credentials S));
        reduced = subst (λ (k : ℕ). Reduced (Flagged P flags) [] (up_to k (λ (i : ℕ). credential_at P (a + i)))) (sym q) nothing;
      }

  pub selected-next : {Q R : Pool} (d e i : ℕ) → Selected P flags a d S Q → i ≡ a + d → e ≡ suc d → i < P.count
      → StoredIf (eqb (el flags i) 1) (credential_at P i) Q R → Selected P flags a e S R
  selected-next {Q} {R} d e i h ie ee l s =
      record {
        few = omega (arith, h.few, stored-few (eqb (el flags i) 1) (credential_at P i) Q R s);
        some = h.some ++ cond (eqb (el flags i) 1) (credential_at P i ∷ []) [];
        all =
            s.all ∙ ap (λ (l : List Credential). l ++ cond (eqb (el flags i) 1) (credential_at P i ∷ []) []) h.all
            ∙ append_assoc (credentials S) h.some (cond (eqb (el flags i) 1) (credential_at P i ∷ []) []);
        reduced =
            subst (λ (k : ℕ). Reduced (Flagged P flags) (h.some ++ cond (eqb (el flags i) 1) (credential_at P i ∷ []) [])
            (up_to k (λ (j : ℕ). credential_at P (a + j)))) (sym ee)
            (reduced-append h.reduced (subst (λ (j : ℕ). Reduced (Flagged P flags) (cond (eqb (el flags i) 1) (credential_at P i ∷ []) [])
            (credential_at P j ∷ [])) ie (one (eqb (el flags i) 1) refl)));
      }
    where
      one : (b : Bool) → eqb (el flags i) 1 ≡ b → Reduced (Flagged P flags) (cond b (credential_at P i ∷ []) []) (credential_at P i ∷ [])
      one true q = taken nothing
      one false q = dropped (λ f. eqb-false (el flags i) 1 q (f.each i l refl)) nothing

  pub selected-all : {Q : Pool} (d e : ℕ) → d ≡ e → Selected P flags a d S Q → Selected P flags a e S Q
  selected-all {Q} d e q h = subst (λ (k : ℕ). Selected P flags a k S Q) q h

-- the first ones, then the others
pub part-is : (P : Pool) (s d : ℕ) (flags : List ℕ) (S Q R : Pool) → P.count ≤ 128 → s ≤ P.count → d ≡ s → S.count ≡ 0 → Selected P flags 0 d S Q
    → Selected P flags s (P.count - s) Q R → PartOf P s flags R Q.count
unfolding credentials first_of rest_of
part-is P s d flags S Q R small l q none h k =
    record {
      few = omega (arith, h.few, k.few);
      within = behind-count Q R k.some k.all;
      first =
          subst (λ (l : List Credential). Reduced (Flagged P flags) l (first_of P s))
          (sym ((behind-parts Q R k.some k.all).0 ∙ h.all ∙ ap (λ (n : ℕ). up_to n (credential_at S) ++ h.some) none))
          (subst (λ (l : List Credential). Reduced (Flagged P flags) h.some l)
          (ap (λ (n : ℕ). up_to n (λ (i : ℕ). credential_at P (0 + i))) q
          ∙ up_to-same s _ _ (λ i _. let z : 0 + i ≡ i = omega arith in ap (credential_at P) z)) h.reduced);
      rest = subst (λ (l : List Credential). Reduced (Flagged P flags) l (rest_of P s)) (sym (behind-parts Q R k.some k.all).1) k.reduced;
    }

-- What is needed

-- of a pool that has the credentials of another one first
pub sends-whole : (S Q : Pool) (L : List Credential) (f e : Expression) → credentials Q ≡ credentials S ++ L → {k : Command} {r : Outgoing}
    → Sends (needed (first_of Q S.count) f e (rest_of Q S.count)) k r → Sends (needed (credentials S) f e L) k r
sends-whole S Q L f e h s = let p = behind-parts S Q L h in sends-as (ap₂ (λ (a b : List Credential). needed a f e b) p.0 p.1) s

module _ (Q : Pool) (s : ℕ) (f e : Expression) (l : s ≤ Q.count) {R : Pool} {t : ℕ} {flags : List ℕ} {b : Bool} (closed : ClosedFor Q f flags)
    (part : PartOf Q s flags R t) (be : b ≡ from? (credentials R) f e) where
  heads : Sufficient f (first_of Q s ++ rest_of Q s) (Flagged Q flags)
  heads = subst (λ (l : List Credential). Sufficient f l (Flagged Q flags)) (first_rest Q s l) (closed-column Q f flags closed)

  -- the edge holds over the whole pool as over the part
  as-part : from? (first_of Q s ++ rest_of Q s) f e ≡ b
  as-part =
      from-relevant f e heads (reduced-append part.first part.rest)
      ∙ ap (λ (l : List Credential). from? l f e) (sym (first_rest R t part.within)) ∙ sym be

  -- of the part that can matter, where it is enough
  pub sends-part : {q : List ℕ} (k : Command) → b ≡ true → chosen R q ≡ needed (first_of R t) f e (rest_of R t)
      → Sends (needed (first_of Q s) f e (rest_of Q s)) k (record { pool = R; on = q; command = k })
  sends-part k is z =
      sends-as (needed-relevant (first_of Q s) (first_of R t) f e part.first (rest_of Q s) (rest_of R t) heads (as-part ∙ is) part.rest)
      (record { shows = z; command = refl; few = part.few })

  -- where it is not, all are needed
  pub sends-all : {q : List ℕ} (k : Command) → b ≡ false → Q.count ≤ 128 → WithRest Q.count s (replicate 128 0) q
      → Sends (needed (first_of Q s) f e (rest_of Q s)) k (record { pool = Q; on = q; command = k })
  sends-all {q} k is small w =
      record { shows = rest-alone Q q s l w ∙ sym (needed-all (first_of Q s) f e (rest_of Q s) (as-part ∙ is)); command = refl; few = small }
