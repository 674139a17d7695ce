-- Flags for own credentials that may show and are not shown yet, kept while more and more are shown. Assumes nothing.
use Rattle.std.specs.Prelude.{ℕ, zero, suc, ◌+◌, ◌-◌, ◌≤◌, ◌<◌, ◌≡◌, refl, Bool, true, false, not, cond, ◌&&◌, ◌||◌, List, [], ◌∷◌, ◌++◌, eqb, length, set, replicate}
use Rattle.std.proofs.Common.{arith, ◌∙◌, ap, subst, ⊎_elim, append-nil, append_assoc, eqb-true, eq-eqb, ne_eqb, length-set, length-append, get_or-set_same, get_or-set_other}
use Rattle.std.proofs.Math.Path.{sym}
use Rattle.std.proofs.Math.Bool.{and-true, and_assoc}
use Rattle.std.proofs.lemmas.Bool.{eqb-false}
use Rattle.std.proofs.lemmas.List.{length-replicate}
use Rattle.expression.specs.declared.Credential.{Credential}
use Rattle.expression.specs.Same.{same_credential}
use Rattle.rt0.specs.declared.Pool.{Pool}
use Rattle.rt0.specs.Lists.{any}
use Rattle.rt0.specs.Shown.{is_shown}
use Rattle.rt0.specs.laws.Pool.{credential_at, credentials}
use Rattle.rt0.specs.laws.Added.{count-length, length-up_to}
use Rattle.rt0.specs.laws.Find.{Missed, any_at, any_none}
use Rattle.closure.specs.laws.Rules.{el}
use Rattle.rules.specs.laws.Table.{chosen_to, chosen}
use Rattle.tables.specs.Public.{keep}
use Rattle.propagation.specs.laws.Flags.{decided}
use Rattle.needed.specs.laws.Needed.{first_of, rest_of}
use Rattle.needed.specs.laws.Column.{first_rest}
use Rattle.moves.specs.declared.Preparation.{Preparation}
use Rattle.sending.specs.laws.Picked.{keep_append}
use Rattle.sending.specs.laws.Behind.{append-parts}
use Rattle.sending.specs.laws.Unshown.{unshown_of}

-- 1 for each credential of a pool that is on and not one of these
pub record UnshownIn (l : List Credential) (P : Pool) (on F : List ℕ) : Type 0 where
  pub says : (i : ℕ) → i < P.count → eqb (el F i) 1 ≡ (eqb (el on i) 1 && not (is_shown l (credential_at P i)))

-- the same of the first k of the credentials shown
pub record FreshIn (shown : List Credential) (P : Pool) (on : List ℕ) (k : ℕ) (F : List ℕ) : Type 0 where
  pub first : List Credential
  pub rest : List Credential
  pub split : shown ≡ first ++ rest
  pub counted : length first ≡ k
  pub unshown : UnshownIn first P on F

-- the columns for both sets of our tables, and of how many of the credentials shown each speaks
pub record Fresh (shown : List Credential) (o : Preparation) (seen issuer subject : List ℕ) : Type 0 where
  pub issuers : FreshIn shown o.house.issuer (replicate 128 1) (el seen 0) issuer
  pub subjects : FreshIn shown o.house.subject o.visible (el seen 1) subject
  pub pair : length seen ≡ 2
  pub sized : (length issuer ≡ 128) × (length subject ≡ 128)

-- the flagged ones are those that are on and not shown
keep-more : (f : Credential → Bool) (C : List Credential) (c : Credential) (a b : Bool) → b ≡ (a && f c)
    → keep f C ++ cond b (c ∷ []) [] ≡ keep f (C ++ cond a (c ∷ []) [])
keep-more f C c true b h = ap (λ (x : Bool). keep f C ++ cond x (c ∷ []) []) h ∙ sym (keep_append f C (c ∷ []))
keep-more f C c false b h = ap (λ (x : Bool). keep f C ++ cond x (c ∷ []) []) h ∙ sym (keep_append f C [])

pub unshown-chosen : {l : List Credential} {P : Pool} {on F : List ℕ} → UnshownIn l P on F → chosen P F ≡ unshown_of l (chosen P on)
unfolding chosen unshown_of
unshown-chosen {l} {P} {on} {F} U = go P.count (omega arith)
  where
    go : (n : ℕ) → n ≤ P.count → chosen_to P F n ≡ keep (λ c. not (is_shown l c)) (chosen_to P on n)
    go zero h = refl
    go (suc n) h =
        ap (λ (C : List Credential). C ++ cond (eqb (el F n) 1) (credential_at P n ∷ []) []) (go n (omega arith))
        ∙ keep-more (λ c. not (is_shown l c)) (chosen_to P on n) (credential_at P n) (eqb (el on n) 1) (eqb (el F n) 1) (U.says n (omega arith))

-- Among the credentials from a on

module _ (P : Pool) (a : ℕ) (c : Credential) {j : ℕ} (h : Missed (λ d. same_credential d c) (λ (i : ℕ). credential_at P (a + i)) j) where
  pub among-at : {b : Bool} → j < P.count - a → b ≡ same_credential (credential_at P (a + j)) c → b ≡ true → true ≡ is_shown (rest_of P a) c
  unfolding is_shown rest_of
  among-at l e t = any_at (P.count - a) h l e t

  pub among_none : P.count - a ≤ j → false ≡ is_shown (rest_of P a) c
  unfolding is_shown rest_of
  among_none l = any_none (P.count - a) h l

-- One flag

module _ (flag : ℕ) (X : List Credential) (c : Credential) where
  pub after-shown : (flag ≡ 1 → ⊥) → eqb 0 1 ≡ (eqb flag 1 && not (is_shown X c))
  after-shown h = ap (λ (b : Bool). b && not (is_shown X c)) (sym (ne_eqb flag 1 h))

  pub after-asked : {b : Bool} (r : ℕ) → flag ≡ 1 → b ≡ is_shown X c → eqb r 1 ≡ not b → eqb r 1 ≡ (eqb flag 1 && not (is_shown X c))
  after-asked r h e q = q ∙ ap not e ∙ ap (λ (b : Bool). b && not (is_shown X c)) (sym (eq-eqb flag 1 h))

-- All of them

-- the flags of the first i credentials are those for X too, the others as they were
pub record Refreshed (X : List Credential) (P : Pool) (F : List ℕ) (i : ℕ) (G : List ℕ) : Type 0 where
  pub sized : length G ≡ 128
  pub done : (j : ℕ) → j < i → eqb (el G j) 1 ≡ (eqb (el F j) 1 && not (is_shown X (credential_at P j)))
  pub kept : (j : ℕ) → i ≤ j → el G j ≡ el F j

module _ {X : List Credential} {P : Pool} {F : List ℕ} where
  pub refreshed-start : length F ≡ 128 → Refreshed X P F 0 F
  refreshed-start l = record { sized = l; done = λ j h. absurd (omega arith); kept = λ j h. refl }

  pub refreshed-next : {i : ℕ} (r : ℕ) {G : List ℕ} {c : Credential} → Refreshed X P F i G → i < 128 → c ≡ credential_at P i
      → eqb r 1 ≡ (eqb (el G i) 1 && not (is_shown X c)) → Refreshed X P F (i + 1) (set G i r)
  refreshed-next {i} r {G} {c} R l e q =
      record {
        sized = length-set G i r ∙ R.sized;
        done = λ j h. ⊎_elim (λ z. here j (eqb-true j i z)) (λ z. there j (eqb-false j i z) (omega (arith, eqb-false j i z))) (decided (eqb j i));
        kept = λ j h. get_or-set_other G i j r 0 (λ z. omega (arith, z)) ∙ R.kept j (omega arith);
      }
    where
      here : (j : ℕ) → j ≡ i → eqb (el (set G i r) j) 1 ≡ (eqb (el F j) 1 && not (is_shown X (credential_at P j)))
      here j z =
          ap (λ (k : ℕ). eqb (el (set G i r) k) 1) z ∙ ap (λ (x : ℕ). eqb x 1) (get_or-set_same G i r 0 (omega (arith, R.sized))) ∙ q
          ∙ ap (λ (x : ℕ). eqb x 1 && not (is_shown X c)) (R.kept i (omega arith))
          ∙ ap (λ (d : Credential). eqb (el F i) 1 && not (is_shown X d)) e
          ∙ sym (ap (λ (k : ℕ). eqb (el F k) 1 && not (is_shown X (credential_at P k))) z)

      there : (j : ℕ) → (j ≡ i → ⊥) → j < i → eqb (el (set G i r) j) 1 ≡ (eqb (el F j) 1 && not (is_shown X (credential_at P j)))
      there j h k = ap (λ (x : ℕ). eqb x 1) (get_or-set_other G i j r 0 h) ∙ R.done j k

any_append : {A : Type 0} (t : A → Bool) (l m : List A) → any t (l ++ m) ≡ (any t l || any t m)
any_append t [] m = refl
any_append t (x ∷ l) m = go (t x) (any_append t l m)
  where
    go : (b : Bool) → any t (l ++ m) ≡ (any t l || any t m) → (b || any t (l ++ m)) ≡ ((b || any t l) || any t m)
    go true h = refl
    go false h = h

not-or : (a b : Bool) → (not a && not b) ≡ not (a || b)
not-or true b = refl
not-or false b = refl

shown-append : (l m : List Credential) (c : Credential) → (not (is_shown l c) && not (is_shown m c)) ≡ not (is_shown (l ++ m) c)
unfolding is_shown
shown-append l m c =
    not-or (any (λ d. same_credential d c) l) (any (λ d. same_credential d c) m) ∙ sym (ap not (any_append (λ d. same_credential d c) l m))

no_more : {A : Type 0} (l : List A) → length l ≤ 0 → l ≡ []
no_more [] h = refl
no_more (x ∷ l) h = absurd (omega arith)

-- Of a pool of credentials shown
module _ (S P : Pool) {on : List ℕ} {a : ℕ} {F : List ℕ} (h : FreshIn (credentials S) P on a F) where
  pub fresh-within : a ≤ S.count
  fresh-within = omega (arith, count-length S, ap length h.split, length-append h.first h.rest, h.counted)

  parts : (first_of S a ≡ h.first) × (rest_of S a ≡ h.rest)
  unfolding first_of
  parts =
      append-parts (first_of S a) h.first (rest_of S a) h.rest (length-up_to a (credential_at S) ∙ sym h.counted)
      (sym (first_rest S a fresh-within) ∙ h.split)

  -- all were looked at before
  pub fresh-now : a ≡ S.count → UnshownIn (credentials S) P on F
  fresh-now e =
      let z : length h.rest ≤ 0 = omega (arith, count-length S, ap length h.split, length-append h.first h.rest, h.counted) in
      let q : h.first ≡ credentials S = sym (h.split ∙ (ap (λ (l : List Credential). h.first ++ l) (no_more h.rest z) ∙ append-nil h.first)) in
      subst (λ (l : List Credential). UnshownIn l P on F) q h.unshown

  -- the others are looked at now
  pub fresh-after : {m : ℕ} {G : List ℕ} → Refreshed (rest_of S a) P F m G → P.count ≤ m → UnshownIn (credentials S) P on G
  fresh-after {m} {G} R l = record { says = says }
    where
      says : (i : ℕ) → i < P.count → eqb (el G i) 1 ≡ (eqb (el on i) 1 && not (is_shown (credentials S) (credential_at P i)))
      says i k =
          let c = credential_at P i in
          R.done i (omega arith)
          ∙ ap (λ (b : Bool). b && not (is_shown (rest_of S a) c)) (h.unshown.says i k)
          ∙ and_assoc (eqb (el on i) 1) (not (is_shown h.first c)) (not (is_shown (rest_of S a) c))
          ∙ ap (λ (x : List Credential). eqb (el on i) 1 && (not (is_shown h.first c) && not (is_shown x c))) parts.1
          ∙ ap (λ (b : Bool). eqb (el on i) 1 && b) (shown-append h.first h.rest c)
          ∙ ap (λ (x : List Credential). eqb (el on i) 1 && not (is_shown x c)) (sym h.split)

fresh-all : (S P : Pool) {on F : List ℕ} → UnshownIn (credentials S) P on F → FreshIn (credentials S) P on S.count F
fresh-all S P U = record { first = credentials S; rest = []; split = sym (append-nil (credentials S)); counted = count-length S; unshown = U }

-- none is shown
fresh-none : (l : List Credential) (P : Pool) (on : List ℕ) → FreshIn l P on 0 on
unfolding is_shown
fresh-none l P on = record { first = []; rest = l; split = refl; counted = refl; unshown = record { says = λ i k. sym (and-true (eqb (el on i) 1)) } }

fresh-grown : {l : List Credential} {P : Pool} {on : List ℕ} {k : ℕ} {F : List ℕ} (X : List Credential) → FreshIn l P on k F → FreshIn (l ++ X) P on k F
fresh-grown X h =
    record {
      first = h.first;
      rest = h.rest ++ X;
      split = ap (λ (l : List Credential). l ++ X) h.split ∙ append_assoc h.first h.rest X;
      counted = h.counted;
      unshown = h.unshown;
    }

-- Both sets

pub fresh-more : {l : List Credential} {o : Preparation} {seen issuer subject : List ℕ} (X : List Credential) → Fresh l o seen issuer subject
    → Fresh (l ++ X) o seen issuer subject
fresh-more X h = record { issuers = fresh-grown X h.issuers; subjects = fresh-grown X h.subjects; pair = h.pair; sized = h.sized }

pub fresh_start : (o : Preparation) (l : List Credential) → length o.visible ≡ 128 → Fresh l o (replicate 2 0) (replicate 128 1) o.visible
fresh_start o l z =
    record {
      issuers = fresh-none l o.house.issuer (replicate 128 1);
      subjects = fresh-none l o.house.subject o.visible;
      pair = length-replicate {A = ℕ} 2 0;
      sized = (length-replicate {A = ℕ} 128 1, z);
    }

-- one of the sets was looked through
module _ (S : Pool) {o : Preparation} {seen issuer subject : List ℕ} (h : Fresh (credentials S) o seen issuer subject) {F : List ℕ}
    (l : length F ≡ 128) where
  pub fresh-issuer : UnshownIn (credentials S) o.house.issuer (replicate 128 1) F → Fresh (credentials S) o (set seen 0 S.count) F subject
  fresh-issuer U =
      record {
        issuers = subst (λ (j : ℕ). FreshIn (credentials S) o.house.issuer (replicate 128 1) j F)
            (sym (get_or-set_same seen 0 S.count 0 (omega (arith, h.pair)))) (fresh-all S o.house.issuer U);
        subjects = subst (λ (j : ℕ). FreshIn (credentials S) o.house.subject o.visible j subject)
            (sym (get_or-set_other seen 0 1 S.count 0 (λ z. omega (arith, z)))) h.subjects;
        pair = length-set seen 0 S.count ∙ h.pair;
        sized = (l, h.sized.1);
      }

  pub fresh-subject : UnshownIn (credentials S) o.house.subject o.visible F → Fresh (credentials S) o (set seen 1 S.count) issuer F
  fresh-subject U =
      record {
        issuers = subst (λ (j : ℕ). FreshIn (credentials S) o.house.issuer (replicate 128 1) j issuer)
            (sym (get_or-set_other seen 1 0 S.count 0 (λ z. omega (arith, z)))) h.issuers;
        subjects = subst (λ (j : ℕ). FreshIn (credentials S) o.house.subject o.visible j F)
            (sym (get_or-set_same seen 1 S.count 0 (omega (arith, h.pair)))) (fresh-all S o.house.subject U);
        pair = length-set seen 1 S.count ∙ h.pair;
        sized = (h.sized.0, l);
      }
