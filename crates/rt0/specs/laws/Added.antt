-- A pool with one credential more. Assumes nothing.
use Rattle.std.specs.Prelude.{ℕ, zero, suc, ◌+◌, ◌*◌, ◌≤◌, ◌<◌, ◌≡◌, refl, List, [], ◌∷◌, ◌++◌, get_or, length, set}
use Rattle.std.proofs.Common.{arith, add-one, sym, ◌∙◌, ap, ap₂, subst, length-set, length-append, get_or-set_same, get_or-set_other}
use Rattle.std.proofs.Math.Numerals.{towards_suc}
use Rattle.std.proofs.lemmas.List.Edits.{sets}
use Rattle.expression.specs.declared.Role.{Role}
use Rattle.expression.specs.declared.Raw.{Raw}
use Rattle.expression.specs.declared.Credential.{Credential}
use Rattle.expression.specs.declared.Expression.{Expression}
use Rattle.expression.specs.Form.{raw_of, expression_of}
use Rattle.expression.specs.laws.Laws.{expression-raw}
use Rattle.rt0.specs.laws.Pool.{pool_of, raw_at_columns, head_at, expression_in, credential_at, credentials}
use Rattle.rt0.specs.Pool.{up_to}
use Rattle.rt0.specs.declared.Pool.{Pool}

-- numbers stored one after the other
abbrev pub stored : List ℕ → ℕ → Raw → List ℕ
stored M at r =
    set (set (set (set (set (set (set (set M at r.n0) (at + 1) r.n1) (at + 2) r.n2) (at + 3) r.n3) (at + 4) r.n4) (at + 5) r.n5)
    (at + 6) r.n6) (at + 7) r.n7

abbrev pub pair : List ℕ → ℕ → ℕ → ℕ → List ℕ
pair M at a b = set (set M at a) (at + 1) b

-- the columns with one credential more
unfoldable pub added : Pool → Role → Raw → Pool
added P h r =
    record {
      count = P.count + 1;
      heads = pair P.heads (P.count * 2) h.entity h.name;
      kinds = pair P.kinds (P.count * 2) r.kind r.count;
      numbers = stored P.numbers (P.count * 8) r;
    }

-- Stores one after the other, as `sets` has them

values : Raw → List ℕ
values r = r.n0 ∷ r.n1 ∷ r.n2 ∷ r.n3 ∷ r.n4 ∷ r.n5 ∷ r.n6 ∷ r.n7 ∷ []

stored-sets : (M : List ℕ) (at : ℕ) (r : Raw) → stored M at r ≡ sets M at (values r)
unfolding values
stored-sets M at r = simp towards_suc

sets-before : (vs M : List ℕ) (at j : ℕ) → j < at → get_or (sets M at vs) j 0 ≡ get_or M j 0
sets-before [] M at j l = refl
sets-before (v ∷ vs) M at j l = sets-before vs (set M at v) (suc at) j (omega arith) ∙ get_or-set_other M at j v 0 (λ e. omega arith)

sets-at : (vs M : List ℕ) (at k : ℕ) → at + length vs ≤ length M → k < length vs → get_or (sets M at vs) (at + k) 0 ≡ get_or vs k 0
sets-at [] M at k f l = absurd (omega arith)
sets-at (v ∷ vs) M at zero f l =
    let e : at + 0 ≡ at = omega arith in
    rw e (sets-before vs (set M at v) (suc at) at (omega arith) ∙ get_or-set_same M at v 0 (omega arith))
sets-at (v ∷ vs) M at (suc k) f l =
    let e : at + suc k ≡ suc at + k = omega arith in
    rw e (sets-at vs (set M at v) (suc at) k (omega (arith, length-set M at v)) (omega arith))

stored-before : (M : List ℕ) (at : ℕ) (r : Raw) (j : ℕ) → j < at → get_or (stored M at r) j 0 ≡ get_or M j 0
stored-before M at r j l = rw (stored-sets M at r) (sets-before (values r) M at j l)

stored_at : (M : List ℕ) (at : ℕ) (r : Raw) (j k : ℕ) → j ≡ at + k → at + 8 ≤ length M → k < 8 → get_or (stored M at r) j 0 ≡ get_or (values r) k 0
unfolding values
stored_at M at r j k e f l = rw (e, stored-sets M at r) (sets-at (values r) M at k f l)

-- two numbers stored one after the other, read back
pub pair-before : (M : List ℕ) (at a b j : ℕ) → j < at → get_or (pair M at a b) j 0 ≡ get_or M j 0
pair-before M at a b j l = get_or-set_other (set M at a) (at + 1) j b 0 (λ e. omega arith) ∙ get_or-set_other M at j a 0 (λ e. omega arith)

pub pair-first : (M : List ℕ) (at a b : ℕ) → at < length M → get_or (pair M at a b) at 0 ≡ a
pair-first M at a b l = get_or-set_other (set M at a) (at + 1) at b 0 (λ e. omega arith) ∙ get_or-set_same M at a 0 l

pub pair-second : (M : List ℕ) (at a b : ℕ) → at + 1 < length M → get_or (pair M at a b) (at + 1) 0 ≡ b
pair-second M at a b l = get_or-set_same (set M at a) (at + 1) b 0 (omega (arith, length-set M at a))

-- An expression stored in columns of kinds and numbers, as number c

module _ (K N : List ℕ) (c : ℕ) (r : Raw) where
  -- the columns with it
  abbrev pub kinds_with : List ℕ
  kinds_with = pair K (c * 2) r.kind r.count

  abbrev pub numbers_with : List ℕ
  numbers_with = stored N (c * 8) r

  num-before : (j k : ℕ) → j < c → k < 8 → get_or numbers_with (j * 8 + k) 0 ≡ get_or N (j * 8 + k) 0
  num-before j k l m = stored-before N (c * 8) r (j * 8 + k) (omega arith)

  -- those before are as they were
  pub raw-before : (j : ℕ) → j < c → raw_at_columns kinds_with numbers_with j ≡ raw_at_columns K N j
  raw-before j l = λ i. record {
    kind = pair-before K (c * 2) r.kind r.count (j * 2) (omega arith) i;
    count = pair-before K (c * 2) r.kind r.count (j * 2 + 1) (omega arith) i;
    n0 = stored-before N (c * 8) r (j * 8) (omega arith) i;
    n1 = num-before j 1 l (omega arith) i;
    n2 = num-before j 2 l (omega arith) i;
    n3 = num-before j 3 l (omega arith) i;
    n4 = num-before j 4 l (omega arith) i;
    n5 = num-before j 5 l (omega arith) i;
    n6 = num-before j 6 l (omega arith) i;
    n7 = num-before j 7 l (omega arith) i;
  }

  module _ (room : c < 128) (k : length K ≡ 256) (z : length N ≡ 1024) where
    num-last : (m : ℕ) → m < 8 → get_or numbers_with (c * 8 + m) 0 ≡ get_or (values r) m 0
    num-last m l = stored_at N (c * 8) r (c * 8 + m) m refl (omega arith) l

    -- and it is number c
    pub raw-last : raw_at_columns kinds_with numbers_with c ≡ r
    unfolding values
    raw-last = λ i. record {
      kind = pair-first K (c * 2) r.kind r.count (omega arith) i;
      count = pair-second K (c * 2) r.kind r.count (omega arith) i;
      n0 = stored_at N (c * 8) r (c * 8) 0 (omega arith) (omega arith) (omega arith) i;
      n1 = num-last 1 (omega arith) i;
      n2 = num-last 2 (omega arith) i;
      n3 = num-last 3 (omega arith) i;
      n4 = num-last 4 (omega arith) i;
      n5 = num-last 5 (omega arith) i;
      n6 = num-last 6 (omega arith) i;
      n7 = num-last 7 (omega arith) i;
    }

-- The credentials

-- equal elements give equal lists
pub up_to-same : {A : Type 0} (n : ℕ) (f g : ℕ → A) → ((i : ℕ) → i < n → f i ≡ g i) → up_to n f ≡ up_to n g
up_to-same zero f g h = refl
up_to-same (suc n) f g h = ap₂ (λ (l : List _) (x : _). l ++ (x ∷ [])) (up_to-same n f g (λ i l. h i (omega arith))) (h n (omega arith))

-- one element more at the end
pub snoc-up_to : {A : Type 0} (n : ℕ) (f g : ℕ → A) (x : A) → ((i : ℕ) → i < n → f i ≡ g i) → f n ≡ x → up_to (n + 1) f ≡ up_to n g ++ (x ∷ [])
snoc-up_to n f g x h k = ap (λ (m : ℕ). up_to m f) (add-one n) ∙ ap₂ (λ (l : List _) (y : _). l ++ (y ∷ [])) (up_to-same n f g h) k

-- the columns have their lengths
pub record Sized (P : Pool) : Type 0 where
  pub heads : length P.heads ≡ 256
  pub kinds : length P.kinds ≡ 256
  pub numbers : length P.numbers ≡ 1024

module _ (P : Pool) (h : Role) (r : Raw) (room : P.count < 128) where
  head-other : (j : ℕ) → j < P.count → head_at (added P h r) j ≡ head_at P j
  unfolding added
  head-other j l = λ i. record {
    entity = pair-before P.heads (P.count * 2) h.entity h.name (j * 2) (omega arith) i;
    name = pair-before P.heads (P.count * 2) h.entity h.name (j * 2 + 1) (omega arith) i;
  }

  add-other : (j : ℕ) → j < P.count → credential_at (added P h r) j ≡ credential_at P j
  unfolding expression_in added
  add-other j l = λ i. record { head = head-other j l i; body = expression_of (raw-before P.kinds P.numbers P.count r j l i) }

  head-last : Sized P → head_at (added P h r) P.count ≡ h
  unfolding added
  head-last z = λ i. record {
    entity = pair-first P.heads (P.count * 2) h.entity h.name (omega (arith, z.heads)) i;
    name = pair-second P.heads (P.count * 2) h.entity h.name (omega (arith, z.heads)) i;
  }

-- a credential added stands behind the others
pub add-credential : (P : Pool) (h : Role) (b : Expression) → P.count < 128 → Sized P
    → credentials (added P h (raw_of b)) ≡ credentials P ++ (record { head = h; body = b } ∷ [])
unfolding credentials added expression_in
add-credential P h b room z =
    snoc-up_to P.count (credential_at (added P h (raw_of b))) (credential_at P) (record { head = h; body = b }) (λ i l. add-other P h (raw_of b) room i l)
    (λ i. record { head = head-last P h (raw_of b) room z i; body = (ap expression_of (raw-last P.kinds P.numbers P.count (raw_of b) room z.kinds z.numbers) ∙ expression-raw b) i })

-- a pool with the credential c behind the i others
pub record Stored (i : ℕ) (c : Credential) (P Q : Pool) : Type 0 where
  pub sized : Sized Q
  pub all : credentials Q ≡ credentials P ++ (c ∷ [])

pub stored_of_lem : (i : ℕ) (c : Credential) (P : Pool) (r : Raw) → i ≡ P.count → i < 128 → Sized P → r ≡ raw_of c.body → Stored i c P (added P c.head r)
unfolding added
stored_of_lem i c P r q l z h =
    record {
      sized = record { heads = simp length-set z.heads; kinds = simp length-set z.kinds; numbers = simp length-set z.numbers };
      all = rw h (add-credential P c.head c.body (omega arith) z);
    }

-- the same for columns that have become its columns
pub stored-in : (i : ℕ) (c : Credential) (P : Pool) (r : Raw) {H K N : List ℕ} → i ≡ P.count → i < 128 → Sized P → r ≡ raw_of c.body
    → H ≡ pair P.heads (P.count * 2) c.head.entity c.head.name → K ≡ pair P.kinds (P.count * 2) r.kind r.count
    → N ≡ stored P.numbers (P.count * 8) r → Stored i c P (pool_of (P.count + 1) H K N)
unfolding added
stored-in i c P r q l z h a b d =
    subst (Stored i c P) (λ j. pool_of (P.count + 1) (sym a j) (sym b j) (sym d j)) (stored_of_lem i c P r q l z h)

-- a list from columns is as long as the count
pub length-up_to : {A : Type 0} (n : ℕ) (f : ℕ → A) → length (up_to n f) ≡ n
length-up_to zero f = refl
length-up_to (suc n) f = omega (arith, length-append (up_to n f) (f n ∷ []), length-up_to n f)

-- a pool has as many credentials as it counts
pub count-length : (P : Pool) → length (credentials P) ≡ P.count
unfolding credentials
count-length P = length-up_to P.count (credential_at P)
