-- What is put in order ascends, has each edge once and no other edge; the first that fails a test is the least that fails it. Assumes nothing.
use Rattle.std.specs.Prelude.{ℕ, suc, ◌<◌, ◌≡◌, refl, ◌⊎◌, Bool, true, false, cond, ◌&&◌, ◌||◌, eqb, ltb, length, get_or}
use Rattle.std.proofs.Common.{sym, ap, ◌∙◌, inl, inr, ⊎_elim, arith, ltb-true, ltb-false, lt-ltb, le-ltb, eq-eqb, eqb-true}
use mathlib.Core.List.Memᴰ
use mathlib.Core.List.{List, [], ◌∷◌, Memᴰ}
use Rattle.expression.specs.declared.Raw.{Raw}
use Rattle.expression.specs.declared.Credential.{Credential}
use Rattle.expression.specs.declared.Expression.{Expression}
use Rattle.expression.specs.Form.{raw_of, expression_of}
use Rattle.expression.specs.laws.Laws.{expression-raw}
use Rattle.expression.specs.Same.{same}
use Rattle.expression.specs.laws.Same.{same-eq, eq-same}
use Rattle.expression.specs.Order.{leads, lex_less, raw_numbers, before_of, before_credential}
use Rattle.rt0.specs.Lists.{any, all}
use Rattle.rt0.specs.laws.Lists.{any-find, any_here, all-each, all_of}
use Rattle.word.specs.laws.Bools.{false-true, or_cases, or_left, or_right, and_parts, and_both, or-neither, bool_iff}
use Rattle.tables.specs.laws.Chain.{before-chain}
use Rattle.tables.specs.laws.Sorted.{Strict, rising-parts}
use Rattle.tables.specs.Accepted.{Rising, rising_none, rising-cons}
use Rattle.tables.specs.Public.{keep}
use Rattle.tables.specs.laws.Public.{before_self}
use Rattle.moves.specs.declared.Candidate.{Candidate}
use Rattle.moves.specs.Candidates.{precedes, equals, inserted, ordered}

-- Bool

second : (a b : Bool) → (a && b) ≡ false → a ≡ true → b ≡ false
second true b h k = h
second false b h k = absurd (false-true k)

not-both : {A : Type 0} {a : Bool} → a ≡ true → a ≡ false → A
not-both h k = absurd (false-true (sym k ∙ h))

-- The order by bytes of expressions

-- an expression as the body of a credential with nothing else
abbrev alone : Expression → Credential
alone x = record { head = record { entity = 0; name = 0 }; body = x }

alone-before : (x y : Expression) → before_credential (alone x) (alone y) ≡ before_of x y
unfolding before_of before_credential
alone-before x y = refl

expression-self : (x : Expression) → before_of x x ≡ false
expression-self x = sym (alone-before x x) ∙ before_self (alone x)

expression-chain : (x y z : Expression) → before_of x y ≡ true → before_of y z ≡ true → before_of x z ≡ true
expression-chain x y z h k = sym (alone-before x z) ∙ before-chain (alone x) (alone y) (alone z) (alone-before x y ∙ h) (alone-before y z ∙ k)

leads-none : (m n : ℕ) (r s : Bool) → leads m n r ≡ false → leads n m s ≡ false → (m ≡ n) × (r ≡ false) × (s ≡ false)
leads-none m n r s h k =
    let a = or-neither (ltb m n) (eqb m n && r) h in
    let b = or-neither (ltb n m) (eqb n m && s) k in
    let e : m ≡ n = omega (arith, ltb-false m n a.0, ltb-false n m b.0) in
    (e, second (eqb m n) r a.1 (eq-eqb m n e), second (eqb n m) s b.1 (eq-eqb n m (sym e)))

lex-none : (s t : List ℕ) → lex_less s t ≡ false → lex_less t s ≡ false → s ≡ t
lex-none [] [] h k = refl
lex-none [] (n ∷ t) h k = absurd (false-true (sym h))
lex-none (m ∷ s) [] h k = absurd (false-true (sym k))
lex-none (m ∷ s) (n ∷ t) h k =
    let w = leads-none m n (lex_less s t) (lex_less t s) h k in
    let q = lex-none s t w.1 w.2 in
    λ i. w.0 i ∷ q i

-- records with the same numbers are equal
numbers-raw : (a b : Raw) → raw_numbers a ≡ raw_numbers b → a ≡ b
numbers-raw a b h =
    λ i.
    record {
      kind = get_or (h i) 0 0;
      count = get_or (h i) 1 0;
      n0 = get_or (h i) 2 0;
      n1 = get_or (h i) 3 0;
      n2 = get_or (h i) 4 0;
      n3 = get_or (h i) 5 0;
      n4 = get_or (h i) 6 0;
      n5 = get_or (h i) 7 0;
      n6 = get_or (h i) 8 0;
      n7 = get_or (h i) 9 0;
    }

-- of two expressions one comes before the other, or they are equal
expression-none : (x y : Expression) → before_of x y ≡ false → before_of y x ≡ false → x ≡ y
unfolding before_of
expression-none x y h k =
    let q : raw_of x ≡ raw_of y = numbers-raw (raw_of x) (raw_of y) (lex-none (raw_numbers (raw_of x)) (raw_numbers (raw_of y)) h k) in
    sym (expression-raw x) ∙ (ap expression_of q ∙ expression-raw y)

-- The order of edges

pub equals-parts : (v w : Candidate) → equals v w ≡ true → (v.expression ≡ w.expression) × (v.subject ≡ w.subject)
equals-parts v w h =
    let b = and_parts (same v.expression w.expression) (eqb v.subject w.subject) h in
    (same-eq v.expression w.expression b.0, eqb-true v.subject w.subject b.1)

pub parts-equals : (v w : Candidate) → v.expression ≡ w.expression → v.subject ≡ w.subject → equals v w ≡ true
parts-equals v w p q =
    and_both (same v.expression w.expression) (eqb v.subject w.subject) (eq-same v.expression w.expression p)
    (eq-eqb v.subject w.subject q)

pub equals-self : (v : Candidate) → equals v v ≡ true
equals-self v = parts-equals v v refl refl

pub equals-sym : (v w : Candidate) → equals v w ≡ true → equals w v ≡ true
equals-sym v w h = let e = equals-parts v w h in parts-equals w v (sym e.0) (sym e.1)

pub equals-chain : (u v w : Candidate) → equals u v ≡ true → equals v w ≡ true → equals u w ≡ true
equals-chain u v w h k = let e = equals-parts u v h in let f = equals-parts v w k in parts-equals u w (e.0 ∙ f.0) (e.1 ∙ f.1)

-- edges that are equal come before the same edges
pub equals-before : (v w u : Candidate) → equals v w ≡ true → precedes v u ≡ precedes w u
equals-before v w u h = let e = equals-parts v w h in λ i. before_of (e.0 i) u.expression || (same (e.0 i) u.expression && ltb (e.1 i) u.subject)

-- and after the same edges
pub equals-after : (v w u : Candidate) → equals v w ≡ true → precedes u v ≡ precedes u w
equals-after v w u h = let e = equals-parts v w h in λ i. before_of u.expression (e.0 i) || (same u.expression (e.0 i) && ltb u.subject (e.1 i))

precedes-cases : (v w : Candidate) → precedes v w ≡ true
    → (before_of v.expression w.expression ≡ true) ⊎ ((v.expression ≡ w.expression) × (v.subject < w.subject))
precedes-cases v w h =
    ⊎_elim (λ b. inl b)
    (λ k. let b = and_parts (same v.expression w.expression) (ltb v.subject w.subject) k in inr
    (same-eq v.expression w.expression b.0, ltb-true v.subject w.subject b.1))
    (or_cases (before_of v.expression w.expression) (same v.expression w.expression && ltb v.subject w.subject) h)

precedes-first : (v w : Candidate) → before_of v.expression w.expression ≡ true → precedes v w ≡ true
precedes-first v w h = or_left (before_of v.expression w.expression) (same v.expression w.expression && ltb v.subject w.subject) h

precedes-then : (v w : Candidate) → v.expression ≡ w.expression → v.subject < w.subject → precedes v w ≡ true
precedes-then v w p l =
    or_right (before_of v.expression w.expression) (same v.expression w.expression && ltb v.subject w.subject)
    (and_both (same v.expression w.expression) (ltb v.subject w.subject) (eq-same v.expression w.expression p)
    (lt-ltb v.subject w.subject l))

precedes-self : (v : Candidate) → precedes v v ≡ false
precedes-self v = λ i. expression-self v.expression i || (eq-same v.expression v.expression refl i && le-ltb v.subject v.subject (omega arith) i)

precedes-chain : (u v w : Candidate) → precedes u v ≡ true → precedes v w ≡ true → precedes u w ≡ true
precedes-chain u v w h k =
    ⊎_elim
    (λ b. ⊎_elim (λ c. precedes-first u w (expression-chain u.expression v.expression w.expression b c))
    (λ e. precedes-first u w (sym (ap (before_of u.expression) e.0) ∙ b)) (precedes-cases v w k))
    (λ d. ⊎_elim (λ c. precedes-first u w (ap (λ (x : Expression). before_of x w.expression) d.0 ∙ c))
    (λ e. precedes-then u w (d.0 ∙ e.0) (omega (arith, d.1, e.1))) (precedes-cases v w k))
    (precedes-cases u v h)

-- the order of edges is strict
pub precedes-strict : Strict precedes
precedes-strict = record { irreflexive = precedes-self; transitive = precedes-chain }

-- of two edges one comes before the other, or they are equal
pub precedes-total : (v w : Candidate) → precedes v w ≡ false → equals v w ≡ false → precedes w v ≡ true
precedes-total v w h n = go (precedes w v) refl
  where
    go : (b : Bool) → precedes w v ≡ b → b ≡ true
    go true k = refl
    go false k =
        let a = or-neither (before_of v.expression w.expression) (same v.expression w.expression && ltb v.subject w.subject) h in
        let b = or-neither (before_of w.expression v.expression) (same w.expression v.expression && ltb w.subject v.subject) k in
        let e = expression-none v.expression w.expression a.0 b.0 in
        let l = ltb-false v.subject w.subject
        (second (same v.expression w.expression) (ltb v.subject w.subject) a.1 (eq-same v.expression w.expression e)) in
        let m = ltb-false w.subject v.subject
        (second (same w.expression v.expression) (ltb w.subject v.subject) b.1 (eq-same w.expression v.expression (sym e))) in
        not-both (parts-equals v w e (omega (arith, l, m))) n

-- and not both
pub precedes-apart : (v w : Candidate) → precedes v w ≡ true → equals v w ≡ true → ⊥
precedes-apart v w h k = false-true (sym (precedes-self w) ∙ sym (equals-before v w w k) ∙ h)

-- One edge put in its place

inserted-all : (f : Candidate → Bool) (v : Candidate) (ws : List Candidate) → f v ≡ true → all f ws ≡ true → all f (inserted v ws) ≡ true
inserted-all f v [] h k = and_both (f v) true h refl
inserted-all f v (w ∷ ws) h k = go (precedes v w) (equals v w) (inserted-all f v ws h p.1)
  where
    p : (f w ≡ true) × (all f ws ≡ true)
    p = and_parts (f w) (all f ws) k

    go : (a b : Bool) → all f (inserted v ws) ≡ true → all f (cond a (v ∷ w ∷ ws) (cond b (w ∷ ws) (w ∷ inserted v ws))) ≡ true
    go true b ih = and_both (f v) (all f (w ∷ ws)) h k
    go false true ih = k
    go false false ih = and_both (f w) (all f (inserted v ws)) p.0 ih

inserted_rising : (v : Candidate) {ws : List Candidate} → Rising precedes ws → Rising precedes (inserted v ws)
inserted_rising v rising_none = rising-cons refl rising_none
inserted_rising v (rising-cons {x = w} {L = ws} up r) = go (precedes v w) (equals v w) refl refl (inserted_rising v r)
  where
    go : (a b : Bool) → precedes v w ≡ a → equals v w ≡ b → Rising precedes (inserted v ws)
        → Rising precedes (cond a (v ∷ w ∷ ws) (cond b (w ∷ ws) (w ∷ inserted v ws)))
    go true b h k ih =
        rising-cons
        (and_both (precedes v w) (all (λ y. precedes v y) ws) h
        (all_of (λ y. precedes v y) ws (λ y m. precedes-chain v w y h (all-each (λ z. precedes w z) m up))))
        (rising-cons up r)
    go false true h k ih = rising-cons up r
    go false false h k ih = rising-cons (inserted-all (λ y. precedes w y) v ws (precedes-total v w h k) up) ih

inserted-find : (v : Candidate) (ws : List Candidate) {x : Candidate} → Memᴰ x (inserted v ws) → (x ≡ v) ⊎ Memᴰ x ws
inserted-find v [] m = Memᴰ.cases_cons m
inserted-find v (w ∷ ws) {x} m = go (precedes v w) (equals v w) (λ k. inserted-find v ws k) m
  where
    go : (a b : Bool) → (Memᴰ x (inserted v ws) → (x ≡ v) ⊎ Memᴰ x ws)
        → Memᴰ x (cond a (v ∷ w ∷ ws) (cond b (w ∷ ws) (w ∷ inserted v ws))) → (x ≡ v) ⊎ Memᴰ x (w ∷ ws)
    go true b ih k = Memᴰ.cases_cons k
    go false true ih k = inr k
    go false false ih k = ⊎_elim (λ e. inr (Memᴰ.head e)) (λ t. ⊎_elim (λ e. inl e) (λ t. inr (Memᴰ.tail t)) (ih t)) (Memᴰ.cases_cons k)

inserted-mem : (v : Candidate) (ws : List Candidate) {x : Candidate} → Memᴰ x ws → Memᴰ x (inserted v ws)
inserted-mem v [] m = absurd (Memᴰ.not-nil m)
inserted-mem v (w ∷ ws) {x} m = go (precedes v w) (equals v w) (λ k. inserted-mem v ws k)
  where
    go : (a b : Bool) → (Memᴰ x ws → Memᴰ x (inserted v ws)) → Memᴰ x (cond a (v ∷ w ∷ ws) (cond b (w ∷ ws) (w ∷ inserted v ws)))
    go true b ih = Memᴰ.tail m
    go false true ih = m
    go false false ih = ⊎_elim (λ e. Memᴰ.head e) (λ t. Memᴰ.tail (ih t)) (Memᴰ.cases_cons m)

inserted-own : (v : Candidate) (ws : List Candidate) → (w : Candidate) × Memᴰ w (inserted v ws) × (equals v w ≡ true)
inserted-own v [] = (v, Memᴰ.head refl, equals-self v)
inserted-own v (w ∷ ws) = go (precedes v w) (equals v w) refl (inserted-own v ws)
  where
    go : (a b : Bool) → equals v w ≡ b → (x : Candidate) × Memᴰ x (inserted v ws) × (equals v x ≡ true)
        → (x : Candidate) × Memᴰ x (cond a (v ∷ w ∷ ws) (cond b (w ∷ ws) (w ∷ inserted v ws))) × (equals v x ≡ true)
    go true b h ih = (v, Memᴰ.head refl, equals-self v)
    go false true h ih = (w, Memᴰ.head refl, h)
    go false false h ih = (ih.0, Memᴰ.tail ih.1, ih.2)

-- All edges in order

-- what is put in order ascends
pub ordered-rising : (vs : List Candidate) → Rising precedes (ordered vs)
unfolding ordered
ordered-rising [] = rising_none
ordered-rising (v ∷ vs) = inserted_rising v (ordered-rising vs)

-- it has no new edge
pub ordered-find : (vs : List Candidate) {x : Candidate} → Memᴰ x (ordered vs) → Memᴰ x vs
unfolding ordered
ordered-find [] m = m
ordered-find (v ∷ vs) m = ⊎_elim (λ e. Memᴰ.head e) (λ k. Memᴰ.tail (ordered-find vs k)) (inserted-find v (ordered vs) m)

-- and each edge or one that is equal
pub ordered-mem : (vs : List Candidate) {v : Candidate} → Memᴰ v vs → (w : Candidate) × Memᴰ w (ordered vs) × (equals v w ≡ true)
unfolding ordered
ordered-mem [] m = absurd (Memᴰ.not-nil m)
ordered-mem (u ∷ vs) {v} m =
    ⊎_elim (λ e. let r = inserted-own u (ordered vs) in (r.0, r.1, ap (λ (z : Candidate). equals z r.0) e ∙ r.2))
    (λ k. let r = ordered-mem vs k in (r.0, inserted-mem u (ordered vs) r.1, r.2))
    (Memᴰ.cases_cons m)

-- an edge is among those in order exactly where it is among those given
pub ordered_same : (vs : List Candidate) (v : Candidate) → any (equals v) (ordered vs) ≡ any (equals v) vs
ordered_same vs v = bool_iff (any (equals v) (ordered vs)) (any (equals v) vs) to fro
  where
    to : any (equals v) (ordered vs) ≡ true → any (equals v) vs ≡ true
    to h = let w = any-find (equals v) (ordered vs) h in any_here (equals v) (ordered-find vs w.1) w.2

    fro : any (equals v) vs ≡ true → any (equals v) (ordered vs) ≡ true
    fro h = let w = any-find (equals v) vs h in let r = ordered-mem vs w.1 in any_here (equals v) r.1 (equals-chain v w.0 r.0 w.2 r.2)

-- a list that ascends has an edge once, or not at all
rising-once : (v : Candidate) {L : List Candidate} → Rising precedes L → length (keep (equals v) L) ≡ cond (any (equals v) L) 1 0
rising-once v rising_none = refl
rising-once v (rising-cons {x = x} {L = L} up r) = go (equals v x) (any (equals v) L) refl refl (rising-once v r)
  where
    go : (a b : Bool) → equals v x ≡ a → any (equals v) L ≡ b → length (keep (equals v) L) ≡ cond b 1 0
        → length (cond a (x ∷ keep (equals v) L) (keep (equals v) L)) ≡ cond (a || b) 1 0
    go true true h k ih =
        let w = any-find (equals v) L k in
        absurd (precedes-apart x w.0 (all-each (λ y. precedes x y) w.1 up) (equals-chain x v w.0 (equals-sym v x h) w.2))
    go true false h k ih = ap suc ih
    go false b h k ih = ih

-- each edge that is given is there once, and no other
pub ordered-once : (vs : List Candidate) (v : Candidate) → length (keep (equals v) (ordered vs)) ≡ cond (any (equals v) vs) 1 0
ordered-once vs v = rising-once v (ordered-rising vs) ∙ ap (λ (b : Bool). cond b 1 0) (ordered_same vs v)

-- The first that fails a test

-- w is the first of the list that fails the test
pub data First (d : Candidate → Bool) : List Candidate → Candidate → Type 0 where
  first-here : {w : Candidate} {ws : List Candidate} → d w ≡ false → First d (w ∷ ws) w
  first_next : {v w : Candidate} {ws : List Candidate} → d v ≡ true → First d ws w → First d (v ∷ ws) w

-- w is the least of those of the list that fail the test
pub record LeastOf (d : Candidate → Bool) (vs : List Candidate) (w : Candidate) : Type 0 where
  pub there : Memᴰ w vs
  pub fails : d w ≡ false
  pub least : (v : Candidate) → Memᴰ v vs → d v ≡ false → (equals v w ≡ true) ⊎ (precedes w v ≡ true)

-- edges of the list that are equal pass the test together
pub record Alike (d : Candidate → Bool) (vs : List Candidate) : Type 0 where
  pub alike : (v w : Candidate) → Memᴰ v vs → Memᴰ w vs → equals v w ≡ true → d v ≡ d w

-- as do all edges of one kind into one node: those that are equal are the same edge
pub alike-one : (d : Candidate → Bool) (vs : List Candidate)
    → ((v w : Candidate) → Memᴰ v vs → Memᴰ w vs → (v.kind ≡ w.kind) × (v.verifier ≡ w.verifier) × (v.direct ≡ w.direct)) → Alike d vs
alike-one d vs h = record { alike = λ v w m n e. ap d (one v w (h v w m n) (equals-parts v w e)) }
  where
    one : (v w : Candidate) → (v.kind ≡ w.kind) × (v.verifier ≡ w.verifier) × (v.direct ≡ w.direct)
        → (v.expression ≡ w.expression) × (v.subject ≡ w.subject) → v ≡ w
    one v w k e = λ i. record { kind = k.0 i; verifier = k.1 i; expression = e.0 i; subject = e.1 i; direct = k.2 i }

module _ {d : Candidate → Bool} where
  first-mem : {L : List Candidate} {w : Candidate} → First d L w → Memᴰ w L
  first-mem (first-here h) = Memᴰ.head refl
  first-mem (first_next h f) = Memᴰ.tail (first-mem f)

  first-fails : {L : List Candidate} {w : Candidate} → First d L w → d w ≡ false
  first-fails (first-here h) = h
  first-fails (first_next h f) = first-fails f

  first-least : {L : List Candidate} {v w : Candidate} → First d L w → Rising precedes L → Memᴰ v L → d v ≡ false → (v ≡ w) ⊎ (precedes w v ≡ true)
  first-least (first-here {w = w} h) r m n = ⊎_elim (λ e. inl e) (λ k. inr (all-each (λ y. precedes w y) k (rising-parts r).0)) (Memᴰ.cases_cons m)
  first-least (first_next h f) r m n = ⊎_elim (λ e. not-both (ap d e ∙ h) n) (λ k. first-least f (rising-parts r).1 k n) (Memᴰ.cases_cons m)

  first-or-all : (L : List Candidate) → ((w : Candidate) × First d L w) ⊎ (all d L ≡ true)
  first-or-all [] = inr refl
  first-or-all (x ∷ L) = go (d x) refl (first-or-all L)
    where
      go : (b : Bool) → d x ≡ b → ((w : Candidate) × First d L w) ⊎ (all d L ≡ true) → ((w : Candidate) × First d (x ∷ L) w) ⊎ (all d (x ∷ L) ≡ true)
      go true h (inl f) = inl (f.0, first_next h f.1)
      go true h (inr k) = inr (and_both (d x) (all d L) h k)
      go false h ih = inl (x, first-here h)

  module _ (vs : List Candidate) (A : Alike d vs) where
    -- the first that fails in order is the least that fails
    pub ordered-first : {w : Candidate} → First d (ordered vs) w → LeastOf d vs w
    ordered-first {w} f = record { there = ordered-find vs (first-mem f); fails = first-fails f; least = least }
      where
        least : (v : Candidate) → Memᴰ v vs → d v ≡ false → (equals v w ≡ true) ⊎ (precedes w v ≡ true)
        least v m n =
            let o = ordered-mem vs m in
            ⊎_elim (λ e. inl (sym (ap (equals v) e) ∙ o.2)) (λ p. inr (equals-after v o.0 w o.2 ∙ p))
            (first-least f (ordered-rising vs) o.1 (sym (A.alike v o.0 m (ordered-find vs o.1) o.2) ∙ n))

    -- where there is a least that fails, it is the first that fails in order, or equal
    pub least_first : {v : Candidate} → LeastOf d vs v → (w : Candidate) × First d (ordered vs) w × (equals v w ≡ true)
    least_first {v} l = ⊎_elim found none (first-or-all (ordered vs))
      where
        found : (w : Candidate) × First d (ordered vs) w → (w : Candidate) × First d (ordered vs) w × (equals v w ≡ true)
        found f =
            let w = f.0 in
            let k = ordered-first f.1 in (
              w,
              f.1,
              ⊎_elim (λ e. e) (λ p. ⊎_elim (λ e. equals-sym w v e) (λ q. absurd (false-true (sym (precedes-self w) ∙ precedes-chain w v w p q)))
                  (l.least w k.there k.fails)) (k.least v l.there l.fails),
            )

        none : all d (ordered vs) ≡ true → (w : Candidate) × First d (ordered vs) w × (equals v w ≡ true)
        none h =
            let o = ordered-mem vs l.there in
            not-both (A.alike v o.0 l.there (ordered-find vs o.1) o.2 ∙ all-each d o.1 h) l.fails

    -- none fails in order exactly where none fails
    pub ordered-all : all d (ordered vs) ≡ all d vs
    ordered-all = bool_iff (all d (ordered vs)) (all d vs) to fro
      where
        to : all d (ordered vs) ≡ true → all d vs ≡ true
        to h = all_of d vs (λ v m. let o = ordered-mem vs m in A.alike v o.0 m (ordered-find vs o.1) o.2 ∙ all-each d o.1 h)

        fro : all d vs ≡ true → all d (ordered vs) ≡ true
        fro h = all_of d (ordered vs) (λ v m. all-each d (ordered-find vs m) h)
