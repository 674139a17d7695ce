-- What the code reads of the numbers of expressions. Assumes nothing.
use Rattle.std.specs.Prelude.{ℕ, ◌+◌, ◌*◌, ◌≤◌, ◌<◌, ◌≡◌, Bool, ◌&&◌, ◌||◌, eqb, leb}
use Rattle.std.proofs.Common.{arith, ◌∙◌, ⊎_elim}
use Rattle.std.proofs.Math.Path.{refl, sym, ap}
use Rattle.std.proofs.Math.Bool.{true, false, not, cond, and-false}
use borrow.Author.Tests.{eqb-true, lt-ltb, le-ltb, leb-true, leb-false}
use Rattle.std.proofs.Math.Dec.{ltb}
use Rattle.expression.specs.declared.Parts.{Parts}
use Rattle.expression.specs.declared.Raw.{Raw}
use Rattle.expression.specs.declared.Expression.{Expression}
use Rattle.expression.specs.declared.Expression.TheVariants as E
use Rattle.expression.specs.Form.{pick_expression, expression_of}
use Rattle.word.specs.laws.Bools.{false-true, or_cases}
use Rattle.rt0.specs.From.{role_of}
use Rattle.propagation.specs.laws.Flags.{decided}
use Rattle.graph.specs.declared.Nodes.{Nodes}
use Rattle.rt0.specs.laws.Pool.{raw_at_columns}
use Rattle.graph.specs.States.{implication_kind}
use Rattle.graph.specs.Form.{is_standard}
use Rattle.states.specs.laws.Brings.{need_as, way_as, slot_in, slot_as, slot_by}

-- the numbers of node i's expression
abbrev pub raw_in : Nodes → ℕ → Raw
raw_in N i = raw_at_columns N.kind N.number i

-- by the kind, the part count and the state
unfoldable pub need_by : ℕ → ℕ → ℕ → ℕ
need_by k c s = cond (eqb k 1) 0 (cond (eqb k 2) 1 (cond (eqb k 3) 1 (cond (eqb k 4) (cond (eqb s 3) c 5) 5)))

unfoldable pub way_by : ℕ → ℕ → ℕ
way_by k s = cond (eqb k 2 || eqb k 3) (cond (eqb s 3) 1 0) (cond (eqb k 4) 2 0)

-- the parts of an intersection's numbers
abbrev pub parts_of : Raw → Parts
parts_of r =
    record {
      count = r.count;
      first = role_of r.n0 r.n1;
      second = role_of r.n2 r.n3;
      third = role_of r.n4 r.n5;
      fourth = role_of
          r.n6 r.n7;
    }

-- the expression by the tests of its kind
abbrev pub by_kind : Bool → Bool → Bool → Bool → Raw → Expression
by_kind a b c d r =
    pick_expression a (E.Entity r.n0)
    (pick_expression b (E.Role (role_of r.n0 r.n1))
    (pick_expression c (E.Linked (role_of r.n0 r.n1) r.n2)
    (pick_expression d (E.Intersection (parts_of r)) (E.Goal r.n0))))

pub need-raw : (s : ℕ) (r : Raw) → need_by r.kind r.count s ≡ need_as s (expression_of r)
unfolding need_by
need-raw s r = go (eqb r.kind 1) (eqb r.kind 2) (eqb r.kind 3) (eqb r.kind 4)
  where
    go : (a b c d : Bool) → cond a 0 (cond b 1 (cond c 1 (cond d (cond (eqb s 3) r.count 5) 5))) ≡ need_as s (by_kind a b c d r)
    go true b c d = refl
    go false true c d = refl
    go false false true d = refl
    go false false false true = refl
    go false false false false = refl

-- the same numbers under another name of the kind
abbrev of_kind : ℕ → Raw → Raw
of_kind k r = record { kind = k; count = r.count; n0 = r.n0; n1 = r.n1; n2 = r.n2; n3 = r.n3; n4 = r.n4; n5 = r.n5; n6 = r.n6; n7 = r.n7 }

pub way-raw : (s : ℕ) (r : Raw) → way_by r.kind s ≡ way_as s (expression_of r)
unfolding way_by
way-raw s r = ⊎_elim first other (decided (eqb r.kind 1))
  where
    first : eqb r.kind 1 ≡ true → way_by r.kind s ≡ way_as s (expression_of r)
    first h = let k : r.kind ≡ 1 = eqb-true r.kind 1 h in ap (λ (n : ℕ). way_by n s) k ∙ sym (ap (λ (n : ℕ). way_as s (expression_of (of_kind n r))) k)

    go : (b c d : Bool) → cond (b || c) (cond (eqb s 3) 1 0) (cond d 2 0) ≡ way_as s (by_kind false b c d r)
    go true c d = refl
    go false true d = refl
    go false false true = refl
    go false false false = refl

    other : eqb r.kind 1 ≡ false → way_by r.kind s ≡ way_as s (expression_of r)
    other h =
        go (eqb r.kind 2) (eqb r.kind 3) (eqb r.kind 4)
        ∙ sym (ap (λ (b : Bool). way_as s (by_kind b (eqb r.kind 2) (eqb r.kind 3) (eqb r.kind 4) r)) h)

-- Which slot an edge fills, by the numbers r of its parent's expression and q of its child's

standard-raw : (r : Raw) → (eqb r.kind 2 || eqb r.kind 3) ≡ true → is_standard (expression_of r) ≡ true
standard-raw r h =
    ⊎_elim (λ e. ap (λ (n : ℕ). is_standard (expression_of (of_kind n r))) (eqb-true r.kind 2 e))
    (λ e. ap (λ (n : ℕ). is_standard (expression_of (of_kind n r))) (eqb-true r.kind 3 e))
    (or_cases (eqb r.kind 2) (eqb r.kind 3) h)

pub slot-standard : (k : ℕ) (x y : Expression) → is_standard x ≡ true → slot_as k x y ≡ cond (implication_kind k) 0 4
unfolding slot_as
slot-standard k (E.Entity a) y h = absurd (false-true h)
slot-standard k (E.Role a) y h = refl
slot-standard k (E.Linked a r) y h = refl
slot-standard k (E.Intersection p) y h = absurd (false-true h)
slot-standard k (E.Goal r) y h = absurd (false-true h)

module _ (k : ℕ) (r q : Raw) where
  pub slot-implied : (eqb r.kind 2 || eqb r.kind 3) ≡ true → (eqb k 1 || eqb k 4) ≡ true → 0 ≡ slot_as k (expression_of r) (expression_of q)
  slot-implied h i = sym (slot-standard k (expression_of r) (expression_of q) (standard-raw r h) ∙ ap (λ (b : Bool). cond b 0 4) i)

  pub slot-unimplied : (eqb r.kind 2 || eqb r.kind 3) ≡ true → (eqb k 1 || eqb k 4) ≡ false → 4 ≡ slot_as k (expression_of r) (expression_of q)
  slot-unimplied h i = sym (slot-standard k (expression_of r) (expression_of q) (standard-raw r h) ∙ ap (λ (b : Bool). cond b 0 4) i)

  -- an expression that is not a role
  other-slot : (p : Parts) → eqb q.kind 2 ≡ false → slot_in p (expression_of q) ≡ 4
  unfolding slot_in
  other-slot p h =
      ap (λ (b : Bool). slot_in p (by_kind (eqb q.kind 1) b (eqb q.kind 3) (eqb q.kind 4) q)) h
      ∙ go (eqb q.kind 1) (eqb q.kind 3) (eqb q.kind 4)
    where
      go : (a c d : Bool) → slot_in p (by_kind a false c d q) ≡ 4
      go true c d = refl
      go false true d = refl
      go false false true = refl
      go false false false = refl

  -- nor an intersection's child by its kind or its expression
  no_part : (p : Parts) → (not (eqb k 5) || not (eqb q.kind 2)) ≡ true → cond (eqb k 5) (slot_in p (expression_of q)) 4 ≡ 4
  no_part p h = go (eqb k 5) (eqb q.kind 2) h (other-slot p)
    where
      go : (f g : Bool) → (not f || not g) ≡ true → (g ≡ false → slot_in p (expression_of q) ≡ 4) → cond f (slot_in p (expression_of q)) 4 ≡ 4
      go true true h o = absurd (false-true h)
      go true false h o = o refl
      go false g h o = refl

  pub slot-other : (eqb r.kind 2 || eqb r.kind 3) ≡ false → (not (eqb r.kind 4) || not (eqb k 5) || not (eqb q.kind 2)) ≡ true
      → 4 ≡ slot_as k (expression_of r) (expression_of q)
  unfolding slot_as
  slot-other h i = sym (go (eqb r.kind 1) (eqb r.kind 2) (eqb r.kind 3) (eqb r.kind 4) h i)
    where
      go : (a b c d : Bool) → (b || c) ≡ false → (not d || not (eqb k 5) || not (eqb q.kind 2)) ≡ true → slot_as k (by_kind a b c d r) (expression_of q) ≡ 4
      go true b c d h i = refl
      go false true c d h i = absurd (false-true (sym h))
      go false false true d h i = absurd (false-true (sym h))
      go false false false true h i = no_part (parts_of r) i
      go false false false false h i = refl

  pub slot-part : (not (eqb r.kind 4) || not (eqb k 5) || not (eqb q.kind 2)) ≡ false
      → slot_in (parts_of r) (E.Role (role_of q.n0 q.n1)) ≡ slot_as k (expression_of r) (expression_of q)
  unfolding slot_as
  slot-part h =
      let t = go (eqb r.kind 4) (eqb k 5) (eqb q.kind 2) h in
      let a : r.kind ≡ 4 = eqb-true r.kind 4 t.0 in
      let b : k ≡ 5 = eqb-true k 5 t.1 in
      let c : q.kind ≡ 2 = eqb-true q.kind 2 t.2 in
      sym (λ i. slot_as (b i) (expression_of (of_kind (a i) r)) (expression_of (of_kind (c i) q)))
    where
      go : (d f g : Bool) → (not d || not f || not g) ≡ false → (d ≡ true) × (f ≡ true) × (g ≡ true)
      go true true true h = (refl, refl, refl)
      go true true false h = absurd (false-true (sym h))
      go true false g h = absurd (false-true (sym h))
      go false f g h = absurd (false-true (sym h))

-- Which of all slots, for the nodes p and c, read as x and y

-- both are nodes of n
pub inside : (n : ℕ) {x y : ℕ} → (leb n x || leb n y) ≡ false → (x < n) × (y < n)
inside n {x} {y} h = (leb-false n x (go (leb n x) (leb n y) h).0, leb-false n y (go (leb n x) (leb n y) h).1)
  where
    go : (u v : Bool) → (u || v) ≡ false → (u ≡ false) × (v ≡ false)
    go true v h = absurd (false-true (sym h))
    go false true h = absurd (false-true (sym h))
    go false false h = (refl, refl)

module _ (n k p c : ℕ) (X : ℕ → Expression) where
  pub slot-outside : {x y : ℕ} → x ≡ p → y ≡ c → (leb n x || leb n y) ≡ true → 512 ≡ slot_by n k p c (X p) (X c)
  unfolding slot_by
  slot-outside {x} {y} e f h = sym (ap (λ (b : Bool). cond (b && ltb (slot_as k (X p) (X c)) 4) (p * 4 + slot_as k (X p) (X c)) 512) (⊎_elim
      (λ t. ap (λ (b : Bool). b && ltb c n) (le-ltb p n (omega (arith, leb-true n x t))))
      (λ t. ap (λ (b : Bool). ltb p n && b) (le-ltb c n (omega (arith, leb-true n y t))) ∙ and-false (ltb p n)) (or_cases (leb n x) (leb n y) h)))

  read-slot : {x y s : ℕ} → x ≡ p → y ≡ c → s ≡ slot_as k (X x) (X y) → s ≡ slot_as k (X p) (X c)
  read-slot e f h = h ∙ (λ i. slot_as k (X (e i)) (X (f i)))

  pub slot-none : {x y s : ℕ} → x ≡ p → y ≡ c → s ≡ slot_as k (X x) (X y) → 4 ≤ s → 512 ≡ slot_by n k p c (X p) (X c)
  unfolding slot_by
  slot-none {s = s} e f h l =
      let z : s ≡ slot_as k (X p) (X c) = read-slot e f h in
      sym (ap (λ (b : Bool). cond (ltb p n && ltb c n && b) (p * 4 + slot_as k (X p) (X c)) 512) (le-ltb (slot_as k (X p) (X c)) 4 (omega arith))
      ∙ ap (λ (b : Bool). cond b (p * 4 + slot_as k (X p) (X c)) 512) (and-false (ltb p n && ltb c n)))

  pub slot-some : {x y s : ℕ} → x ≡ p → y ≡ c → (leb n x || leb n y) ≡ false → s ≡ slot_as k (X x) (X y) → s < 4 → p * 4 + s ≡ slot_by n k p c (X p) (X c)
  unfolding slot_by
  slot-some {x} {y} {s} e f h i l =
      let z : s ≡ slot_as k (X p) (X c) = read-slot e f i in
      let t = inside n h in
      let a : ltb p n ≡ true = lt-ltb p n (omega (arith, t.0)) in
      let b : ltb c n ≡ true = lt-ltb c n (omega (arith, t.1)) in
      let d : ltb (slot_as k (X p) (X c)) 4 ≡ true = lt-ltb (slot_as k (X p) (X c)) 4 (omega arith) in
      ap (λ (m : ℕ). p * 4 + m) z ∙ sym (λ i. cond (a i && b i && d i) (p * 4 + slot_as k (X p) (X c)) 512)
