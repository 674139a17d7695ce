-- Edges of kind 1, judged child by child. Assumes nothing.
use Prim.Native.Nat.{ℕ, zero, suc, ◌+◌, ◌≤◌, ◌<◌}
use Rattle.std.proofs.Common.{arith, add-one, ◌∙◌, subst, eq-eqb, ne_eqb, eqb-true, length-set}
use Rattle.std.specs.Prelude.{◌≡◌, Bool, false, ◌||◌, eqb, get_or, set, replicate}
use Rattle.std.proofs.Math.Path.{refl, sym, ap}
use Rattle.std.proofs.Math.Logic.{⊎_elim}
use Rattle.std.proofs.Math.Bool.{true, not}
use mathlib.Core.List.{List, []}
use Rattle.std.proofs.lemmas.Bool.{eqb-false, not-true, not-false}
use Rattle.std.proofs.lemmas.List.{length-replicate}
use Rattle.expression.specs.declared.Credential.{Credential}
use Rattle.expression.specs.declared.Expression.{Expression}
use Rattle.rt0.specs.Decide.{from? as from_of}
use Rattle.rt0.specs.Lists.{all}
use Rattle.word.specs.laws.Bools.{false-true, or_cases, or_left, or_right, bool_iff, not-of}
use Rattle.rt0.specs.Pool.{up_to}
use Rattle.propagation.specs.laws.Flags.{decided, flag, flag_same, flag-grows}
use Rattle.graph.specs.declared.Edge.{Edge}
use Rattle.graph.specs.declared.Nodes.{Nodes}
use Rattle.graph.specs.declared.Edges.{Edges}
use Rattle.rt0.specs.laws.Pool.{expression_in}
use Rattle.graph.specs.laws.Graph.{nodes_of, edges_of, edge_at}
use Rattle.graph.specs.laws.Columns.{node_in_lem}
use Rattle.justification.specs.InTurn.{in_turn}
use Rattle.justification.specs.laws.InTurn.{turn-all, turn-start, turn-next, turn-stop, turn-done}
use Rattle.justification.specs.laws.Inside.{Inside}
use Rattle.justification.specs.Justified.{implied, implied_if}
use Rattle.justification.specs.laws.Implied.{implied_from, all_from, implied_by, all_implied, Children}

-- The children

pub children-none : (K D : List ℕ) → Children K D 0 (replicate 128 0)
children-none K D = record { size = length-replicate {A = ℕ} 128 0; marked = λ i l. absurd (omega arith) }

module _ (K D : List ℕ) {j : ℕ} {r : List ℕ} (g : Children K D j r) where
  -- an edge of kind 1
  pub children-add : {c : ℕ} {r' : List ℕ} → c ≡ get_or D j 0 → c < 128 → r' ≡ set r c 1 → Children K D (j + 1) r'
  children-add {c} ce l e = subst (Children K D (j + 1)) (sym e)
      (record {
        size = length-set r c 1 ∙ g.size;
        marked = λ i k h. ⊎_elim
            (λ q. let z : get_or D i 0 ≡ c = ap (λ (n : ℕ). get_or D n 0) (eqb-true i j q)
            ∙ sym ce in subst (λ (n : ℕ). flag (set r c 1) n ≡ true) (sym z) (flag_same r c (omega (arith, g.size))))
            (λ q. flag-grows r c (get_or D i 0) (omega (arith, g.size)) (g.marked i (omega (arith, eqb-false i j q)) h))
            (decided (eqb i j));
      })

  -- one of another kind
  pub children-skip : {r' : List ℕ} → (get_or K j 0 ≡ 1 → ⊥) → r' ≡ r → Children K D (j + 1) r'
  children-skip o e = subst (Children K D (j + 1)) (sym e)
      (record {
        size = g.size;
        marked = λ i k h. ⊎_elim (λ q. absurd (o (ap (λ (n : ℕ). get_or K n 0) (sym (eqb-true i j q)) ∙ h)))
            (λ q. g.marked i (omega (arith, eqb-false i j q)) h) (decided (eqb i j));
      })

  pub children-all : (m : ℕ) → j ≤ m → m ≤ j → Children K D m r
  children-all m a b = let z : j ≡ m = omega arith in subst (λ (k : ℕ). Children K D k r) z g

-- One edge

module _ (C : List Credential) (x : ℕ → Expression) (c : ℕ) (d : Edge) where
  by-from : (a b : Bool) → a ≡ (not (eqb d.kind 1) || not (eqb d.child c)) → b ≡ from_of C (x d.parent) (x c) → (a || b) ≡ implied_from C x c d
  unfolding implied_from
  by-from a b p q = λ i. p i || q i

  pub from-other : {k : ℕ} → k ≡ d.child → (not (eqb d.kind 1) || not (eqb k c)) ≡ true → true ≡ implied_from C x c d
  from-other {k} e h = by-from true _ (sym h ∙ ap (λ (n : ℕ). not (eqb d.kind 1) || not (eqb n c)) e) refl

  pub from-here : {k p : ℕ} {e f : Expression} {b : Bool} → k ≡ d.child → (not (eqb d.kind 1) || not (eqb k c)) ≡ false → p ≡ d.parent → f ≡ x p
      → e ≡ x c → b ≡ from_of C f e → b ≡ implied_from C x c d
  from-here {k} {p} {e} {f} {b} ke h pe fe ee be =
      be ∙ (λ i. from_of C ((fe ∙ ap x pe) i) (ee i)) ∙ by-from false _ (sym h ∙ ap (λ (n : ℕ). not (eqb d.kind 1) || not (eqb n c)) ke) refl

-- The edges from one node

-- those below j are implied
pub record From (C : List Credential) (x : ℕ → Expression) (E : Edges) (c j : ℕ) : Type 0 where
  pub few : j ≤ E.count
  pub pass : in_turn (λ b d. implied_from C x c d) [] (up_to j (edge_at E)) ≡ true

module _ (C : List Credential) (x : ℕ → Expression) (E : Edges) (c : ℕ) where
  pub from_start : From C x E c 0
  from_start = record { few = omega arith; pass = turn-start (λ b d. implied_from C x c d) (edge_at E) }

  module _ {j : ℕ} (g : From C x E c j) where
    pub from_next : {b : Bool} → j < E.count → b ≡ implied_from C x c (edge_at E j) → not b ≡ false → From C x E c (j + 1)
    from_next {b} l e h = record { few = omega arith; pass = turn-next (λ b d. implied_from C x c d) (edge_at E) {j = j} g.pass e (not-false b h) }

    pub from-stop : {b : Bool} → j < E.count → b ≡ implied_from C x c (edge_at E j) → not b ≡ true → false ≡ all_from C x (edges_of E) c
    unfolding all_from edges_of
    from-stop {b} l e h =
        turn-stop (λ b d. implied_from C x c d) (edge_at E) {j = j} E.count l e (not-true b h) ∙ turn-all (implied_from C x c) [] (up_to E.count (edge_at E))

    pub from-done : E.count ≤ j → true ≡ all_from C x (edges_of E) c
    unfolding all_from edges_of
    from-done l =
        turn-done (λ b d. implied_from C x c d) (edge_at E) E.count g.few l g.pass ∙ turn-all (implied_from C x c) [] (up_to E.count (edge_at E))

-- All edges

-- a test of all the edges is a test of each
module _ (f : Edge → Bool) (E : Edges) where
  pub each-edge : all f (edges_of E) ≡ true → (j : ℕ) → j < E.count → f (edge_at E j) ≡ true
  unfolding edges_of
  each-edge h j l =
      ⊎_elim (λ t. t) (λ t. absurd (false-true (turn-stop (λ b d. f d) (edge_at E) {j = j} E.count l refl t
      ∙ turn-all f [] (up_to E.count (edge_at E)) ∙ h))) (decided (f (edge_at E j)))

  pub all_edges_lem : ((j : ℕ) → j < E.count → f (edge_at E j) ≡ true) → all f (edges_of E) ≡ true
  unfolding edges_of
  all_edges_lem h = sym (turn-all f [] (up_to E.count (edge_at E))) ∙ go E.count (omega arith)
    where
      go : (n : ℕ) → n ≤ E.count → in_turn (λ b d. f d) [] (up_to n (edge_at E)) ≡ true
      go zero l = turn-start (λ b d. f d) (edge_at E)
      go (suc n) l =
          ap (λ (k : ℕ). in_turn (λ b d. f d) [] (up_to k (edge_at E))) (sym (add-one n))
          ∙ turn-next (λ b d. f d) (edge_at E) {j = n} (go n (omega arith)) refl (h n (omega arith))

module _ (C : List Credential) (x : ℕ → Expression) where
  -- of an edge from c both tests say the same
  from-by : (d : Edge) → implied_from C x d.child d ≡ true → implied_by C x d ≡ true
  unfolding implied_from implied_by
  from-by d h = ⊎_elim
      (λ a. ⊎_elim (λ k. or_left (not (eqb d.kind 1)) _ k) (λ k. absurd (false-true (ap not (sym (eq-eqb d.child d.child refl)) ∙ k)))
      (or_cases (not (eqb d.kind 1)) (not (eqb d.child d.child)) a))
      (λ b. or_right (not (eqb d.kind 1)) _ b)
      (or_cases (not (eqb d.kind 1) || not (eqb d.child d.child)) _ h)

  by-from-any : (c : ℕ) (d : Edge) → implied_by C x d ≡ true → implied_from C x c d ≡ true
  unfolding implied_from implied_by
  by-from-any c d h = ⊎_elim
      (λ k. or_left (not (eqb d.kind 1) || not (eqb d.child c)) _ (or_left (not (eqb d.kind 1)) _ k))
      (λ b. ⊎_elim
      (λ q. or_right (not (eqb d.kind 1) || not (eqb d.child c)) _ (subst (λ (n : ℕ). from_of C (x d.parent) (x n) ≡ true) (eqb-true d.child c q) b))
      (λ q. or_left (not (eqb d.kind 1) || not (eqb d.child c)) _ (or_right (not (eqb d.kind 1)) _ (ap not q)))
      (decided (eqb d.child c)))
      (or_cases (not (eqb d.kind 1)) _ h)

  module _ (E : Edges) where
    -- no edge of kind 1 comes from node c
    pub from-none : {m : ℕ} {r : List ℕ} (c : ℕ) → E.count ≤ m → Children E.kind E.child m r → (get_or r c 0 ≡ 1 → ⊥) → true ≡ all_from C x (edges_of E) c
    unfolding all_from implied_from
    from-none {m} {r} c l g o = sym (all_edges_lem (implied_from C x c) E (λ j k. or_left (not (eqb (get_or E.kind j 0) 1) || not (eqb (get_or E.child j 0) c)) _
        (⊎_elim
        (λ a. or_right (not (eqb (get_or E.kind j 0) 1)) (not (eqb (get_or E.child j 0) c))
        (ap not (ne_eqb (get_or E.child j 0) c
        (λ z. o (eqb-true (get_or r c 0) 1 (subst (λ (n : ℕ). flag r n ≡ true) z (g.marked j (omega arith) (eqb-true (get_or E.kind j 0) 1 a))))))))
        (λ a. or_left (not (eqb (get_or E.kind j 0) 1)) (not (eqb (get_or E.child j 0) c)) (ap not a))
        (decided (eqb (get_or E.kind j 0) 1)))))

    -- the edges from the nodes below c are implied
    pub record Below (n c : ℕ) : Type 0 where
      pub few : c ≤ n
      pub pass : (k : ℕ) → k < c → all_from C x (edges_of E) k ≡ true

    pub below_none : (n : ℕ) → Below n 0
    below_none n = record { few = omega arith; pass = λ k l. absurd (omega arith) }

    module _ {n c : ℕ} (g : Below n c) where
      pub below_next : {b : Bool} → c < n → b ≡ all_from C x (edges_of E) c → not b ≡ false → Below n (c + 1)
      below_next {b} l e h =
          record {
            few = omega arith;
            pass = λ k m. ⊎_elim
                (λ q. subst (λ (i : ℕ). all_from C x (edges_of E) i ≡ true) (sym (eqb-true k c q)) (sym e ∙ not-false b h))
                (λ q. g.pass k (omega (arith, eqb-false k c q))) (decided (eqb k c));
          }

      pub below-stop : {b : Bool} → b ≡ all_from C x (edges_of E) c → not b ≡ true → false ≡ all_implied C x (edges_of E)
      unfolding all_from all_implied
      below-stop {b} e h =
          sym (not-of (all (implied_by C x) (edges_of E))
          (λ t. false-true (sym (not-true b h) ∙ e ∙ all_edges_lem (implied_from C x c) E (λ j l. by-from-any c (edge_at E j) (each-edge (implied_by C x) E t j l)))))

      pub below-done : Inside n E → n ≤ c → true ≡ all_implied C x (edges_of E)
      unfolding all_from all_implied
      below-done i l =
          sym (all_edges_lem (implied_by C x) E (λ j k. from-by (edge_at E j)
          (each-edge (implied_from C x (get_or E.child j 0)) E (g.pass (get_or E.child j 0) (omega (arith, i.child j k))) j k)))

-- with the expressions of the nodes
module _ (C : List Credential) (N : Nodes) (E : Edges) (i : Inside N.count E) where
  abbrev pub expressions_of : ℕ → Expression
  expressions_of = expression_in N.kind N.number

  same_test : (j : ℕ) → j < E.count → implied_by C expressions_of (edge_at E j) ≡ implied_if C (nodes_of N) (edge_at E j)
  unfolding implied_by implied_if implied
  same_test j l =
      λ t. not (eqb (get_or E.kind j 0) 1) || from_of C (sym (node_in_lem N (get_or E.parent j 0) (i.parent j l)) t).expression
      (sym (node_in_lem N (get_or E.child j 0) (i.child j l)) t).expression

  pub implied-nodes : {b : Bool} {D : List Credential} → D ≡ C → b ≡ all_implied D expressions_of (edges_of E) → b ≡ all (implied_if C (nodes_of N)) (edges_of E)
  unfolding all_implied
  implied-nodes {b} {D} de e = e ∙ ap (λ (D : List Credential). all (implied_by D expressions_of) (edges_of E)) de ∙ bool_iff _ _
      (λ h. all_edges_lem (implied_if C (nodes_of N)) E (λ j l. sym (same_test j l) ∙ each-edge (implied_by C expressions_of) E h j l))
      (λ h. all_edges_lem (implied_by C expressions_of) E (λ j l. same_test j l ∙ each-edge (implied_if C (nodes_of N)) E h j l))
