-- A goal's solutions by the columns of satisfied and failed nodes, and the propagated state of a node. Assumes nothing.
use Rattle.std.specs.Prelude.{ℕ, ◌*◌, ◌≤◌, ◌<◌, ◌≡◌, ◌&&◌, ◌||◌, List, [], ◌∷◌, get_or}
use Rattle.std.proofs.Common.{arith, ◌∙◌, take_all}
use Rattle.std.proofs.Math.Path.{refl, sym, ap}
use Rattle.std.proofs.Math.Bool.{Bool, true, false, not, cond, or-true}
use borrow.Author.Tests.{eq-eqb, ne_eqb, le-ltb, lt-ltb}
use Rattle.std.proofs.Math.Dec.{eqb, ltb}
use Rattle.rt0.specs.Lists.{any, all}
use Rattle.word.specs.laws.Bools.{false-true}
use Rattle.graph.specs.declared.Node.{Node}
use Rattle.graph.specs.declared.Edge.{Edge}
use Rattle.graph.specs.declared.Nodes.{Nodes}
use Rattle.graph.specs.declared.Edges.{Edges}
use Rattle.rt0.specs.laws.Pool.{expression_in}
use Rattle.graph.specs.laws.Graph.{nodes_of, edges_of}
use Rattle.graph.specs.laws.Columns.{nodes-length, edges-length, node_in_lem}
use Rattle.graph.specs.States.{solution_kind}
use Rattle.graph.specs.Propagated.{is_child, all_children, satisfied_b, failed_b, complete_as, complete_b, propagated_state}
use Rattle.propagation.specs.Flags.{at}
use Rattle.propagation.specs.laws.Flags.{flag}
use Rattle.propagation.specs.laws.Satisfied.{graph, satisfied_of}
use Rattle.propagation.specs.laws.Failed.{failed_of}
use Rattle.states.specs.laws.Brings.{NodesFormed, EdgesFormed, Joined, Needs, Ways}
use Rattle.states.specs.laws.Fields.{raw_in, by_kind}
use Rattle.states.specs.laws.SatisfiedColumns.{satisfied-columns}
use Rattle.states.specs.laws.FailedColumns.{failed-columns}

-- an edge brings goal i a solution, one of n nodes, that is in neither column
unfoldable pub is_unknown : ℕ → List ℕ → List ℕ → ℕ → Edge → Bool
is_unknown n sat failed i e = solution_kind e.kind && eqb e.parent i && ltb e.child n && not (flag sat e.child) && not (flag failed e.child)

-- a goal by its kind and state is complete unless a solution is open
unfoldable pub complete_by : ℕ → ℕ → Bool → Bool
complete_by k s o = not (eqb k 1) && not (eqb k 2) && not (eqb k 3) && not (eqb k 4) && eqb s 3 && not o

-- the columns have the satisfied nodes and the failed ones
pub record StateColumns (ns : List Node) (es : List Edge) (sat failed : List ℕ) : Type 0 where
  pub is-sat : (i : ℕ) → flag sat i ≡ at (satisfied_b ns es) i
  pub is-failed : (i : ℕ) → flag failed i ≡ at (failed_b ns es) i

-- Whether a solution is open

module _ (n : ℕ) (sat failed : List ℕ) (i : ℕ) (e : Edge) where
  pub open-other : {p : ℕ} → p ≡ e.parent → (not (eqb e.kind 3) || not (eqb p i)) ≡ true → false ≡ is_unknown n sat failed i e
  unfolding is_unknown
  open-other {p} q h = go (eqb e.kind 3) (eqb e.parent i) (ap (λ (m : ℕ). not (eqb e.kind 3) || not (eqb m i)) (sym q) ∙ h)
    where
      go : (a b : Bool) → (not a || not b) ≡ true → false ≡ (a && b && ltb e.child n && not (flag sat e.child) && not (flag failed e.child))
      go true true h = absurd (false-true h)
      go true false h = refl
      go false b h = refl

  pub open-outside : {c : ℕ} → c ≡ e.child → n ≤ c → false ≡ is_unknown n sat failed i e
  unfolding is_unknown
  open-outside {c} q h =
      sym (ap (λ (b : Bool). solution_kind e.kind && eqb e.parent i && b && not (flag sat e.child) && not (flag failed e.child))
      (le-ltb e.child n (omega arith)) ∙ go (solution_kind e.kind) (eqb e.parent i))
    where
      go : (a b : Bool) → (a && b && false && not (flag sat e.child) && not (flag failed e.child)) ≡ false
      go true true = refl
      go true false = refl
      go false b = refl

  pub open-here : {p c : ℕ} → p ≡ e.parent → c ≡ e.child → (not (eqb e.kind 3) || not (eqb p i)) ≡ false → c < n
      → (not (flag sat c) && not (flag failed c)) ≡ is_unknown n sat failed i e
  unfolding is_unknown
  open-here {p} {c} q r h l =
      let t = go (eqb e.kind 3) (eqb e.parent i) (ap (λ (m : ℕ). not (eqb e.kind 3) || not (eqb m i)) (sym q) ∙ h) in
      let u : ltb e.child n ≡ true = lt-ltb e.child n (omega arith) in
      ap (λ (m : ℕ). not (flag sat m) && not (flag failed m)) r
      ∙ sym (λ j. t.0 j && t.1 j && u j && not (flag sat e.child) && not (flag failed e.child))
    where
      go : (a b : Bool) → (not a || not b) ≡ false → (a ≡ true) × (b ≡ true)
      go true true h = (refl, refl)
      go true false h = absurd (false-true (sym h))
      go false b h = absurd (false-true (sym h))

-- all are settled where none is open
all_any : (f g : Edge → Bool) → ((e : Edge) → f e ≡ not (g e)) → (es : List Edge) → all f es ≡ not (any g es)
all_any f g h [] = refl
all_any f g h (e ∷ es) = (λ j. h e j && all_any f g h es j) ∙ go (g e) (any g es)
  where
    go : (a b : Bool) → (not a && not b) ≡ not (a || b)
    go true b = refl
    go false b = refl

module _ (N : Nodes) (E : Edges) {sat failed : List ℕ} (t : StateColumns (nodes_of N) (edges_of E) sat failed) (i : ℕ) (l : i < N.count) where
  settled-open : (e : Edge) → (not (is_child (nodes_of N) (edges_of E) solution_kind i e)
      || (at (satisfied_b (nodes_of N) (edges_of E)) e.child || at (failed_b (nodes_of N) (edges_of E)) e.child)) ≡ not (is_unknown N.count sat failed i e)
  unfolding is_unknown
  settled-open e =
      (λ j. not (solution_kind e.kind && eqb e.parent i && ltb e.child (nodes-length N j))
      || (sym (t.is-sat e.child) j || sym (t.is-failed e.child) j))
      ∙ go (solution_kind e.kind && eqb e.parent i && ltb e.child N.count) (flag sat e.child) (flag failed e.child)
    where
      go : (c a b : Bool) → (not c || (a || b)) ≡ not (c && not a && not b)
      go true true b = refl
      go true false true = refl
      go true false false = refl
      go false a b = refl

  complete-columns : complete_by (get_or N.kind (i * 2) 0) (get_or N.state i 0) (any (is_unknown N.count sat failed i) (edges_of E))
      ≡ complete_b (nodes_of N) (edges_of E) i
  unfolding complete_by complete_b expression_in
  complete-columns =
      (λ j. not (eqb (get_or N.kind (i * 2) 0) 1) && not (eqb (get_or N.kind (i * 2) 0) 2) && not (eqb (get_or N.kind (i * 2) 0) 3)
      && not (eqb (get_or N.kind (i * 2) 0) 4) && eqb (get_or N.state i 0) 3
      && sym (all_any (λ e. not (is_child (nodes_of N) (edges_of E) solution_kind i e)
      || (at (satisfied_b (nodes_of N) (edges_of E)) e.child || at (failed_b (nodes_of N) (edges_of E)) e.child))
      (is_unknown N.count sat failed i) settled-open (edges_of E)) j)
      ∙ go (eqb (get_or N.kind (i * 2) 0) 1) (eqb (get_or N.kind (i * 2) 0) 2) (eqb (get_or N.kind (i * 2) 0) 3) (eqb (get_or N.kind (i * 2) 0) 4)
      ∙ sym (λ j. complete_as (nodes_of N) (edges_of E) i (node_in_lem N i l j).state (node_in_lem N i l j).expression)
    where
      solved : Bool
      solved = all_children (nodes_of N) (edges_of E) solution_kind (λ c. at (satisfied_b (nodes_of N) (edges_of E)) c || at (failed_b (nodes_of N) (edges_of E)) c) i

      go : (a b c d : Bool) → (not a && not b && not c && not d && eqb (get_or N.state i 0) 3 && solved)
          ≡ complete_as (nodes_of N) (edges_of E) i (get_or N.state i 0) (by_kind a b c d (raw_in N i))
      go true b c d = refl
      go false true c d = refl
      go false false true d = refl
      go false false false true = refl
      go false false false false = refl

  -- a goal's completeness is read from the columns
  pub complete-read : {b o : Bool} → b ≡ complete_by (get_or N.kind (i * 2) 0) (get_or N.state i 0) o
      → o ≡ any (is_unknown N.count sat failed i) (edges_of E) → b ≡ complete_b (nodes_of N) (edges_of E) i
  complete-read h e = h ∙ ap (complete_by (get_or N.kind (i * 2) 0) (get_or N.state i 0)) e ∙ complete-columns

-- The propagated state

module _ (N : Nodes) (E : Edges) (F S : List ℕ) (nf : NodesFormed (nodes_of N)) (jn : Joined (nodes_of N) (edges_of E) F S) where
  pub satisfied-read : {M : List ℕ} (sat : List ℕ) → Needs (nodes_of N) M → ((i : ℕ) → flag sat i ≡ at (satisfied_of E.count (graph F S M)) i)
      → (i : ℕ) → flag sat i ≡ at (satisfied_b (nodes_of N) (edges_of E)) i
  satisfied-read sat nd h i =
      h i ∙ satisfied-columns nf jn nd E.count (omega (arith, edges-length E)) i
      ∙ ap (λ (es : List Edge). at (satisfied_b (nodes_of N) es) i) (take_all E.count (edges_of E) (omega (arith, edges-length E)))

  pub failed-read : {W : List ℕ} (failed : List ℕ) → EdgesFormed (nodes_of N) (edges_of E) → Ways (nodes_of N) W
      → ((i : ℕ) → flag failed i ≡ at (failed_of E.count (graph F S W)) i) → (i : ℕ) → flag failed i ≡ at (failed_b (nodes_of N) (edges_of E)) i
  failed-read {W} failed ef wy h i = h i ∙ ap (λ (m : ℕ). at (failed_of m (graph F S W)) i) (sym (edges-length E)) ∙ failed-columns nf ef jn wy i

  pub settled-read : {M W : List ℕ} (sat failed : List ℕ) → EdgesFormed (nodes_of N) (edges_of E) → Needs (nodes_of N) M → Ways (nodes_of N) W
      → ((i : ℕ) → flag sat i ≡ at (satisfied_of E.count (graph F S M)) i) → ((i : ℕ) → flag failed i ≡ at (failed_of E.count (graph F S W)) i)
      → StateColumns (nodes_of N) (edges_of E) sat failed
  settled-read sat failed ef nd wy h k = record { is-sat = satisfied-read sat nd h; is-failed = failed-read failed ef wy k }

pub state-satisfied : (ns : List Node) (es : List Edge) (i : ℕ) (sat : List ℕ) → ((k : ℕ) → flag sat k ≡ at (satisfied_b ns es) k) → get_or sat i 0 ≡ 1
    → 1 ≡ propagated_state ns es i
unfolding propagated_state
state-satisfied ns es i sat h e =
    sym (ap (λ (b : Bool). cond (b || complete_b ns es i) 1 (cond (at (failed_b ns es) i) 2 0)) (sym (h i) ∙ eq-eqb (get_or sat i 0) 1 e))

module _ {ns : List Node} {es : List Edge} {sat failed : List ℕ} (t : StateColumns ns es sat failed) (i : ℕ) {c : Bool} (q : c ≡ complete_b ns es i) where
  read : cond (flag sat i || c) 1 (cond (flag failed i) 2 0) ≡ propagated_state ns es i
  unfolding propagated_state
  read = λ j. cond (t.is-sat i j || q j) 1 (cond (t.is-failed i j) 2 0)

  pub state-complete : c ≡ true → 1 ≡ propagated_state ns es i
  state-complete e = sym (ap (λ (b : Bool). cond b 1 (cond (flag failed i) 2 0)) (ap (λ (b : Bool). flag sat i || b) e ∙ or-true (flag sat i))) ∙ read

  pub state-failed : (get_or sat i 0 ≡ 1 → ⊥) → c ≡ false → get_or failed i 0 ≡ 1 → 2 ≡ propagated_state ns es i
  state-failed e f g = sym (λ j. cond (ne_eqb (get_or sat i 0) 1 e j || f j) 1 (cond (eq-eqb (get_or failed i 0) 1 g j) 2 0)) ∙ read

  pub state-none : (get_or sat i 0 ≡ 1 → ⊥) → c ≡ false → (get_or failed i 0 ≡ 1 → ⊥) → 0 ≡ propagated_state ns es i
  state-none e f g = sym (λ j. cond (ne_eqb (get_or sat i 0) 1 e j || f j) 1 (cond (ne_eqb (get_or failed i 0) 1 g j) 2 0)) ∙ read
