-- Which commands leave the satisfied nodes as they are, tested on a column of them. Assumes nothing.
use Rattle.std.specs.Prelude.{ℕ, ◌+◌, ◌≤◌, ◌<◌, ◌≡◌, Bool, true, false, ◌&&◌, ◌||◌, List, [], ◌∷◌, ◌++◌, eqb, ltb, length, get_or}
use Rattle.std.proofs.Common.{arith, sym, ◌∙◌, subst, ⊎_elim, eqb-true, eq-eqb, ltb-true, lt-ltb, le-ltb, length-append}
use Rattle.std.proofs.Math.Path.{refl, ap}
use Rattle.std.proofs.Math.Bool.{not}
use Rattle.std.proofs.lemmas.Bool.{eqb-false}
use Rattle.expression.specs.declared.Credential.{Credential}
use Rattle.expression.specs.Kinds.{is_entity}
use Rattle.word.specs.laws.Bools.{false-true, or_cases, and_parts}
use Rattle.propagation.specs.laws.Flags.{flag, flag-past, decided}
use Rattle.graph.specs.declared.Node.{Node}
use Rattle.graph.specs.declared.Edge.{Edge}
use Rattle.graph.specs.declared.Nodes.{Nodes}
use Rattle.graph.specs.declared.Edges.{Edges}
use Rattle.graph.specs.laws.Graph.{nodes_of, edges_of}
use Rattle.graph.specs.Graph.{node_in}
use Rattle.graph.specs.laws.Columns.{nodes-length, edges-length, edge_in_lem}
use Rattle.graph.specs.States.{Satisfied}
use Rattle.graph.specs.laws.Propagated.{satisfied-exact}
use Rattle.states.specs.laws.Places.{mem_index}
use Rattle.justification.specs.laws.Justified.{Says}
use Rattle.message.specs.declared.Opening.{Opening}
use Rattle.message.specs.declared.NewEdge.{NewEdge}
use Rattle.message.specs.declared.Command.{Command}
use Rattle.message.specs.declared.Command.TheVariants.{Show, Open, Bring, Join, Mark, End}
use Rattle.negotiation.specs.State.{State, with_shown, with_node, with_edge, with_mark}
use Rattle.applied.specs.Step.{stepped, primary_of, child_of, child_in, edge_in}
use Rattle.graph.specs.Processed.{marked_state}
use Rattle.applied.specs.laws.SameStates.{Still, still-none, still_both, still-same, Inside, Idle, still-edge, inside-edge, still-node, inside-node}
use Rattle.applied.specs.laws.SameStates.{idle-new, is_parts, still-mark, inside-mark}

-- an edge of kind k into a node in state s brings it nothing; c and p say whether its child is satisfied, and its parent. A part counts only
-- where the intersection is fully processed.
abbrev pub brings_nothing : ℕ → ℕ → Bool → Bool → Bool
brings_nothing k s c p = not c || p || (not (eqb k 1) && not (eqb k 4) && (not (eqb k 5) || not (eqb s 3)))

-- a command leaves the satisfied nodes as they are; sat is the column of them
unfoldable pub keeps_states : List Node → List ℕ → Command → Bool
keeps_states ns sat (Show c) = true
keeps_states ns sat (Open o) = true
keeps_states ns sat (Bring n) = ltb n.parent (length ns) && not (is_entity n.expression)
keeps_states ns sat (Join e) = ltb e.parent (length ns) && brings_nothing e.kind (node_in ns e.parent).state (flag sat e.child) (flag sat e.parent)
keeps_states ns sat (Mark i) = ltb i (length ns) && not (is_parts (node_in ns i).expression)
keeps_states ns sat End = true

-- The law

not-both : (a : Bool) → not a ≡ true → a ≡ true → ⊥
not-both true n h = false-true n
not-both false n h = false-true h

module _ (ns : List Node) (es : List Edge) (sat : List ℕ) (says : Says ns es sat) (e : Edge) where
  is-sat : (i : ℕ) → flag sat i ≡ true → Satisfied ns es i
  is-sat i h = (satisfied-exact ns es i).0 (sym (says.says i) ∙ h)

  sat-is : (i : ℕ) → Satisfied ns es i → flag sat i ≡ true
  sat-is i h = says.says i ∙ (satisfied-exact ns es i).1 h

  idle-by : brings_nothing e.kind (node_in ns e.parent).state (flag sat e.child) (flag sat e.parent) ≡ true → Idle ns es e
  idle-by h =
      let k : ℕ = e.kind in
      let s : ℕ = (node_in ns e.parent).state in
      let other : Bool = not (eqb k 1) && not (eqb k 4) in
      let part : Bool = not (eqb k 5) || not (eqb s 3) in
      let settled : Bool = not (flag sat e.child) || flag sat e.parent in
      record {
        implication = λ t g. ⊎_elim
            (λ w. already w g)
            (λ w.
            let q = and_parts (not (eqb k 1)) (not (eqb k 4)) (and_parts other part w).0 in
            absurd (⊎_elim (λ z. not-both (eqb k 1) q.0 z) (λ z. not-both (eqb k 4) q.1 z) (or_cases (eqb k 1) (eqb k 4) t)))
            (or_cases settled (other && part) h);
        part = λ t z g. ⊎_elim
            (λ w. already w g)
            (λ w.
            absurd (⊎_elim (λ y. not-both (eqb k 5) y t) (λ y. not-both (eqb s 3) y (eq-eqb s 3 z))
            (or_cases (not (eqb k 5)) (not (eqb s 3)) (and_parts other part w).1)))
            (or_cases settled (other && part) h);
      }
    where
      already : (not (flag sat e.child) || flag sat e.parent) ≡ true → Satisfied ns es e.child → Satisfied ns es e.parent
      already w g =
          ⊎_elim (λ z. absurd (not-both (flag sat e.child) z (sat-is e.child g))) (λ z. is-sat e.parent z)
          (or_cases (not (flag sat e.child)) (flag sat e.parent) w)

not_is : (a : Bool) → not a ≡ true → a ≡ false
not_is true h = absurd (false-true h)
not_is false h = refl

still-step : (S : State) (s : ℕ) (c : Command) (sat : List ℕ) → Says S.nodes S.edges sat → Inside S.nodes S.edges
    → keeps_states S.nodes sat c ≡ true
    → Still S.nodes S.edges (stepped S s c).nodes (stepped S s c).edges × Inside (stepped S s c).nodes (stepped S s c).edges
unfolding keeps_states stepped with_shown with_node with_edge with_mark primary_of child_of
still-step S s (Show c) sat says inside h = (still-none S.nodes S.edges, inside)
still-step S s (Open o) sat says inside h =
    (still-node S.nodes S.edges (primary_of S.header o) inside refl, inside-node S.nodes S.edges (primary_of S.header o) inside)
still-step S s (Bring n) sat says inside h =
    let x : Node = child_in S n in
    let e : Edge = edge_in S n in
    let q = and_parts (ltb n.parent (length S.nodes)) (not (is_entity n.expression)) h in
    let plain : is_entity n.expression ≡ false = not_is (is_entity n.expression) q.1 in
    let l : n.parent < length S.nodes = ltb-true n.parent (length S.nodes) q.0 in (
      still_both (still-node S.nodes S.edges x inside plain)
          (still-edge (S.nodes ++ (x ∷ [])) S.edges e (idle-new S.nodes S.edges x inside plain e refl)),
      inside-edge (S.nodes ++ (x ∷ [])) S.edges e (inside-node S.nodes S.edges x inside) (omega (arith, l, length-append S.nodes (x ∷ []))),
    )
still-step S s (Join e) sat says inside h =
    let q = and_parts (ltb e.parent (length S.nodes))
    (brings_nothing e.kind (node_in S.nodes e.parent).state (flag sat e.child) (flag sat e.parent)) h in (
      still-edge S.nodes S.edges e (idle-by S.nodes S.edges sat says e q.1),
      inside-edge S.nodes S.edges e inside (ltb-true e.parent (length S.nodes) q.0),
    )
still-step S s (Mark i) sat says inside h =
    let q = and_parts (ltb i (length S.nodes)) (not (is_parts (node_in S.nodes i).expression)) h in
    let l : i < length S.nodes = ltb-true i (length S.nodes) q.0 in
    let t : ℕ = marked_state s (node_in S.nodes i) in
    (still-mark S.nodes S.edges i t l (not_is (is_parts (node_in S.nodes i).expression) q.1), inside-mark S.nodes S.edges i t l inside)
still-step S s End sat says inside h = (still-none S.nodes S.edges, inside)

-- the column still says which nodes are satisfied, and each edge still leads into a node
pub keeps-states : (S : State) (s : ℕ) (c : Command) (sat : List ℕ) → Says S.nodes S.edges sat → Inside S.nodes S.edges
    → keeps_states S.nodes sat c ≡ true
    → Says (stepped S s c).nodes (stepped S s c).edges sat × Inside (stepped S s c).nodes (stepped S s c).edges
keeps-states S s c sat says inside h =
    let w = still-step S s c sat says inside h in
    (record { says = λ i. says.says i ∙ still-same w.0 i }, w.1)

-- The test, command by command

-- no flag stands past the end
pub past-none : (sat : List ℕ) (i : ℕ) → length sat ≡ 128 → 128 ≤ i → false ≡ flag sat i
past-none sat i e l = sym (flag-past sat i (omega arith))

module _ (N : Nodes) (sat : List ℕ) where
  pub keeps-for : (c k : Command) {r : Bool} → c ≡ k → r ≡ keeps_states (nodes_of N) sat k → r ≡ keeps_states (nodes_of N) sat c
  keeps-for c k e h = h ∙ ap (keeps_states (nodes_of N) sat) (sym e)

  pub show-keeps : (d : Credential) → true ≡ keeps_states (nodes_of N) sat (Show d)
  unfolding keeps_states
  show-keeps d = refl

  pub open-keeps : (o : Opening) → true ≡ keeps_states (nodes_of N) sat (Open o)
  unfolding keeps_states
  open-keeps o = refl

  pub end-keeps : true ≡ keeps_states (nodes_of N) sat End
  unfolding keeps_states
  end-keeps = refl

  absent : (i : ℕ) (b : Bool) → N.count ≤ i → false ≡ (ltb i (length (nodes_of N)) && b)
  absent i b l = sym (ap (λ (a : Bool). a && b) (le-ltb i (length (nodes_of N)) (omega (arith, nodes-length N))))

  present : (i : ℕ) (b : Bool) → i < N.count → b ≡ (ltb i (length (nodes_of N)) && b)
  present i b l = sym (ap (λ (a : Bool). a && b) (lt-ltb i (length (nodes_of N)) (omega (arith, nodes-length N))))

  pub bring-absent : (n : NewEdge) → N.count ≤ n.parent → false ≡ keeps_states (nodes_of N) sat (Bring n)
  unfolding keeps_states
  bring-absent n l = absent n.parent (not (is_entity n.expression)) l

  pub bring-keeps : (n : NewEdge) {t : Bool} → n.parent < N.count → t ≡ is_entity n.expression → not t ≡ keeps_states (nodes_of N) sat (Bring n)
  unfolding keeps_states
  bring-keeps n l e = ap not e ∙ present n.parent (not (is_entity n.expression)) l

  pub join-absent : (e : Edge) → N.count ≤ e.parent → false ≡ keeps_states (nodes_of N) sat (Join e)
  unfolding keeps_states
  join-absent e l = absent e.parent (brings_nothing e.kind (node_in (nodes_of N) e.parent).state (flag sat e.child) (flag sat e.parent)) l

  pub join-keeps : (e : Edge) {P : Node} {c p r : Bool} → e.parent < N.count → P ≡ node_in (nodes_of N) e.parent → c ≡ flag sat e.child
      → p ≡ flag sat e.parent → r ≡ brings_nothing e.kind P.state c p → r ≡ keeps_states (nodes_of N) sat (Join e)
  unfolding keeps_states
  join-keeps e l pe ce qe h =
      h ∙ (λ i. brings_nothing e.kind (pe i).state (ce i) (qe i))
      ∙ present e.parent (brings_nothing e.kind (node_in (nodes_of N) e.parent).state (flag sat e.child) (flag sat e.parent)) l

  pub mark-absent : (i : ℕ) → N.count ≤ i → false ≡ keeps_states (nodes_of N) sat (Mark i)
  unfolding keeps_states
  mark-absent i l = absent i (not (is_parts (node_in (nodes_of N) i).expression)) l

  pub mark-keeps : (i : ℕ) {P : Node} {t : Bool} → i < N.count → P ≡ node_in (nodes_of N) i → t ≡ is_parts P.expression
      → not t ≡ keeps_states (nodes_of N) sat (Mark i)
  unfolding keeps_states
  mark-keeps i l pe e = ap not (e ∙ ap (λ (n : Node). is_parts n.expression) pe) ∙ present i (not (is_parts (node_in (nodes_of N) i).expression)) l

-- Each edge leads into a node

-- the first j do
pub record InsideTo (n : ℕ) (P : List ℕ) (j : ℕ) : Type 0 where
  pub parents : (i : ℕ) → i < j → get_or P i 0 < n

pub inside-start : (n : ℕ) (P : List ℕ) → InsideTo n P 0
inside-start n P = record { parents = λ i l. absurd (omega arith) }

pub inside-add : (n : ℕ) (P : List ℕ) (j : ℕ) → InsideTo n P j → get_or P j 0 < n → InsideTo n P (j + 1)
inside-add n P j h l =
    record {
      parents = λ i k. ⊎_elim (λ e. subst (λ (x : ℕ). get_or P x 0 < n) (sym (eqb-true i j e)) l)
          (λ e. h.parents i (omega (arith, eqb-false i j e))) (decided (eqb i j));
    }

pub inside-all : (N : Nodes) (E : Edges) (j : ℕ) → E.count ≤ j → InsideTo N.count E.parent j → Inside (nodes_of N) (edges_of E)
inside-all N E j l h =
    record {
      parent = λ e m.
          let r = mem_index (record { kind = 0; parent = 0; child = 0 }) m in
          let k : r.0 < E.count = omega (arith, r.1, edges-length E) in
          let q : get_or E.parent r.0 0 ≡ e.parent = ap (λ (d : Edge). d.parent) (sym (edge_in_lem E r.0 k) ∙ r.2) in
          omega (arith, nodes-length N, q, h.parents r.0 (omega (arith, k, l)));
    }
