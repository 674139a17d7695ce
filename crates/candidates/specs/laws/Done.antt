-- What the code that weighs an edge finds. Assumes nothing.
use Rattle.std.specs.Prelude.{ℕ, ◌≤◌, ◌<◌, ◌≡◌, Bool, true, not, ◌&&◌, ◌||◌, List, [], ltb, length}
use Rattle.std.proofs.Common.{arith, ◌∙◌, ⊎_elim}
use Rattle.std.proofs.Math.Path.{sym, ap}
use Rattle.std.proofs.Math.Bool.{false, cond}
use borrow.Author.Tests.{le-ltb, lt-ltb, ltb-true, ltb-false, eq-eqb, ne_eqb, not-true, not-false}
use Rattle.std.proofs.Math.Dec.{eqb}
use Rattle.std.proofs.Math.ListN.{get_or-eq_default}
use Rattle.expression.specs.declared.Expression.{Expression}
use Rattle.expression.specs.Same.{same}
use Rattle.expression.specs.Order.{before_of}
use Rattle.graph.specs.declared.Node.{Node}
use Rattle.graph.specs.declared.Edge.{Edge}
use Rattle.graph.specs.declared.Nodes.{Nodes}
use Rattle.graph.specs.declared.Edges.{Edges}
use Rattle.graph.specs.Graph.{blank, node_in}
use Rattle.graph.specs.Find.{is_node, find_node, has_edge}
use Rattle.graph.specs.laws.Graph.{nodes_from, edges_from, nodes_of, edges_of}
use Rattle.graph.specs.laws.Columns.{nodes-length, node_in_lem}
use Rattle.rt0.specs.Pool.{up_to}
use Rattle.rt0.specs.Lists.{first_or}
use Rattle.propagation.specs.laws.Flags.{decided}
use Rattle.moves.specs.declared.Candidate.{Candidate}
use Rattle.moves.specs.declared.Choice.{Choice}
use Rattle.moves.specs.declared.Choice.TheVariants as C
use Rattle.moves.specs.Candidates.{precedes, child_number, first_not, is_done}
use Rattle.candidates.specs.laws.Least.{improves, better, or_else}
use Rattle.candidates.specs.laws.Offers.{folded, offer}
use Rattle.numbers.specs.Sizes.{MOST-NODES}

-- The order

module _ (v w : Candidate) {b : Bool} (p : b ≡ before_of v.expression w.expression) where
  pub before-precedes : b ≡ true → true ≡ precedes v w
  before-precedes h = sym (ap (λ (x : Bool). x || (same v.expression w.expression && ltb v.subject w.subject)) (sym p ∙ h))

  module _ (h : b ≡ false) {s : Bool} (q : s ≡ same v.expression w.expression) where
    open_order : (x : Bool) → s ≡ x → (x && ltb v.subject w.subject) ≡ precedes v w
    open_order x k = sym (λ i. (sym p ∙ h) i || ((sym q ∙ k) i && ltb v.subject w.subject))

    pub apart-precedes : not s ≡ true → false ≡ precedes v w
    apart-precedes k = open_order false (not-true s k)

    pub same-precedes : not s ≡ false → ltb v.subject w.subject ≡ precedes v w
    same-precedes k = open_order true (not-false s k)

-- What is chosen

pub improves-edge : {b : Choice} {v : Candidate} (w : Candidate) {r : Bool} → b ≡ C.Edge v → r ≡ precedes w v → r ≡ improves b w
improves-edge w e h = h ∙ sym (ap (λ (x : Choice). improves x w) e)

pub else-edge : {a : Choice} {w : Candidate} (rest : Choice) → a ≡ C.Edge w → C.Edge w ≡ or_else a rest
else-edge rest e = sym (ap (λ (x : Choice). or_else x rest) e)

module _ (d : Candidate → Bool) (b : Choice) (w : Candidate) {i : Bool} (p : i ≡ improves b w) where
  pub better-not : not i ≡ true → b ≡ better d b w
  unfolding better
  better-not h = sym (ap (λ (x : Bool). cond x (cond (d w) b (C.Edge w)) b) (sym p ∙ not-true i h))

  module _ (h : not i ≡ false) {r : Bool} (q : r ≡ d w) where
    weighed : (x : Bool) → r ≡ x → cond x b (C.Edge w) ≡ better d b w
    unfolding better
    weighed x k = sym (λ j. cond ((sym p ∙ not-false i h) j) (cond ((sym q ∙ k) j) b (C.Edge w)) b)

    pub better-done : r ≡ true → b ≡ better d b w
    better-done k = weighed true k

    pub better-open : r ≡ false → C.Edge w ≡ better d b w
    better-open k = weighed false k

-- What is done

module _ (ns : List Node) (es : List Edge) (i : ℕ) (w : Candidate) {n c : ℕ} (l : length ns ≡ n) (p : c ≡ child_number ns w) where
  pub done-absent : n ≤ c → false ≡ is_done ns es i w
  unfolding is_done
  done-absent h =
      sym (ap (λ (b : Bool). cond b (eqb i (child_number ns w) || has_edge es (record { kind = w.kind; parent = i; child = child_number ns w })) false)
      (le-ltb (child_number ns w) (length ns) (omega (arith, p, l))))

  module _ (h : c < n) where
    stands : (eqb i c || has_edge es (record { kind = w.kind; parent = i; child = c })) ≡ is_done ns es i w
    unfolding is_done
    stands =
        ap (λ (m : ℕ). eqb i m || has_edge es (record { kind = w.kind; parent = i; child = m })) p
        ∙ sym (ap (λ (b : Bool). cond b (eqb i (child_number ns w) || has_edge es (record { kind = w.kind; parent = i; child = child_number ns w }))
        false) (lt-ltb (child_number ns w) (length ns) (omega (arith, p, l))))

    pub done-self : {j : ℕ} → j ≡ i → j ≡ c → true ≡ is_done ns es i w
    done-self e q = sym (ap (λ (b : Bool). b || has_edge es (record { kind = w.kind; parent = i; child = c })) (eq-eqb i c (sym e ∙ q))) ∙ stands

    pub done-edge : {j : ℕ} {r : Bool} → j ≡ i → (j ≡ c → ⊥) → r ≡ has_edge es (record { kind = w.kind; parent = i; child = c }) → r ≡ is_done ns es i w
    done-edge e q h = h ∙ (sym (ap (λ (b : Bool). b || has_edge es (record { kind = w.kind; parent = i; child = c })) (ne_eqb i c (λ z. q (e ∙ z)))) ∙ stands)

-- What is done, by lent columns

-- an edge into node i is done, whatever the states
unfoldable pub done_in : ℕ → List ℕ → List ℕ → List ℕ → List ℕ → ℕ → List ℕ → List ℕ → List ℕ → ℕ → Candidate → Bool
done_in n K N S W m L P D i = is_done (nodes_of (nodes_from n K N S W [])) (edges_of (edges_from m L P D)) i

module _ (N : Nodes) where
  abbrev stateless : Nodes
  stateless = nodes_from N.count N.kind N.number N.subject N.verifier []

  lengths : length (nodes_of stateless) ≡ length (nodes_of N)
  lengths = nodes-length stateless ∙ sym (nodes-length N)

  node-same : (x : Expression) (v s k : ℕ) → is_node x v s (node_in (nodes_of stateless) k) ≡ is_node x v s (node_in (nodes_of N) k)
  node-same x v s k =
      ⊎_elim
      (λ z. let l = ltb-true k N.count z in ap (is_node x v s) (node_in_lem stateless k l) ∙ sym (ap (is_node x v s) (node_in_lem N k l)))
      (λ z.
      let l = ltb-false k N.count z in
      ap (is_node x v s) (get_or-eq_default (nodes_of stateless) blank (omega (arith, nodes-length stateless))
      ∙ sym (get_or-eq_default (nodes_of N) blank (omega (arith, nodes-length N)))))
      (decided (ltb k N.count))

  child-same : (w : Candidate) → child_number (nodes_of stateless) w ≡ child_number (nodes_of N) w
  unfolding find_node
  child-same w = λ j.
      first_or (λ k. node-same w.expression w.verifier w.subject k j) (λ k. k) MOST-NODES (up_to (lengths j) (λ k. k))

  module _ (E : Edges) (i : ℕ) where
    -- of a whole graph
    abbrev pub done_of : Candidate → Bool
    done_of = done_in N.count N.kind N.number N.subject N.verifier E.count E.kind E.parent E.child i

    pub done-same : (w : Candidate) → done_of w ≡ is_done (nodes_of N) (edges_of E) i w
    unfolding done_in is_done
    done-same w = λ j.
        cond (ltb (child-same w j) (lengths j))
        (eqb i (child-same w j) || has_edge (edges_of E) (record { kind = w.kind; parent = i; child = child-same w j })) false

    pub done-columns : done_of ≡ is_done (nodes_of N) (edges_of E) i
    done-columns = λ j w. done-same w j

    pub first_done : (ws : List Candidate) {r : Choice} → r ≡ first_not done_of C.Nothing ws → r ≡ first_not (is_done (nodes_of N) (edges_of E) i) C.Nothing ws
    first_done ws h = h ∙ ap (λ (d : Candidate → Bool). first_not d C.Nothing ws) done-columns

    pub folded-done : (m : ℕ) (is : ℕ → Bool) (edge : ℕ → Candidate) {r : Choice} → r ≡ folded m (offer done_of is edge) C.Nothing
        → r ≡ folded m (offer (is_done (nodes_of N) (edges_of E) i) is edge) C.Nothing
    folded-done m is edge h = h ∙ ap (λ (d : Candidate → Bool). folded m (offer d is edge) C.Nothing) done-columns
