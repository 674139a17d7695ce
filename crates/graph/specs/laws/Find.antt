-- What a search through the columns finds. Assumes nothing.
use Rattle.std.specs.Prelude.{ℕ, ◌+◌, ◌≤◌, ◌<◌, ◌≡◌, refl, Bool, true, false, not, ◌&&◌, ◌||◌, eqb}
use Rattle.std.proofs.Common.{arith, sym, ◌∙◌}
use Rattle.std.proofs.Math.Path.{ap}
use Rattle.expression.specs.declared.Expression.{Expression}
use Rattle.expression.specs.Same.{same}
use Rattle.word.specs.laws.Bools.{false-true}
use Rattle.rt0.specs.Pool.{up_to}
use Rattle.rt0.specs.Lists.{any, first_or}
use Rattle.rt0.specs.laws.Find.{Missed, missed-fewer, first-at, first-none, any-more}
use Rattle.graph.specs.declared.Edge.{Edge}
use Rattle.graph.specs.declared.Nodes.{Nodes}
use Rattle.graph.specs.declared.Edges.{Edges}
use Rattle.graph.specs.Graph.{node_in}
use Rattle.graph.specs.laws.Graph.{node_at, edge_at, nodes_of, edges_of}
use Rattle.graph.specs.Find.{is_node, find_node, same_edge, has_edge}
use Rattle.graph.specs.laws.Columns.{nodes-length, node_in_lem}

-- Nodes

-- a node of expression e, verifier w and subject t, whatever its state
abbrev pub is_node_by : Expression → ℕ → ℕ → Expression → ℕ → ℕ → Bool
is_node_by x v s e w t = is_node x v s (record { expression = e; subject = t; verifier = w; state = 0 })

module _ (x : Expression) (v s : ℕ) (e : Expression) (w t : ℕ) where
  -- its verifier or its subject is another one
  pub other-ends : (not (eqb w v) || not (eqb t s)) ≡ true → false ≡ is_node_by x v s e w t
  other-ends h = go (eqb w v) (eqb t s) h
    where
      go : (a b : Bool) → (not a || not b) ≡ true → false ≡ (a && b && same e x)
      go true true h = absurd (false-true h)
      go true false h = refl
      go false b h = refl

  -- else its expression decides
  pub same_ends_lem : {b : Bool} → (not (eqb w v) || not (eqb t s)) ≡ false → b ≡ same e x → b ≡ is_node_by x v s e w t
  same_ends_lem {b} h d = go (eqb w v) (eqb t s) h
    where
      go : (p q : Bool) → (not p || not q) ≡ false → b ≡ (p && q && same e x)
      go true true h = d
      go true false h = absurd (false-true (sym h))
      go false q h = absurd (false-true (sym h))

module _ (N : Nodes) (x : Expression) (v s : ℕ) {j : ℕ} (h : Missed (is_node x v s) (node_at N) j) where
  -- node i passes, by its number
  abbrev passes : ℕ → Bool
  passes i = is_node x v s (node_in (nodes_of N) i)

  missed : j ≤ N.count → Missed passes (λ i. i) j
  missed l = record { none = λ i k. ap (is_node x v s) (node_in_lem N i (omega arith)) ∙ h.none i k }

  count-first : find_node (nodes_of N) x v s ≡ first_or passes (λ i. i) 128 (up_to N.count (λ i. i))
  unfolding find_node
  count-first = ap (λ (n : ℕ). first_or passes (λ i. i) 128 (up_to n (λ i. i))) (nodes-length N)

  -- the search has come to a node that passes
  pub node_at_lem : {b : Bool} → j < N.count → b ≡ is_node x v s (node_at N j) → b ≡ true → j ≡ find_node (nodes_of N) x v s
  node_at_lem l e t = sym (count-first ∙ first-at (λ i. i) 128 N.count (missed (omega arith)) l (ap (is_node x v s) (node_in_lem N j l) ∙ (sym e ∙ t)))

  -- the search has come to the end
  pub node-none : j ≤ N.count → N.count ≤ j → ◌≡◌ {A = ℕ} 128 (find_node (nodes_of N) x v s)
  node-none k l = sym (count-first ∙ first-none (λ i. i) 128 N.count (missed-fewer (missed k) l))

-- Edges

-- whether one of the first j edges is d
unfoldable pub has_edge_to : Edges → Edge → ℕ → Bool
has_edge_to E d j = any (λ e. same_edge e d) (up_to j (edge_at E))

pub edge_more : (E : Edges) (d : Edge) (j : ℕ) {b c : Bool} → b ≡ has_edge_to E d j → c ≡ same_edge (edge_at E j) d → (b || c) ≡ has_edge_to E d (j + 1)
unfolding has_edge_to
edge_more E d j h e = any-more (λ x. same_edge x d) (edge_at E) j h e

pub edge-all : (E : Edges) (d : Edge) (j : ℕ) {b : Bool} → b ≡ has_edge_to E d j → j ≡ E.count → b ≡ has_edge (edges_of E) d
unfolding has_edge edges_of has_edge_to
edge-all E d j h e = h ∙ ap (has_edge_to E d) e
