-- Records of the columns, judged one after the other. Assumes nothing.
use Rattle.std.specs.Prelude.{ℕ, ◌+◌, ◌≤◌, ◌<◌, ◌≡◌, Bool, true, false, not, List, []}
use Rattle.std.proofs.Common.{arith}
use Rattle.std.proofs.lemmas.Bool.{not-true, not-false}
use Rattle.expression.specs.declared.Credential.{Credential}
use Rattle.rt0.specs.declared.Pool.{Pool}
use Rattle.rt0.specs.Pool.{up_to}
use Rattle.rt0.specs.laws.Pool.{pool_of, expression_in, credentials, credential_at}
use Rattle.graph.specs.declared.Node.{Node}
use Rattle.graph.specs.declared.Nodes.{Nodes}
use Rattle.graph.specs.declared.Edge.{Edge}
use Rattle.graph.specs.declared.Edges.{Edges}
use Rattle.graph.specs.laws.Graph.{nodes_from, edges_from, nodes_of, edges_of, node_at, edge_at}
use Rattle.justification.specs.InTurn.{in_turn}
use Rattle.justification.specs.laws.InTurn.{turn-start, turn-next, turn-stop, turn-done}

-- those below j were judged, and pass
pub record Judged {A : Type 0} (t : List A → A → Bool) (f : ℕ → A) (n j : ℕ) : Type 0 where
  pub few : j ≤ n
  pub pass : in_turn t [] (up_to j f) ≡ true

module _ {A : Type 0} (t : List A → A → Bool) (f : ℕ → A) (n : ℕ) where
  pub judged-none : Judged t f n 0
  judged-none = record { few = omega arith; pass = turn-start t f }

-- Nodes

module _ (t : List Node → Node → Bool) (X : Nodes) {j : ℕ} (h : Judged t (node_at X) X.count j) where
  pub nodes-next : {b : Bool} → j < X.count → b ≡ t
      (nodes_of (nodes_from j X.kind X.number X.subject X.verifier
      X.state)) (node_at X j) → not b ≡ false → Judged t (node_at X) X.count (j + 1)
  unfolding nodes_of
  nodes-next {b} l e p = record { few = omega arith; pass = turn-next t (node_at X) h.pass e (not-false b p) }

  pub nodes-stop : {b : Bool} → j < X.count → b ≡ t
      (nodes_of (nodes_from j X.kind X.number X.subject X.verifier
      X.state)) (node_at X j) → not b ≡ true → false ≡ in_turn t [] (nodes_of X)
  unfolding nodes_of
  nodes-stop {b} l e p = turn-stop t (node_at X) X.count l e (not-true b p)

  pub nodes-done : X.count ≤ j → true ≡ in_turn t [] (nodes_of X)
  unfolding nodes_of
  nodes-done l = turn-done t (node_at X) X.count h.few l h.pass

-- Edges

module _ (t : List Edge → Edge → Bool) (X : Edges) {j : ℕ} (h : Judged t (edge_at X) X.count j) where
  pub edges-next : {b : Bool} → j < X.count → b ≡ t (edges_of (edges_from j X.kind X.parent X.child)) (edge_at X j) → not b ≡ false
      → Judged t (edge_at X) X.count (j + 1)
  unfolding edges_of
  edges-next {b} l e p = record { few = omega arith; pass = turn-next t (edge_at X) h.pass e (not-false b p) }

  pub edges-stop : {b : Bool} → j < X.count → b ≡ t (edges_of (edges_from j X.kind X.parent X.child)) (edge_at X j) → not b ≡ true
      → false ≡ in_turn t [] (edges_of X)
  unfolding edges_of
  edges-stop {b} l e p = turn-stop t (edge_at X) X.count l e (not-true b p)

  pub edges-done : X.count ≤ j → true ≡ in_turn t [] (edges_of X)
  unfolding edges_of
  edges-done l = turn-done t (edge_at X) X.count h.few l h.pass

-- Credentials

module _ (t : List Credential → Credential → Bool) (X : Pool) {j : ℕ} (h : Judged t (credential_at X) X.count j) where
  pub shown-next : {b : Bool} → j < X.count → b ≡ t (credentials (pool_of j X.heads X.kinds X.numbers)) (credential_at X j) → not b ≡ false
      → Judged t (credential_at X) X.count (j + 1)
  unfolding credentials expression_in
  shown-next {b} l e p = record { few = omega arith; pass = turn-next t (credential_at X) h.pass e (not-false b p) }

  pub shown-stop : {b : Bool} → j < X.count → b ≡ t (credentials (pool_of j X.heads X.kinds X.numbers)) (credential_at X j) → not b ≡ true
      → false ≡ in_turn t [] (credentials X)
  unfolding credentials expression_in
  shown-stop {b} l e p = turn-stop t (credential_at X) X.count l e (not-true b p)

  pub shown-done : X.count ≤ j → true ≡ in_turn t [] (credentials X)
  unfolding credentials
  shown-done l = turn-done t (credential_at X) X.count h.few l h.pass
