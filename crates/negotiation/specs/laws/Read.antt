-- What is read one record after the other, and the comparison of bytes. Assumes nothing.
use Rattle.std.specs.Prelude.{ℕ, zero, suc, ◌+◌, ◌*◌, ◌≤◌, ◌<◌, ◌≡◌, refl, Bool, true, false, cond, ◌&&◌, List, [], ◌∷◌, ◌++◌, eqb, leb, length, get_or, take, Some, None}
use Rattle.std.proofs.Common.{arith, add-one, sym, ◌∙◌, ap, eqb-true, eq-eqb, leb-true, le-leb, take_all}
use Rattle.std.proofs.Math.Bool.{and-true, and_assoc}
use Rattle.std.proofs.Math.Option.{none, some}
use Rattle.expression.specs.declared.Raw.{Raw}
use Rattle.expression.specs.Bytes.{number_at}
use Rattle.expression.specs.Form.{expression_of}
use Rattle.expression.specs.laws.Laws.{and_left, and_right}
use Rattle.rt0.specs.Pool.{up_to}
use Rattle.rt0.specs.laws.Pool.{credentials}
use Rattle.rt0.specs.laws.Added.{length-up_to}
use Rattle.graph.specs.declared.Node.{Node}
use Rattle.graph.specs.declared.Edge.{Edge}
use Rattle.graph.specs.declared.Nodes.{Nodes}
use Rattle.graph.specs.declared.Edges.{Edges}
use Rattle.graph.specs.laws.Graph.{nodes_of, edges_of}
use Rattle.negotiation.specs.declared.Negotiation.{Negotiation}
use Rattle.negotiation.specs.laws.State.{state_of}
use Rattle.negotiation.specs.State.{within}
use Rattle.graph.specs.laws.Columns.{NodesSized, EdgesSized, added_node, add-node, added-node-sized, nodes-length, added_edge, add-edge, added-edge-sized}
use Rattle.graph.specs.laws.Columns.{edges-length}
use Rattle.negotiation.specs.Layout.{header_from, node_from, edge_from, credential_from, few, candidate_of, state_bytes, same_bytes, read_state}
use Rattle.negotiation.specs.laws.Layout.{reading_of}

-- Columns that are filled

-- one element more
pub up_to-next : {A : Type 0} (l m : List A) (n : ℕ) (f : ℕ → A) (x : A) → l ≡ up_to n f → x ≡ f n → m ≡ l ++ (x ∷ []) → m ≡ up_to (n + 1) f
up_to-next l m n f x e h k = k ∙ (λ i. e i ++ (h i ∷ [])) ∙ ap (λ (j : ℕ). up_to j f) (sym (add-one n))

-- the nodes at the start of the bytes s, as far as they are read
pub record NodesRead (s : List ℕ) (count : ℕ) (N : Nodes) : Type 0 where
  pub few : N.count ≤ count
  pub sized : NodesSized N
  pub all : nodes_of N ≡ up_to N.count (λ (i : ℕ). node_from s (128 + i * 22))

pub no-nodes-read : (s : List ℕ) (count : ℕ) (N : Nodes) → nodes_of N ≡ [] → NodesSized N → NodesRead s count N
no-nodes-read s count N e z =
    let empty : N.count ≡ 0 = sym (nodes-length N) ∙ ap length e in
    record { few = omega arith; sized = z; all = e ∙ ap (λ (n : ℕ). up_to n (λ (i : ℕ). node_from s (128 + i * 22))) (sym empty) }

pub node-read : (s : List ℕ) (count : ℕ) (N : Nodes) (x : Node) (r : Raw) → count ≤ 128 → NodesRead s count N → N.count < count
    → expression_of r ≡ x.expression → x ≡ node_from s (128 + N.count * 22) → NodesRead s count (added_node N x r)
node-read s count N x r most h l e k =
    record {
      few = omega arith;
      sized = added-node-sized N x r h.sized;
      all =
          up_to-next (nodes_of N) (nodes_of (added_node N x r)) N.count (λ (i : ℕ). node_from s (128 + i * 22)) x h.all k
          (add-node N x r h.sized (omega arith) e);
    }

pub record EdgesRead (s : List ℕ) (count : ℕ) (E : Edges) : Type 0 where
  pub few : E.count ≤ count
  pub sized : EdgesSized E
  pub all : edges_of E ≡ up_to E.count (λ (j : ℕ). edge_from s (2944 + j * 3))

pub no-edges-read : (s : List ℕ) (count : ℕ) (E : Edges) → edges_of E ≡ [] → EdgesSized E → EdgesRead s count E
no-edges-read s count E e z =
    let empty : E.count ≡ 0 = sym (edges-length E) ∙ ap length e in
    record { few = omega arith; sized = z; all = e ∙ ap (λ (n : ℕ). up_to n (λ (j : ℕ). edge_from s (2944 + j * 3))) (sym empty) }

pub edge-read : (s : List ℕ) (count : ℕ) (E : Edges) → count ≤ 256 → EdgesRead s count E → E.count < count
    → EdgesRead s count (added_edge E (edge_from s (2944 + E.count * 3)))
edge-read s count E most h l =
    let x : Edge = edge_from s (2944 + E.count * 3) in
    record {
      few = omega arith;
      sized = added-edge-sized E x h.sized;
      all =
          up_to-next (edges_of E) (edges_of (added_edge E x)) E.count (λ (j : ℕ). edge_from s (2944 + j * 3)) x h.all refl
          (add-edge E x h.sized (omega arith));
    }

-- Counts

pub few-most : (most n : ℕ) → few most n ≤ most
unfolding few
few-most most n = go (leb n most) refl
  where
    go : (b : Bool) → leb n most ≡ b → cond b n 0 ≤ most
    go true e = leb-true n most e
    go false e = omega arith

pub few-all : (most n : ℕ) → n ≤ most → few most n ≡ n
unfolding few
few-all most n h = ap (λ (b : Bool). cond b n 0) (le-leb n most h)

-- a candidate is within the sizes
pub candidate-within : (s : List ℕ) → within (candidate_of s) ≡ true
unfolding within candidate_of
candidate-within s = rw (small 128 _ _, small 256 _ _, small 64 _ _)
  where
    small : {A : Type 0} (most n : ℕ) (f : ℕ → A) → leb (length (up_to (few most n) f)) most ≡ true
    small most n f = le-leb _ most (omega (arith, length-up_to (few most n) f, few-most most n))

-- header, nodes, edges and credentials, read by position
pub candidate-read : (s : List ℕ) (n : Negotiation) (a b c : ℕ) → n.header ≡ header_from s
    → a ≡ few 128 (get_or s 16 0) → nodes_of n.nodes ≡ up_to a (λ (i : ℕ). node_from s (128 + i * 22))
    → b ≡ few 256 (number_at s 17) → edges_of n.edges ≡ up_to b (λ (j : ℕ). edge_from s (2944 + j * 3))
    → c ≡ few 64 (get_or s 19 0) → credentials n.shown ≡ up_to c (λ (k : ℕ). credential_from s (3712 + k * 22))
    → state_of n ≡ candidate_of s
unfolding state_of candidate_of
candidate-read s n a b c h ea nodes eb edges ec shown = λ i. record {
  header = h i;
  nodes = (nodes ∙ ap (λ (m : ℕ). up_to m (λ (j : ℕ). node_from s (128 + j * 22))) ea) i;
  edges = (edges ∙ ap (λ (m : ℕ). up_to m (λ (j : ℕ). edge_from s (2944 + j * 3))) eb) i;
  shown = (shown ∙ ap (λ (m : ℕ). up_to m (λ (j : ℕ). credential_from s (3712 + j * 22))) ec) i;
}

-- Comparison

-- one byte more
pub same_next : (i : ℕ) (a b : List ℕ) → i < length a → i < length b
    → same_bytes (take (suc i) a) (take (suc i) b) ≡ same_bytes (take i a) (take i b) && eqb (get_or a i 0) (get_or b i 0)
unfolding same_bytes
same_next i [] b h k = absurd (omega arith)
same_next i (x ∷ xs) [] h k = absurd (omega arith)
same_next zero (x ∷ xs) (y ∷ ys) h k = and-true (eqb x y)
same_next (suc i) (x ∷ xs) (y ∷ ys) h k =
    ap (λ (c : Bool). eqb x y && c) (same_next i xs ys (omega arith) (omega arith))
    ∙ sym (and_assoc (eqb x y) (same_bytes (take i xs) (take i ys)) (eqb (get_or xs i 0) (get_or ys i 0)))

pub same_step : (i : ℕ) (a b : List ℕ) (same : Bool) → i < length a → length a ≡ length b → same ≡ same_bytes (take i a) (take i b)
    → same && eqb (get_or a i 0) (get_or b i 0) ≡ same_bytes (take (i + 1) a) (take (i + 1) b)
same_step i a b same h e k =
    ap (λ (c : Bool). c && eqb (get_or a i 0) (get_or b i 0)) k ∙ sym (same_next i a b h (omega arith))
    ∙ ap (λ (n : ℕ). same_bytes (take n a) (take n b)) (sym (add-one i))

pub same-all : (i : ℕ) (a b : List ℕ) (same : Bool) → length a ≤ i → length a ≡ length b → same ≡ same_bytes (take i a) (take i b) → same ≡ same_bytes a b
same-all i a b same h e k = k ∙ (λ t. same_bytes (take_all i a h t) (take_all i b (omega arith) t))

-- bytes that pass the test are equal
pub same-bytes-eq : (a b : List ℕ) → same_bytes a b ≡ true → a ≡ b
unfolding same_bytes
same-bytes-eq [] [] h = refl
same-bytes-eq [] (y ∷ ys) h = cc
same-bytes-eq (x ∷ xs) [] h = cc
same-bytes-eq (x ∷ xs) (y ∷ ys) h =
    λ i. eqb-true x y (and_left (eqb x y) (same_bytes xs ys) h) i ∷ same-bytes-eq xs ys (and_right (eqb x y) (same_bytes xs ys) h) i

pub same-bytes-refl : (a : List ℕ) → same_bytes a a ≡ true
unfolding same_bytes
same-bytes-refl [] = refl
same-bytes-refl (x ∷ xs) = rw (eq-eqb x x refl, same-bytes-refl xs)

-- A reading

-- the bytes s of a state that may be the candidate's, b being its own
module _ (s : List ℕ) (n : Negotiation) (b : List ℕ) (h : state_of n ≡ candidate_of s) (k : b ≡ state_bytes (state_of n)) where
  by_bytes : (r : Bool) → r ≡ same_bytes s b → cond r (some (state_of n)) none ≡ read_state s
  unfolding read_state
  by_bytes r e =
      let written : b ≡ state_bytes (candidate_of s) = k ∙ ap state_bytes h in
      λ i. cond ((e ∙ ap (same_bytes s) written) i) (some (h i)) none

  pub reading : {r : Bool} → r ≡ same_bytes s b → r ≡ true → reading_of (Some n) ≡ read_state s
  unfolding reading_of
  reading e t = by_bytes true (sym t ∙ e)

  pub no-reading : {r : Bool} → r ≡ same_bytes s b → r ≡ false → reading_of None ≡ read_state s
  unfolding reading_of
  no-reading e t = by_bytes false (sym t ∙ e)
