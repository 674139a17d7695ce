-- A node or an edge read, one more of them, and a node marked. Assumes nothing.
use Rattle.std.specs.Prelude.{ℕ, zero, suc, ◌+◌, ◌≤◌, ◌<◌, ◌≡◌, refl, Bool, true, false, List, [], ◌∷◌, ◌++◌, eqb, get_or, length, set}
use Rattle.std.proofs.Common.{arith, sym, ◌∙◌, ap, eqb-true, length-set, get_or-set_same, get_or-set_other, ext_get_or}
use Rattle.std.proofs.lemmas.Bool.{eqb-false}
use Rattle.std.proofs.Math.ListN.{get_or-append}
use Rattle.std.proofs.Math.Seq.{get_or-append_seam}
use Rattle.expression.specs.declared.Raw.{Raw}
use Rattle.expression.specs.Form.{expression_of}
use Rattle.rt0.specs.Pool.{up_to}
use Rattle.rt0.specs.laws.Pool.{expression_in}
use Rattle.rt0.specs.laws.Added.{kinds_with, numbers_with, raw-before, raw-last, length-up_to, snoc-up_to}
use Rattle.graph.specs.declared.Node.{Node}
use Rattle.graph.specs.declared.Edge.{Edge}
use Rattle.graph.specs.declared.Nodes.{Nodes}
use Rattle.graph.specs.declared.Edges.{Edges}
use Rattle.graph.specs.laws.Graph.{nodes_from, node_at, edge_at, nodes_of, edges_of, edge_in}
use Rattle.graph.specs.Graph.{blank, node_in, in_state}
use Rattle.numbers.specs.Sizes.{MOST-NODES, MOST-EDGES}

module _ {A : Type 0} where
  -- the element at an index
  get_d-up_to : (n : ℕ) (f : ℕ → A) (i : ℕ) (d : A) → i < n → get_or (up_to n f) i d ≡ f i
  get_d-up_to zero f i d l = absurd (omega arith)
  get_d-up_to (suc n) f i d l = go (eqb i n) refl (λ k. get_d-up_to n f i d k)
    where
      go : (b : Bool) → eqb i n ≡ b → (i < n → get_or (up_to n f) i d ≡ f i) → get_or (up_to (suc n) f) i d ≡ f i
      go true e ih =
          let z : i ≡ length (up_to n f) = eqb-true i n e ∙ sym (length-up_to n f) in
          ap (λ (k : ℕ). get_or (up_to n f ++ (f n ∷ [])) k d) z ∙ get_or-append_seam (up_to n f) (f n) [] d ∙ ap f (sym (eqb-true i n e))
      go false e ih =
          let k : i < n = omega (arith, eqb-false i n e) in
          get_or-append (up_to n f) (f n ∷ []) d i (omega (arith, length-up_to n f)) ∙ ih k

  -- another element at an index
  set-up_to : (n : ℕ) (f g : ℕ → A) (i : ℕ) (x d : A) → i < n → f i ≡ x → ((j : ℕ) → (j ≡ i → ⊥) → f j ≡ g j) → up_to n f ≡ set (up_to n g) i x
  set-up_to n f g i x d l e h =
      ext_get_or d (up_to n f) (set (up_to n g) i x) (length-up_to n f ∙ sym (length-set (up_to n g) i x ∙ length-up_to n g))
      (λ j k. go j (omega (arith, length-up_to n f)) (eqb j i) refl)
    where
      go : (j : ℕ) → j < n → (b : Bool) → eqb j i ≡ b → get_or (up_to n f) j d ≡ get_or (set (up_to n g) i x) j d
      go j k true q =
          let z : j ≡ i = eqb-true j i q in
          get_d-up_to n f j d k ∙ (ap f z ∙ e) ∙ sym
          (ap (λ (m : ℕ). get_or (set (up_to n g) i x) m d) z ∙ get_or-set_same (up_to n g) i x d (omega (arith, length-up_to n g)))
      go j k false q = get_d-up_to n f j d k ∙ h j (eqb-false j i q) ∙ sym (get_or-set_other (up_to n g) i j x d (eqb-false j i q) ∙ get_d-up_to n g j d k)

-- Reading

pub nodes-length : (N : Nodes) → length (nodes_of N) ≡ N.count
unfolding nodes_of
nodes-length N = length-up_to N.count (node_at N)

pub edges-length : (E : Edges) → length (edges_of E) ≡ E.count
unfolding edges_of
edges-length E = length-up_to E.count (edge_at E)

pub node_in_lem : (N : Nodes) (i : ℕ) → i < N.count → node_in (nodes_of N) i ≡ node_at N i
unfolding nodes_of
node_in_lem N i l = get_d-up_to N.count (node_at N) i blank l

pub edge_in_lem : (E : Edges) (j : ℕ) → j < E.count → edge_in (edges_of E) j ≡ edge_at E j
unfolding edges_of
edge_in_lem E j l = get_d-up_to E.count (edge_at E) j (record { kind = 0; parent = 0; child = 0 }) l

-- Adding

pub record NodesSized (N : Nodes) : Type 0 where
  pub kind : length N.kind ≡ 256
  pub number : length N.number ≡ 1024
  pub subject : length N.subject ≡ 128
  pub verifier : length N.verifier ≡ 128
  pub state : length N.state ≡ 128

pub record EdgesSized (E : Edges) : Type 0 where
  pub kind : length E.kind ≡ 256
  pub parent : length E.parent ≡ 256
  pub child : length E.child ≡ 256

-- the columns with one node more, whose expression has the numbers r
abbrev pub added_node : Nodes → Node → Raw → Nodes
added_node N x r =
    record {
      count = N.count + 1;
      kind = kinds_with N.kind N.number N.count r;
      number = numbers_with N.kind N.number N.count r;
      subject = set N.subject N.count x.subject;
      verifier = set N.verifier N.count x.verifier;
      state = set N.state N.count x.state;
    }

abbrev pub added_edge : Edges → Edge → Edges
added_edge E x =
    record {
      count = E.count + 1;
      kind = set E.kind E.count x.kind;
      parent = set E.parent E.count x.parent;
      child = set E.child E.count x.child;
    }

-- what a column has after a number is stored at n: at an earlier index, and at n
before : (n : ℕ) (M : List ℕ) (x i : ℕ) → i < n → get_or (set M n x) i 0 ≡ get_or M i 0
before n M x i l = get_or-set_other M n i x 0 (λ e. omega arith)

last : (n size : ℕ) (M : List ℕ) (x : ℕ) → n < size → length M ≡ size → get_or (set M n x) n 0 ≡ x
last n size M x l z = get_or-set_same M n x 0 (omega arith)

module _ (N : Nodes) (x : Node) (r : Raw) where
  node-before : (i : ℕ) → i < N.count → node_at (added_node N x r) i ≡ node_at N i
  unfolding expression_in
  node-before i l = λ j. record {
    expression = expression_of (raw-before N.kind N.number N.count r i l j);
    subject = before N.count N.subject x.subject i l j;
    verifier = before N.count N.verifier x.verifier i l j;
    state = before N.count N.state x.state i l j;
  }

  node-last : NodesSized N → N.count < MOST-NODES → expression_of r ≡ x.expression → node_at (added_node N x r) N.count ≡ x
  unfolding expression_in
  node-last z l e = λ j. record {
    expression = (ap expression_of (raw-last N.kind N.number N.count r l z.kind z.number) ∙ e) j;
    subject = last N.count 128 N.subject x.subject l z.subject j;
    verifier = last N.count 128 N.verifier x.verifier l z.verifier j;
    state = last N.count 128 N.state x.state l z.state j;
  }

  -- a node added stands behind the others
  pub add-node : NodesSized N → N.count < MOST-NODES → expression_of r ≡ x.expression → nodes_of (added_node N x r) ≡ nodes_of N ++ (x ∷ [])
  unfolding nodes_of
  add-node z l e = snoc-up_to N.count (node_at (added_node N x r)) (node_at N) x node-before (node-last z l e)

  pub added-node-sized : NodesSized N → NodesSized (added_node N x r)
  added-node-sized z =
      record {
        kind = simp length-set z.kind;
        number = simp length-set z.number;
        subject = simp length-set z.subject;
        verifier = simp length-set z.verifier;
        state = simp length-set z.state;
      }

-- columns that have become its columns
pub node-columns : (N : Nodes) (x : Node) (r : Raw) {K M S W T : List ℕ} → K ≡ kinds_with N.kind N.number N.count r
    → M ≡ numbers_with N.kind N.number N.count r → S ≡ set N.subject N.count x.subject → W ≡ set N.verifier N.count x.verifier
    → T ≡ set N.state N.count x.state → nodes_from (N.count + 1) K M S W T ≡ added_node N x r
node-columns N x r a b c d e = λ j. nodes_from (N.count + 1) (a j) (b j) (c j) (d j) (e j)

pub added-edge-sized : (E : Edges) (x : Edge) → EdgesSized E → EdgesSized (added_edge E x)
added-edge-sized E x z = record { kind = simp length-set z.kind; parent = simp length-set z.parent; child = simp length-set z.child }

-- an edge added stands behind the others
pub add-edge : (E : Edges) (x : Edge) → EdgesSized E → E.count < MOST-EDGES → edges_of (added_edge E x) ≡ edges_of E ++ (x ∷ [])
unfolding edges_of
add-edge E x z l =
    snoc-up_to E.count (edge_at (added_edge E x)) (edge_at E) x
    (λ i k j. record {
      kind = before E.count E.kind x.kind i k j;
      parent = before E.count E.parent x.parent i k j;
      child = before E.count E.child x.child i k j;
    })
    (λ j. record {
      kind = last E.count 256 E.kind x.kind l z.kind j;
      parent = last E.count 256 E.parent x.parent l z.parent j;
      child = last E.count 256 E.child x.child l z.child j;
    })

-- Marking

abbrev pub marked_nodes : Nodes → ℕ → ℕ → Nodes
marked_nodes N i s =
    record { count = N.count; kind = N.kind; number = N.number; subject = N.subject; verifier = N.verifier; state = set N.state i s }

-- of a node marked only the state changes
pub mark-node : (N : Nodes) (i s : ℕ) → length N.state ≡ 128 → N.count ≤ MOST-NODES → i < N.count
    → nodes_of (marked_nodes N i s) ≡ set (nodes_of N) i (in_state s (node_in (nodes_of N) i))
unfolding nodes_of
mark-node N i s z few l =
    set-up_to N.count (node_at (marked_nodes N i s)) (node_at N) i (in_state s (node_in (nodes_of N) i)) blank l
    ((λ j. record {
      expression = (node_at N i).expression;
      subject = (node_at N i).subject;
      verifier = (node_at N i).verifier;
      state = get_or-set_same N.state i s 0 (omega arith) j;
    }) ∙ ap (in_state s) (sym (node_in_lem N i l)))
    (λ k o j. record {
      expression = (node_at N k).expression;
      subject = (node_at N k).subject;
      verifier = (node_at N k).verifier;
      state = get_or-set_other N.state i k s 0 o j;
    })
