-- The parts of the layout are written one after the other. Assumes nothing.
use Prim.Native.Nat.{ℕ, ◌+◌, ◌*◌, ◌-◌, ◌/◌, ◌%◌, suc, ◌≤◌, ◌<◌}
use Rattle.std.specs.Prelude.{true, ◌&&◌, leb, get_or, replicate, set, drop, ◌≡◌, Option as Returned, Some, None}
use mathlib.Core.List.{List, [], ◌∷◌, ◌++◌, append_assoc, append-nil}
use Rattle.std.proofs.Math.Option.{Option, none, some}
use Rattle.std.proofs.Math.ListN.{length, length-append}
use Rattle.std.proofs.lemmas.List.{length-replicate, get_or-replicate}
use Rattle.expression.specs.declared.Credential.{Credential}
use Rattle.expression.specs.Bytes.{raw_bytes, pasted}
use Rattle.expression.specs.Form.{raw_of}
use Rattle.expression.specs.Credential.{credential_bytes}
use Rattle.rt0.specs.Pool.{up_to}
use Rattle.graph.specs.declared.Node.{Node}
use Rattle.graph.specs.declared.Edge.{Edge}
use Rattle.negotiation.specs.State.{State, within}
use Rattle.negotiation.specs.laws.State.{state_of}
use native.Mathlib.Omega.{arith}
use Rattle.std.proofs.Common.{add-one, suc-mul, zero-mul, add_comm, ◌∙◌, leb-true}
use Rattle.std.proofs.Math.Path.{refl, sym, ap}
use Rattle.std.proofs.Math.Seq.{paste, paste-suc, take-length, drop-length}
use Rattle.expression.specs.laws.Codec.{paste-paste}
use Rattle.expression.specs.laws.Laws.{and_left, and_right}
use Rattle.rt0.specs.laws.Pool.{credentials}
use Rattle.rt0.specs.laws.Added.{length-up_to, count-length}
use Rattle.graph.specs.laws.Graph.{nodes_of, edges_of}
use Rattle.negotiation.specs.declared.Negotiation.{Negotiation}
use Rattle.graph.specs.laws.Columns.{nodes-length, edges-length}
use Rattle.negotiation.specs.Layout.{header_bytes, node_bytes, edge_bytes, zeros, records, part, header_part, state_bytes}
use Rattle.numbers.specs.Sizes.{MOST-NODES, MOST-EDGES, MOST-SHOWN}

-- what a reading is
unfoldable pub reading_of : Returned Negotiation → Option State
reading_of (Some n) = some (state_of n)
reading_of None = none

-- Zeros

pub length-zeros : (n : ℕ) → length (zeros n) ≡ n
unfolding zeros
length-zeros n = length-replicate n 0

-- one zero more
pub zero-next : (d : List ℕ) (from to i : ℕ) → from ≤ i → i < to → to ≤ length d
    → set (paste d from (zeros (to - from)) (i - from)) i 0 ≡ paste d from (zeros (to - from)) (i + 1 - from)
unfolding zeros
zero-next d from to i low high room =
    let j : ℕ = i - from in
    let n : ℕ = to - from in
    let e : i ≡ from + (i - from) = omega arith in
    let g : ◌≡◌ {A = ℕ} 0 (get_or (replicate n 0) j 0) = sym (get_or-replicate n j 0 0 (omega arith)) in
    let k : suc (i - from) ≡ i + 1 - from = omega arith in
    (λ t. set (paste d from (replicate n 0) j) (e t) (g t))
    ∙ paste-suc d from (replicate n 0) j 0 (omega arith) (omega (arith, length-replicate {A = ℕ} n 0))
    ∙ ap (paste d from (replicate n 0)) k

pub zeros-all : (d : List ℕ) (from to i : ℕ) → i ≡ to → paste d from (zeros (to - from)) (i - from) ≡ pasted d from (zeros (to - from))
zeros-all d from to i e = ap (paste d from (zeros (to - from))) (ap (λ (k : ℕ). k - from) e ∙ sym (length-zeros (to - from)))

-- Records of one size

module _ {A : Type 0} (f : A → List ℕ) (k : ℕ) (size : (x : A) → length (f x) ≡ k) where
  pub length-records : (xs : List A) → length (records f xs) ≡ length xs * k
  length-records [] = sym (zero-mul k)
  length-records (x ∷ xs) =
      length-append (f x) (records f xs) ∙ (λ i. size x i + length-records xs i) ∙ add_comm k (length xs * k) ∙ sym (suc-mul (length xs) k)

  records-snoc : (xs : List A) (x : A) → records f (xs ++ (x ∷ [])) ≡ records f xs ++ f x
  records-snoc [] x = append-nil (f x)
  records-snoc (y ∷ ys) x = ap (λ (l : List ℕ). f y ++ l) (records-snoc ys x) ∙ sym (append_assoc (f y) (records f ys) (f x))

  length-columns : (g : ℕ → A) (i : ℕ) → length (records f (up_to i g)) ≡ i * k
  length-columns g i = length-records (up_to i g) ∙ ap (λ (n : ℕ). n * k) (length-up_to i g)

  -- one record more
  pub record-next : (d : List ℕ) (at i : ℕ) (g : ℕ → A) → at + i * k + k ≤ length d
      → pasted (pasted d at (records f (up_to i g))) (at + i * k) (f (g i)) ≡ pasted d at (records f (up_to (i + 1) g))
  record-next d at i g room =
      let x : List ℕ = records f (up_to i g) in
      let all : records f (up_to (i + 1) g) ≡ x ++ f (g i) = ap (λ (n : ℕ). records f (up_to n g)) (add-one i) ∙ records-snoc (up_to i g) (g i) in
      ap (λ (n : ℕ). pasted (pasted d at x) (at + n) (f (g i))) (sym (length-columns g i))
      ∙ paste-paste d at x (f (g i)) (omega (arith, length-columns g i, size (g i)))
      ∙ ap (pasted d at) (sym all)

  -- the records, and zeros behind them
  pub part-written : (d : List ℕ) (at from to n : ℕ) (g : ℕ → A) → from ≡ at + n * k → from ≤ to → to ≤ length d
      → pasted (pasted d at (records f (up_to n g))) from (zeros (to - from)) ≡ pasted d at (part (to - at) f (up_to n g))
  unfolding part
  part-written d at from to n g start order room =
      let x : List ℕ = records f (up_to n g) in
      let e : from ≡ at + length x = start ∙ ap (λ (m : ℕ). at + m) (sym (length-columns g n)) in
      let m : to - from ≡ to - at - length x = omega arith in
      (λ i. pasted (pasted d at x) (e i) (zeros (m i)))
      ∙ paste-paste d at x (zeros (to - at - length x)) (omega (arith, length-zeros (to - at - length x)))

  pub length_part : (n : ℕ) (xs : List A) → length xs * k ≤ n → length (part n f xs) ≡ n
  unfolding part
  length_part n xs room =
      length-append (records f xs) (zeros (n - length (records f xs))) ∙ omega (arith, length-zeros (n - length (records f xs)), length-records xs)

-- Sizes

pub node-size : (x : Node) → length (node_bytes x) ≡ 22
unfolding node_bytes
node-size x = refl

pub edge-size : (e : Edge) → length (edge_bytes e) ≡ 3
edge-size e = refl

pub credential-size : (c : Credential) → length (credential_bytes c) ≡ 22
credential-size c = refl

-- expression and the rest, written one after the other
pub node-written : (d e f : List ℕ) (at : ℕ) (x : Node) → at + 22 ≤ length d → e ≡ pasted d at (raw_bytes (raw_of x.expression))
    → f ≡ pasted e (at + 18) (x.subject / 256 ∷ x.subject % 256 ∷ x.verifier ∷ x.state ∷ []) → f ≡ pasted d at (node_bytes x)
unfolding node_bytes
node-written d e f at x room h k =
    let back : List ℕ = x.subject / 256 ∷ x.subject % 256 ∷ x.verifier ∷ x.state ∷ [] in
    k ∙ ap (λ (l : List ℕ). pasted l (at + 18) back) h ∙ paste-paste d at (raw_bytes (raw_of x.expression)) back (omega arith)

-- a state within the sizes
pub record Sizes (S : State) : Type 0 where
  pub nodes : length S.nodes ≤ MOST-NODES
  pub edges : length S.edges ≤ MOST-EDGES
  pub shown : length S.shown ≤ MOST-SHOWN

pub sizes : (S : State) → within S ≡ true → Sizes S
unfolding within
sizes S h =
    let l = and_left (leb (length S.nodes) MOST-NODES && leb (length S.edges) MOST-EDGES) (leb (length S.shown) MOST-SHOWN) h in
    record {
      nodes = leb-true (length S.nodes) MOST-NODES (and_left (leb (length S.nodes) MOST-NODES) (leb (length S.edges) MOST-EDGES) l);
      edges = leb-true (length S.edges) MOST-EDGES (and_right (leb (length S.nodes) MOST-NODES) (leb (length S.edges) MOST-EDGES) l);
      shown =
          leb-true (length S.shown) MOST-SHOWN (and_right (leb (length S.nodes) MOST-NODES && leb (length S.edges) MOST-EDGES)
          (leb (length S.shown) MOST-SHOWN) h);
    }

-- The whole

-- written behind what was written from the start
paste-on : (d xs ys : List ℕ) (n : ℕ) → length xs ≡ n → n + length ys ≤ length d → pasted (pasted d 0 xs) n ys ≡ pasted d 0 (xs ++ ys)
paste-on d xs ys n e room =
    let at : n ≡ 0 + length xs = omega arith in
    ap (λ (k : ℕ). pasted (pasted d 0 xs) k ys) at ∙ paste-paste d 0 xs ys (omega arith)

-- every byte replaced
pub paste-whole : (d xs : List ℕ) → length xs ≡ length d → pasted d 0 xs ≡ xs
paste-whole d xs e =
    let end : 0 + length xs ≡ length d = omega arith in
    (λ i. take-length xs i ++ (ap (λ (n : ℕ). drop n d) end ∙ drop-length d) i) ∙ append-nil xs

module _ (S : State) (z : Sizes S) where
  nodes-part : length (part 2816 node_bytes S.nodes) ≡ 2816
  nodes-part = length_part node_bytes 22 node-size 2816 S.nodes (omega (arith, z.nodes))

  edges-part : length (part 768 edge_bytes S.edges) ≡ 768
  edges-part = length_part edge_bytes 3 edge-size 768 S.edges (omega (arith, z.edges))

  shown-part : length (part 1408 credential_bytes S.shown) ≡ 1408
  shown-part = length_part credential_bytes 22 credential-size 1408 S.shown (omega (arith, z.shown))

  pub header-part : length (header_part S) ≡ 128
  unfolding header_part
  header-part =
      length-append (header_bytes S.header (length S.nodes) (length S.edges) (length S.shown)) (zeros 108)
      ∙ ap (λ (n : ℕ). 20 + n) (length-zeros 108)

  pub nodes-front : length (header_part S ++ part 2816 node_bytes S.nodes) ≡ 2944
  nodes-front = length-append (header_part S) (part 2816 node_bytes S.nodes) ∙ (λ i. header-part i + nodes-part i)

  pub edges-front : length (header_part S ++ part 2816 node_bytes S.nodes ++ part 768 edge_bytes S.edges) ≡ 3712
  edges-front = length-append (header_part S ++ part 2816 node_bytes S.nodes) (part 768 edge_bytes S.edges) ∙ (λ i. nodes-front i + edges-part i)

  -- every state has 5,120 bytes
  pub state-length : length (state_bytes S) ≡ 5120
  unfolding state_bytes
  state-length =
      length-append (header_part S ++ part 2816 node_bytes S.nodes ++ part 768 edge_bytes S.edges) (part 1408 credential_bytes S.shown)
      ∙ (λ i. edges-front i + shown-part i)

  -- header, zeros and the three parts, written one after the other
  pub all-written : (d b c e f g : List ℕ) → length d ≡ 5120
      → b ≡ pasted d 0 (header_bytes S.header (length S.nodes) (length S.edges) (length S.shown))
      → c ≡ pasted b 20 (zeros 108)
      → e ≡ pasted c 128 (part 2816 node_bytes S.nodes)
      → f ≡ pasted e 2944 (part 768 edge_bytes S.edges)
      → g ≡ pasted f 3712 (part 1408 credential_bytes S.shown)
      → g ≡ state_bytes S
  unfolding header_part state_bytes
  all-written d b c e f g size hb hc he hf hg =
      let header : List ℕ = header_bytes S.header (length S.nodes) (length S.edges) (length S.shown) in
      let nodes : List ℕ = part 2816 node_bytes S.nodes in
      let edges : List ℕ = part 768 edge_bytes S.edges in
      let shown : List ℕ = part 1408 credential_bytes S.shown in
      let c' : c ≡ pasted d 0 (header_part S) = hc ∙ ap (λ (l : List ℕ). pasted l 20 (zeros 108)) hb
      ∙ paste-on d header (zeros 108) 20 refl (omega (arith, length-zeros 108)) in
      let e' : e ≡ pasted d 0 (header_part S ++ nodes) = he ∙ ap (λ (l : List ℕ). pasted l 128 nodes) c'
      ∙ paste-on d (header_part S) nodes 128 header-part (omega (arith, nodes-part)) in
      let f' : f ≡ pasted d 0 (header_part S ++ nodes ++ edges) = hf ∙ ap (λ (l : List ℕ). pasted l 2944 edges) e'
      ∙ paste-on d (header_part S ++ nodes) edges 2944 nodes-front (omega (arith, edges-part)) in
      hg ∙ ap (λ (l : List ℕ). pasted l 3712 shown) f' ∙ paste-on d (header_part S ++ nodes ++ edges) shown 3712 edges-front (omega (arith, shown-part))
      ∙ paste-whole d (state_bytes S) (state-length ∙ sym size)

-- Of columns

module _ (n : Negotiation) (h : within (state_of n) ≡ true) where
  pub counts : (n.nodes.count ≤ MOST-NODES) × (n.edges.count ≤ MOST-EDGES) × (n.shown.count ≤ MOST-SHOWN)
  unfolding state_of
  counts =
      let z = sizes (state_of n) h in
      (omega (arith, z.nodes, nodes-length n.nodes), omega (arith, z.edges, edges-length n.edges), omega (arith, z.shown, count-length n.shown))

  pub negotiation-written : (d b c e f g front : List ℕ) → length d ≡ 5120
      → front ≡ header_bytes n.header n.nodes.count n.edges.count n.shown.count
      → b ≡ pasted d 0 front
      → c ≡ pasted b 20 (zeros 108)
      → e ≡ pasted c 128 (part 2816 node_bytes (nodes_of n.nodes))
      → f ≡ pasted e 2944 (part 768 edge_bytes (edges_of n.edges))
      → g ≡ pasted f 3712 (part 1408 credential_bytes (credentials n.shown))
      → g ≡ state_bytes (state_of n)
  unfolding state_of
  negotiation-written d b c e f g front size hh hb hc he hf hg =
      let same : front ≡ header_bytes n.header (length (nodes_of n.nodes)) (length (edges_of n.edges)) (length (credentials n.shown))
      = hh ∙ sym (λ i. header_bytes n.header (nodes-length n.nodes i) (edges-length n.edges i) (count-length n.shown i)) in
      all-written (state_of n) (sizes (state_of n) h) d b c e f g size (hb ∙ ap (pasted d 0) same) hc he hf hg
