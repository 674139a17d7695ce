-- Columns filled in a loop. Assumes nothing.
use Rattle.std.specs.Prelude.{ℕ, ◌+◌, ◌*◌, ◌≤◌, ◌<◌, ◌≡◌, Bool, true, false, ◌&&◌, List, eqb, ltb, get_or, length, set, replicate}
use Rattle.std.proofs.Common.{arith, ◌∙◌, subst, ⊎_elim, eqb-true, lt-ltb, ltb-true, ltb-false, length-set, get_or-set_same, get_or-set_other}
use Rattle.std.proofs.Math.Path.{sym, ap}
use Rattle.std.proofs.Math.Bool.{cond}
use Rattle.std.proofs.lemmas.Bool.{eqb-false}
use Rattle.std.proofs.lemmas.List.{length-replicate, get_or-replicate}
use Rattle.std.proofs.Math.ListN.{get_or-eq_default}
use Rattle.expression.specs.declared.Expression.{Expression}
use Rattle.graph.specs.declared.Node.{Node}
use Rattle.graph.specs.declared.Edge.{Edge}
use Rattle.graph.specs.declared.Nodes.{Nodes}
use Rattle.graph.specs.declared.Edges.{Edges}
use Rattle.rt0.specs.laws.Pool.{expression_in}
use Rattle.graph.specs.laws.Graph.{node_at, edge_at, nodes_of, edges_of}
use Rattle.graph.specs.Graph.{blank, node_in}
use Rattle.graph.specs.laws.Columns.{nodes-length, edges-length, node_in_lem, edge_in_lem}
use Rattle.word.specs.laws.Bools.{and_parts, and_both, bool_iff, not-of}
use Rattle.propagation.specs.laws.Flags.{decided}
use Rattle.propagation.specs.laws.Work.{Beyond}
use Rattle.states.specs.laws.Brings.{need_of, way_of, slot_as, brings_by, slot_by, slot_for, brings, from_of, slot_of, Joined, Needs, Ways}
use Rattle.states.specs.laws.BringsLaws.{brings-parts, brings-of, from-child, into-slot, from-none, into-none, slot-few}
use Rattle.states.specs.laws.Fields.{raw_in, need_by, way_by, need-raw, way-raw}
use Rattle.numbers.specs.Sizes.{MOST-NODES, MOST-EDGES}

-- a column of w numbers that has f below i, and d from there on
pub record Filled (w : ℕ) (f : ℕ → ℕ) (d i : ℕ) (r : List ℕ) : Type 0 where
  pub size : length r ≡ w
  pub done : (k : ℕ) → k < i → get_or r k 0 ≡ f k
  pub rest : (k : ℕ) → i ≤ k → k < w → get_or r k 0 ≡ d

module _ (w : ℕ) (f : ℕ → ℕ) (d : ℕ) where
  pub fill_start : Filled w f d 0 (replicate w d)
  fill_start = record { size = length-replicate w d; done = λ k l. absurd (omega arith); rest = λ k l m. get_or-replicate w k d 0 m }

  module _ {i : ℕ} {r : List ℕ} where
    pub fill-add : (r' : List ℕ) (x : ℕ) → i < w → r' ≡ set r i x → x ≡ f i → Filled w f d i r → Filled w f d (i + 1) r'
    fill-add r' x l e h z =
        record {
          size = ap length e ∙ length-set r i x ∙ z.size;
          done = λ k m. ap (λ (s : List ℕ). get_or s k 0) e ∙ ⊎_elim
              (λ b. let q : k ≡ i = eqb-true k i b in ap (λ (n : ℕ). get_or (set r i x) n 0) q ∙ get_or-set_same r i x 0 (omega (arith, z.size)) ∙ h
              ∙ sym (ap f q))
              (λ b. get_or-set_other r i k x 0 (eqb-false k i b) ∙ z.done k (omega (arith, eqb-false k i b))) (decided (eqb k i));
          rest = λ k m n. ap (λ (s : List ℕ). get_or s k 0) e ∙ get_or-set_other r i k x 0 (λ q. omega arith) ∙ z.rest k (omega arith) n;
        }

    pub fill-skip : (r' : List ℕ) → i < w → r' ≡ r → d ≡ f i → Filled w f d i r → Filled w f d (i + 1) r'
    fill-skip r' l e h z =
        subst (λ (s : List ℕ). Filled w f d (i + 1) s) (sym e)
        (record {
          size = z.size;
          done =
              λ k m. ⊎_elim (λ b. let q : k ≡ i = eqb-true k i b in z.rest k (omega arith) (omega arith) ∙ h ∙ sym (ap f q))
              (λ b. z.done k (omega (arith, eqb-false k i b))) (decided (eqb k i));
          rest = λ k m n. z.rest k (omega arith) n;
        })

-- What nodes need, and how they fail

-- a number of each node below i in a column; from there on that of a node past the end
pub record NodeColumn (N : Nodes) (f : Node → ℕ) (i : ℕ) (r : List ℕ) : Type 0 where
  pub filled : Filled 128 (λ k. f (node_at N k)) (f blank) i r

module _ (N : Nodes) (f : Node → ℕ) where
  column-add : {i : ℕ} {r : List ℕ} (r' : List ℕ) (x : ℕ) → i < 128 → r' ≡ set r i x → x ≡ f (node_at N i) → NodeColumn N f i r → NodeColumn N f (i + 1) r'
  column-add r' x l e h z = record { filled = fill-add 128 (λ k. f (node_at N k)) (f blank) r' x l e h z.filled }

  column-all : {i : ℕ} {r : List ℕ} → i ≤ N.count → N.count ≤ i → NodeColumn N f i r → (k : ℕ) → k < 128 → get_or r k 0 ≡ f (node_in (nodes_of N) k)
  column-all a b z k l =
      ⊎_elim (λ t. let m : k < N.count = ltb-true k N.count t in z.filled.done k (omega arith) ∙ sym (ap f (node_in_lem N k m)))
      (λ t. let m : N.count ≤ k = ltb-false k N.count t in z.filled.rest k (omega arith) l
      ∙ sym (ap f (get_or-eq_default (nodes_of N) blank (omega (arith, nodes-length N))))) (decided (ltb k N.count))

-- the columns begin with the number of a node past the end
pub needs-start : (N : Nodes) → NodeColumn N need_of 0 (replicate 128 5)
unfolding need_of
needs-start N = record { filled = fill_start 128 (λ k. need_of (node_at N k)) 5 }

pub needs-add : (N : Nodes) {i x : ℕ} {r r' : List ℕ} → i < 128 → r' ≡ set r i x
    → x ≡ need_by (get_or N.kind (i * 2) 0) (get_or N.kind (i * 2 + 1) 0) (get_or N.state i 0) → NodeColumn N need_of i r → NodeColumn N need_of (i + 1) r'
unfolding need_of expression_in
needs-add N {i} {x} {r} {r'} l e h z = column-add N need_of r' x l e (h ∙ need-raw (get_or N.state i 0) (raw_in N i)) z

pub needs-all : (N : Nodes) {i : ℕ} {r : List ℕ} → i ≤ N.count → N.count ≤ i → NodeColumn N need_of i r → Needs (nodes_of N) r
needs-all N a b z = record { need = column-all N need_of a b z }

pub ways-start : (N : Nodes) → NodeColumn N way_of 0 (replicate 128 0)
unfolding way_of
ways-start N = record { filled = fill_start 128 (λ k. way_of (node_at N k)) 0 }

pub ways-add : (N : Nodes) {i x : ℕ} {r r' : List ℕ} → i < 128 → r' ≡ set r i x → x ≡ way_by (get_or N.kind (i * 2) 0) (get_or N.state i 0)
    → NodeColumn N way_of i r → NodeColumn N way_of (i + 1) r'
unfolding way_of expression_in
ways-add N {i} {x} {r} {r'} l e h z = column-add N way_of r' x l e (h ∙ way-raw (get_or N.state i 0) (raw_in N i)) z

pub ways-all : (N : Nodes) {i : ℕ} {r : List ℕ} → i ≤ N.count → N.count ≤ i → NodeColumn N way_of i r → Ways (nodes_of N) r
ways-all N a b z = record { way = column-all N way_of a b z }

-- beyond the nodes the columns have the number of a node past the end
module _ (N : Nodes) where
  past : (k : ℕ) → N.count ≤ k → node_in (nodes_of N) k ≡ blank
  past k l = get_or-eq_default (nodes_of N) blank (omega (arith, l, nodes-length N))

  pub needs-beyond : (M : List ℕ) → Needs (nodes_of N) M → Beyond N.count 5 M
  unfolding need_of
  needs-beyond M z = record { beyond = λ k l m. z.need k m ∙ ap need_of (past k l) }

  pub ways-beyond : (M : List ℕ) → Ways (nodes_of N) M → Beyond N.count 0 M
  unfolding way_of
  ways-beyond M z = record { beyond = λ k l m. z.way k m ∙ ap way_of (past k l) }

-- Edges

module _ (N : Nodes) (E : Edges) where
  abbrev X : ℕ → Expression
  X i = expression_in N.kind N.number i

  -- the first j edges stand in the columns
  pub record Linked (j : ℕ) (F S : List ℕ) : Type 0 where
    pub from : Filled 256 (λ k. from_of (nodes_of N) (edge_at E k)) 128 j F
    pub slot : Filled 256 (λ k. slot_of (nodes_of N) (edge_at E k)) 0 j S

  pub link_start : Linked 0 (replicate 256 128) (replicate 256 0)
  link_start = record { from = fill_start 256 (λ k. from_of (nodes_of N) (edge_at E k)) 128; slot = fill_start 256 (λ k. slot_of (nodes_of N) (edge_at E k)) 0 }

  module _ (j : ℕ) where
    abbrev e : Edge
    e = edge_at E j

    -- the slot of its parent that edge j fills, by the columns; whether it brings a child, and the slot of all
    abbrev place : ℕ
    place = slot_as e.kind (X e.parent) (X e.child)

    abbrev test : Bool
    test = brings_by N.count e.kind e.parent e.child (X e.parent) (X e.child)

    abbrev read : ℕ
    read = slot_by N.count e.kind e.parent e.child (X e.parent) (X e.child)

    place_read : e.parent < N.count → e.child < N.count → slot_for (nodes_of N) e ≡ place
    place_read a b = λ i. slot_as e.kind (node_in_lem N e.parent a i).expression (node_in_lem N e.child b i).expression

    brings-read : brings (nodes_of N) e ≡ test
    brings-read =
        bool_iff (brings (nodes_of N) e) test
        (λ h. let t = brings-parts (nodes_of N) e h in
        let a : e.parent < N.count = omega (arith, nodes-length N, t.0) in
        let b : e.child < N.count = omega (arith, nodes-length N, t.1) in
        and_both (ltb e.parent N.count && ltb e.child N.count) (ltb place 4)
        (and_both _ _ (lt-ltb e.parent N.count a) (lt-ltb e.child N.count b)) (lt-ltb place 4 (omega (arith, place_read a b, t.2))))
        (λ h. let t = and_parts (ltb e.parent N.count && ltb e.child N.count) (ltb place 4) h in
        let u = and_parts (ltb e.parent N.count) (ltb e.child N.count) t.0 in
        let a : e.parent < N.count = ltb-true e.parent N.count u.0 in
        let b : e.child < N.count = ltb-true e.child N.count u.1 in
        brings-of (nodes_of N) e (omega (arith, nodes-length N)) (omega (arith, nodes-length N)) (omega (arith, place_read a b, ltb-true place 4 t.1)))

    read-cond : read ≡ cond (brings (nodes_of N) e) (e.parent * 4 + place) 512
    unfolding slot_by
    read-cond = sym (ap (λ (b : Bool). cond b (e.parent * 4 + place) 512) brings-read)

    read_out : brings (nodes_of N) e ≡ false → read ≡ 512
    read_out h = read-cond ∙ ap (λ (b : Bool). cond b (e.parent * 4 + place) 512) h

    read-in : brings (nodes_of N) e ≡ true → read ≡ slot_of (nodes_of N) e
    read-in h =
        let t = brings-parts (nodes_of N) e h in
        let p : slot_for (nodes_of N) e ≡ place = place_read (omega (arith, nodes-length N, t.0)) (omega (arith, nodes-length N, t.1)) in
        read-cond ∙ ap (λ (b : Bool). cond b (e.parent * 4 + place) 512) h ∙ sym (into-slot (nodes_of N) e h ∙ ap (λ (m : ℕ). e.parent * 4 + m) p)

    read-brings : read < 512 → brings (nodes_of N) e ≡ true
    read-brings l = ⊎_elim (λ h. h) (λ h. absurd (omega (arith, read_out h))) (decided (brings (nodes_of N) e))

    read-not : N.count ≤ MOST-NODES → 512 ≤ read → brings (nodes_of N) e ≡ false
    read-not few l = not-of (brings (nodes_of N) e) (λ h. omega (arith, nodes-length N, read-in h, slot-few (nodes_of N) e (omega (arith, nodes-length N))))

    module _ {F S : List ℕ} (F' S' : List ℕ) (s : ℕ) (k : s ≡ read) (l : j < 256) (z : Linked j F S) where
      pub link-add : s < 512 → F' ≡ set F j (get_or E.child j 0) → S' ≡ set S j s → Linked (j + 1) F' S'
      link-add h f g =
          let b : brings (nodes_of N) e ≡ true = read-brings (omega arith) in
          record {
            from = fill-add 256 (λ k. from_of (nodes_of N) (edge_at E k)) 128 F' e.child l f (sym (from-child (nodes_of N) e b)) z.from;
            slot = fill-add 256 (λ k. slot_of (nodes_of N) (edge_at E k)) 0 S' s l g (k ∙ read-in b) z.slot;
          }

      pub link-skip : N.count ≤ MOST-NODES → 512 ≤ s → F' ≡ F → S' ≡ S → Linked (j + 1) F' S'
      link-skip few h f g =
          let b : brings (nodes_of N) e ≡ false = read-not few (omega arith) in
          record {
            from = fill-skip 256 (λ k. from_of (nodes_of N) (edge_at E k)) 128 F' l f (sym (from-none (nodes_of N) e b)) z.from;
            slot = fill-skip 256 (λ k. slot_of (nodes_of N) (edge_at E k)) 0 S' l g (sym (into-none (nodes_of N) e b)) z.slot;
          }

  pub link-all : {j : ℕ} {F S : List ℕ} → N.count ≤ MOST-NODES → E.count ≤ MOST-EDGES → j ≤ E.count → E.count ≤ j → Linked j F S
      → Joined (nodes_of N) (edges_of E) F S
  link-all {j} {F} {S} few fits a b z =
      record {
        from = λ k l. let m : k < E.count = omega (arith, edges-length E) in z.from.done k (omega arith) ∙ sym (ap (from_of (nodes_of N)) (edge_in_lem E k m));
        slot = λ k l. let m : k < E.count = omega (arith, edges-length E) in z.slot.done k (omega arith) ∙ sym (ap (slot_of (nodes_of N)) (edge_in_lem E k m));
        slots =
            λ k. ⊎_elim (λ t. let m : k < j = ltb-true k j t in omega
            (arith, z.slot.done k m, slot-few (nodes_of N) (edge_at E k) (omega (arith, nodes-length N))))
            (λ t. let m : j ≤ k = ltb-false k j t in ⊎_elim (λ u. omega (arith, z.slot.rest k m (ltb-true k 256 u)))
            (λ u. omega (arith, get_or-eq_default S 0 {n = k} (omega (arith, ltb-false k 256 u, z.slot.size)))) (decided (ltb k 256))) (decided (ltb k j));
      }
