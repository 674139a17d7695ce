-- Edges, by their tests. Assumes nothing.
use Rattle.std.specs.Prelude.{ℕ, suc, ◌+◌, ◌≤◌, ◌<◌, ◌≡◌, refl, Bool, true, false, cond, ◌&&◌, List, [], ◌∷◌, ◌++◌, ltb, leb, length, get_or}
use native.Mathlib.Omega.{arith}
use Rattle.std.proofs.Common.{add-one, sym, ◌∙◌, subst, eq-eqb, ne_eqb, ltb-true}
use Rattle.std.proofs.Math.Path.{ap}
use Rattle.std.proofs.Math.Bool.{not}
use Rattle.std.proofs.lemmas.Bool.{not-true, not-false}
use Rattle.std.proofs.Math.Dec.{eqb}
use Rattle.word.specs.laws.Bools.{and_parts}
use Rattle.rt0.specs.Pool.{up_to}
use Rattle.graph.specs.declared.Node.{Node}
use Rattle.graph.specs.declared.Nodes.{Nodes}
use Rattle.graph.specs.declared.Edge.{Edge}
use Rattle.graph.specs.declared.Edges.{Edges}
use Rattle.graph.specs.laws.Graph.{nodes_of, edges_from, edges_of, edge_at, edge_in}
use Rattle.graph.specs.Graph.{node_in}
use Rattle.graph.specs.laws.Columns.{nodes-length, edge_in_lem}
use Rattle.graph.specs.Form.{form}
use Rattle.graph.specs.Find.{has_edge}
use Rattle.negotiation.specs.declared.Header.{Header}
use Rattle.negotiation.specs.Ends.{entity_of}
use Rattle.damage.specs.laws.Turns.{Judged, judged-none, edges-next, edges-stop, edges-done}
use Rattle.damage.specs.Edges.{next_brought, brought_from, brought, placed, formed, edge_fits, all_brought}

-- One edge

pub placed-is : (n b : ℕ) (e : Edge) {p c d : ℕ} → p ≡ e.parent → c ≡ e.child → d ≡ e.child
    → (ltb p b && leb c b && ltb d n && not (eqb e.parent e.child)) ≡ placed n b e
unfolding placed
placed-is n b e f g h = λ i. ltb (f i) b && leb (g i) b && ltb (h i) n && not (eqb e.parent e.child)

-- the ends of an edge that is placed are nodes
pub placed-inside : (n b : ℕ) (e : Edge) → b ≤ n → placed n b e ≡ true → (e.parent < n) × (e.child < n)
unfolding placed
placed-inside n b e l h =
    let p = and_parts (ltb e.parent b && leb e.child b && ltb e.child n) (not (eqb e.parent e.child)) h in
    let q = and_parts (ltb e.parent b && leb e.child b) (ltb e.child n) p.0 in
    let r = and_parts (ltb e.parent b) (leb e.child b) q.0 in
    (omega (arith, ltb-true e.parent b r.0), ltb-true e.child n q.1)

-- P and C are the nodes i and k, the parent and the child of e
pub formed-is : (h : Header) (ns : List Node) (e : Edge) {i k v : ℕ} {P C : Node} {b : Bool} → i ≡ e.parent → P ≡ node_in ns i → k ≡ e.child
    → C ≡ node_in ns k → v ≡ entity_of h P.verifier
    → b ≡ form e.kind v P C → b ≡ formed h ns e
unfolding formed
formed-is h ns e {i} {k} {v} {P} {C} ie pe ke ce ve f =
    let p : P ≡ node_in ns e.parent = pe ∙ ap (node_in ns) ie in
    let c : C ≡ node_in ns e.child = ce ∙ ap (node_in ns) ke in
    f ∙ (λ t. form e.kind ((ve ∙ ap (λ (n : Node). entity_of h n.verifier) p) t) (p t) (c t))

module _ (h : Header) (N : Nodes) (before : List Edge) (e : Edge) {b : ℕ} (be : b ≡ brought before) where
  by-edge : (p f x : Bool) → p ≡ placed N.count b e → f ≡ formed h (nodes_of N) e → x ≡ has_edge before e → (p && f && not x) ≡ edge_fits h (nodes_of N) before e
  unfolding edge_fits
  by-edge p f x pe fe xe = λ i. (pe ∙ (λ t. placed (sym (nodes-length N) t) (be t) e)) i && fe i && not (xe i)

-- X is edge j, behind those before it, which brought b nodes
module _ (h : Header) (N : Nodes) (E : Edges) (before : List Edge) {b j : ℕ} {X : Edge} {p : Bool} (be : b ≡ brought before) (l : j < E.count)
    (e : X ≡ edge_in (edges_of E) j) (pe : p ≡ placed N.count b X) where
  there : {r : Bool} → r ≡ edge_fits h (nodes_of N) before X → r ≡ edge_fits h (nodes_of N) before (edge_at E j)
  there {r} = subst (λ (d : Edge). r ≡ edge_fits h (nodes_of N) before d) (e ∙ edge_in_lem E j l)

  pub edge-unplaced : not p ≡ true → false ≡ edge_fits h (nodes_of N) before (edge_at E j)
  edge-unplaced k = there (by-edge h N before X be false _ _ (sym (not-true p k) ∙ pe) refl refl)

  module _ (k : not p ≡ false) {f : Bool} (fe : f ≡ formed h (nodes_of N) X) where
    pub edge-unformed : not f ≡ true → false ≡ edge_fits h (nodes_of N) before (edge_at E j)
    edge-unformed m = there (by-edge h N before X be true false _ (sym (not-false p k) ∙ pe) (sym (not-true f m) ∙ fe) refl)

    pub edge-new : {x : Bool} → not f ≡ false → x ≡ has_edge before X → not x ≡ edge_fits h (nodes_of N) before (edge_at E j)
    edge-new m xe = there (by-edge h N before X be true true _ (sym (not-false p k) ∙ pe) (sym (not-false f m) ∙ fe) xe)

-- an edge that fits is placed
pub fits-placed : (h : Header) (N : Nodes) (before : List Edge) (e : Edge) {b : ℕ} → b ≡ brought before → edge_fits h (nodes_of N) before e ≡ true
    → placed N.count b e ≡ true
unfolding edge_fits
fits-placed h N before e {b} be k =
    (λ t. placed (sym (nodes-length N) t) (be t) e)
    ∙ (and_parts (placed (length (nodes_of N)) (brought before) e) (formed h (nodes_of N) e)
    (and_parts (placed (length (nodes_of N)) (brought before) e && formed h (nodes_of N) e) (not (has_edge before e)) k).0).0

-- Nodes brought

pub brought-more : (b : ℕ) (es : List Edge) (e : Edge) → brought_from b (es ++ (e ∷ [])) ≡ next_brought (brought_from b es) e
unfolding brought_from
brought-more b [] e = refl
brought-more b (d ∷ es) e = brought-more (next_brought b d) es e

-- the edges below j were judged, and pass; with them b nodes stand
pub record Bringing (h : Header) (N : Nodes) (E : Edges) (b j : ℕ) : Type 0 where
  pub judged : Judged (edge_fits h (nodes_of N)) (edge_at E) E.count j
  pub brings : b ≡ brought (edges_of (edges_from j E.kind E.parent E.child))
  pub few : b ≤ N.count

module _ (h : Header) (N : Nodes) (E : Edges) where
  pub bringing-none : 0 < N.count → Bringing h N E 1 0
  unfolding brought brought_from edges_of
  bringing-none l = record { judged = judged-none _ _ _; brings = refl; few = omega arith }

  module _ {b j : ℕ} {r : Bool} (g : Bringing h N E b j) (l : j < E.count)
      (e : r ≡ edge_fits h (nodes_of N) (edges_of (edges_from j E.kind E.parent E.child)) (edge_at E j)) where
    pub bringing-stop : not r ≡ true → false ≡ all_brought h (nodes_of N) (edges_of E)
    unfolding all_brought
    bringing-stop k = ap (λ (t : Bool). t && eqb (brought (edges_of E)) (length (nodes_of N))) (edges-stop (edge_fits h (nodes_of N)) E g.judged l e k)

    module _ (k : not r ≡ false) where
      step : brought (edges_of (edges_from (j + 1) E.kind E.parent E.child)) ≡ next_brought b (edge_at E j)
      unfolding brought edges_of
      step =
          ap (λ (n : ℕ). brought (up_to n (edge_at E))) (add-one j) ∙ brought-more 1 (up_to j (edge_at E)) (edge_at E j)
          ∙ ap (λ (n : ℕ). next_brought n (edge_at E j)) (sym g.brings)

      inside : placed N.count b (edge_at E j) ≡ true
      inside = fits-placed h N _ (edge_at E j) g.brings (sym e ∙ not-false r k)

      next : Judged (edge_fits h (nodes_of N)) (edge_at E) E.count (j + 1)
      next = edges-next (edge_fits h (nodes_of N)) E g.judged l e k

      -- the edge brings the next node
      pub bringing-next : {c b' : ℕ} → c ≡ get_or E.child j 0 → c ≡ b → b' ≡ b + 1 → Bringing h N E b' (j + 1)
      bringing-next {c} {b'} ce q n =
          record {
            judged = next;
            brings = n ∙ add-one b ∙ sym (step ∙ ap (λ (t : Bool). cond t (suc b) b) (eq-eqb (edge_at E j).child b (sym ce ∙ q)));
            few = omega (arith, (placed-inside N.count b (edge_at E j) g.few inside).1);
          }

      -- it brings none
      pub bringing-same : {c b' : ℕ} → c ≡ get_or E.child j 0 → (c ≡ b → ⊥) → b' ≡ b → Bringing h N E b' (j + 1)
      bringing-same {c} {b'} ce q n =
          record {
            judged = next;
            brings = n ∙ sym (step ∙ ap (λ (t : Bool). cond t (suc b) b) (ne_eqb (edge_at E j).child b (λ z. q (ce ∙ z))));
            few = omega (arith, g.few);
          }

  pub bringing-done : {b j : ℕ} → Bringing h N E b j → E.count ≤ j → eqb b N.count ≡ all_brought h (nodes_of N) (edges_of E)
  unfolding all_brought edges_of
  bringing-done {b} {j} g l =
      let z : j ≡ E.count = omega (arith, g.judged.few) in
      (λ t. edges-done (edge_fits h (nodes_of N)) E g.judged l t
      && eqb ((g.brings ∙ ap (λ (n : ℕ). brought (up_to n (edge_at E))) z) t) (sym (nodes-length N) t))
