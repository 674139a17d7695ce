-- Linking implication edges, judged as the satisfied nodes grow with the edges. Assumes nothing.
use Rattle.std.specs.Prelude.{ℕ, zero, suc, ◌+◌, ◌≤◌, ◌<◌, ◌≡◌, refl, Bool, true, false, ◌||◌, List, [], ◌∷◌, eqb, get_or, take}
use Rattle.std.proofs.Common.{arith, add-one, sym, ◌∙◌, subst, eq-eqb, ne_eqb, eqb-true, take_all}
use Rattle.std.proofs.Math.Path.{ap}
use Rattle.std.proofs.Math.Bool.{not}
use Rattle.std.proofs.lemmas.Bool.{eqb-false, not-true, not-false}
use Rattle.std.proofs.lemmas.List.{take-append-le}
use Rattle.rt0.specs.Pool.{up_to}
use Rattle.rt0.specs.laws.Find.{Missed, missed-fewer}
use Rattle.rt0.specs.laws.Added.{length-up_to}
use Rattle.propagation.specs.Flags.{at}
use Rattle.propagation.specs.laws.Satisfied.{graph}
use Rattle.propagation.specs.laws.Chains.{Chained}
use Rattle.propagation.specs.laws.Work.{work, Done}
use Rattle.propagation.specs.laws.WorkLaws.{settled}
use Rattle.graph.specs.declared.Node.{Node}
use Rattle.graph.specs.declared.Edge.{Edge}
use Rattle.graph.specs.declared.Nodes.{Nodes}
use Rattle.graph.specs.declared.Edges.{Edges}
use Rattle.graph.specs.laws.Graph.{nodes_of, edges_of, edges_from, edge_at, edge_in}
use Rattle.graph.specs.laws.Columns.{edges-length, edge_in_lem}
use Rattle.graph.specs.Propagated.{satisfied_b}
use Rattle.states.specs.laws.Brings.{NodesFormed, Joined, Needs}
use Rattle.states.specs.laws.SatisfiedColumns.{satisfied-columns}
use Rattle.justification.specs.InTurn.{in_turn}
use Rattle.justification.specs.laws.InTurn.{turn-start, turn-next, turn-stop, turn-done}
use Rattle.justification.specs.laws.Inside.{Inside}
use Rattle.justification.specs.laws.Justified.{linking_kind, Says}
use Rattle.justification.specs.Justified.{monitored, monitored_if}

module _ (ns : List Node) (es : List Edge) (e : Edge) where
  by_kind : (a b : Bool) → a ≡ eqb e.kind 4 → b ≡ monitored ns es e → (not a || b) ≡ monitored_if ns es e
  unfolding monitored_if
  by_kind a b p q = λ i. not (p i) || q i

  pub other-kind : (e.kind ≡ 4 → ⊥) → true ≡ monitored_if ns es e
  other-kind h = by_kind false _ (sym (ne_eqb e.kind 4 h)) refl

  pub linking-kind : {b : Bool} → e.kind ≡ 4 → b ≡ monitored ns es e → b ≡ monitored_if ns es e
  linking-kind h q = by_kind true _ (sym (eq-eqb e.kind 4 h)) q

-- where none is of kind 4, all are justified
none-to : (ns : List Node) (E : Edges) (j : ℕ) → Missed linking_kind (λ i. get_or E.kind i 0) j → in_turn (monitored_if ns) [] (up_to j (edge_at E)) ≡ true
none-to ns E zero h = turn-start (monitored_if ns) (edge_at E)
none-to ns E (suc j) h =
    ap (λ (k : ℕ). in_turn (monitored_if ns) [] (up_to k (edge_at E))) (sym (add-one j))
    ∙ turn-next (monitored_if ns) (edge_at E) {j = j} (none-to ns E j (missed-fewer h (omega arith)))
    (other-kind ns (up_to j (edge_at E)) (edge_at E j) (eqb-false (get_or E.kind j 0) 4 (h.none j (omega arith)))) refl

pub none-linking : (ns : List Node) (E : Edges) {b : Bool} → (b ≡ false → Missed linking_kind (λ i. get_or E.kind i 0) E.count) → not b ≡ true
    → true ≡ in_turn (monitored_if ns) [] (edges_of E)
unfolding edges_of
none-linking ns E {b} h e = sym (none-to ns E E.count (h (not-true b e)))

-- the first j of the edges
take-up_to : {A : Type 0} (f : ℕ → A) (j n : ℕ) → j ≤ n → take j (up_to n f) ≡ up_to j f
take-up_to f j zero l = let z : 0 ≡ j = omega arith in subst (λ (k : ℕ). take k (up_to 0 f) ≡ up_to k f) z refl
take-up_to f j (suc m) l = step (eqb j (suc m)) refl (λ k. take-up_to f j m k)
  where
    step : (d : Bool) → eqb j (suc m) ≡ d → (j ≤ m → take j (up_to m f) ≡ up_to j f) → take j (up_to (suc m) f) ≡ up_to j f
    step true q h =
        let z : suc m ≡ j = sym (eqb-true j (suc m) q) in subst (λ (k : ℕ). take k (up_to (suc m) f) ≡ up_to k f) z
        (take_all (suc m) (up_to (suc m) f) (omega (arith, length-up_to (suc m) f)))
    step false q h = let k : j ≤ m = omega (arith, eqb-false j (suc m) q) in take-append-le j (up_to m f) (f m ∷ []) (omega (arith, length-up_to m f)) ∙ h k

take-edges : (E : Edges) (j : ℕ) → j ≤ E.count → take j (edges_of E) ≡ edges_of (edges_from j E.kind E.parent E.child)
unfolding edges_of
take-edges E j l = take-up_to (edge_at E) j E.count l

-- the linking implication edges below j are justified; the columns have the nodes that the edges below j satisfy
pub record Monitoring (N : Nodes) (E : Edges) (F S D head next got sat queue : List ℕ) (t j : ℕ) : Type 0 where
  pub few : j ≤ E.count
  pub pass : in_turn (monitored_if (nodes_of N)) [] (up_to j (edge_at E)) ≡ true
  pub chained : Chained j F head next
  pub done : Done j (graph F S D) (work got sat queue t) t

module _ (N : Nodes) (E : Edges) (F S D : List ℕ) where
  pub monitoring-start : {head next got sat queue : List ℕ} {t : ℕ} → Chained 0 F head next → Done 0 (graph F S D) (work got sat queue t) t
      → Monitoring N E F S D head next got sat queue t 0
  monitoring-start c d = record { few = omega arith; pass = turn-start (monitored_if (nodes_of N)) (edge_at E); chained = c; done = d }

  module _ {head next got sat queue : List ℕ} {t j : ℕ} (g : Monitoring N E F S D head next got sat queue t j) where
    pub says-so-far : NodesFormed (nodes_of N) → Joined (nodes_of N) (edges_of E) F S → Needs (nodes_of N) D
        → Says (nodes_of N) (edges_of (edges_from j E.kind E.parent E.child)) sat
    says-so-far nf jn nd =
        record {
          says = λ i. settled j (graph F S D) (work got sat queue t) g.done i ∙ satisfied-columns nf jn nd j (omega (arith, g.few, edges-length E)) i
              ∙ ap (λ (es : List Edge). at (satisfied_b (nodes_of N) es) i) (take-edges E j g.few);
        }

    module _ {X : Edge} {b : Bool} (l : j < E.count) (e : X ≡ edge_in (edges_of E) j)
        (r : b ≡ monitored_if (nodes_of N) (edges_of (edges_from j E.kind E.parent E.child)) X) where
      here : b ≡ monitored_if (nodes_of N) (up_to j (edge_at E)) (edge_at E j)
      unfolding edges_of
      here = r ∙ ap (monitored_if (nodes_of N) (up_to j (edge_at E))) (e ∙ edge_in_lem E j l)

      pub monitoring-stop : not b ≡ true → false ≡ in_turn (monitored_if (nodes_of N)) [] (edges_of E)
      unfolding edges_of
      monitoring-stop h = turn-stop (monitored_if (nodes_of N)) (edge_at E) {j = j} E.count l here (not-true b h)

      pub monitoring-next : {head' next' got' sat' queue' : List ℕ} {t' : ℕ} → not b ≡ false → Chained (j + 1) F head' next'
          → Done (j + 1) (graph F S D) (work got' sat' queue' t') t' → Monitoring N E F S D head' next' got' sat' queue' t' (j + 1)
      monitoring-next h c d =
          record { few = omega arith; pass = turn-next (monitored_if (nodes_of N)) (edge_at E) {j = j} g.pass here (not-false b h); chained = c; done = d }

    pub monitoring-done : E.count ≤ j → true ≡ in_turn (monitored_if (nodes_of N)) [] (edges_of E)
    unfolding edges_of
    monitoring-done l = turn-done (monitored_if (nodes_of N)) (edge_at E) E.count g.few l g.pass

-- X is edge j
pub edge-inside : (n : ℕ) (E : Edges) {X : Edge} {j : ℕ} → Inside n E → j < E.count → X ≡ edge_in (edges_of E) j → (X.parent < n) × (X.child < n)
edge-inside n E {X} {j} i l e =
    (subst (λ (d : Edge). d.parent < n) (sym (e ∙ edge_in_lem E j l)) (i.parent j l), subst (λ (d : Edge). d.child < n) (sym (e ∙ edge_in_lem E j l)) (i.child j l))
