-- A new child that no edge names changes nothing of what stands, so an edge to it is justified before the command exactly where it is justified
-- once the child is added. Assumes nothing.
use Rattle.std.specs.Prelude.{ℕ, ◌<◌, ◌≡◌, refl, Bool, not, ◌&&◌, ◌||◌, ltb}
use Rattle.std.proofs.Common.{arith, sym, ◌∙◌, ap, lt-ltb, length-append}
use mathlib.Core.List.{List, [], ◌∷◌, ◌++◌, Memᴰ}
use Rattle.std.proofs.Math.Dec.{eqb}
use Rattle.std.proofs.Math.ListN.{length, get_or-append}
use Rattle.std.proofs.Math.Seq.{get_or-append_seam}
use Rattle.expression.specs.declared.Expression.{Expression}
use Rattle.rt0.specs.Lists.{any}
use Rattle.rt0.specs.Decide.{from? as from_of}
use Rattle.propagation.specs.Flags.{at}
use Rattle.word.specs.laws.Bools.{bool_iff}
use Rattle.graph.specs.declared.Node.{Node}
use Rattle.graph.specs.declared.Edge.{Edge}
use Rattle.graph.specs.Graph.{node_in, blank}
use Rattle.graph.specs.Form.{is_standard}
use Rattle.graph.specs.States.{Child, Satisfied, trivial, standard, intersection}
use Rattle.graph.specs.laws.States.{satisfied-stays}
use Rattle.graph.specs.Propagated.{satisfied_b}
use Rattle.graph.specs.laws.Propagated.{satisfied-exact}
use Rattle.graph.specs.Growth.{Joined}
use Rattle.graph.specs.laws.Steps.{grown-node}
use Rattle.justification.specs.Justified.{is_solution_for, solves, solved, monitors, monitored, monitored_if, implied, implied_if, justified}
use Rattle.message.specs.declared.NewEdge.{NewEdge}
use Rattle.negotiation.specs.State.{State}
use Rattle.applied.specs.Step.{child_of, child_in, edge_in}
use Rattle.legal.specs.Number.{justified_by, justified_for}

any_same : (f g : Edge → Bool) (es : List Edge) → ((e : Edge) → Memᴰ e es → f e ≡ g e) → any f es ≡ any g es
any_same f g [] h = refl
any_same f g (e ∷ es) h = λ i. h e (Memᴰ.head refl) i || any_same f g es (λ d m. h d (Memᴰ.tail m)) i

module _ (ns : List Node) (es : List Edge) (joined : Joined ns es) (x : Node) where
  abbrev more : List Node
  more = ns ++ (x ∷ [])

  old : (i : ℕ) → i < length ns → node_in more i ≡ node_in ns i
  old i l = get_or-append ns (x ∷ []) blank i l

  child-back : {t : ℕ → Bool} {i c : ℕ} → Child more es t i c → Child ns es t i c
  child-back k = record { kind = k.kind; passes = k.passes; edge = k.edge; inside = joined _ k.edge }

  satisfied-back : {i : ℕ} → i < length ns → Satisfied more es i → Satisfied ns es i
  satisfied-back {i} l (trivial e) = trivial (sym (ap (λ (n : Node). n.expression) (old i l)) ∙ e)
  satisfied-back {i} l (standard s k h) =
      standard (sym (ap (λ (n : Node). is_standard n.expression) (old i l)) ∙ s) (child-back k) (satisfied-back (joined _ k.edge) h)
  satisfied-back {i} l (intersection e p f q h) =
      intersection
      (sym (ap (λ (n : Node). n.expression) (old i l)) ∙ e)
      (sym (ap (λ (n : Node). n.state) (old i l)) ∙ p)
      f
      (λ a m. record {
        child = child-back (q a m).child;
        role = sym (ap (λ (n : Node). n.expression) (old (f a m) (joined _ (q a m).child.edge)))
            ∙ (q a m).role;
      })
      (λ a m. satisfied-back (joined _ (q a m).child.edge) (h a m))

  -- the old nodes are satisfied as before
  satisfied-same : (i : ℕ) → i < length ns → at (satisfied_b ns es) i ≡ at (satisfied_b more es) i
  satisfied-same i l =
      bool_iff _ _
      (λ h. (satisfied-exact more es i).1 (satisfied-stays (grown-node ns es joined x) ((satisfied-exact ns es i).0 h)))
      (λ h. (satisfied-exact ns es i).1 (satisfied-back l ((satisfied-exact more es i).0 h)))

  inside-same : (c : ℕ) → c < length ns → ltb c (length ns) ≡ ltb c (length more)
  inside-same c l = lt-ltb c (length ns) l ∙ sym (lt-ltb c (length more) (omega (arith, length-append ns (x ∷ []))))

  module _ (y : Expression) (b : ℕ) where
    solves-same : (g : ℕ) (d : Edge) → Memᴰ d es → solves ns es y b g d ≡ solves more es y b g d
    unfolding solves
    solves-same g d m =
        let l : d.child < length ns = joined d m in
        λ i. (eqb d.kind 3 && eqb d.parent g && inside-same d.child l i) && is_solution_for y b (sym (old d.child l) i).expression
        && satisfied-same d.child l i

    solved-same : (g : ℕ) → solved ns es y b g ≡ solved more es y b g
    unfolding solved
    solved-same g = any_same _ _ es (solves-same g)

    monitors-same : (p : ℕ) (d : Edge) → Memᴰ d es → monitors ns es y b p d ≡ monitors more es y b p d
    unfolding monitors
    monitors-same p d m =
        let l : d.child < length ns = joined d m in
        λ i. (eqb d.kind 2 && eqb d.parent p && inside-same d.child l i) && solved-same d.child i

    pub monitored-same : (p : ℕ) → any (monitors ns es y b p) es ≡ any (monitors more es y b p) es
    monitored-same p = any_same _ _ es (monitors-same p)

-- the new child's expression and subject
given : (S : State) (n : NewEdge) {d : Node} → child_in S n ≡ d → n.expression ≡ d.expression
unfolding child_of
given S n h = ap (λ (d : Node). d.expression) h

owned : (S : State) (n : NewEdge) {d : Node} → child_in S n ≡ d → n.subject ≡ d.subject
unfolding child_of
owned S n h = ap (λ (d : Node). d.subject) h

-- the justification of an edge with a new child
pub bring-justified : (S : State) (n : NewEdge) → n.parent < length S.nodes → Joined S.nodes S.edges
    → justified_for S n.kind n.parent n.expression n.subject ≡ justified S.shown (S.nodes ++ (child_in S n ∷ [])) S.edges (edge_in S n)
unfolding justified_for justified_by justified implied_if implied monitored_if monitored
bring-justified S n l joined =
    let c : Node = child_in S n in
    let p : node_in S.nodes n.parent ≡ node_in (S.nodes ++ (c ∷ [])) n.parent = sym (old S.nodes S.edges joined c n.parent l) in
    let new : c ≡ node_in (S.nodes ++ (c ∷ [])) (length S.nodes) = sym (get_or-append_seam S.nodes c [] blank) in
    let e : n.expression ≡ (node_in (S.nodes ++ (c ∷ [])) (length S.nodes)).expression = given S n new in
    let s : n.subject ≡ (node_in (S.nodes ++ (c ∷ [])) (length S.nodes)).subject = owned S n new in
    (λ i.
    (not (eqb n.kind 1) || from_of S.shown (p i).expression (e i))
    && (not (eqb n.kind 4) || any (monitors S.nodes S.edges (p i).expression (s i) n.parent) S.edges))
    ∙ ap (λ (b : Bool). (not (eqb n.kind 1) || from_of S.shown (node_in (S.nodes ++ (c ∷ [])) n.parent).expression
    (node_in (S.nodes ++ (c ∷ [])) (length S.nodes)).expression) && (not (eqb n.kind 4) || b))
    (monitored-same S.nodes S.edges joined c _ _ n.parent)
