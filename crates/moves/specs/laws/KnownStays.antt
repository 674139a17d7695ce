-- Once an Ack target is satisfied, it stays so whatever command carries the negotiation on (document 01, "Two runs"). Assumes nothing.
use Prim.Native.Nat.{ℕ, ◌≤◌, ◌<◌}
use Rattle.std.proofs.Common.{arith, sym, ◌∙◌, ap, ⊎_elim, eqb-true, lt-ltb, ltb-true, leb-true, length-append, length-set, get_or-set_same, get_or-set_other}
use Rattle.std.specs.Prelude.{◌≡◌, refl, Bool, true, false, cond, ◌&&◌, ltb, leb, set}
use mathlib.Core.List.Memᴰ
use mathlib.Core.List.{List, [], ◌∷◌, ◌++◌, Memᴰ}
use Rattle.std.proofs.lemmas.Bool.{eqb-false}
use Rattle.std.specs.Int.Bits.{bit_or}
use Rattle.std.proofs.Math.Dec.{eqb}
use Rattle.std.proofs.Math.ListN.{length, get_or-append}
use Rattle.expression.specs.declared.Role.{Role}
use Rattle.expression.specs.declared.Expression.{Expression}
use Rattle.expression.specs.declared.Expression.TheVariants as E
use Rattle.expression.specs.Same.{same}
use Rattle.word.specs.laws.Bools.{and_parts, and_both}
use Rattle.propagation.specs.Flags.{at}
use Rattle.rt0.specs.laws.Find.{first-at}
use Rattle.graph.specs.declared.Node.{Node}
use Rattle.graph.specs.declared.Edge.{Edge}
use Rattle.graph.specs.Graph.{node_in, blank, in_state}
use Rattle.graph.specs.Form.{is_standard}
use Rattle.graph.specs.States.{Child, FullyProcessed, Satisfied, trivial, standard, intersection}
use Rattle.graph.specs.laws.States.{processed-inside, satisfied-inside}
use Rattle.graph.specs.Propagated.{satisfied_b}
use Rattle.graph.specs.laws.Propagated.{satisfied-exact}
use Rattle.graph.specs.Find.{is_node, find_node}
use Rattle.graph.specs.laws.FindExact as F
use Rattle.message.specs.declared.Command.{Command}
use Rattle.message.specs.declared.Command.TheVariants.{Show, Open, Bring, Join, Mark, End}
use Rattle.tables.specs.Tables.{Tables}
use Rattle.negotiation.specs.declared.Header.{Header}
use Rattle.negotiation.specs.State.{State, within, with_node, with_edge, with_shown, with_mark}
use Rattle.applied.specs.Step.{stepped, primary_of, child_in, edge_in}
use Rattle.graph.specs.Processed.{marked_state}
use Rattle.moves.specs.Known.{is_acknowledged}
use Rattle.moves.specs.laws.Known.{is_disclosed, Disclosed, disclosed-exact}
use Rattle.numbers.specs.Sizes.{MOST-NODES, MOST-EDGES, MOST-SHOWN}

-- Graphs

-- a node but for its state
pub record Alike (m n : Node) : Type 0 where
  pub expression : m.expression ≡ n.expression
  pub subject : m.subject ≡ n.subject
  pub verifier : m.verifier ≡ n.verifier

-- Nodes and edges stay, and what is fully processed stays so: less is asked than of a graph that grows by legal commands
pub record More (ns : List Node) (es : List Edge) (ns' : List Node) (es' : List Edge) : Type 0 where
  pub more : length ns ≤ length ns'
  pub alike : (i : ℕ) → i < length ns → Alike (node_in ns' i) (node_in ns i)
  pub processed : (i : ℕ) → FullyProcessed ns i → FullyProcessed ns' i
  pub edges : (e : Edge) → Memᴰ e es → Memᴰ e es'

module _ {ns ns' : List Node} {es es' : List Edge} (g : More ns es ns' es') where
  child-more : {t : ℕ → Bool} {i c : ℕ} → Child ns es t i c → Child ns' es' t i c
  child-more k = record { kind = k.kind; passes = k.passes; edge = g.edges _ k.edge; inside = omega (arith, g.more, k.inside) }

  pub satisfied-more : {i : ℕ} → Satisfied ns es i → Satisfied ns' es' i
  satisfied-more (trivial {i} e) = trivial ((g.alike i (satisfied-inside {ns = ns} {es = es} (trivial e))).expression ∙ e)
  satisfied-more (standard {i} s k h) =
      standard (ap is_standard (g.alike i (satisfied-inside (standard s k h))).expression ∙ s) (child-more k) (satisfied-more h)
  satisfied-more (intersection {i} e p f w h) =
      let l : i < length ns = satisfied-inside (intersection e p f w h) in
      intersection ((g.alike i l).expression ∙ e) (g.processed i p) f
      (λ a m. record { child = child-more (w a m).child; role = (g.alike (f a m) (w a m).child.inside).expression ∙ (w a m).role })
      (λ a m. satisfied-more (h a m))

  -- a node that stands is found at the same number: it is the least one
  pub found-more : (x : Expression) (v s : ℕ) → F.Found ns x v s → find_node ns' x v s ≡ find_node ns x v s
  unfolding find_node
  found-more x v s f =
      let k : ℕ = find_node ns x v s in
      let same_test : (i : ℕ) → i < length ns → is_node x v s (node_in ns' i) ≡ is_node x v s (node_in ns i) = λ i l j. eqb ((g.alike i l).verifier j) v
      && eqb ((g.alike i l).subject j) s && same ((g.alike i l).expression j) x in
      first-at (λ i. i) 128 (length ns') {j = k} (record { none = λ i l. same_test i (omega (arith, f.inside, l)) ∙ f.least i l })
      (omega (arith, f.inside, g.more)) (same_test k f.inside ∙ f.here)

-- Commands

alike-eq : {m n : Node} → m ≡ n → Alike m n
alike-eq e = record { expression = ap (λ (x : Node). x.expression) e; subject = ap (λ (x : Node). x.subject) e; verifier = ap (λ (x : Node). x.verifier) e }

pub more_same : (ns : List Node) (es : List Edge) → More ns es ns es
more_same ns es = record { more = omega arith; alike = λ i l. alike-eq refl; processed = λ i p. p; edges = λ e m. m }

pub more-both : {ns ns' ns'' : List Node} {es es' es'' : List Edge} → More ns es ns' es' → More ns' es' ns'' es'' → More ns es ns'' es''
more-both {ns} {ns'} g h =
    let inner : (i : ℕ) → i < length ns → i < length ns' = λ i l. omega (arith, g.more, l) in
    record {
      more = omega (arith, g.more, h.more);
      alike = λ i l. record {
        expression = (h.alike i (inner i l)).expression ∙ (g.alike i l).expression;
        subject = (h.alike i (inner i l)).subject ∙ (g.alike i l).subject;
        verifier = (h.alike i (inner i l)).verifier ∙ (g.alike i l).verifier;
      };
      processed = λ i p. h.processed i (g.processed i p);
      edges = λ e m. h.edges e (g.edges e m);
    }

more-node : (ns : List Node) (es : List Edge) (n : Node) → More ns es (ns ++ (n ∷ [])) es
more-node ns es n =
    let old : (i : ℕ) → i < length ns → node_in (ns ++ (n ∷ [])) i ≡ node_in ns i = λ i l. get_or-append ns (n ∷ []) blank i l in
    record {
      more = omega (arith, length-append ns (n ∷ []));
      alike = λ i l. alike-eq (old i l);
      processed = λ i p. ap (λ (x : Node). x.state) (old i (processed-inside ns i p)) ∙ p;
      edges = λ e m. m;
    }

more-edge : (ns : List Node) (es : List Edge) (e : Edge) → More ns es ns (es ++ (e ∷ []))
more-edge ns es e = record { more = omega arith; alike = λ i l. alike-eq refl; processed = λ i p. p; edges = λ d m. Memᴰ.append_left (e ∷ []) m }

more-mark : (ns : List Node) (es : List Edge) (i s : ℕ) → (FullyProcessed ns i → s ≡ 3) → More ns es (set ns i (in_state s (node_in ns i))) es
more-mark ns es i s full =
    record {
      more = omega (arith, length-set ns i (in_state s (node_in ns i)));
      alike = λ k l. like k l (eqb k i) refl;
      processed = λ k p. done k p (eqb k i) refl;
      edges = λ e m. m;
    }
  where
    here : (k : ℕ) → k < length ns → k ≡ i → node_in (set ns i (in_state s (node_in ns i))) k ≡ in_state s (node_in ns k)
    here k l e =
        ap (node_in (set ns i (in_state s (node_in ns i)))) e ∙ get_or-set_same ns i (in_state s (node_in ns i)) blank (omega arith)
        ∙ ap (λ (n : ℕ). in_state s (node_in ns n)) (sym e)

    other : (k : ℕ) → (k ≡ i → ⊥) → node_in (set ns i (in_state s (node_in ns i))) k ≡ node_in ns k
    other k o = get_or-set_other ns i k (in_state s (node_in ns i)) blank o

    like : (k : ℕ) → k < length ns → (b : Bool) → eqb k i ≡ b → Alike (node_in (set ns i (in_state s (node_in ns i))) k) (node_in ns k)
    like k l true q =
        let e = here k l (eqb-true k i q) in record {
          expression = ap (λ (x : Node). x.expression) e;
          subject = ap (λ (x : Node). x.subject) e;
          verifier = ap (λ (x : Node). x.verifier) e;
        }
    like k l false q = alike-eq (other k (eqb-false k i q))

    done : (k : ℕ) → FullyProcessed ns k → (b : Bool) → eqb k i ≡ b → FullyProcessed (set ns i (in_state s (node_in ns i))) k
    done k p true q =
        ap (λ (x : Node). x.state) (here k (processed-inside ns k p) (eqb-true k i q)) ∙ full (ap (λ (n : ℕ). (node_in ns n).state) (sym (eqb-true k i q)) ∙ p)
    done k p false q = ap (λ (x : Node). x.state) (other k (eqb-false k i q)) ∙ p

-- "once a node is fully processed, it remains so thereafter": a bit set in 3
with-bit : (b : Bool) → cond b (bit_or 3 1) (bit_or 3 2) ≡ 3
with-bit true = refl
with-bit false = refl

marked-full : (s : ℕ) (x : Node) → x.state ≡ 3 → marked_state s x ≡ 3
unfolding marked_state
marked-full s x p = ap (λ (n : ℕ). cond (eqb x.verifier s) (bit_or n 1) (bit_or n 2)) p ∙ with-bit (eqb x.verifier s)

-- the graph of a state grows
abbrev pub Onward : State → State → Type 0
Onward S R = More S.nodes S.edges R.nodes R.edges

pub step-onward : (S : State) (s : ℕ) (c : Command) → Onward S (stepped S s c)
unfolding stepped with_node with_edge with_shown with_mark
step-onward S s (Show c) = more_same S.nodes S.edges
step-onward S s (Open o) = more-node S.nodes S.edges (primary_of S.header o)
step-onward S s (Bring n) = more-both (more-node S.nodes S.edges (child_in S n)) (more-edge (S.nodes ++ (child_in S n ∷ [])) S.edges (edge_in S n))
step-onward S s (Join e) = more-edge S.nodes S.edges e
step-onward S s (Mark i) = more-mark S.nodes S.edges i (marked_state s (node_in S.nodes i)) (λ p. marked-full s (node_in S.nodes i) p)
step-onward S s End = more_same S.nodes S.edges

pub step-header : (S : State) (s : ℕ) (c : Command) → (stepped S s c).header ≡ S.header
unfolding stepped with_node with_edge with_shown with_mark
step-header S s (Show c) = refl
step-header S s (Open o) = refl
step-header S s (Bring n) = refl
step-header S s (Join e) = refl
step-header S s (Mark i) = refl
step-header S s End = refl

-- Ack targets

few-nodes : (S : State) → within S ≡ true → length S.nodes ≤ MOST-NODES
unfolding within
few-nodes S w =
    leb-true (length S.nodes) MOST-NODES (and_parts (leb (length S.nodes) MOST-NODES) (leb (length S.edges) MOST-EDGES)
    (and_parts (leb (length S.nodes) MOST-NODES && leb (length S.edges) MOST-EDGES) (leb (length S.shown) MOST-SHOWN) w).0).0

-- the number at which an Ack target is looked for
abbrev target : State → Role → ℕ
target S r = find_node S.nodes (E.Role r) S.header.side S.header.other

found_target : (S : State) (r : Role) → length S.nodes ≤ MOST-NODES → target S r < length S.nodes
    → F.Found S.nodes (E.Role r) S.header.side S.header.other
found_target S r few l =
    ⊎_elim (λ a. absurd (omega (arith, a.number, few, l))) (λ f. f) (F.find_cases S.nodes (E.Role r) S.header.side S.header.other)

same_target : (S R : State) (r : Role) → R.header ≡ S.header → Onward S R → F.Found S.nodes (E.Role r) S.header.side S.header.other
    → target R r ≡ target S r
same_target S R r h g f =
    ap (λ (k : Header). find_node R.nodes (E.Role r) k.side k.other) h ∙ found-more g (E.Role r) S.header.side S.header.other f

ack-onward : (S R : State) (r : Role) → R.header ≡ S.header → Onward S R → length S.nodes ≤ MOST-NODES → is_acknowledged S r ≡ true
    → is_acknowledged R r ≡ true
unfolding is_acknowledged
ack-onward S R r h g few a =
    let p = and_parts (ltb (target S r) (length S.nodes)) (at (satisfied_b S.nodes S.edges) (target S r)) a in
    let l : target S r < length S.nodes = ltb-true (target S r) (length S.nodes) p.0 in
    let e : target R r ≡ target S r = same_target S R r h g (found_target S r few l) in
    let s : at (satisfied_b R.nodes R.edges) (target S r)
    ≡ true = (satisfied-exact R.nodes R.edges (target S r)).1 (satisfied-more g ((satisfied-exact S.nodes S.edges (target S r)).0 p.1)) in
    and_both (ltb (target R r) (length R.nodes)) (at (satisfied_b R.nodes R.edges) (target R r))
    (lt-ltb (target R r) (length R.nodes) (omega (arith, e, l, g.more)))
    (ap (at (satisfied_b R.nodes R.edges)) e ∙ s)

-- in a state within the sizes a satisfied Ack target stays satisfied
pub acknowledged-stays : (S : State) (s : ℕ) (c : Command) (r : Role) → within S ≡ true → is_acknowledged S r ≡ true → is_acknowledged (stepped S s c) r ≡ true
acknowledged-stays S s c r w = ack-onward S (stepped S s c) r (step-header S s c) (step-onward S s c) (few-nodes S w)

-- so does that of a differing role
pub disclosed-step : (T U : Tables) (S : State) (s : ℕ) (c : Command) → within S ≡ true → is_disclosed T U S ≡ true → is_disclosed T U (stepped S s c) ≡ true
disclosed-step T U S s c w h =
    let o : Disclosed T U S = (disclosed-exact T U S).0 h in
    (disclosed-exact T U (stepped S s c)).1 (record {
      pair = o.pair;
      stands = o.stands;
      differs = o.differs;
      acknowledged = acknowledged-stays S s c
          o.pair.other w o.acknowledged;
    })
