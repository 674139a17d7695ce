-- What is legal at one end is legal at the other. Assumes nothing.
use Rattle.std.specs.Prelude.{ℕ, ◌<◌, ◌≡◌, Bool, List, ◌∷◌, length}
use Rattle.std.proofs.Common.{arith, sym, ◌∙◌, subst, eqb-true}
use Rattle.std.proofs.Math.Path.{refl, ap}
use Rattle.std.proofs.Math.Bool.{true, false, not, cond}
use Rattle.std.proofs.lemmas.Bool.{eqb-false}
use Rattle.std.proofs.Math.Dec.{eqb}
use Rattle.expression.specs.declared.Expression.{Expression}
use Rattle.expression.specs.declared.Expression.TheVariants as E
use Rattle.class.specs.declared.Name.{Name}
use Rattle.tables.specs.Tables.{Tables}
use Rattle.graph.specs.declared.Node.{Node}
use Rattle.graph.specs.Graph.{node_in}
use Rattle.graph.specs.Form.{form}
use Rattle.message.specs.declared.Opening.{Opening}
use Rattle.message.specs.declared.Command.{Command}
use Rattle.message.specs.declared.Command.TheVariants.{Show, Open, Bring, Join, Mark, End}
use Rattle.message.specs.Command.{formed_command}
use Rattle.negotiation.specs.declared.Header.{Header}
use Rattle.negotiation.specs.State.{State, with_header, with_node, with_edge, with_shown, with_mark}
use Rattle.negotiation.specs.Ends.{requester, entity_of, other_side}
use Rattle.applied.specs.Step.{primary_of, child_of, stepped}
use Rattle.legal.specs.Number.{formed_as}
use Rattle.legal.specs.Legal.{Monitored, Justifies, ClassesSuit, OpenFirst, NodesStand, FormedAndNew, EdgeJustified, Unprocessed, RoomLeft, Legal}
use Rattle.legal.specs.Updates.{Updates, none, next}
use Rattle.applied.specs.laws.Step.{step-header}
use Rattle.legality.specs.laws.Going.{Going, going-node}
use Rattle.legality.specs.laws.Kept.{step-going}
use Rattle.legality.specs.Mirror.{Mirror, Mirrored}

-- the other end's state is ours with its header
pub mirror-state : (S R : State) → Mirror S R → R ≡ with_header S R.header
unfolding with_header
mirror-state S R m = λ i. record { header = R.header; nodes = m.nodes i; edges = m.edges i; shown = m.shown i }

-- of two sides, one is the other's other
two_cases : (P : ℕ → Type 0) (n : ℕ) → n < 2 → P 0 → P 1 → P n
two_cases P n l z o = go (eqb n 0) refl
  where
    go : (b : Bool) → eqb n 0 ≡ b → P n
    go true e = subst P (sym (eqb-true n 0 e)) z
    go false e = let q : 1 ≡ n = omega (arith, l, eqb-false n 0 e) in subst P q o

opposite : (v a : ℕ) → v < 2 → a < 2 → eqb v (other_side a) ≡ not (eqb v a)
opposite v a l k =
    two_cases (λ (x : ℕ). eqb x (other_side a) ≡ not (eqb x a)) v l
    (two_cases (λ (y : ℕ). eqb 0 (other_side y) ≡ not (eqb 0 y)) a k refl refl)
    (two_cases (λ (y : ℕ). eqb 1 (other_side y) ≡ not (eqb 1 y)) a k refl refl)

module _ (h k : Header) (m : Mirrored h k) where
  -- a verifier is the same entity at both ends
  same-entity : (v : ℕ) → v < 2 → entity_of k v ≡ entity_of h v
  unfolding entity_of
  same-entity v l =
      let e : eqb v k.side ≡ not (eqb v h.side) = ap (eqb v) m.other-side ∙ opposite v h.side l m.side in
      ap (λ (b : Bool). cond b k.own k.other) e ∙ go (eqb v h.side)
    where
      go : (b : Bool) → cond (not b) k.own k.other ≡ cond b h.own h.other
      go true = m.other
      go false = m.own

  same-requester : requester k ≡ requester h
  unfolding requester
  same-requester = go (eqb h.side 0) refl m.other-side
    where
      go : (b : Bool) → eqb h.side 0 ≡ b → k.side ≡ cond b 1 0 → cond (eqb k.side 0) k.other k.own ≡ cond b h.other h.own
      go true e q = ap (λ (v : ℕ). cond (eqb v 0) k.other k.own) q ∙ m.own
      go false e q = ap (λ (v : ℕ). cond (eqb v 0) k.other k.own) q ∙ m.other

  -- a command leads both ends on alike
  step-mirror : (S : State) (s : ℕ) (c : Command) → S.header ≡ h → stepped (with_header S k) s c ≡ with_header (stepped S s c) k
  unfolding stepped with_header with_shown with_node with_edge with_mark primary_of
  step-mirror S s (Show c) e = refl
  step-mirror S s (Open o) e =
      let q : requester k ≡ requester S.header = same-requester ∙ ap requester (sym e) in
      λ i. with_node (record { header = k; nodes = S.nodes; edges = S.edges; shown = S.shown })
      (record { expression = E.Role o.role; subject = q i; verifier = 0; state = o.state })
  step-mirror S s (Bring n) e = refl
  step-mirror S s (Join d) e = refl
  step-mirror S s (Mark i) e = refl
  step-mirror S s End e = refl

  module _ (S : State) where
    -- what justifies an edge is the same
    justifies-mirror : {j p b : ℕ} {y : Expression} → Justifies S j p y b → Justifies (with_header S k) j p y b
    unfolding with_header
    justifies-mirror {j} {p} {b} {y} u = record { implied = u.implied; monitored = λ e. again (u.monitored e) }
      where
        again : Monitored S (node_in S.nodes p).expression b p → Monitored (with_header S k) (node_in S.nodes p).expression b p
        again w =
            record {
              goal = w.goal;
              monitor = w.monitor;
              solution = w.solution;
              solving = w.solving;
              first = w.first;
              second = w.second;
              linked = w.linked;
              role = w.role;
              satisfied = w.satisfied;
            }

    -- the mediator's open
    pub open-mirror : (ns : List Name) (s : ℕ) (o : Opening) → Legal ns s S (Open o) → Legal ns s (with_header S k) (Open o)
    unfolding ClassesSuit OpenFirst NodesStand FormedAndNew EdgeJustified Unprocessed RoomLeft with_header
    open-mirror ns s o l =
        record { classes = tt; open-first = l.open-first; nodes = tt; form = tt; justified = tt; unprocessed = tt; room = tt }

    -- the rules that look at the graph and the credentials alone
    abbrev Apart : State → ℕ → Command → Type 0
    Apart R s c = OpenFirst R c × NodesStand R c × EdgeJustified R c × Unprocessed s R c × RoomLeft R c

    apart-mirror : (s : ℕ) (c : Command) → Apart S s c → Apart (with_header S k) s c
    unfolding OpenFirst NodesStand EdgeJustified Unprocessed RoomLeft with_header
    apart-mirror s (Show c) p = p
    apart-mirror s (Open o) p = p
    apart-mirror s (Bring n) p = (p.0, p.1, justifies-mirror p.2, p.3, p.4)
    apart-mirror s (Join d) p = (p.0, p.1, justifies-mirror p.2, p.3, p.4)
    apart-mirror s (Mark i) p = p
    apart-mirror s End p = p

    verifier-mirror : (T : Tables) → Going T S → S.header ≡ h → (i : ℕ) → i < length S.nodes
        → entity_of k (node_in S.nodes i).verifier ≡ entity_of S.header (node_in S.nodes i).verifier
    verifier-mirror T g e i l =
        let v : ℕ = (node_in S.nodes i).verifier in
        same-entity v (going-node T S g i l).verifier ∙ ap (λ (x : Header). entity_of x v) (sym e)

    -- the one that looks at the header: the form of an edge, whose parent has the same verifier
    form-mirror : (T : Tables) (c : Command) → Going T S → S.header ≡ h → NodesStand S c → FormedAndNew S c → FormedAndNew (with_header S k) c
    unfolding NodesStand FormedAndNew with_header formed_as
    form-mirror T (Show c) g e l f = f
    form-mirror T (Open o) g e l f = tt
    form-mirror T (Bring n) g e l f =
        let p : Node = node_in S.nodes n.parent in
        (ap (λ (v : ℕ). form n.kind v p (child_of p n)) (verifier-mirror T g e n.parent l) ∙ f.0, f.1)
    form-mirror T (Join d) g e l f =
        let p : Node = node_in S.nodes d.parent in
        (ap (λ (v : ℕ). form d.kind v p (node_in S.nodes d.child)) (verifier-mirror T g e d.parent l.0) ∙ f.0, f.1, f.2)
    form-mirror T (Mark i) g e l f = tt
    form-mirror T End g e l f = tt

    -- every command, where nodes stand
    legal-mirror : (T : Tables) (s : ℕ) (c : Command) → Going T S → S.header ≡ h → Legal T.names s S c → Legal T.names s (with_header S k) c
    legal-mirror T s c g e l =
        let p = apart-mirror s c (l.open-first, l.nodes, l.justified, l.unprocessed, l.room) in
        record {
          classes = l.classes;
          open-first = p.0;
          nodes = p.1;
          form = form-mirror T c g e l.nodes l.form;
          justified = p.2;
          unprocessed = p.3;
          room = p.4;
        }

  -- legal commands one after another, where nodes stand
  pub updates-mirror : (T : Tables) {s : ℕ} {S U : State} {cs : List Command} → Going T S → S.header ≡ h → Updates T.names s S cs U
      → Updates T.names s (with_header S k) cs (with_header U k)
  updates-mirror T g e none = none
  updates-mirror T {s = s} {U = U} g e (next {S = S} {c = c} {cs = cs} q f l u) =
      next {c = c} q f (legal-mirror S T s c g e l)
      (subst (λ (R : State). Updates T.names s R cs (with_header U k)) (sym (step-mirror S s c e))
      (updates-mirror T (step-going T s S c g f l) (step-header S s c ∙ e) u))

  -- the mediator's open, and the legal commands behind it
  pub opened-mirror : (T : Tables) (s : ℕ) (S : State) (o : Opening) {U : State} {cs : List Command} → S.header ≡ h → formed_command (Open o) ≡ true
      → Legal T.names s S (Open o) → Going T (stepped S s (Open o)) → Updates T.names s (stepped S s (Open o)) cs U
      → Updates T.names s (with_header S k) (Open o ∷ cs) (with_header U k)
  opened-mirror T s S o {U} {cs} e f l g u =
      next {c = Open o} refl f (open-mirror S T.names s o l)
      (subst (λ (R : State). Updates T.names s R cs (with_header U k)) (sym (step-mirror S s (Open o) e))
      (updates-mirror T g (step-header S s (Open o) ∙ e) u))
