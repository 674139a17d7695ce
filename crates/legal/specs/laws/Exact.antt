-- The legal commands are exactly those that are not refused. Assumes nothing.
use Rattle.std.specs.Prelude.{ℕ, ◌<◌, ◌≡◌, refl, ◌↔◌, cond, ◌&&◌, ◌||◌, ltb, length}
use Rattle.std.proofs.Common.{arith, sym, ◌∙◌, subst, ⊎_elim}
use Rattle.std.proofs.Math.Path.{ap}
use Rattle.std.proofs.Math.Bool.{Bool, true, false, not}
use mathlib.Core.List.{List, Memᴰ}
use borrow.Author.Tests.{eq-eqb, ne_eqb, eqb-true, eqb-false, lt-ltb, ltb-true, lt-leb, leb-false, not-false}
use Rattle.std.proofs.Math.Dec.{eqb, leb}
use Rattle.numbers.specs.Sizes.{MOST-NODES, MOST-EDGES, MOST-SHOWN}
use Rattle.expression.specs.declared.Role.{Role}
use Rattle.expression.specs.declared.Credential.{Credential}
use Rattle.expression.specs.declared.Expression.{Expression}
use Rattle.expression.specs.declared.Expression.TheVariants as E
use Rattle.expression.specs.Same.{same, same_credential}
use Rattle.expression.specs.laws.Same.{same-eq, eq-same, same_credential-refl, same_credential-eq}
use Rattle.rt0.specs.Lists.{any}
use Rattle.rt0.specs.laws.Lists.{any-find, any_here}
use Rattle.word.specs.laws.Bools.{false-true, and_parts, and_both, or_cases, or_left, or_right, or-neither, not-of}
use Rattle.rt0.specs.From.{role_of}
use Rattle.rt0.specs.Decide.{from? as from_of}
use Rattle.rt0.proofs.laws.Laws.{from-exact}
use Rattle.class.specs.declared.Name.{Name}
use Rattle.class.specs.declared.Typing.{Typing}
use Rattle.class.specs.declared.Typing.TheVariants.{Ill, Any, Class}
use Rattle.class.specs.Names.{class_of}
use Rattle.class.specs.Typing.{type_of, suits, credential_number}
use Rattle.propagation.specs.Flags.{at}
use Rattle.graph.specs.declared.Node.{Node}
use Rattle.graph.specs.declared.Edge.{Edge}
use Rattle.graph.specs.Graph.{node_in}
use Rattle.graph.specs.Find.{is_node, has_edge}
use Rattle.graph.specs.laws.FindExact.{has-exact}
use Rattle.graph.specs.States.{solution_kind, Child}
use Rattle.graph.specs.Propagated.{is_child, satisfied_b}
use Rattle.graph.specs.laws.Propagated.{satisfied-exact}
use Rattle.justification.specs.Justified.{monitor_kind, is_solution_for, solves, solved, monitors, justified}
use Rattle.message.specs.declared.NewEdge.{NewEdge}
use Rattle.message.specs.declared.Command.{Command}
use Rattle.message.specs.declared.Command.TheVariants.{Show, Open, Bring, Join, Mark, End}
use Rattle.negotiation.specs.State.{State}
use Rattle.damage.specs.Records.{is_typed}
use Rattle.rt0.specs.Shown.{is_shown}
use Rattle.graph.specs.Processed.{processed_by}
use Rattle.applied.specs.Step.{parent_in, child_in}
use Rattle.legal.specs.Number.{refuse, first, is_fresh, is_absent, formed_as, show_number, open_number, mark_number, end_number, join_wrong, justified_by}
use Rattle.legal.specs.Number.{justified_for, join_number, type_number, bring_wrong, bring_number, justified_in, legal_by, legal_number}
use Rattle.legal.specs.laws.Number.{passes}
use Rattle.legal.specs.laws.Edge.{join-justified}
use Rattle.legal.specs.Legal.{Monitored, Justifies, ClassesSuit, OpenFirst, NodesStand, FormedAndNew, EdgeJustified, Unprocessed}
use Rattle.legal.specs.Legal.{RoomLeft, Legal, Illegal, class-rule, opening, no_node, present, unjustified, processed, full}
use Rattle.numbers.specs.Refusals.{CLASS, OPENING, ABSENT, PRESENT, UNJUSTIFIED, PROCESSED, FULL}

-- Tests

or-none : (a b : Bool) → a ≡ false → b ≡ false → (a || b) ≡ false
or-none a b h k = λ i. h i || k i

-- a test holds of no element
module _ {A : Type 0} (f : A → Bool) (l : List A) where
  any-not : any f l ≡ false → {x : A} → Memᴰ x l → f x ≡ true → ⊥
  any-not h m e = false-true (sym h ∙ any_here f m e)

  not-any : ((x : A) → Memᴰ x l → f x ≡ true → ⊥) → any f l ≡ false
  not-any h = not-of (any f l) (λ e. let r = any-find f l e in h r.0 r.1 r.2)

-- a test that is asked of one kind only
module _ (k j : ℕ) (b : Bool) where
  if-kind : (not (eqb k j) || b) ≡ true → k ≡ j → b ≡ true
  if-kind h e = ⊎_elim (λ z. absurd (false-true (sym (ap not (eq-eqb k j e)) ∙ z))) (λ z. z) (or_cases (not (eqb k j)) b h)

  kind-if : (k ≡ j → b ≡ true) → (not (eqb k j) || b) ≡ true
  kind-if h = go (eqb k j) refl
    where
      go : (a : Bool) → eqb k j ≡ a → (not (eqb k j) || b) ≡ true
      go true e = or_right (not (eqb k j)) b (h (eqb-true k j e))
      go false e = or_left (not (eqb k j)) b (ap not e)

-- a node, an edge and a credential are there

module _ (S : State) where
  some_of : is_fresh S ≡ false → 0 < length S.nodes
  unfolding is_fresh
  some_of h = omega (arith, eqb-false (length S.nodes) 0 h)

  of_some : 0 < length S.nodes → is_fresh S ≡ false
  unfolding is_fresh
  of_some h = ne_eqb (length S.nodes) 0 (λ z. omega arith)

  none_of : not (is_fresh S) ≡ false → length S.nodes ≡ 0
  unfolding is_fresh
  none_of h = eqb-true (length S.nodes) 0 (not-false (eqb (length S.nodes) 0) h)

  of_none : length S.nodes ≡ 0 → not (is_fresh S) ≡ false
  unfolding is_fresh
  of_none h = ap not (eq-eqb (length S.nodes) 0 h)

  stands_of : (i : ℕ) → is_absent S i ≡ false → i < length S.nodes
  unfolding is_absent
  stands_of i h = leb-false (length S.nodes) i h

  of-stands : (i : ℕ) → i < length S.nodes → is_absent S i ≡ false
  unfolding is_absent
  of-stands i h = lt-leb (length S.nodes) i h

-- a credential is among those shown exactly where the test says so
module _ (C : List Credential) (c : Credential) where
  not-shown-of : is_shown C c ≡ false → Memᴰ c C → ⊥
  unfolding is_shown
  not-shown-of h m = any-not (λ d. same_credential d c) C h m (same_credential-refl c)

  of-not-shown : (Memᴰ c C → ⊥) → is_shown C c ≡ false
  unfolding is_shown
  of-not-shown h = not-any (λ d. same_credential d c) C (λ d m e. h (subst (λ (x : Credential). Memᴰ x C) (same_credential-eq d c e) m))

module _ (es : List Edge) (e : Edge) where
  not-joined-of : has_edge es e ≡ false → Memᴰ e es → ⊥
  not-joined-of h m = false-true (sym h ∙ (has-exact es e).1 m)

  of-not-joined : (Memᴰ e es → ⊥) → has_edge es e ≡ false
  of-not-joined h = go (has_edge es e) refl
    where
      go : (b : Bool) → has_edge es e ≡ b → has_edge es e ≡ false
      go true q = absurd (h ((has-exact es e).0 q))
      go false q = q

-- no node has this expression, verifier and subject
module _ (xs : List Node) (y : Expression) (v b : ℕ) where
  abbrev NoNode : Type 0
  NoNode = (x : Node) → Memᴰ x xs → x.expression ≡ y → x.verifier ≡ v → x.subject ≡ b → ⊥

  no-node-of : any (is_node y v b) xs ≡ false → NoNode
  no-node-of h x m e f g =
      any-not (is_node y v b) xs h m
      (and_both (eqb x.verifier v && eqb x.subject b) (same x.expression y)
      (and_both (eqb x.verifier v) (eqb x.subject b) (eq-eqb x.verifier v f) (eq-eqb x.subject b g)) (eq-same x.expression y e))

  of-no-node : NoNode → any (is_node y v b) xs ≡ false
  of-no-node h =
      not-any (is_node y v b) xs
      (λ x m e.
      let p = and_parts (eqb x.verifier v && eqb x.subject b) (same x.expression y) e in
      let q = and_parts (eqb x.verifier v) (eqb x.subject b) p.0 in
      h x m (same-eq x.expression y p.1) (eqb-true x.verifier v q.0) (eqb-true x.subject b q.1))

-- Justification

-- A.r1.r2 and B.r2
solution-of : (x : Expression) (b : ℕ) (y : Expression) → is_solution_for x b y ≡ true → (a : Role) × (r : ℕ) × (x ≡ E.Linked a r) × (y ≡ E.Role (role_of b r))
solution-of (E.Entity a) b y h = absurd (false-true h)
solution-of (E.Role a) b y h = absurd (false-true h)
solution-of (E.Linked a r) b y h = (a, r, refl, same-eq y (E.Role (role_of b r)) h)
solution-of (E.Intersection p) b y h = absurd (false-true h)
solution-of (E.Goal r) b y h = absurd (false-true h)

of-solution : (x : Expression) (b : ℕ) (y : Expression) (a : Role) (r : ℕ) → x ≡ E.Linked a r → y ≡ E.Role (role_of b r) → is_solution_for x b y ≡ true
of-solution x b y a r h k = ap (λ (z : Expression). is_solution_for z b y) h ∙ eq-same y (E.Role (role_of b r)) k

module _ (xs : List Node) (es : List Edge) (t : ℕ → Bool) (i : ℕ) where
  child-of : (e : Edge) → Memᴰ e es → is_child xs es t i e ≡ true → Child xs es t i e.child
  child-of e m h =
      let p = and_parts (t e.kind && eqb e.parent i) (ltb e.child (length xs)) h in
      let q = and_parts (t e.kind) (eqb e.parent i) p.0 in
      record {
        kind = e.kind;
        passes = q.0;
        edge = subst (λ (n : ℕ). Memᴰ (record { kind = e.kind; parent = n; child = e.child }) es) (eqb-true e.parent i q.1) m;
        inside = ltb-true e.child (length xs) p.1;
      }

  of-child : (c : ℕ) (k : Child xs es t i c) → is_child xs es t i (record { kind = k.kind; parent = i; child = c }) ≡ true
  of-child c k =
      and_both (t k.kind && eqb i i) (ltb c (length xs)) (and_both (t k.kind) (eqb i i) k.passes (eq-eqb i i refl)) (lt-ltb c (length xs) k.inside)

module _ (S : State) (x : Expression) (b p : ℕ) where
  monitored-of : any (monitors S.nodes S.edges x b p) S.edges ≡ true → Monitored S x b p
  unfolding monitors solved solves
  monitored-of h =
      let m = any-find (monitors S.nodes S.edges x b p) S.edges h in
      let d : Edge = m.0 in
      let u = and_parts (is_child S.nodes S.edges monitor_kind p d) (solved S.nodes S.edges x b d.child) m.2 in
      let n = any-find (solves S.nodes S.edges x b d.child) S.edges u.1 in
      let f : Edge = n.0 in
      let y : Expression = (node_in S.nodes f.child).expression in
      let v = and_parts (is_child S.nodes S.edges solution_kind d.child f && is_solution_for x b y)
      (at (satisfied_b S.nodes S.edges) f.child) n.2 in
      let w = and_parts (is_child S.nodes S.edges solution_kind d.child f) (is_solution_for x b y) v.0 in
      let z = solution-of x b y w.1 in
      record {
        goal = d.child;
        monitor = child-of S.nodes S.edges monitor_kind p d m.1 u.0;
        solution = f.child;
        solving = child-of S.nodes S.edges solution_kind d.child f n.1 w.0;
        first = z.0;
        second = z.1;
        linked = z.2;
        role = z.3;
        satisfied = (satisfied-exact S.nodes S.edges f.child).0 v.1;
      }

  of-monitored : Monitored S x b p → any (monitors S.nodes S.edges x b p) S.edges ≡ true
  unfolding monitors solved solves
  of-monitored m =
      let d : Edge = record { kind = m.monitor.kind; parent = p; child = m.goal } in
      let f : Edge = record { kind = m.solving.kind; parent = m.goal; child = m.solution } in
      let y : Expression = (node_in S.nodes m.solution).expression in
      any_here (monitors S.nodes S.edges x b p) m.monitor.edge
      (and_both (is_child S.nodes S.edges monitor_kind p d) (solved S.nodes S.edges x b m.goal)
      (of-child S.nodes S.edges monitor_kind p m.goal m.monitor)
      (any_here (solves S.nodes S.edges x b m.goal) m.solving.edge
      (and_both (is_child S.nodes S.edges solution_kind m.goal f && is_solution_for x b y) (at (satisfied_b S.nodes S.edges) m.solution)
      (and_both (is_child S.nodes S.edges solution_kind m.goal f) (is_solution_for x b y)
      (of-child S.nodes S.edges solution_kind m.goal m.solution m.solving) (of-solution x b y m.first m.second m.linked m.role))
      ((satisfied-exact S.nodes S.edges m.solution).1 m.satisfied))))

module _ (S : State) (k p : ℕ) (y : Expression) (b : ℕ) where
  -- an edge is justified exactly where the test says so
  pub justifies-exactly : (justified_for S k p y b ≡ true) ↔ Justifies S k p y b
  unfolding justified_for justified_by
  justifies-exactly =
      let x : Expression = (node_in S.nodes p).expression in
      let i : Bool = from_of S.shown x y in
      let m : Bool = any (monitors S.nodes S.edges x b p) S.edges in (
        λ h. let q = and_parts (not (eqb k 1) || i) (not (eqb k 4) || m) h in
            record { implied = λ e. (from-exact S.shown x y).0 (if-kind k 1 i q.0 e); monitored = λ e. monitored-of S x b p (if-kind k 4 m q.1 e) },
        λ j. and_both (not (eqb k 1) || i) (not (eqb k 4) || m) (kind-if k 1 i (λ e. (from-exact S.shown x y).1 (j.implied e)))
            (kind-if k 4 m (λ e. of-monitored S x b p (j.monitored e))),
      )

-- so is one between nodes that stand, over the credentials and edges before it
pub justified-exactly : (S : State) (e : Edge)
    → (justified S.shown S.nodes S.edges e ≡ true)
    ↔ Justifies S e.kind e.parent (node_in S.nodes e.child).expression (node_in S.nodes e.child).subject
justified-exactly S e =
    let q : Node = node_in S.nodes e.child in
    let same_test : justified_for S e.kind e.parent q.expression q.subject ≡ justified S.shown S.nodes S.edges e =
    join-justified S e refl in
    let exact = justifies-exactly S e.kind e.parent q.expression q.subject in
    (λ h. exact.0 (same_test ∙ h), λ j. sym same_test ∙ exact.1 j)

-- The rules, one by one

-- a rule with its test
record Decided (P : Type 0) : Type 0 where
  broken : Bool
  holds : broken ≡ false → P
  fails : broken ≡ true → P → ⊥

-- a rule that asks nothing of a command
nothing : Decided (Unit {0})
nothing = record { broken = false; holds = λ e. tt; fails = λ e p. false-true e }

-- a rule whose test is exact
tested : {P : Type 0} (b : Bool) → (b ≡ false → P) → (P → b ≡ false) → Decided P
tested b h k = record { broken = b; holds = h; fails = λ e p. false-true (sym (k p) ∙ e) }

module _ {P : Type 0} (d : Decided P) where
  keeps : P → d.broken ≡ false
  keeps p = go d.broken refl
    where
      go : (b : Bool) → d.broken ≡ b → d.broken ≡ false
      go true e = absurd (d.fails e p)
      go false e = e

  breaks : (P → ⊥) → d.broken ≡ true
  breaks n = go d.broken refl
    where
      go : (b : Bool) → d.broken ≡ b → d.broken ≡ true
      go true e = e
      go false e = absurd (n (d.holds e))

module _ (ns : List Name) where
  classes-decided : (c : Command) → Decided (ClassesSuit ns c)
  unfolding ClassesSuit
  classes-decided (Show c) = let b : Bool = suits (type_of ns c.body) (class_of ns c.head.name) in tested (not b) (λ e. not-false b e) (λ p. ap not p)
  classes-decided (Open o) = nothing
  classes-decided (Bring n) = let b : Bool = is_typed (type_of ns n.expression) in tested (not b) (λ e. not-false b e) (λ p. ap not p)
  classes-decided (Join e) = nothing
  classes-decided (Mark i) = nothing
  classes-decided End = nothing

module _ (S : State) where
  some-decided : Decided (0 < length S.nodes)
  some-decided = tested (is_fresh S) (some_of S) (of_some S)

  open-decided : (c : Command) → Decided (OpenFirst S c)
  unfolding OpenFirst
  open-decided (Show c) = some-decided
  open-decided (Open o) = tested (not (is_fresh S)) (none_of S) (of_none S)
  open-decided (Bring n) = some-decided
  open-decided (Join e) = some-decided
  open-decided (Mark i) = some-decided
  open-decided End = some-decided

  nodes-decided : (c : Command) → Decided (NodesStand S c)
  unfolding NodesStand
  nodes-decided (Show c) = nothing
  nodes-decided (Open o) = nothing
  nodes-decided (Bring n) = tested (is_absent S n.parent) (stands_of S n.parent) (of-stands S n.parent)
  nodes-decided (Join e) =
      let u : Bool = is_absent S e.parent in
      let v : Bool = is_absent S e.child in
      tested (u || v) (λ h. let w = or-neither u v h in (stands_of S e.parent w.0, stands_of S e.child w.1))
      (λ p. or-none u v (of-stands S e.parent p.0) (of-stands S e.child p.1))
  nodes-decided (Mark i) = tested (is_absent S i) (stands_of S i) (of-stands S i)
  nodes-decided End = nothing

  new-decided : (n : NewEdge) → Decided (FormedAndNew S (Bring n))
  unfolding FormedAndNew bring_wrong
  new-decided n =
      let f : Bool = formed_as S.header n.kind (parent_in S n) (child_in S n) in
      let g : Bool = any (is_node n.expression (child_in S n).verifier n.subject) S.nodes in
      tested (bring_wrong S n)
      (λ h. let w = or-neither (not f) g h in (not-false f w.0, no-node-of S.nodes n.expression (child_in S n).verifier n.subject w.1))
      (λ p. or-none (not f) g (ap not p.0) (of-no-node S.nodes n.expression (child_in S n).verifier n.subject p.1))

  old-decided : (e : Edge) → Decided (FormedAndNew S (Join e))
  unfolding FormedAndNew join_wrong
  old-decided e =
      let f : Bool = formed_as S.header e.kind (node_in S.nodes e.parent) (node_in S.nodes e.child) in
      let o : Bool = eqb e.parent e.child in
      let g : Bool = has_edge S.edges e in
      tested (join_wrong S e)
      (λ h.
      let w = or-neither (not f) (o || g) h in
      let y = or-neither o g w.1 in
      (not-false f w.0, eqb-false e.parent e.child y.0, not-joined-of S.edges e y.1))
      (λ p. or-none (not f) (o || g) (ap not p.0) (or-none o g (ne_eqb e.parent e.child p.1) (of-not-joined S.edges e p.2)))

  form-decided : (c : Command) → Decided (FormedAndNew S c)
  unfolding FormedAndNew
  form-decided (Show c) = tested (is_shown S.shown c) (not-shown-of S.shown c) (of-not-shown S.shown c)
  form-decided (Open o) = nothing
  form-decided (Bring n) = new-decided n
  form-decided (Join e) = old-decided e
  form-decided (Mark i) = nothing
  form-decided End = nothing

  justified-decided : (c : Command) → Decided (EdgeJustified S c)
  unfolding EdgeJustified
  justified-decided (Show c) = nothing
  justified-decided (Open o) = nothing
  justified-decided (Bring n) =
      let j : Bool = justified_for S n.kind n.parent n.expression n.subject in
      let exact = justifies-exactly S n.kind n.parent n.expression n.subject in
      tested (not j) (λ h. exact.0 (not-false j h)) (λ p. ap not (exact.1 p))
  justified-decided (Join e) =
      let j : Bool = justified S.shown S.nodes S.edges e in
      tested (not j) (λ h. (justified-exactly S e).0 (not-false j h)) (λ p. ap not ((justified-exactly S e).1 p))
  justified-decided (Mark i) = nothing
  justified-decided End = nothing

  processed-decided : (s : ℕ) (c : Command) → Decided (Unprocessed s S c)
  unfolding Unprocessed
  processed-decided s (Show c) = nothing
  processed-decided s (Open o) = nothing
  processed-decided s (Bring n) = tested (processed_by s (parent_in S n)) (λ h. h) (λ p. p)
  processed-decided s (Join e) = tested (processed_by s (node_in S.nodes e.parent)) (λ h. h) (λ p. p)
  processed-decided s (Mark i) = tested (processed_by s (node_in S.nodes i)) (λ h. h) (λ p. p)
  processed-decided s End = nothing

  room-decided : (c : Command) → Decided (RoomLeft S c)
  unfolding RoomLeft
  room-decided (Show c) = tested (leb MOST-SHOWN (length S.shown)) (leb-false MOST-SHOWN (length S.shown)) (lt-leb MOST-SHOWN (length S.shown))
  room-decided (Open o) = nothing
  room-decided (Bring n) =
      let u : Bool = leb MOST-NODES (length S.nodes) in
      let v : Bool = leb MOST-EDGES (length S.edges) in
      tested (u || v)
      (λ h. let w = or-neither u v h in (leb-false MOST-NODES (length S.nodes) w.0, leb-false MOST-EDGES (length S.edges) w.1))
      (λ p. or-none u v (lt-leb MOST-NODES (length S.nodes) p.0) (lt-leb MOST-EDGES (length S.edges) p.1))
  room-decided (Join e) = tested (leb MOST-EDGES (length S.edges)) (leb-false MOST-EDGES (length S.edges)) (lt-leb MOST-EDGES (length S.edges))
  room-decided (Mark i) = nothing
  room-decided End = nothing

-- The number, by the rules in order

-- the first rule that is broken
abbrev first_broken : Bool → Bool → Bool → Bool → Bool → Bool → Bool → ℕ
first_broken b c d e f g h =
    refuse b CLASS (refuse c OPENING (refuse d ABSENT (refuse e PRESENT (refuse f UNJUSTIFIED (refuse g PROCESSED (refuse h FULL 0))))))

-- a command that is refused with k, or legal where k is zero
data Judged (ns : List Name) (s : ℕ) (S : State) (c : Command) : ℕ → Type 0 where
  legal : Legal ns s S c → Judged ns s S c 0
  illegal : {k : ℕ} → Illegal ns s S c k → Judged ns s S c k

module _ (ns : List Name) (s : ℕ) (S : State) (c : Command) where
  -- the rules in order
  abbrev class_rule : Decided (ClassesSuit ns c)
  class_rule = classes-decided ns c

  abbrev open_rule : Decided (OpenFirst S c)
  open_rule = open-decided S c

  abbrev node_rule : Decided (NodesStand S c)
  node_rule = nodes-decided S c

  abbrev form_rule : Decided (FormedAndNew S c)
  form_rule = form-decided S c

  abbrev edge_rule : Decided (EdgeJustified S c)
  edge_rule = justified-decided S c

  abbrev processed_rule : Decided (Unprocessed s S c)
  processed_rule = processed-decided S s c

  abbrev room_rule : Decided (RoomLeft S c)
  room_rule = room-decided S c

  abbrev by_rules : ℕ
  by_rules =
      first_broken class_rule.broken open_rule.broken node_rule.broken form_rule.broken edge_rule.broken processed_rule.broken room_rule.broken

  judged : (b d e f g h r : Bool) → class_rule.broken ≡ b → open_rule.broken ≡ d → node_rule.broken ≡ e → form_rule.broken ≡ f → edge_rule.broken ≡ g
      → processed_rule.broken ≡ h → room_rule.broken ≡ r → Judged ns s S c (first_broken b d e f g h r)
  unfolding refuse
  judged true d e f g h r q1 q2 q3 q4 q5 q6 q7 = illegal (class-rule (class_rule.fails q1))
  judged false true e f g h r q1 q2 q3 q4 q5 q6 q7 = illegal (opening (class_rule.holds q1) (open_rule.fails q2))
  judged false false true f g h r q1 q2 q3 q4 q5 q6 q7 = illegal (no_node (class_rule.holds q1) (open_rule.holds q2) (node_rule.fails q3))
  judged false false false true g h r q1 q2 q3 q4 q5 q6 q7 =
      illegal (present (class_rule.holds q1) (open_rule.holds q2) (node_rule.holds q3) (form_rule.fails q4))
  judged false false false false true h r q1 q2 q3 q4 q5 q6 q7 =
      illegal (unjustified (class_rule.holds q1) (open_rule.holds q2) (node_rule.holds q3) (form_rule.holds q4) (edge_rule.fails q5))
  judged false false false false false true r q1 q2 q3 q4 q5 q6 q7 =
      illegal
      (processed (class_rule.holds q1) (open_rule.holds q2) (node_rule.holds q3) (form_rule.holds q4) (edge_rule.holds q5) (processed_rule.fails q6))
  judged false false false false false false true q1 q2 q3 q4 q5 q6 q7 =
      illegal
      (full (class_rule.holds q1) (open_rule.holds q2) (node_rule.holds q3) (form_rule.holds q4) (edge_rule.holds q5) (processed_rule.holds q6)
      (room_rule.fails q7))
  judged false false false false false false false q1 q2 q3 q4 q5 q6 q7 =
      legal
      (record {
        classes = class_rule.holds q1;
        open-first = open_rule.holds q2;
        nodes = node_rule.holds q3;
        form = form_rule.holds q4;
        justified = edge_rule.holds q5;
        unprocessed = processed_rule.holds q6;
        room = room_rule.holds q7;
      })

  by-judged : Judged ns s S c by_rules
  by-judged =
      judged class_rule.broken open_rule.broken node_rule.broken form_rule.broken edge_rule.broken processed_rule.broken room_rule.broken
      refl refl refl refl refl refl refl

  legal-none : Legal ns s S c → by_rules ≡ 0
  unfolding refuse
  legal-none l =
      λ i. first_broken (keeps class_rule l.classes i) (keeps open_rule l.open-first i) (keeps node_rule l.nodes i) (keeps form_rule l.form i)
      (keeps edge_rule l.justified i) (keeps processed_rule l.unprocessed i) (keeps room_rule l.room i)

  illegal-number : {k : ℕ} → Illegal ns s S c k → by_rules ≡ k
  unfolding refuse
  illegal-number (class-rule n) =
      λ i. first_broken (breaks class_rule n i) open_rule.broken node_rule.broken form_rule.broken edge_rule.broken processed_rule.broken
      room_rule.broken
  illegal-number (opening b n) =
      λ i. first_broken (keeps class_rule b i) (breaks open_rule n i) node_rule.broken form_rule.broken edge_rule.broken processed_rule.broken
      room_rule.broken
  illegal-number (no_node b d n) =
      λ i. first_broken (keeps class_rule b i) (keeps open_rule d i) (breaks node_rule n i) form_rule.broken edge_rule.broken processed_rule.broken
      room_rule.broken
  illegal-number (present b d e n) =
      λ i. first_broken (keeps class_rule b i) (keeps open_rule d i) (keeps node_rule e i) (breaks form_rule n i) edge_rule.broken processed_rule.broken
      room_rule.broken
  illegal-number (unjustified b d e f n) =
      λ i. first_broken (keeps class_rule b i) (keeps open_rule d i) (keeps node_rule e i) (keeps form_rule f i) (breaks edge_rule n i) processed_rule.broken
      room_rule.broken
  illegal-number (processed b d e f g n) =
      λ i. first_broken (keeps class_rule b i) (keeps open_rule d i) (keeps node_rule e i) (keeps form_rule f i) (keeps edge_rule g i) (breaks processed_rule n i)
      room_rule.broken
  illegal-number (full b d e f g h n) =
      λ i. first_broken (keeps class_rule b i) (keeps open_rule d i) (keeps node_rule e i) (keeps form_rule f i) (keeps edge_rule g i) (keeps processed_rule h i)
      (breaks room_rule n i)

-- The number is that of the rules

-- a credential's class rules, and an expression's
credential-rules : (v : Bool) (rest : ℕ) → first (cond v 0 CLASS) rest ≡ refuse (not v) CLASS rest
unfolding first refuse
credential-rules true rest = refl
credential-rules false rest = refl

type-rules : (t : Typing) (rest : ℕ) → first (type_number t) rest ≡ refuse (not (is_typed t)) CLASS rest
unfolding first refuse
type-rules Ill rest = refl
type-rules Any rest = refl
type-rules (Class a) rest = refl

-- what a number of zero says of them
pub credential-kept : (ns : List Name) (c : Credential) → credential_number ns c ≡ 0 → ClassesSuit ns (Show c)
unfolding credential_number ClassesSuit
credential-kept ns c h = go (suits (type_of ns c.body) (class_of ns c.head.name)) refl h
  where
    go : (b : Bool) → suits (type_of ns c.body) (class_of ns c.head.name) ≡ b → ◌≡◌ {A = ℕ} (cond b 0 CLASS) 0
        → suits (type_of ns c.body) (class_of ns c.head.name) ≡ true
    go true e z = e
    go false e z = absurd (omega (arith, z))

by-rules : (ns : List Name) (s : ℕ) (S : State) (c : Command) → legal_number ns s S c ≡ by_rules ns s S c
unfolding legal_number legal_by justified_in show_number open_number bring_number join_number mark_number end_number credential_number refuse tested nothing
    classes-decided some-decided open-decided nodes-decided new-decided old-decided form-decided justified-decided processed-decided room-decided
by-rules ns s S (Show c) = credential-rules (suits (type_of ns c.body) (class_of ns c.head.name)) _
by-rules ns s S (Open o) = refl
by-rules ns s S (Bring n) = type-rules (type_of ns n.expression) _
by-rules ns s S (Join e) = refl
by-rules ns s S (Mark i) = refl
by-rules ns s S End = refl

-- the numbers of a command that breaks a rule: 5 or 23 to 28, each above 4
pub illegal-range : {ns : List Name} {s : ℕ} {S : State} {c : Command} {k : ℕ} → Illegal ns s S c k → 4 < k
illegal-range (class-rule n) = omega arith
illegal-range (opening b n) = omega arith
illegal-range (no_node b d n) = omega arith
illegal-range (present b d f n) = omega arith
illegal-range (unjustified b d f g n) = omega arith
illegal-range (processed b d f g h n) = omega arith
illegal-range (full b d f g h r n) = omega arith

illegal-some : {ns : List Name} {s : ℕ} {S : State} {c : Command} {k : ℕ} → Illegal ns s S c k → k ≡ 0 → ⊥
illegal-some r e = omega (arith, illegal-range r, e)

module _ (ns : List Name) (s : ℕ) (S : State) (c : Command) where
  legal-judged : (k : ℕ) → Judged ns s S c k → k ≡ 0 → Legal ns s S c
  legal-judged k (legal l) e = l
  legal-judged k (illegal r) e = absurd (illegal-some r e)

  illegal-judged : (k : ℕ) → Judged ns s S c k → (k ≡ 0 → ⊥) → Illegal ns s S c k
  illegal-judged k (legal l) e = absurd (e refl)
  illegal-judged k (illegal r) e = r

  -- a command is legal exactly where it is not refused
  pub legal-exactly : (legal_number ns s S c ≡ 0) ↔ Legal ns s S c
  legal-exactly = (
    λ h. legal-judged (by_rules ns s S c) (by-judged ns s S c) (sym (by-rules ns s S c) ∙ h),
    λ l. by-rules ns s S c ∙ legal-none ns s S c l,
  )

  -- and refused with k exactly where rule k is the first that it breaks
  pub illegal-exactly : (k : ℕ) → ((legal_number ns s S c ≡ k) × (k ≡ 0 → ⊥)) ↔ Illegal ns s S c k
  illegal-exactly k = (
    λ h.
        let e : by_rules ns s S c ≡ k = sym (by-rules ns s S c) ∙ h.0 in
        subst (λ (n : ℕ). Illegal ns s S c n) e (illegal-judged (by_rules ns s S c) (by-judged ns s S c) (λ z. h.1 (sym e ∙ z))),
    λ r. (by-rules ns s S c ∙ illegal-number ns s S c r, illegal-some r),
  )
