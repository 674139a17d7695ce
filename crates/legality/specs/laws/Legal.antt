-- Every command of our next move is a legal update (document 01, "The reply"). Assumes nothing.
use Prim.Native.Nat.{ℕ, suc, ◌+◌, ◌<◌}
use Rattle.std.proofs.Common.{arith, ◌∙◌, ap, ⊎_elim}
use Rattle.std.specs.Prelude.{◌≡◌, ◌&&◌, ◌||◌, length, get_or}
use Rattle.std.proofs.Math.Path.{refl, sym, subst}
use Rattle.std.proofs.Math.Bool.{Bool, true, false, cond}
use mathlib.Core.List.{List, [], ◌∷◌, ◌++◌, map, Memᴰ}
use borrow.Author.Tests.{eq-eqb, eqb-true, eqb-false, ltb-true, lt-ltb}
use Rattle.std.proofs.Math.Dec.{eqb, ltb}
use Rattle.expression.specs.declared.Credential.{Credential}
use Rattle.expression.specs.declared.Expression.{Expression}
use Rattle.expression.specs.Form.{well_formed}
use Rattle.expression.specs.Same.{same}
use Rattle.expression.specs.laws.Same.{same-eq, eq-same}
use Rattle.word.specs.laws.Bools.{false-true, and_parts, and_both, or-neither}
use Rattle.class.specs.declared.Name.{Name}
use Rattle.tables.specs.Tables.{Tables}
use Rattle.tables.specs.Public.{public_of}
use Rattle.graph.specs.declared.Node.{Node}
use Rattle.graph.specs.declared.Edge.{Edge}
use Rattle.graph.specs.Graph.{node_in, blank}
use Rattle.graph.specs.Form.{legal_state}
use Rattle.graph.specs.Find.{is_node, has_edge}
use Rattle.graph.specs.laws.FindExact.{Absent, Found, find_cases, has-exact}
use Rattle.message.specs.declared.NewEdge.{NewEdge}
use Rattle.message.specs.declared.Command.{Command}
use Rattle.message.specs.declared.Command.TheVariants.{Show, Bring, Join, Mark}
use Rattle.message.specs.Command.{edge_kind, formed_command}
use Rattle.negotiation.specs.State.{State}
use Rattle.graph.specs.Processed.{processed_by}
use Rattle.applied.specs.Step.{child_of, stepped, has_room}
use Rattle.legal.specs.Number.{formed_as}
use Rattle.legal.specs.Legal.{Justifies, ClassesSuit, OpenFirst, NodesStand, FormedAndNew, EdgeJustified, Unprocessed, RoomLeft, Legal}
use Rattle.legal.specs.Updates.{Updates, none, next}
use Rattle.moves.specs.declared.Candidate.{Candidate}
use Rattle.moves.specs.declared.Choice.{Choice}
use Rattle.moves.specs.declared.Choice.TheVariants as K
use Rattle.moves.specs.Initial.{initial_state}
use Rattle.moves.specs.Candidates.{first_not, mark_if, chosen_in, child_number, child_stands, is_done}
use Rattle.moves.specs.Rules.{End, end_in}
use Rattle.moves.specs.Move.{Move, credentials_for, edge_command, move_for, plan_at, choice_at, or_next, moves_from, next_move}
use Rattle.moves.specs.Carried.{carried, has_room_for}
use Rattle.legality.specs.laws.Going.{Going, going-few}
use Rattle.legality.specs.laws.Forms.{initial-legal}
use Rattle.legality.specs.laws.Shown.{showing, shows-updates}
use Rattle.legality.specs.laws.Fit.{FitWith}
use Rattle.legality.specs.laws.Rules.{plan-fit}
use Rattle.numbers.specs.Sizes.{MOST-NODES, MOST-EDGES}

-- updates lead where the commands carry the state
updates-along : {ns : List Name} {s : ℕ} {S U : State} {cs : List Command} → Updates ns s S cs U → carried s S cs ≡ U
updates-along none = refl
updates-along (next e f l u) = updates-along u

carried-updates : {ns : List Name} {s : ℕ} {S U : State} {cs : List Command} → Updates ns s S cs U → Updates ns s S cs (carried s S cs)
carried-updates {ns} {s} {S} {U} {cs} u = subst (λ (R : State). Updates ns s S cs R) (sym (updates-along u)) u

-- The wanted child

-- an element has a number
mem-at : {A : Type 0} (d : A) {x : A} {xs : List A} → Memᴰ x xs → (i : ℕ) × (i < length xs) × (get_or xs i d ≡ x)
mem-at d (Memᴰ.head e) = (0, omega arith, sym e)
mem-at d (Memᴰ.tail m) = let r = mem-at d m in (suc r.0, omega (arith, r.1), r.2)

module _ (ns : List Node) (w : Candidate) where
  -- where it stands, it is found
  stands-node : length ns < 129 → child_stands ns w ≡ true
      → ((node_in ns (child_number ns w)).expression ≡ w.expression) × ((node_in ns (child_number ns w)).verifier ≡ w.verifier)
      × ((node_in ns (child_number ns w)).subject ≡ w.subject)
  stands-node few h =
      ⊎_elim (λ a. absurd (omega (arith, few, a.number, ltb-true (child_number ns w) (length ns) h))) found
      (find_cases ns w.expression w.verifier w.subject)
    where
      found : Found ns w.expression w.verifier w.subject
          → ((node_in ns (child_number ns w)).expression ≡ w.expression) × ((node_in ns (child_number ns w)).verifier ≡ w.verifier)
          × ((node_in ns (child_number ns w)).subject ≡ w.subject)
      found f =
          let x : Node = node_in ns (child_number ns w) in
          let p = and_parts (eqb x.verifier w.verifier && eqb x.subject w.subject) (same x.expression w.expression) f.here in
          let q = and_parts (eqb x.verifier w.verifier) (eqb x.subject w.subject) p.0 in
          (same-eq x.expression w.expression p.1, eqb-true x.verifier w.verifier q.0, eqb-true x.subject w.subject q.1)

  -- where it does not, no node is that child
  no_node : child_stands ns w ≡ false → (x : Node) → Memᴰ x ns → x.expression ≡ w.expression → x.verifier ≡ w.verifier → x.subject ≡ w.subject → ⊥
  no_node h x m e v s =
      ⊎_elim absent (λ f. false-true (sym h ∙ lt-ltb (child_number ns w) (length ns) f.inside)) (find_cases ns w.expression w.verifier w.subject)
    where
      absent : Absent ns w.expression w.verifier w.subject → ⊥
      absent a =
          let r = mem-at blank m in
          let test : is_node w.expression w.verifier w.subject x ≡ true =
          and_both (eqb x.verifier w.verifier && eqb x.subject w.subject) (same x.expression w.expression)
          (and_both (eqb x.verifier w.verifier) (eqb x.subject w.subject) (eq-eqb x.verifier w.verifier v)
          (eq-eqb x.subject w.subject s)) (eq-same x.expression w.expression e) in
          false-true (sym (a.none r.0 r.1) ∙ ap (is_node w.expression w.verifier w.subject) r.2 ∙ test)

  -- an edge to a child that stands is not done where it joins another node and is not there
  not_done : (es : List Edge) (i : ℕ) → is_done ns es i w ≡ false → child_stands ns w ≡ true
      → (eqb i (child_number ns w) ≡ false) × (has_edge es (record { kind = w.kind; parent = i; child = child_number ns w }) ≡ false)
  unfolding is_done
  not_done es i h k =
      let d : Bool = eqb i (child_number ns w) || has_edge es (record { kind = w.kind; parent = i; child = child_number ns w }) in
      or-neither (eqb i (child_number ns w)) (has_edge es (record { kind = w.kind; parent = i; child = child_number ns w }))
      (sym (ap (λ (b : Bool). cond b d false) k) ∙ h)

-- One move

module _ (T : Tables) (S : State) (g : Going T S) (i : ℕ) (l : i < length S.nodes) (free : processed_by S.header.side (node_in S.nodes i) ≡ false) where
  abbrev s : ℕ
  s = S.header.side

  abbrev n : Node
  n = node_in S.nodes i

  module _ (w : Candidate) (cs : List Credential) (f : FitWith T S i w cs) (undone : is_done S.nodes S.edges i w ≡ false) where
    abbrev old_child : Edge
    old_child = record { kind = w.kind; parent = i; child = child_number S.nodes w }

    abbrev new_child : NewEdge
    new_child =
        record {
          kind = w.kind;
          parent = i;
          expression = w.expression;
          subject = w.subject;
          state = initial_state T.names (eqb w.verifier s)
              w.expression;
        }

    join-legal : child_stands S.nodes w ≡ true → has_room (showing S cs) (Join old_child) ≡ true → Legal T.names s (showing S cs) (Join old_child)
    unfolding ClassesSuit OpenFirst NodesStand FormedAndNew EdgeJustified Unprocessed RoomLeft has_room
    join-legal h room =
        let x : Node = node_in S.nodes (child_number S.nodes w) in
        let e = stands-node S.nodes w (omega (arith, going-few T S g)) h in
        let d = not_done S.nodes w S.edges i undone h in
        record {
          classes = tt;
          open-first = omega (arith, l);
          nodes = (l, ltb-true (child_number S.nodes w) (length S.nodes) h);
          form = (
            (λ j. formed_as S.header w.kind n (record { expression = e.0 j; subject = e.2 j; verifier = e.1 j; state = x.state }))
                ∙ f.form x.state,
            eqb-false i (child_number S.nodes w) d.0,
            λ m. false-true (sym d.1 ∙ (has-exact S.edges old_child).1 m),
          );
          justified =
              subst (λ (y : Expression). Justifies (showing S cs) w.kind i y x.subject) (sym e.0)
              (subst (λ (b : ℕ). Justifies (showing S cs) w.kind i w.expression b) (sym e.2) f.justified);
          unprocessed = free;
          room = ltb-true (length S.edges) MOST-EDGES room;
        }

    bring-legal : child_stands S.nodes w ≡ false → has_room (showing S cs) (Bring new_child) ≡ true → Legal T.names s (showing S cs) (Bring new_child)
    unfolding ClassesSuit OpenFirst NodesStand FormedAndNew EdgeJustified Unprocessed RoomLeft has_room child_of
    bring-legal h room =
        let p = and_parts (ltb i (length S.nodes) && ltb (length S.nodes) MOST-NODES) (ltb (length S.edges) MOST-EDGES) room in
        let q = and_parts (ltb i (length S.nodes)) (ltb (length S.nodes) MOST-NODES) p.0 in
        let t : ℕ = new_child.state in
        record {
          classes = f.child.typed;
          open-first = omega (arith, l);
          nodes = l;
          form = (
            (λ j. formed_as S.header w.kind n
                (record { expression = w.expression; subject = w.subject; verifier = sym f.verifier j; state = t }))
                ∙ f.form t,
            λ x m e v b. no_node S.nodes w h x m e (v ∙ sym f.verifier) b,
          );
          justified = f.justified;
          unprocessed = free;
          room = (ltb-true (length S.nodes) MOST-NODES q.1, ltb-true (length S.edges) MOST-EDGES p.1);
        }

    bring-formed : formed_command (Bring new_child) ≡ true
    unfolding formed_command
    bring-formed =
        let t : ℕ = new_child.state in
        and_both (well_formed w.expression) (edge_kind w.kind && ltb 0 w.subject && legal_state w.expression t) f.child.formed
        (and_both (edge_kind w.kind && ltb 0 w.subject) (legal_state w.expression t)
        (and_both (edge_kind w.kind) (ltb 0 w.subject) f.kind (lt-ltb 0 w.subject f.subject))
        (initial-legal T.names (eqb w.verifier s) w.expression))

    join-formed : formed_command (Join old_child) ≡ true
    unfolding formed_command
    join-formed = f.kind

    edge-legal : has_room_for s (showing S cs) (edge_command (end_in T S) i w ∷ []) ≡ true
        → Updates T.names s (showing S cs) (edge_command (end_in T S) i w ∷ []) (stepped (showing S cs) s (edge_command (end_in T S) i w))
    unfolding end_in public_of
    edge-legal room = go (child_stands S.nodes w) refl room
      where
        go : (b : Bool) → child_stands S.nodes w ≡ b → has_room_for s (showing S cs) (cond b (Join old_child) (Bring new_child) ∷ []) ≡ true
            → Updates T.names s (showing S cs) (cond b (Join old_child) (Bring new_child) ∷ [])
            (stepped (showing S cs) s (cond b (Join old_child) (Bring new_child)))
        go true h r = next {c = Join old_child} refl join-formed (join-legal h (and_parts (has_room (showing S cs) (Join old_child)) true r).0) none
        go false h r = next {c = Bring new_child} refl bring-formed (bring-legal h (and_parts (has_room (showing S cs) (Bring new_child)) true r).0) none

    -- the credentials, then the edge
    edge-updates : has_room_for s S (map Show cs ++ (edge_command (end_in T S) i w ∷ [])) ≡ true
        → Updates T.names s S (map Show cs ++ (edge_command (end_in T S) i w ∷ [])) (stepped (showing S cs) s (edge_command (end_in T S) i w))
    edge-updates room =
        shows-updates T.names s (edge_command (end_in T S) i w ∷ []) (stepped (showing S cs) s (edge_command (end_in T S) i w)) cs S (omega (arith, l))
        f.shows room edge-legal

-- legal, if it has room
abbrev Goes : Tables → State → Move → Type 0
Goes T S m = has_room_for S.header.side S m ≡ true → Updates T.names S.header.side S m (carried S.header.side S m)

-- The first edge that is not done, else the mark

first-cases : (Q : Choice → Type 0) (done : Candidate → Bool) (rest : Choice) (ws : List Candidate)
    → ((w : Candidate) → Memᴰ w ws → done w ≡ false → Q (K.Edge w)) → Q rest → Q (first_not done rest ws)
unfolding first_not
first-cases Q done rest [] h q = q
first-cases Q done rest (w ∷ ws) h q = go (done w) refl (first-cases Q done rest ws (λ v m. h v (Memᴰ.tail m)) q)
  where
    go : (b : Bool) → done w ≡ b → Q (first_not done rest ws) → Q (cond b (first_not done rest ws) (K.Edge w))
    go true e ih = ih
    go false e ih = h w (Memᴰ.head refl) e

mark-cases : (Q : Choice → Type 0) (b : Bool) → Q K.Mark → Q K.Nothing → Q (mark_if b)
mark-cases Q true m n = m
mark-cases Q false m n = n

module _ (T : Tables) (S : State) (g : Going T S) where
  choice-goes : (i : ℕ) → i < length S.nodes → Goes T S (move_for (end_in T S) i (node_in S.nodes i) (choice_at (end_in T S) i (node_in S.nodes i)))
  unfolding choice_at chosen_in end_in formed_command ClassesSuit OpenFirst NodesStand FormedAndNew EdgeJustified Unprocessed RoomLeft
  choice-goes i l = go (processed_by S.header.side (node_in S.nodes i)) refl
    where
      o : End
      o = end_in T S

      n : Node
      n = node_in S.nodes i

      done : Candidate → Bool
      done w = is_done S.nodes S.edges i w

      edge : processed_by S.header.side n ≡ false → (w : Candidate) → Memᴰ w (plan_at o i n).wanted → done w ≡ false
          → Goes T S (move_for o i n (K.Edge w))
      edge free w m d room = carried-updates (edge-updates T S g i l free w (credentials_for o n w) (plan-fit T S g i l w m).fit d room)

      mark-legal : processed_by S.header.side n ≡ false → Legal T.names S.header.side S (Mark i)
      mark-legal free =
          record {
            classes = tt;
            open-first = omega (arith, l);
            nodes = l;
            form = tt;
            justified = tt;
            unprocessed = free;
            room = tt;
          }

      mark : processed_by S.header.side n ≡ false → Goes T S (move_for o i n K.Mark)
      mark free room = next {c = Mark i} refl refl (mark-legal free) none

      go : (b : Bool) → processed_by S.header.side n ≡ b
          → Goes T S (move_for o i n (cond b K.Nothing (first_not done (mark_if (plan_at o i n).marks) (plan_at o i n).wanted)))
      go true e = λ room. none
      go false e =
          first-cases (λ c. Goes T S (move_for o i n c)) done (mark_if (plan_at o i n).marks) (plan_at o i n).wanted (edge e)
          (mark-cases (λ c. Goes T S (move_for o i n c)) (plan_at o i n).marks (mark e) (λ room. none))

-- The first node at which there is a move

next-cases : (o : End) (Q : Move → Type 0) (m k : Move) → Q m → Q k → Q (or_next o m k)
next-cases o Q [] k p q = q
next-cases o Q (c ∷ cs) k p q = p

moves-cases : (o : End) (Q : Move → Type 0) → Q [] → (i : ℕ) (ns : List Node)
    → ((j : ℕ) → j < length ns → Q (move_for o (i + j) (node_in ns j) (choice_at o (i + j) (node_in ns j)))) → Q (moves_from o i ns)
unfolding moves_from
moves-cases o Q q i [] h = q
moves-cases o Q q i (n ∷ ns) h =
    let first : i + 0 ≡ i = omega arith in
    next-cases o Q (move_for o i n (choice_at o i n)) (moves_from o (suc i) ns) (subst (λ (k : ℕ). Q (move_for o k n (choice_at o k n))) first (h 0 (omega arith)))
    (moves-cases o Q q (suc i) ns (λ j l. let later : i + suc j
    ≡ suc i + j = omega arith in subst (λ (k : ℕ). Q (move_for o k (node_in ns j) (choice_at o k (node_in ns j)))) later (h (suc j) (omega (arith, l)))))

-- every command of our next move is a legal update
pub move-updates : (T : Tables) (S : State) → Going T S → has_room_for S.header.side S (next_move (end_in T S)) ≡ true
    → Updates T.names S.header.side S (next_move (end_in T S)) (carried S.header.side S (next_move (end_in T S)))
unfolding next_move end_in
move-updates T S g = by-node
  where
    at-node : (j : ℕ) → j < length S.nodes → Goes T S
        (move_for (end_in T S) (0 + j) (node_in S.nodes j) (choice_at (end_in T S) (0 + j) (node_in S.nodes j)))
    at-node j l =
        let e : j ≡ 0 + j = omega arith in subst (λ (k : ℕ). Goes T S
        (move_for (end_in T S) k (node_in S.nodes j) (choice_at (end_in T S) k (node_in S.nodes j)))) e (choice-goes T S g j l)

    by-node : Goes T S (moves_from (end_in T S) 0 S.nodes)
    by-node = moves-cases (end_in T S) (Goes T S) (λ room. none) 0 S.nodes at-node
