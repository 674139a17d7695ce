-- A target at which there is nothing to do goes on waiting while what it looks at is the same (sections 5.3 and 5.4). Assumes nothing.
use Rattle.std.specs.Prelude.{ℕ, ◌+◌, ◌≤◌, ◌<◌, ◌≡◌, refl, ◌⊎◌, Bool, not, cond, ◌&&◌, ◌||◌, eqb, ltb, length, get_or, Option, Some, None}
use Rattle.std.proofs.Common.{arith, ◌∙◌, ap, subst, inl, inr, eqb-true, lt-ltb, le-ltb, ltb-true}
use Rattle.std.proofs.Math.Path.{sym}
use Rattle.std.proofs.Math.Logic.{⊎_elim}
use Rattle.std.proofs.Math.Bool.{true, false}
use mathlib.Core.List.{List, [], ◌∷◌, map, Memᴰ}
use Rattle.std.proofs.lemmas.Bool.{eqb-false, not-false}
use Rattle.expression.specs.declared.Role.{Role}
use Rattle.expression.specs.declared.Expression.{Expression}
use Rattle.expression.specs.declared.Expression.TheVariants as E
use Rattle.expression.specs.Same.{same}
use Rattle.word.specs.laws.Bools.{false-true, or-neither}
use Rattle.rt0.specs.From.{roles_of}
use Rattle.class.specs.Names.{class_of}
use Rattle.tables.specs.Tables.{Tables}
use Rattle.tables.specs.Lookup.{other_of}
use Rattle.tables.specs.Public.{public_of, hidden_of}
use Rattle.propagation.specs.laws.Flags.{flag, decided}
use Rattle.graph.specs.declared.Node.{Node}
use Rattle.graph.specs.declared.Edge.{Edge}
use Rattle.graph.specs.declared.Edges.{Edges}
use Rattle.graph.specs.laws.Graph.{nodes_of, edges_of, edge_at}
use Rattle.graph.specs.laws.Columns.{nodes-length, edges-length, edge_in_lem}
use Rattle.graph.specs.Graph.{node_in}
use Rattle.graph.specs.Find.{is_node, find_node}
use Rattle.graph.specs.laws.FindExact as F
use Rattle.graph.specs.laws.States.{satisfied-inside}
use Rattle.graph.specs.laws.Propagated.{satisfied-exact}
use Rattle.states.specs.laws.Brings.{EdgesFormed}
use Rattle.states.specs.laws.Complete.{StateColumns}
use Rattle.states.specs.laws.Places.{mem_index}
use Rattle.negotiation.specs.declared.Header.{Header}
use Rattle.negotiation.specs.declared.Negotiation.{Negotiation}
use Rattle.negotiation.specs.State.{State}
use Rattle.negotiation.specs.laws.State.{state_of}
use Rattle.graph.specs.Processed.{processed_by}
use Rattle.negotiation.specs.Ends.{other_side}
use Rattle.moves.specs.declared.Candidate.{Candidate}
use Rattle.moves.specs.declared.Choice.{Choice}
use Rattle.moves.specs.declared.Choice.TheVariants as C
use Rattle.moves.specs.declared.Found.{Found}
use Rattle.moves.specs.declared.Holding.TheVariants.{Absent, Free, Guarded}
use Rattle.moves.specs.declared.Known.{Known}
use Rattle.moves.specs.declared.Known.TheVariants.{Waiting, Seen}
use Rattle.moves.specs.Known.{is_acknowledged, holding_of}
use Rattle.moves.specs.laws.KnownStays.{found-more}
use Rattle.moves.specs.Candidates.{ordered, first_not, mark_if, chosen_in, is_done}
use Rattle.moves.specs.Frontiers.{bodies_of, frontier_of, oppo, simp, sens}
use Rattle.moves.specs.Rules.{end_in, implications, to_subject, part_edges, link_rules, verifier_rules, opponent_rules}
use Rattle.moves.specs.Move.{choice_at}
use Rattle.moves.specs.Carried.{carried}
use Rattle.moves.specs.laws.Own.{found_move}
use Rattle.candidates.specs.laws.All.{all_edges}
use Rattle.candidates.specs.laws.Goals.{solution_edge, named_roles}
use Rattle.candidates.specs.laws.Links.{child-inside}
use Rattle.candidates.specs.laws.Least.{better, or_else}
use Rattle.choice.specs.laws.Known.{known_as}
use Rattle.choice.specs.laws.Sensitive.{alone, control_for, own_for, satisfied_in, policy_choice, holding_choice, known_choice}
use Rattle.choice.specs.laws.RuleChoice.{verifier-as, verifier-role, opponent-as, about-us, about-other, plain-choice, at-processed, at-verifier}
use Rattle.choice.specs.laws.RuleChoice.{at-opponent, verifier-entity, verifier-goal, verifier-parts, link-def, link-all, link-subject}
use Rattle.choice.specs.laws.RuleChoice.{opponent-entity, opponent-link, opponent-parts, opponent-goal}
use Rattle.choice.specs.laws.Asked.{Asked, rest_at, sensitive_at, sensitive-at}
use Rattle.choice.specs.laws.Later.{or_nothing, Later, done-stays, same-side, asked-back, rest-stays, carried_later}
use Rattle.choice.specs.laws.Next.{is_nothing, is_goal, NothingBefore, Resting, nothing-start}
use Rattle.choice.specs.laws.Elsewhere.{OnlyAt, move-only}
use Rattle.choice.specs.laws.Links.{failed_in, link_stays}
use Rattle.numbers.specs.Sizes.{MOST-NODES}

-- A mark ends all other rules

mark-some : (b : Choice) → or_else b C.Mark ≡ C.Nothing → ⊥
mark-some b h = false-true (ap is_nothing (or_nothing b C.Mark h).1)

-- one edge that is done stays done
alone-stays : (d e : Candidate → Bool) → ((w : Candidate) → d w ≡ true → e w ≡ true) → (w : Candidate) → alone d w ≡ C.Nothing → alone e w ≡ C.Nothing
unfolding better
alone-stays d e f w h = go (d w) refl h
  where
    go : (b : Bool) → d w ≡ b → cond b C.Nothing (C.Edge w) ≡ C.Nothing → cond (e w) C.Nothing (C.Edge w) ≡ C.Nothing
    go true q k = ap (λ (b : Bool). cond b C.Nothing (C.Edge w)) (f w q)
    go false q k = absurd (false-true (ap is_nothing k))

both-nothing : {b c : Choice} → b ≡ C.Nothing → c ≡ C.Nothing → or_else b c ≡ C.Nothing
both-nothing p q = (λ t. or_else (p t) (q t))

-- The negotiation went on, and the satisfied nodes are the same

module _ (S R : State) (u : Later S R) (few : length S.nodes ≤ MOST-NODES)
    (alike : (j : ℕ) → j < length R.nodes → satisfied_in S j ≡ satisfied_in R j) where
  abbrev target : State → Role → ℕ
  target U r = find_node U.nodes (E.Role r) U.header.side U.header.other

  -- so are the Ack and AC targets that are satisfied
  acknowledged-same : (r : Role) → is_acknowledged S r ≡ is_acknowledged R r
  unfolding is_acknowledged
  acknowledged-same r = ⊎_elim absent found (F.find_cases S.nodes (E.Role r) S.header.side S.header.other)
    where
      moved : find_node R.nodes (E.Role r) S.header.side S.header.other ≡ target R r
      moved = sym (ap (λ (h : Header). find_node R.nodes (E.Role r) h.side h.other) u.header)

      found : F.Found S.nodes (E.Role r) S.header.side S.header.other → is_acknowledged S r ≡ is_acknowledged R r
      found f =
          let e : target S r ≡ target R r = sym (found-more u.more (E.Role r) S.header.side S.header.other f) ∙ moved in
          let l : target R r < length R.nodes = omega (arith, e, f.inside, u.more.more) in
          (λ t. lt-ltb (target S r) (length S.nodes) f.inside t && satisfied_in S (e t))
          ∙ (alike (target R r) l ∙ sym (ap (λ (b : Bool). b && satisfied_in R (target R r)) (lt-ltb (target R r) (length R.nodes) l)))

      -- a node that stands only in the later graph is not satisfied
      absent : F.Absent S.nodes (E.Role r) S.header.side S.header.other → is_acknowledged S r ≡ is_acknowledged R r
      absent a =
          ap (λ (b : Bool). b && satisfied_in S (target S r)) (le-ltb (target S r) (length S.nodes) (omega (arith, a.number, few)))
          ∙ sym (go (ltb (target R r) (length R.nodes)) (satisfied_in R (target R r)) refl refl)
        where
          old : target R r < length S.nodes → ⊥
          old l = ⊎_elim (λ b. omega (arith, l, few, moved, b.number)) (λ f. none f) (F.find_cases R.nodes (E.Role r) S.header.side S.header.other)
            where
              none : F.Found R.nodes (E.Role r) S.header.side S.header.other → ⊥
              none f =
                  let j : ℕ = find_node R.nodes (E.Role r) S.header.side S.header.other in
                  let k : j < length S.nodes = omega (arith, moved, l) in
                  let x = u.more.alike j k in
                  let test : is_node (E.Role r) S.header.side S.header.other (node_in R.nodes j)
                  ≡ is_node (E.Role r) S.header.side S.header.other (node_in S.nodes j) =
                  λ t. eqb (x.verifier t) S.header.side && eqb (x.subject t) S.header.other && same (x.expression t) (E.Role r) in
                  false-true (sym (a.none j k) ∙ (sym test ∙ f.here))

          go : (b c : Bool) → ltb (target R r) (length R.nodes) ≡ b → satisfied_in R (target R r) ≡ c → (b && c) ≡ false
          go true true p q =
              let l : target R r < length R.nodes = ltb-true (target R r) (length R.nodes) p in
              absurd (old (satisfied-inside ((satisfied-exact S.nodes S.edges (target R r)).0 (alike (target R r) l ∙ q))))
          go true false p q = refl
          go false c p q = refl

  -- Where there was nothing to do by what is known of a role, there is nothing now

  module _ {i : ℕ} (inside : i < length S.nodes) where
    abbrev was : Node
    was = node_in S.nodes i

    abbrev is : Node
    is = node_in R.nodes i

    abbrev d : Candidate → Bool
    d = is_done S.nodes S.edges i

    abbrev e : Candidate → Bool
    e = is_done R.nodes R.edges i

    same-control : (r : Role) → control_for S was r ≡ control_for R is r
    same-control r =
        λ t. record {
          kind = 6;
          verifier = other_side (sym (u.more.alike i inside).verifier t);
          expression = E.Role r;
          subject = (sym u.header
              t).other;
          direct = false;
        }

    control-stays : (r : Role) → alone d (control_for S was r) ≡ C.Nothing → alone e (control_for R is r) ≡ C.Nothing
    control-stays r h = alone-stays d e (λ w k. done-stays u.more few i w k) (control_for R is r) (ap (alone d) (sym (same-control r)) ∙ h)

    same-satisfied : satisfied_in S i ≡ satisfied_in R i
    same-satisfied = alike i (omega (arith, inside, u.more.more))

    module _ (x y : Choice) (stays : x ≡ C.Nothing → y ≡ C.Nothing) where
      policy-stays : (r : Role) → policy_choice S d i was x r ≡ C.Nothing → policy_choice R e i is y r ≡ C.Nothing
      unfolding policy_choice
      policy-stays r h = go (is_acknowledged S r) (acknowledged-same r) h
        where
          go : (a : Bool) → a ≡ is_acknowledged R r
              → or_else (alone d (control_for S was r)) (or_else (cond a (alone d (own_for was)) C.Nothing) (or_else x (mark_if (a || satisfied_in S i)))) ≡ C.Nothing
              → or_else (alone e (control_for R is r))
              (or_else (cond (is_acknowledged R r) (alone e (own_for is)) C.Nothing) (or_else y (mark_if (is_acknowledged R r || satisfied_in R i)))) ≡ C.Nothing
          go true q k =
              absurd (mark-some x (or_nothing (alone d (own_for was)) (or_else x C.Mark)
              (or_nothing (alone d (control_for S was r)) (or_else (alone d (own_for was)) (or_else x C.Mark)) k).1).1)
          go false q k =
              let p = or_nothing (alone d (control_for S was r)) (or_else x (mark_if (satisfied_in S i))) k in
              let z = or_nothing x (mark_if (satisfied_in S i)) p.1 in
              both-nothing (control-stays r p.0)
              (ap (λ (a : Bool). or_else (cond a (alone e (own_for is)) C.Nothing) (or_else y (mark_if (a || satisfied_in R i)))) (sym q)
              ∙ both-nothing (stays z.0) (ap mark_if (sym same-satisfied) ∙ z.1))

      known-stays : (k : Known) → known_choice S d i was x k ≡ C.Nothing → known_choice R e i is y k ≡ C.Nothing
      unfolding known_choice holding_choice
      known-stays Waiting h =
          let z = or_nothing x (mark_if (satisfied_in S i)) h in
          both-nothing (stays z.0) (ap mark_if (sym same-satisfied) ∙ z.1)
      known-stays (Seen Absent) h = absurd (mark-some x h)
      known-stays (Seen Free) h = absurd (mark-some x (or_nothing (alone d (own_for was)) (or_else x C.Mark) h).1)
      known-stays (Seen (Guarded r)) h = policy-stays r h

    -- at the node of a sensitive role
    sensitive-stays : (T : Tables) (a ack : Role) → sensitive_at T S i was a ack ≡ C.Nothing → sensitive_at T R i is a ack ≡ C.Nothing
    sensitive-stays T a ack h =
        let k : Known = known_as S (hidden_of T) a ack in
        let p = or_nothing (alone d (control_for S was ack)) (known_choice S d i was (rest_at T S i was a ack) k) h in
        let same_known : k ≡ known_as R (hidden_of T) a ack = ap (λ (b : Bool). cond b (Seen (holding_of (hidden_of T) a)) Waiting) (acknowledged-same ack) in
        both-nothing (control-stays ack p.0)
        (ap (known_choice R e i is (rest_at T R i is a ack)) (sym same_known)
        ∙ known-stays (rest_at T S i was a ack) (rest_at T R i is a ack) (rest-stays u inside T few a) k p.1)

    -- at a role target, of whichever side
    role-stays : (T : Tables) (a : Role) → is.expression ≡ E.Role a → choice_at (end_in T S) i was ≡ C.Nothing → choice_at (end_in T R) i is ≡ C.Nothing
    role-stays T a x h = by-mark (processed_by R.header.side is) refl
      where
        by_answer : (q : Asked R i is (E.Role a)) → was.subject ≡ T.own → (o : Option Role) → other_of T.sensitive a ≡ o
            → choice_at (end_in T R) i is ≡ C.Nothing
        by_answer q s None o =
            let b : Asked S i was (E.Role a) = asked-back u inside q in
            absurd (mark-some (first_not d C.Nothing (to_subject was (frontier_of (sens T.sensitive) (public_of T).subject_stored (E.Role a ∷ []))))
            (at-opponent T S i was {p = false} (sym b.unprocessed) refl b.opponent
            (opponent-as T S d i was b.expression (about-us T S d i was a s (plain-choice T S d i was a {r = None} (sym o) refl refl refl))) ∙ h))
        by_answer q s (Some ack) o =
            let b : Asked S i was (E.Role a) = asked-back u inside q in
            let subject : is.subject ≡ T.own = (u.more.alike i inside).subject ∙ s in
            sym (sensitive-at T R i is a ack q subject o) ∙ sensitive-stays T a ack (sensitive-at T S i was a ack b s o ∙ h)

        by-subject : (q : Asked R i is (E.Role a)) → (z : Bool) → eqb was.subject T.own ≡ z → choice_at (end_in T R) i is ≡ C.Nothing
        by-subject q true z = by_answer q (eqb-true was.subject T.own z) (other_of T.sensitive a) refl
        by-subject q false z =
            let b : Asked S i was (E.Role a) = asked-back u inside q in
            absurd (mark-some (first_not d C.Nothing (to_subject was (frontier_of simp (public_of T).subject_stored (E.Role a ∷ []))))
            (at-opponent T S i was {p = false} (sym b.unprocessed) refl b.opponent
            (opponent-as T S d i was b.expression (about-other T S d i was a (eqb-false was.subject T.own z) refl refl)) ∙ h))

        by_side : processed_by R.header.side is ≡ false → (z : Bool) → eqb is.verifier R.header.side ≡ z → choice_at (end_in T R) i is ≡ C.Nothing
        by_side p true z =
            let v : was.verifier ≡ S.header.side = sym (u.more.alike i inside).verifier
            ∙ (eqb-true is.verifier R.header.side z ∙ same-side u inside) in
            let unprocessed : processed_by S.header.side was ≡ false = u.back i inside (ap (λ (k : ℕ). processed_by k is) (sym (same-side u inside)) ∙ p) in
            absurd (mark-some (first_not d C.Nothing
            (implications was (frontier_of (oppo T.names) T.issuer_stored (bodies_of T.issuer_stored (E.Role a)))))
            (at-verifier T S i was {p = false} (sym unprocessed) refl v
            (verifier-as T S d i was (sym (u.more.alike i inside).expression ∙ x) (verifier-role T S d i was a refl refl)) ∙ h))
        by_side p false z =
            by-subject (record { number = refl; expression = x; unprocessed = p; opponent = eqb-false is.verifier R.header.side z })
            (eqb was.subject T.own) refl

        by-mark : (p : Bool) → processed_by R.header.side is ≡ p → choice_at (end_in T R) i is ≡ C.Nothing
        by-mark true p = sym (at-processed T R i is {p = true} (sym p) refl refl)
        by-mark false p = by_side p (eqb is.verifier R.header.side) refl

  -- Whatever the target, where the negotiation went on at another node, which is no goal, and the solutions that failed are the same too

  module _ (T : Tables) {m : ℕ} (only : OnlyAt m S R) (formed : EdgesFormed S.nodes S.edges)
      (elsewhere : is_goal (node_in S.nodes m).expression ≡ false)
      (settled : (x : Edge) → Memᴰ x S.edges → x.kind ≡ 3 → failed_in S x.child ≡ failed_in R x.child)
      {i : ℕ} (inside : i < length S.nodes) (other : i ≡ m → ⊥) where
    abbrev before : Node
    before = node_in S.nodes i

    abbrev after : Node
    after = node_in R.nodes i

    abbrev was-done : Candidate → Bool
    was-done = is_done S.nodes S.edges i

    abbrev is-done : Candidate → Bool
    is-done = is_done R.nodes R.edges i

    -- by the rules for its expression, of whichever side
    by-rules : (y : Expression) → after.expression ≡ y
        → (chosen_in was-done (verifier_rules (end_in T S) i before y) ≡ C.Nothing → chosen_in is-done (verifier_rules (end_in T R) i after y) ≡ C.Nothing)
        → (chosen_in was-done (opponent_rules (end_in T S) i before y) ≡ C.Nothing → chosen_in is-done (opponent_rules (end_in T R) i after y) ≡ C.Nothing)
        → choice_at (end_in T S) i before ≡ C.Nothing → choice_at (end_in T R) i after ≡ C.Nothing
    by-rules y x own opponent h = by-mark (processed_by R.header.side after) refl
      where
        old : before.expression ≡ y
        old = sym (u.more.alike i inside).expression ∙ x

        by_side : processed_by R.header.side after ≡ false → processed_by S.header.side before ≡ false → (z : Bool)
            → eqb after.verifier R.header.side ≡ z → choice_at (end_in T R) i after ≡ C.Nothing
        by_side p q true z =
            let v : after.verifier ≡ R.header.side = eqb-true after.verifier R.header.side z in
            let w : before.verifier ≡ S.header.side = sym (u.more.alike i inside).verifier ∙ (v ∙ same-side u inside) in
            sym (at-verifier T R i after {p = false} (sym p) refl v (verifier-as T R is-done i after x
            (sym (own (at-verifier T S i before {p = false} (sym q) refl w (verifier-as T S was-done i before old refl) ∙ h)))))
        by_side p q false z =
            let v : after.verifier ≡ R.header.side → ⊥ = eqb-false after.verifier R.header.side z in
            let w : before.verifier ≡ S.header.side → ⊥ = λ k. v ((u.more.alike i inside).verifier ∙ (k ∙ sym (same-side u inside))) in
            sym (at-opponent T R i after {p = false} (sym p) refl v (opponent-as T R is-done i after x
            (sym (opponent (at-opponent T S i before {p = false} (sym q) refl w (opponent-as T S was-done i before old refl) ∙ h)))))

        by-mark : (p : Bool) → processed_by R.header.side after ≡ p → choice_at (end_in T R) i after ≡ C.Nothing
        by-mark true p = sym (at-processed T R i after {p = true} (sym p) refl refl)
        by-mark false p =
            by_side p (u.back i inside (ap (λ (k : ℕ). processed_by k after) (sym (same-side u inside)) ∙ p)) (eqb after.verifier R.header.side) refl

    -- a plan that ends in a mark has something to do
    some_left : {A : Type 0} {c : Choice} (b : Choice) → or_else b C.Mark ≡ c → c ≡ C.Nothing → A
    some_left b p h = absurd (mark-some b (p ∙ h))

    link-rest : (a : Role) (r : ℕ) → chosen_in was-done (link_rules (end_in T S) i before a r) ≡ C.Nothing
        → chosen_in is-done (link_rules (end_in T R) i after a r) ≡ C.Nothing
    link-rest a r = link_stays T S R u few m only formed elsewhere alike settled i other inside a r

    linked-own : (a : Role) (r : ℕ) → chosen_in was-done (verifier_rules (end_in T S) i before (E.Linked a r)) ≡ C.Nothing
        → chosen_in is-done (verifier_rules (end_in T R) i after (E.Linked a r)) ≡ C.Nothing
    linked-own a r h = go (eqb k 1) (eqb k 2) refl refl
      where
        k : ℕ
        k = class_of T.names a.name

        go : (b c : Bool) → eqb k 1 ≡ b → eqb k 2 ≡ c → chosen_in is-done (verifier_rules (end_in T R) i after (E.Linked a r)) ≡ C.Nothing
        go true c p q =
            sym (link-def T R is-done i after a r {k = k} refl (eqb-true k 1 p)
            (sym (link-rest a r (link-def T S was-done i before a r {k = k} refl (eqb-true k 1 p) refl ∙ h))))
        go false true p q =
            some_left (first_not was-done C.Nothing (all_edges T before a r))
            (link-all T S was-done i before a r {k = k} refl (eqb-false k 1 p) (eqb-true k 2 q) refl refl) h
        go false false p q =
            some_left C.Nothing (link-subject T S was-done i before a r {k = k} refl (eqb-false k 1 p) (eqb-false k 2 q) refl) h

    idle-as : (y : Expression) → after.expression ≡ y → choice_at (end_in T S) i before ≡ C.Nothing → choice_at (end_in T R) i after ≡ C.Nothing
    idle-as (E.Entity a) x h =
        by-rules (E.Entity a) x (some_left C.Nothing (verifier-entity T S was-done i before a refl))
        (some_left C.Nothing (opponent-entity T S was-done i before a refl)) h
    idle-as (E.Role a) x h = role-stays inside T a x h
    idle-as (E.Linked a r) x h =
        by-rules (E.Linked a r) x (linked-own a r)
        (λ k. sym (opponent-link T R is-done i after a r (sym (link-rest a r (opponent-link T S was-done i before a r refl ∙ k))))) h
    idle-as (E.Intersection p) x h =
        by-rules (E.Intersection p) x
        (some_left (first_not was-done C.Nothing (part_edges before (roles_of p))) (verifier-parts T S was-done i before p refl refl))
        (some_left (first_not was-done C.Nothing (part_edges before (roles_of p))) (opponent-parts T S was-done i before p refl refl)) h
    idle-as (E.Goal r) x h =
        by-rules (E.Goal r) x (some_left C.Nothing (verifier-goal T S was-done i before r refl))
        (some_left (first_not was-done C.Nothing (ordered (map (solution_edge before) (named_roles r T.sensitive (public_of T).subject_stored))))
        (opponent-goal T S was-done i before r refl refl)) h

    idle-stays : choice_at (end_in T S) i before ≡ C.Nothing → choice_at (end_in T R) i after ≡ C.Nothing
    idle-stays h = idle-as after.expression refl h

-- While a reply is made

-- where the satisfied nodes and the solutions that failed are those of two columns, there is nothing to do below node q, unless that is a goal
pub record Waits (T : Tables) (S : State) (sat failed : List ℕ) (q : ℕ) : Type 0 where
  pub stands : q < length S.nodes
  pub rests : ((j : ℕ) → j < length S.nodes → flag sat j ≡ satisfied_in S j)
      → ((x : Edge) → Memᴰ x S.edges → x.kind ≡ 3 → flag failed x.child ≡ failed_in S x.child)
      → is_goal (node_in S.nodes q).expression ≡ false → NothingBefore (end_in T S) q

pub waits-none : (T : Tables) (S : State) (sat failed : List ℕ) → 0 < length S.nodes → Waits T S sat failed 0
waits-none T S sat failed l = record { stands = l; rests = λ h k g. nothing-start (end_in T S) }

-- the first n flags of two columns are alike
pub record SameFlags (sat last : List ℕ) (n : ℕ) : Type 0 where
  pub same : (j : ℕ) → j < n → get_or sat j 0 ≡ get_or last j 0

-- unless a difference was found
pub record Compared (sat last : List ℕ) (n : ℕ) (found : Bool) : Type 0 where
  pub alike : found ≡ false → SameFlags sat last n

pub compared-start : (sat last : List ℕ) → Compared sat last 0 false
compared-start sat last = record { alike = λ e. record { same = λ j l. absurd (omega (arith, l)) } }

pub compared-next : {sat last : List ℕ} {n : ℕ} {b : Bool} → Compared sat last n b → Compared sat last (n + 1) (b || not (eqb (get_or sat n 0) (get_or last n 0)))
compared-next {sat} {last} {n} {b} f = record { alike = λ e. next (or-neither b (not (eqb (get_or sat n 0) (get_or last n 0))) e) }
  where
    next : (b ≡ false) × (not (eqb (get_or sat n 0) (get_or last n 0)) ≡ false) → SameFlags sat last (n + 1)
    next p =
        let e : get_or sat n 0 ≡ get_or last n 0 = eqb-true (get_or sat n 0) (get_or last n 0) (not-false (eqb (get_or sat n 0) (get_or last n 0)) p.1) in
        record {
          same = λ j l. ⊎_elim (λ z. ap (λ (k : ℕ). get_or sat k 0) (eqb-true j n z) ∙ (e ∙ sym (ap (λ (k : ℕ). get_or last k 0) (eqb-true j n z))))
              (λ z. (f.alike p.0).same j (omega (arith, l, eqb-false j n z))) (decided (eqb j n));
        }

pub compared-all : {sat last : List ℕ} {n m : ℕ} {b : Bool} → Compared sat last n b → m ≤ n → b ≡ false → SameFlags sat last m
compared-all f l e = record { same = λ j k. (f.alike e).same j (omega (arith, l, k)) }

-- two columns are alike at the solution that edge k brings a goal
pub record SameAt (K D failed earlier : List ℕ) (k : ℕ) : Type 0 where
  pub same : get_or K k 0 ≡ 3 → get_or D k 0 < 128 → get_or failed (get_or D k 0) 0 ≡ get_or earlier (get_or D k 0) 0

pub same-other : {K D failed earlier : List ℕ} {k : ℕ} → (get_or K k 0 ≡ 3 → ⊥) → SameAt K D failed earlier k
same-other o = record { same = λ h l. absurd (o h) }

pub same-outside : {K D failed earlier : List ℕ} {k c : ℕ} → c ≡ get_or D k 0 → 128 ≤ c → SameAt K D failed earlier k
same-outside e o = record { same = λ h l. absurd (omega (arith, e, o, l)) }

pub same_here : {K D failed earlier : List ℕ} {k c : ℕ} → c ≡ get_or D k 0 → not (eqb (get_or failed c 0) (get_or earlier c 0)) ≡ false → SameAt K D failed earlier k
same_here {failed = F} {earlier = B} {c = c} e h =
    record {
      same = λ z l. ap (λ (j : ℕ). get_or F j 0) (sym e) ∙ (eqb-true (get_or F c 0) (get_or B c 0) (not-false (eqb (get_or F c 0) (get_or B c 0)) h)
          ∙ ap (λ (j : ℕ). get_or B j 0) e);
    }

-- at the solutions of the first m edges
pub record SameSolutions (K D failed earlier : List ℕ) (m : ℕ) : Type 0 where
  pub each : (k : ℕ) → k < m → SameAt K D failed earlier k

pub solutions-start : {K D failed earlier : List ℕ} → SameSolutions K D failed earlier 0
solutions-start = record { each = λ k l. absurd (omega (arith, l)) }

pub solutions-next : {K D failed earlier : List ℕ} {m : ℕ} → SameSolutions K D failed earlier m → SameAt K D failed earlier m
    → SameSolutions K D failed earlier (m + 1)
solutions-next {K} {D} {failed} {earlier} {m} s a =
    record {
      each = λ k l. ⊎_elim (λ z. subst (SameAt K D failed earlier) (sym (eqb-true k m z)) a) (λ z. s.each k (omega (arith, l, eqb-false k m z)))
          (decided (eqb k m));
    }

pub solutions-all : {K D failed earlier : List ℕ} {m n : ℕ} → SameSolutions K D failed earlier m → n ≤ m → SameSolutions K D failed earlier n
solutions-all s l = record { each = λ k h. s.each k (omega (arith, l, h)) }

pub flags-solutions : {K D failed earlier : List ℕ} {m : ℕ} → SameFlags failed earlier 128 → SameSolutions K D failed earlier m
flags-solutions {D = D} f = record { each = λ k l. record { same = λ h i. f.same (get_or D k 0) i } }

-- q where the columns are alike, or none
pub record Unchanged (X : Edges) (sat last failed earlier : List ℕ) (q r : ℕ) : Type 0 where
  pub rests : (r ≡ 0) ⊎ ((r ≡ q) × SameFlags sat last 128 × SameSolutions X.kind X.child failed earlier X.count)

pub unchanged-none : {X : Edges} {sat last failed earlier : List ℕ} {q : ℕ} → Unchanged X sat last failed earlier q 0
unchanged-none = record { rests = inl refl }

pub unchanged-all : {X : Edges} {sat last failed earlier : List ℕ} {q : ℕ} → SameFlags sat last 128
    → SameSolutions X.kind X.child failed earlier X.count → Unchanged X sat last failed earlier q q
unchanged-all f s = record { rests = inr (refl, f, s) }

pub waits-rests : (T : Tables) (n : Negotiation) {sat last failed earlier : List ℕ} {q r : ℕ} → 0 < n.nodes.count → n.nodes.count ≤ 128
    → EdgesFormed (nodes_of n.nodes) (edges_of n.edges) → StateColumns (nodes_of n.nodes) (edges_of n.edges) sat failed
    → Waits T (state_of n) last earlier q → Unchanged n.edges sat last failed earlier q r → Resting T (state_of n) r
unfolding state_of
waits-rests T n {sat} {last} {failed} {earlier} {q} {r} some few F z w c =
    ⊎_elim
    (λ e. subst (Resting T (state_of n)) (sym e)
    (record { stands = omega (arith, some, nodes-length n.nodes); none = λ g. nothing-start (end_in T (state_of n)) }))
    (λ e. subst (Resting T (state_of n)) (sym e.0)
    (record { stands = w.stands; none = w.rests (λ j l. same_flag e.1 j l) (λ x m k. same-solution e.2 x m k) }))
    c.rests
  where
    X : Edges
    X = n.edges

    same_flag : SameFlags sat last 128 → (j : ℕ) → j < length (nodes_of n.nodes) → flag last j ≡ satisfied_in (state_of n) j
    same_flag f j l = sym (ap (λ (k : ℕ). eqb k 1) (f.same j (omega (arith, l, few, nodes-length n.nodes)))) ∙ z.is-sat j

    same-solution : SameSolutions X.kind X.child failed earlier X.count → (x : Edge) → Memᴰ x (edges_of X) → x.kind ≡ 3
        → flag earlier x.child ≡ failed_in (state_of n) x.child
    same-solution s x m k =
        let v = mem_index (record { kind = 0; parent = 0; child = 0 }) m in
        let j : ℕ = v.0 in
        let i : j < X.count = omega (arith, v.1, edges-length X) in
        let e : x ≡ edge_at X j = sym v.2 ∙ edge_in_lem X j i in
        let c : x.child ≡ get_or X.child j 0 = ap (λ (y : Edge). y.child) e in
        let l : get_or X.child j 0 < n.nodes.count = child-inside n.nodes X F j i refl in
        ap (flag earlier) c
        ∙ (sym (ap (λ (y : ℕ). eqb y 1) ((s.each j i).same (sym (ap (λ (y : Edge). y.kind) e) ∙ k) (omega (arith, l, few))))
        ∙ (z.is-failed (get_or X.child j 0) ∙ ap (failed_in (state_of n)) (sym c)))

-- below the node of a move there was nothing to do
pub waits-carried : (T : Tables) (S : State) (f : Found) {sat failed : List ℕ} → length S.nodes ≤ MOST-NODES → f.node < length S.nodes
    → EdgesFormed S.nodes S.edges → StateColumns S.nodes S.edges sat failed → NothingBefore (end_in T S) f.node
    → Waits T (carried S.header.side S (found_move (end_in T S) f)) sat failed f.node
unfolding end_in
waits-carried T S f {sat} {failed} few l F z P =
    record {
      stands = omega (arith, l, u.more.more);
      rests = λ h k g. record {
        none = λ i b. idle-stays S R u few (λ j y. sym (z.is-sat j) ∙ h j y) T (move-only (end_in T S) f S S.header.side) F
            (ap is_goal (sym (u.more.alike f.node l).expression) ∙ g)
            (λ x m y. sym (z.is-failed x.child) ∙ k x (u.more.edges x m) y) (omega (arith, b, l)) (λ e. omega (arith, b, e)) (P.none i b);
      };
    }
  where
    R : State
    R = carried S.header.side S (found_move (end_in T S) f)

    u : Later S R
    u = carried_later S S.header.side refl (found_move (end_in T S) f)
