-- Every edge that a processing rule may add is right. Assumes nothing.
use Prim.Native.Nat.{ℕ, ◌<◌}
use Rattle.std.proofs.Common.{arith, ◌∙◌}
use Rattle.std.proofs.Math.Path.{◌≡◌, refl, sym, ap, subst}
use Rattle.std.proofs.Math.Logic.{⊎_elim}
use Rattle.std.proofs.Math.Bool.{Bool, true, false}
use Rattle.std.specs.Prelude.{not, cond, ◌&&◌, Option, Some, None}
use mathlib.Core.List.Memᴰ
use mathlib.Core.List.{List, [], ◌∷◌, ◌++◌, map, Memᴰ}
use borrow.Author.Tests.{eq-eqb, eqb-true, ltb-true, lt-ltb}
use Rattle.std.proofs.Math.Dec.{eqb, ltb}
use Rattle.std.proofs.Math.ListN.{length}
use Rattle.expression.specs.declared.Role.{Role}
use Rattle.expression.specs.declared.Parts.{Parts}
use Rattle.expression.specs.declared.Credential.{Credential}
use Rattle.expression.specs.declared.Expression.{Expression}
use Rattle.expression.specs.declared.Expression.TheVariants as E
use Rattle.expression.specs.Form.{is_role, well_formed}
use Rattle.expression.specs.Credential.{is_body}
use Rattle.expression.specs.Same.{same, same_role}
use Rattle.expression.specs.laws.Same.{same-eq, eq-same, same_role-eq}
use Rattle.expression.specs.Kinds.{is_entity}
use Rattle.rt0.specs.From.{From, reflexive, credential, linking, role_of, roles_of}
use Rattle.rt0.specs.Decide.{from? as from_of}
use Rattle.rt0.proofs.laws.Laws.{sound}
use Rattle.rt0.specs.Lists.{any}
use Rattle.rt0.specs.laws.Lists.{any-find, map-find}
use Rattle.word.specs.laws.Bools.{and_parts}
use Rattle.class.specs.Names.{class_of}
use Rattle.record.specs.declared.Pair.{Pair}
use Rattle.tables.specs.Tables.{Tables}
use Rattle.tables.specs.Accepted.{rising_none, rising-cons}
use Rattle.tables.specs.Lookup.{direct_of, other_of}
use Rattle.tables.specs.Public.{keep, less_direct, held_of, public_of, hidden_of}
use Rattle.tables.specs.laws.Public.{keep-find, held-find, holds-find}
use Rattle.graph.specs.declared.Node.{Node}
use Rattle.graph.specs.declared.Edge.{Edge}
use Rattle.graph.specs.Graph.{node_in}
use Rattle.graph.specs.Form.{is_standard}
use Rattle.graph.specs.laws.Propagated.{satisfied-exact}
use Rattle.negotiation.specs.State.{State}
use Rattle.negotiation.specs.Ends.{entity_of}
use Rattle.applied.specs.Step.{verifier_of}
use Rattle.legal.specs.Number.{formed_as}
use Rattle.legal.specs.Legal.{Monitored}
use Rattle.moves.specs.declared.Candidate.{Candidate}
use Rattle.moves.specs.declared.Holding.{Holding}
use Rattle.moves.specs.declared.Holding.TheVariants.{Absent, Free, Guarded}
use Rattle.moves.specs.declared.Known.{Known}
use Rattle.moves.specs.declared.Known.TheVariants.{Waiting, Seen}
use Rattle.moves.specs.Known.{policy_of, holding_of, is_acknowledged, KnownRole, known_of}
use Rattle.moves.specs.Frontiers.{gather, bodies_of, oppo, simp, sens}
use Rattle.moves.specs.Candidates.{ordered, Plan}
use Rattle.moves.specs.laws.Candidates.{ordered-find}
use Rattle.moves.specs.Rules.{End, end_in, entities_in, owners_in, child_for, suits_node, implications, to_subject, part_edges, then_mark, children_by, is_satisfied}
use Rattle.moves.specs.Rules.{solutions_of, link_rules, members_of, oppo_frontier, verifier_rules, control_edge, own_edge, sensitive_rules, sens_frontier}
use Rattle.moves.specs.Rules.{simp_frontier, own_rules, is_named, solution_roles, opponent_rules}
use Rattle.moves.specs.Move.{side_set, direct_for, credentials_for, plan_at}
use Rattle.legality.specs.laws.Proper.{Proper, role-proper, entity-proper, linked-first, linked-goal, linked-second, part-proper}
use Rattle.legality.specs.laws.Proper.{ProperCredential, head-formed, body-proper}
use Rattle.legality.specs.laws.Stored.{Stored, issuer-stored, subject-stored, less-stored, sensitive-role, ack-proper, access-proper}
use Rattle.legality.specs.laws.Going.{Going, going-header, going-node, going-ends}
use Rattle.legality.specs.laws.Forms.{form-one, form-two, form-three, form-four, form-five, form-six, other-side}
use Rattle.legality.specs.laws.Shown.{unshown-showable}
use Rattle.legality.specs.laws.Reached.{Reached, frontier-reached, bodies-reached, self-reached}
use Rattle.legality.specs.laws.Fit.{child_node, FitWith, Fit, AllFit, plain-fit, unshown-from, implication-fit}

-- Lists

gather-find : {A B : Type 0} (f : A → List B) (xs : List A) {y : B} → Memᴰ y (gather f xs) → (x : A) × Memᴰ x xs × Memᴰ y (f x)
gather-find f [] m = absurd (Memᴰ.not-nil m)
gather-find f (x ∷ xs) m =
    ⊎_elim (λ k. (x, Memᴰ.head refl, k)) (λ k. let r = gather-find f xs k in (r.0, Memᴰ.tail r.1, r.2)) (Memᴰ.append_cases (f x) m)

-- a list of one
one_only : {A : Type 0} {x y : A} → Memᴰ x (y ∷ []) → x ≡ y
one_only m = ⊎_elim (λ e. e) (λ k. absurd (Memᴰ.not-nil k)) (Memᴰ.cases_cons m)

-- the B of a role B.r
owner-role : (r : ℕ) (x : Expression) {b : ℕ} → Memᴰ b (owners_in r x) → x ≡ E.Role (role_of b r)
owner-role r (E.Entity a) m = absurd (Memᴰ.not-nil m)
owner-role r (E.Role a) {b} m = go (eqb a.name r) refl m
  where
    go : (t : Bool) → eqb a.name r ≡ t → Memᴰ b (cond t (a.entity ∷ []) []) → E.Role a ≡ E.Role (role_of b r)
    go true e k = let p : b ≡ a.entity = one_only k in let q : a.name ≡ r = eqb-true a.name r e in λ i. E.Role (record { entity = sym p i; name = q i })
    go false e k = absurd (Memᴰ.not-nil k)
owner-role r (E.Linked a s) m = absurd (Memᴰ.not-nil m)
owner-role r (E.Intersection p) m = absurd (Memᴰ.not-nil m)
owner-role r (E.Goal s) m = absurd (Memᴰ.not-nil m)

entity-in : (x : Expression) {b : ℕ} → Memᴰ b (entities_in x) → x ≡ E.Entity b
entity-in (E.Entity a) m = ap E.Entity (sym (one_only m))
entity-in (E.Role a) m = absurd (Memᴰ.not-nil m)
entity-in (E.Linked a s) m = absurd (Memᴰ.not-nil m)
entity-in (E.Intersection p) m = absurd (Memᴰ.not-nil m)
entity-in (E.Goal s) m = absurd (Memᴰ.not-nil m)

-- children by edges of kind k
child-edge : (o : End) (k i : ℕ) {c : ℕ} → Memᴰ c (children_by o k i) → Memᴰ (record { kind = k; parent = i; child = c }) o.state.edges
child-edge o k i {c} m =
    let u = map-find (λ (e : Edge). e.child) (keep (λ (e : Edge). eqb e.kind k && eqb e.parent i) o.state.edges) m in
    let v = keep-find (λ (e : Edge). eqb e.kind k && eqb e.parent i) o.state.edges u.1 in
    let e : Edge = u.0 in
    let w = and_parts (eqb e.kind k) (eqb e.parent i) v.1 in
    let p : e.kind ≡ k = eqb-true e.kind k w.0 in
    let q : e.parent ≡ i = eqb-true e.parent i w.1 in
    let r : e.child ≡ c = sym u.2 in
    let z : e ≡ record { kind = k; parent = i; child = c } = λ j. record { kind = p j; parent = q j; child = r j } in
    subst (λ (d : Edge). Memᴰ d o.state.edges) z v.0

-- What is known of a sensitive role

-- the role is held, and its AC role is proper
abbrev HeldBy : Tables → Role → Holding → Type 0
HeldBy T r Absent = Unit {0}
HeldBy T r Free = Memᴰ (direct_of T.own r) T.subject_stored
HeldBy T r (Guarded q) = Memᴰ (direct_of T.own r) T.subject_stored × Proper T.names (E.Role q)

abbrev KnownBy : Tables → Role → Known → Type 0
KnownBy T r Waiting = Unit {0}
KnownBy T r (Seen h) = HeldBy T r h

pub record KnownRight (T : Tables) (k : KnownRole) : Type 0 where
  pub ack : Proper T.names (E.Role k.ack)
  pub known : KnownBy T k.role k.known

module _ (T : Tables) (S : State) (g : Going T S) where
  held_by : (r : Role) → HeldBy T r (holding_of (hidden_of T) r)
  unfolding holding_of hidden_of
  held_by r = go (any (same_role r) (held_of T.own T.sensitive T.subject_stored)) refl
    where
      policy : Memᴰ (direct_of T.own r) T.subject_stored → (a : Option Role) → other_of T.access r ≡ a → HeldBy T r (policy_of a)
      policy m (Some q) e = (m, access-proper T g.tables r q e)
      policy m None e = m

      go : (b : Bool) → any (same_role r) (held_of T.own T.sensitive T.subject_stored) ≡ b → HeldBy T r (cond b (policy_of (other_of T.access r)) Absent)
      go true e =
          let w = any-find (same_role r) (held_of T.own T.sensitive T.subject_stored) e in
          let q : r ≡ w.0 = same_role-eq r w.0 w.2 in
          let m = holds-find T.own T.subject_stored w.0 (held-find T.own T.sensitive T.subject_stored w.0 w.1).1 in
          policy (subst (λ (a : Role). Memᴰ (direct_of T.own a) T.subject_stored) (sym q) m) (other_of T.access r) refl
      go false e = tt

  known-right : (k : KnownRole) → Memᴰ k (end_in T S).known → KnownRight T k
  unfolding end_in known_of
  known-right k m =
      let w = map-find _ T.sensitive m in
      let p : Pair = w.0 in
      subst (KnownRight T) (sym w.2) (record { ack = ack-proper T g.tables p w.1; known = go p (is_acknowledged S p.other) })
    where
      go : (p : Pair) (b : Bool) → KnownBy T p.role (cond b (Seen (holding_of (hidden_of T) p.role)) Waiting)
      go p true = held_by p.role
      go p false = tt

-- Lists of edges

module _ (T : Tables) (S : State) (i : ℕ) where
  fit_none : AllFit T S i []
  fit_none w m = absurd (Memᴰ.not-nil m)

  fit-cons : {v : Candidate} {ws : List Candidate} → Fit T S i v → AllFit T S i ws → AllFit T S i (v ∷ ws)
  fit-cons f h w m = ⊎_elim (λ e. subst (Fit T S i) (sym e) f) (λ k. h w k) (Memᴰ.cases_cons m)

  fit_append : (vs : List Candidate) {ws : List Candidate} → AllFit T S i vs → AllFit T S i ws → AllFit T S i (vs ++ ws)
  fit_append vs f h w m = ⊎_elim (f w) (h w) (Memᴰ.append_cases vs m)

  fit-ordered : {A : Type 0} (f : A → Candidate) (xs : List A) → ((x : A) → Memᴰ x xs → Fit T S i (f x)) → AllFit T S i (ordered (map f xs))
  fit-ordered f xs h w m = let p = map-find f xs (ordered-find (map f xs) m) in subst (Fit T S i) (sym p.2) (h p.0 p.1)

  fit-plan : (b : Bool) (p q : Plan) → AllFit T S i p.wanted → AllFit T S i q.wanted → AllFit T S i (cond b p q).wanted
  fit-plan true p q f h = f
  fit-plan false p q f h = h

  fit-if : (b : Bool) {p q : List Candidate} → (b ≡ true → AllFit T S i p) → AllFit T S i q → AllFit T S i (cond b p q)
  fit-if true f h = f refl
  fit-if false f h = h

module _ (T : Tables) (S : State) (g : Going T S) (i : ℕ) (l : i < length S.nodes) where
  abbrev n : Node
  n = node_in S.nodes i

  proper : {x : Expression} → n.expression ≡ x → Proper T.names x
  proper e = subst (Proper T.names) e (going-node T S g i l).proper

  standard : {x : Expression} → n.expression ≡ x → is_standard x ≡ true → is_standard n.expression ≡ true
  standard e h = ap is_standard e ∙ h

  from-node : (C : List Credential) {x : Expression} → n.expression ≡ x → From C n.expression x
  from-node C e = subst (λ (y : Expression). From C n.expression y) e reflexive

  -- Implications

  module _ (C : List Credential) (s : Stored T.names C) (own : side_set (end_in T S) n ≡ C) (std : is_standard n.expression ≡ true) where
    implications-fit : (xs : List Expression) → ((x : Expression) → Memᴰ x xs → Reached T.names C n.expression x) → AllFit T S i (implications n xs)
    implications-fit xs h =
        fit-ordered T S i (λ x. child_for 1 n x n.subject) (keep (suits_node n) xs)
        (λ x m. let k = keep-find (suits_node n) xs m in implication-fit T S g i l C s own std x (h x k.0) k.1)

    subject-fit : (xs : List Expression) → ((x : Expression) → Memᴰ x xs → Reached T.names C n.expression x) → AllFit T S i (to_subject n xs)
    subject-fit xs h =
        fit-if T S i (any (same (E.Entity n.subject)) xs)
        (λ e.
        let w = any-find (same (E.Entity n.subject)) xs e in
        let q : E.Entity n.subject ≡ w.0 = same-eq (E.Entity n.subject) w.0 w.2 in
        fit-cons T S i (implication-fit T S g i l C s own std (E.Entity n.subject)
        (subst (λ (x : Expression). Reached T.names C n.expression x) (sym q) (h w.0 w.1))
        (eq-same (E.Entity n.subject) (E.Entity n.subject) refl)) (fit_none T S i))
        (implications-fit (keep (λ x. not (is_entity x)) xs) (λ x m. h x (keep-find (λ x. not (is_entity x)) xs m).0))

  -- "the k intersection edges"
  parts-fit : (p : Parts) → n.expression ≡ E.Intersection p → AllFit T S i (part_edges n (roles_of p))
  unfolding formed_as verifier_of
  parts-fit p e =
      fit-ordered T S i (λ (r : Role). child_for 5 n (E.Role r) n.subject) (roles_of p)
      (λ r m.
      plain-fit T S i (child_for 5 n (E.Role r) n.subject) refl refl refl
      (λ t. form-five _ n (child_node (child_for 5 n (E.Role r) n.subject) t) e m refl refl refl) (part-proper T.names p (proper e) r m)
      (going-node T S g i l).subject (λ z. absurd (let y : ◌≡◌ {A = ℕ} 5 4 = z in omega (arith, y))))

  -- Linked roles

  module _ (a : Role) (r : ℕ) (e : n.expression ≡ E.Linked a r) where
    solution-monitored : (b : ℕ) → Memᴰ b (solutions_of (end_in T S) r i) → Monitored S n.expression b i × (0 < b)
    unfolding end_in
    solution-monitored b m =
        let o : End = end_in T S in
        let u = gather-find _ (children_by o 2 i) m in
        let goal : ℕ = u.0 in
        let v = gather-find (λ c. owners_in r (node_in S.nodes c).expression) (keep (is_satisfied o) (children_by o 3 goal)) u.2 in
        let c : ℕ = v.0 in
        let w = keep-find (is_satisfied o) (children_by o 3 goal) v.1 in
        let f = child-edge o 2 i u.1 in
        let h = child-edge o 3 goal w.0 in
        let role : (node_in S.nodes c).expression ≡ E.Role (role_of b r) = owner-role r (node_in S.nodes c).expression v.2 in
        let inside : c < length S.nodes = (going-ends T S g (record { kind = 3; parent = goal; child = c }) h).1 in
        let formed : is_role (role_of b r) ≡ true = sym (ap well_formed role) ∙ (going-node T S g c inside).proper.formed in (
          record {
            goal = goal;
            monitor = record { kind = 2; passes = refl; edge = f; inside = (going-ends T S g (record { kind = 2; parent = i; child = goal }) f).1 };
            solution = c;
            solving = record { kind = 3; passes = refl; edge = h; inside = inside };
            first = a;
            second = r;
            linked = e;
            role = role;
            satisfied = (satisfied-exact S.nodes S.edges c).0 w.1;
          },
          ltb-true 0 b (and_parts (ltb 0 b) (ltb 0 r) formed).0,
        )

    link-fit : AllFit T S i (link_rules (end_in T S) i n a r).wanted
    unfolding formed_as verifier_of
    link-fit =
        fit-cons T S i
        (plain-fit T S i (child_for 2 n (E.Goal r) n.subject) refl refl refl
        (λ t. form-two _ n (child_node (child_for 2 n (E.Goal r) n.subject) t) e refl refl refl) (linked-goal T.names a r (proper e))
        (going-node T S g i l).subject (λ z. absurd (let y : ◌≡◌ {A = ℕ} 2 4 = z in omega (arith, y))))
        (fit-ordered T S i (λ b. child_for 4 n (E.Role a) b) (solutions_of (end_in T S) r i)
        (λ b m.
        let k = solution-monitored b m in
        plain-fit T S i (child_for 4 n (E.Role a) b) refl refl refl (λ t. form-four _ n (child_node (child_for 4 n (E.Role a) b) t) e refl refl)
        (linked-first T.names a r (proper e)) k.1 (λ z. k.0)))

  -- Our end as verifier

  module _ (side : eqb n.verifier S.header.side ≡ true) where
    issuer-own : side_set (end_in T S) n ≡ T.issuer_stored
    unfolding end_in public_of
    issuer-own = rw side refl

    members-reached : (a : Role) (r : ℕ) → n.expression ≡ E.Linked a r → (x : Expression)
        → Memᴰ x (map (λ b. E.Role (role_of b r)) (members_of (end_in T S) a)) → Reached T.names T.issuer_stored n.expression x
    unfolding end_in public_of
    members-reached a r e x m =
        let u = map-find (λ b. E.Role (role_of b r)) (members_of (end_in T S) a) m in
        let b : ℕ = u.0 in
        let v = keep-find (λ b. from_of T.issuer_stored (E.Role a) (E.Entity b))
        (gather (λ (c : Credential). entities_in c.body) T.issuer_stored) u.1 in
        let w = gather-find (λ (c : Credential). entities_in c.body) T.issuer_stored v.0 in
        let c : Credential = w.0 in
        let body : c.body ≡ E.Entity b = entity-in c.body w.2 in
        let positive : ltb 0 b ≡ true = sym (ap well_formed body) ∙ (body-proper T.names c ((issuer-stored T g.tables).each c w.1)).formed in
        let linked : From T.issuer_stored (E.Linked a r) (E.Role (role_of b r)) = linking (sound T.issuer_stored (E.Role a) (E.Entity b) v.1) in
        subst (λ (y : Expression). Reached T.names T.issuer_stored n.expression y) (sym u.2)
        (record {
          proper = linked-second T.names a r b (proper e) positive;
          body = refl;
          from = subst
              (λ (y : Expression). From T.issuer_stored y (E.Role (role_of b r))) (sym e) linked;
        })

    verifier-fit : (x : Expression) → n.expression ≡ x → AllFit T S i (verifier_rules (end_in T S) i n x).wanted
    unfolding verifier_rules end_in public_of
    verifier-fit (E.Entity a) e = fit_none T S i
    verifier-fit (E.Role a) e =
        implications-fit T.issuer_stored (issuer-stored T g.tables) issuer-own (standard e refl)
        (oppo_frontier (end_in T S) (bodies_of T.issuer_stored (E.Role a)))
        (frontier-reached T.names T.issuer_stored n.expression (issuer-stored T g.tables) (oppo T.names) (bodies_of T.issuer_stored (E.Role a))
        (bodies-reached T.names T.issuer_stored n.expression (issuer-stored T g.tables) (E.Role a) (from-node T.issuer_stored e)))
    verifier-fit (E.Linked a r) e =
        let members : List Expression = map (λ b. E.Role (role_of b r)) (members_of (end_in T S) a) in
        let all : Plan = then_mark (implications n (oppo_frontier (end_in T S) members)) in
        fit-plan T S i (eqb (class_of T.names a.name) 1) (link_rules (end_in T S) i n a r)
        (cond (eqb (class_of T.names a.name) 2) all (then_mark [])) (link-fit a r e)
        (fit-plan T S i (eqb (class_of T.names a.name) 2) all (then_mark [])
        (implications-fit T.issuer_stored (issuer-stored T g.tables) issuer-own (standard e refl) (oppo_frontier (end_in T S) members)
        (frontier-reached T.names T.issuer_stored n.expression (issuer-stored T g.tables) (oppo T.names) members (members-reached a r e)))
        (fit_none T S i))
    verifier-fit (E.Intersection p) e = parts-fit p e
    verifier-fit (E.Goal r) e = fit_none T S i

  -- Our end as opponent

  module _ (side : eqb n.verifier S.header.side ≡ false) where
    abbrev C : List Credential
    C = less_direct T.own T.sensitive T.subject_stored

    subject-own : side_set (end_in T S) n ≡ C
    unfolding end_in public_of
    subject-own = rw side refl

    -- "a control edge T ← ⟨O : e ← V⟩"
    control-fit : is_standard n.expression ≡ true → (r : Role) → Proper T.names (E.Role r) → Fit T S i (control_edge (end_in T S) n r)
    unfolding end_in formed_as verifier_of entity_of
    control-fit std r p =
        let other : S.header.other ≡ entity_of S.header n.verifier = rw side refl in
        plain-fit T S i (control_edge (end_in T S) n r) refl refl refl
        (λ t. form-six (entity_of S.header n.verifier) n (child_node (control_edge (end_in T S) n r) t) std refl (other-side n.verifier) other) p
        (omega (arith, (going-header T S g).other)) (λ z. absurd (let y : ◌≡◌ {A = ℕ} 6 4 = z in omega (arith, y)))

    -- "the implication edge T ← ⟨V : O ← O⟩"
    own-fit : (a : Role) → n.expression ≡ E.Role a → n.subject ≡ T.own → Memᴰ (direct_of T.own a) T.subject_stored
        → Fit T S i (own_edge (end_in T S) n)
    unfolding credentials_for end_in public_of formed_as verifier_of
    own-fit a e q m =
        let D : List Credential = direct_of T.own a ∷ [] in
        let w : Candidate = own_edge (end_in T S) n in
        let s : Stored T.names D = record {
          each =
              λ c k. subst (λ (d : Credential). ProperCredential T.names d) (sym (one_only k)) ((subject-stored T g.tables).each (direct_of T.own a) m);
          rising = rising-cons refl rising_none;
        } in
        let f : From D (E.Role a) (E.Entity T.own) = credential {c = direct_of T.own a} (Memᴰ.head refl) in
        let h : From D n.expression (E.Entity n.subject) = subst (λ (y : Expression). From D y (E.Entity n.subject)) (sym e)
        (subst (λ (b : ℕ). From D (E.Role a) (E.Entity b)) (sym q) f) in
        record {
          fit = subst (FitWith T S i w) (ap (direct_for (end_in T S)) (sym e))
              (record {
                kind = refl;
                verifier = refl;
                form = λ t. form-one _ n (child_node w t) (standard e refl) (eq-eqb n.subject n.subject refl) refl refl;
                child = entity-proper T.names n.subject (lt-ltb 0 n.subject (going-node T S g i l).subject);
                subject = (going-node T S g i l).subject;
                shows = unshown-showable T.names S.shown D s;
                justified = record { implied = λ z. unshown-from S.shown D h; monitored = λ z. absurd (let y : ◌≡◌ {A = ℕ} 1 4 = z in omega (arith, y)) };
              });
        }

    sensitive-fit : (a : Role) → n.expression ≡ E.Role a → n.subject ≡ T.own → (ack : Candidate) (rest : List Candidate) → Fit T S i ack
        → AllFit T S i rest → (k : Known) → KnownBy T a k → AllFit T S i (sensitive_rules (end_in T S) i n ack rest k).wanted
    unfolding sensitive_rules
    sensitive-fit a e q ack rest f h Waiting k = fit-cons T S i f h
    sensitive-fit a e q ack rest f h (Seen Absent) k = fit-cons T S i f h
    sensitive-fit a e q ack rest f h (Seen Free) k = fit-cons T S i f (fit-cons T S i (own-fit a e q k) h)
    sensitive-fit a e q ack rest f h (Seen (Guarded r)) k =
        let b : Bool = is_acknowledged (end_in T S).state r in
        fit-cons T S i f
        (fit-cons T S i (control-fit (standard e refl) r k.1)
        (fit_append T S i (cond b (own_edge (end_in T S) n ∷ []) [])
        (fit-if T S i b (λ z. fit-cons T S i (own-fit a e q k.0) (fit_none T S i)) (fit_none T S i)) h))

    own-rules-fit : (a : Role) → n.expression ≡ E.Role a → n.subject ≡ T.own → (ks : List KnownRole)
        → ((k : KnownRole) → Memᴰ k ks → KnownRight T k) → AllFit T S i (own_rules (end_in T S) i n a ks).wanted
    unfolding end_in public_of
    own-rules-fit a e q [] h =
        subject-fit C (less-stored T g.tables) subject-own (standard e refl) (sens_frontier (end_in T S) (E.Role a ∷ []))
        (frontier-reached T.names C n.expression (less-stored T g.tables) (sens T.sensitive) (E.Role a ∷ [])
        (λ x m. self-reached T.names C n.expression (less-stored T g.tables) (going-node T S g i l).proper (ap is_body e) x
        (subst (λ (y : Expression). Memᴰ x (y ∷ [])) (sym e) m)))
    own-rules-fit a e q (k ∷ ks) h = go (same_role k.role a) refl (own-rules-fit a e q ks (λ j m. h j (Memᴰ.tail m)))
      where
        here : KnownRight T k
        here = h k (Memᴰ.head refl)

        rest : AllFit T S i (implications n (keep (λ x. not (is_entity x)) (sens_frontier (end_in T S) (bodies_of C (E.Role a)))))
        rest =
            implications-fit C (less-stored T g.tables) subject-own (standard e refl)
            (keep (λ x. not (is_entity x)) (sens_frontier (end_in T S) (bodies_of C (E.Role a))))
            (λ x m.
            frontier-reached T.names C n.expression (less-stored T g.tables) (sens T.sensitive) (bodies_of C (E.Role a))
            (bodies-reached T.names C n.expression (less-stored T g.tables) (E.Role a) (from-node C e)) x
            (keep-find (λ x. not (is_entity x)) (sens_frontier (end_in T S) (bodies_of C (E.Role a))) m).0)

        go : (b : Bool) → same_role k.role a ≡ b → AllFit T S i (own_rules (end_in T S) i n a ks).wanted
            → AllFit T S i (cond b (sensitive_rules (end_in T S) i n (control_edge (end_in T S) n k.ack)
            (implications n (keep (λ x. not (is_entity x)) (sens_frontier (end_in T S) (bodies_of C (E.Role a))))) k.known)
            (own_rules (end_in T S) i n a ks)).wanted
        go true z ih =
            sensitive-fit a e q (control_edge (end_in T S) n k.ack) _ (control-fit (standard e refl) k.ack here.ack) rest k.known
            (subst (λ (r : Role). KnownBy T r k.known) (same_role-eq k.role a z) here.known)
        go false z ih = ih

    -- "any A.r2 ∈ sensitiveRoles or A.r2 defined by a credential"
    solutions-fit : (r : ℕ) → n.expression ≡ E.Goal r
        → AllFit T S i (ordered (map (λ (a : Role). child_for 3 n (E.Role a) n.subject) (solution_roles (end_in T S) r)))
    unfolding end_in public_of formed_as verifier_of
    solutions-fit r e =
        fit-ordered T S i (λ (a : Role). child_for 3 n (E.Role a) n.subject) (solution_roles (end_in T S) r)
        (λ a m.
        let k = keep-find (is_named (end_in T S) r) (map (λ (p : Pair). p.role) T.sensitive ++ map (λ (c : Credential). c.head) C) m in
        let role : is_role a ≡ true = ⊎_elim
        (λ j. let w = map-find (λ (p : Pair). p.role) T.sensitive j in ap is_role w.2 ∙ sensitive-role T g.tables w.0 w.1)
        (λ j. let w = map-find (λ (c : Credential). c.head) C j in ap is_role w.2
        ∙ head-formed T.names w.0 ((less-stored T g.tables).each w.0 w.1))
        (Memᴰ.append_cases (map (λ (p : Pair). p.role) T.sensitive) k.0) in
        plain-fit T S i (child_for 3 n (E.Role a) n.subject) refl refl refl
        (λ t. form-three _ n (child_node (child_for 3 n (E.Role a) n.subject) t) e k.1 refl refl)
        (role-proper T.names a role) (going-node T S g i l).subject (λ z. absurd (let y : ◌≡◌ {A = ℕ} 3 4 = z in omega (arith, y))))

    opponent-fit : (x : Expression) → n.expression ≡ x → AllFit T S i (opponent_rules (end_in T S) i n x).wanted
    unfolding opponent_rules end_in public_of
    opponent-fit (E.Entity a) e = fit_none T S i
    opponent-fit (E.Role a) e = go (eqb n.subject T.own) refl
      where
        go : (b : Bool) → eqb n.subject T.own ≡ b
            → AllFit T S i (cond b (own_rules (end_in T S) i n a (end_in T S).known) (then_mark (to_subject n (simp_frontier (end_in T S) (E.Role a ∷ []))))).wanted
        go true q = own-rules-fit a e (eqb-true n.subject T.own q) (end_in T S).known (known-right T S g)
        go false q =
            subject-fit C (less-stored T g.tables) subject-own (standard e refl) (simp_frontier (end_in T S) (E.Role a ∷ []))
            (frontier-reached T.names C n.expression (less-stored T g.tables) simp (E.Role a ∷ [])
            (λ x m. self-reached T.names C n.expression (less-stored T g.tables) (going-node T S g i l).proper (ap is_body e) x
            (subst (λ (y : Expression). Memᴰ x (y ∷ [])) (sym e) m)))
    opponent-fit (E.Linked a r) e = link-fit a r e
    opponent-fit (E.Intersection p) e = parts-fit p e
    opponent-fit (E.Goal r) e = solutions-fit r e

  -- the rules of our side for a node
  pub plan-fit : AllFit T S i (plan_at (end_in T S) i n).wanted
  unfolding end_in
  plan-fit = go (eqb n.verifier S.header.side) refl
    where
      go : (b : Bool) → eqb n.verifier S.header.side ≡ b
          → AllFit T S i (cond b (verifier_rules (end_in T S) i n n.expression) (opponent_rules (end_in T S) i n n.expression)).wanted
      go true e = verifier-fit e n.expression refl
      go false e = opponent-fit e n.expression refl
