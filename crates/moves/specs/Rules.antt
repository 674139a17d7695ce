-- The processing rules of sections 5.3 and 5.4 under document 01's decisions. Assumes nothing.
use Rattle.std.specs.Prelude.{ℕ, Bool, true, false, not, cond, ◌&&◌, ◌||◌, List, [], ◌∷◌, ◌++◌, map, eqb}
use Rattle.expression.specs.declared.Role.{Role}
use Rattle.expression.specs.declared.Credential.{Credential}
use Rattle.expression.specs.declared.Expression.{Expression}
use Rattle.expression.specs.declared.Expression.TheVariants as E
use Rattle.expression.specs.Same.{same, same_role}
use Rattle.expression.specs.Kinds.{is_entity}
use Rattle.rt0.specs.Lists.{any}
use Rattle.rt0.specs.From.{role_of, roles_of}
use Rattle.rt0.specs.Decide.{from? as from_of}
use Rattle.class.specs.Names.{class_of}
use Rattle.record.specs.declared.Pair.{Pair}
use Rattle.tables.specs.Tables.{Tables}
use Rattle.tables.specs.Public.{Public, public_of, hidden_of, keep}
use Rattle.propagation.specs.Flags.{at}
use Rattle.graph.specs.declared.Node.{Node}
use Rattle.graph.specs.declared.Edge.{Edge}
use Rattle.graph.specs.Graph.{node_in}
use Rattle.graph.specs.Propagated.{satisfied_b, complete_b}
use Rattle.negotiation.specs.State.{State}
use Rattle.negotiation.specs.Ends.{other_side}
use Rattle.moves.specs.declared.Candidate.{Candidate}
use Rattle.moves.specs.declared.Holding.TheVariants.{Absent, Free, Guarded}
use Rattle.moves.specs.declared.Known.{Known}
use Rattle.moves.specs.declared.Known.TheVariants.{Waiting, Seen}
use Rattle.moves.specs.Known.{KnownRole, is_acknowledged, known_of}
use Rattle.moves.specs.Frontiers.{gather, bodies_of, frontier_of, oppo, simp, sens}
use Rattle.moves.specs.Candidates.{ordered, Plan}

-- our end while it replies: what may show of its tables, what is known of its sensitive roles, and the negotiation
pub record End : Type 0 where
  pub tables : Public
  pub known : List KnownRole
  pub state : State

-- our end in a state
unfoldable pub end_in : Tables → State → End
end_in T S = record { tables = public_of T; known = known_of (hidden_of T) T.sensitive S; state = S }

-- the entity of an entity
abbrev pub entities_in : Expression → List ℕ
entities_in (E.Entity a) = a ∷ []
entities_in (E.Role a) = []
entities_in (E.Linked a r) = []
entities_in (E.Intersection p) = []
entities_in (E.Goal r) = []

-- the B of a role B.r
abbrev pub owners_in : ℕ → Expression → List ℕ
owners_in r (E.Entity a) = []
owners_in r (E.Role a) = cond (eqb a.name r) (a.entity ∷ []) []
owners_in r (E.Linked a s) = []
owners_in r (E.Intersection p) = []
owners_in r (E.Goal s) = []

-- Edges into node n

-- to a child of its verifier
abbrev pub child_for : ℕ → Node → Expression → ℕ → Candidate
child_for k n x b = record { kind = k; verifier = n.verifier; expression = x; subject = b; direct = false }

-- "a frontier entity .. yields an edge only if it is the node's subject"
abbrev pub suits_node : Node → Expression → Bool
suits_node n x = not (is_entity x) || same x (E.Entity n.subject)

-- implication edges to each of these
abbrev pub implications : Node → List Expression → List Candidate
implications n xs = ordered (map (λ x. child_for 1 n x n.subject) (keep (suits_node n) xs))

-- "If S ∈ ..Frontier(A.r)": the one edge to S; "When S ∉ ..": to each "that is not an entity"
abbrev pub to_subject : Node → List Expression → List Candidate
to_subject n xs =
    cond (any (same (E.Entity n.subject)) xs) (child_for 1 n (E.Entity n.subject) n.subject ∷ []) (implications n (keep (λ x. not (is_entity x)) xs))

-- "the k intersection edges"
abbrev pub part_edges : Node → List Role → List Candidate
part_edges n rs = ordered (map (λ (r : Role). child_for 5 n (E.Role r) n.subject) rs)

-- all that stands, and a mark
abbrev pub then_mark : List Candidate → Plan
then_mark ws = record { wanted = ws; marks = true }

module _ (o : End) where
  -- children by edges of kind k
  abbrev pub children_by : ℕ → ℕ → List ℕ
  children_by k i = map (λ (e : Edge). e.child) (keep (λ (e : Edge). eqb e.kind k && eqb e.parent i) o.state.edges)

  abbrev pub is_satisfied : ℕ → Bool
  is_satisfied i = at (satisfied_b o.state.nodes o.state.edges) i

  -- the B of the satisfied linking solutions B.r2 of the goal of node i
  abbrev pub solutions_of : ℕ → ℕ → List ℕ
  solutions_of r2 i = gather (λ g. gather (λ c. owners_in r2 (node_in o.state.nodes c).expression) (keep is_satisfied (children_by 3 g))) (children_by 2 i)

  -- T = ⟨V : A.r1.r2 ← S⟩: the linking-monitor edge, a linking-implication edge for each satisfied solution, and a mark once the goal is complete
  abbrev pub link_rules : ℕ → Node → Role → ℕ → Plan
  link_rules i n a r2 =
      record {
        wanted = child_for 2 n (E.Goal r2) n.subject ∷ ordered (map (λ b. child_for 4 n (E.Role a) b) (solutions_of r2 i));
        marks = any (complete_b o.state.nodes o.state.edges) (children_by 2 i);
      }

  -- 5.3, Verifier-Side Processing

  -- "each entity B such that A.r1 ← B", "taken over 0x12 alone"
  abbrev pub members_of : Role → List ℕ
  members_of a =
      keep (λ b. from_of o.tables.issuer_stored (E.Role a) (E.Entity b)) (gather (λ (c : Credential). entities_in c.body) o.tables.issuer_stored)

  abbrev pub oppo_frontier : List Expression → List Expression
  oppo_frontier xs = frontier_of (oppo o.tables.names) o.tables.issuer_stored xs

  -- by the class of the first name
  abbrev pub by_class : ℕ → Plan → Plan → Plan → Plan
  by_class k issuerDef issuerAll subjectAll = cond (eqb k 1) issuerDef (cond (eqb k 2) issuerAll subjectAll)

  unfoldable pub verifier_rules : ℕ → Node → Expression → Plan
  verifier_rules i n (E.Entity a) = then_mark []
  verifier_rules i n (E.Role a) = then_mark (implications n (oppo_frontier (bodies_of o.tables.issuer_stored (E.Role a))))
  verifier_rules i n (E.Linked a r2) =
      by_class (class_of o.tables.names a.name)
      (link_rules i n a r2)
      (then_mark (implications n (oppo_frontier (map (λ b. E.Role (role_of b r2)) (members_of a)))))
      (then_mark [])
  verifier_rules i n (E.Intersection p) = then_mark (part_edges n (roles_of p))
  verifier_rules i n (E.Goal r) = then_mark []

  -- 5.4, Opponent-Side Processing

  -- "a control edge T ← ⟨O : e ← V⟩"
  abbrev pub control_edge : Node → Role → Candidate
  control_edge n r = record { kind = 6; verifier = other_side n.verifier; expression = E.Role r; subject = o.state.header.other; direct = false }

  -- "the implication edge T ← ⟨V : O ← O⟩", with the direct credential
  abbrev pub own_edge : Node → Candidate
  own_edge n = record { kind = 1; verifier = n.verifier; expression = E.Entity n.subject; subject = n.subject; direct = true }

  -- a sensitive role: (1) the Ack target; (2) and (3) by what is known; (4) the frontiers of its other credentials' bodies; (5) "if T is satisfied, or
  -- all of the above steps are done". "Rule (2) waits for the Ack target, rule (3) for the Ack target and, if set, the AC target"
  unfoldable pub sensitive_rules : ℕ → Node → Candidate → List Candidate → Known → Plan
  sensitive_rules i n ack rest Waiting = record { wanted = ack ∷ rest; marks = is_satisfied i }
  sensitive_rules i n ack rest (Seen Absent) = record { wanted = ack ∷ rest; marks = true }
  sensitive_rules i n ack rest (Seen Free) = record { wanted = ack ∷ own_edge n ∷ rest; marks = true }
  sensitive_rules i n ack rest (Seen (Guarded r)) =
      record {
        wanted = ack ∷ control_edge n r ∷ (cond (is_acknowledged o.state r) (own_edge n ∷ []) [] ++ rest);
        marks = is_acknowledged o.state r || is_satisfied i;
      }

  abbrev pub sens_frontier : List Expression → List Expression
  sens_frontier xs = frontier_of (sens o.tables.sensitive) o.tables.subject_stored xs

  abbrev pub simp_frontier : List Expression → List Expression
  simp_frontier xs = frontier_of simp o.tables.subject_stored xs

  -- about us: by what is known of the first of these that is the role; about another
  abbrev pub own_rules : ℕ → Node → Role → List KnownRole → Plan
  own_rules i n a [] = then_mark (to_subject n (sens_frontier (E.Role a ∷ [])))
  own_rules i n a (k ∷ ks) =
      cond (same_role k.role a)
      (sensitive_rules i n (control_edge n k.ack)
      (implications n (keep (λ x. not (is_entity x)) (sens_frontier (bodies_of o.tables.subject_stored (E.Role a))))) k.known)
      (own_rules i n a ks)

  abbrev pub is_named : ℕ → Role → Bool
  is_named r a = eqb a.name r

  -- "any A.r2 ∈ sensitiveRoles or A.r2 defined by a credential"
  abbrev pub solution_roles : ℕ → List Role
  solution_roles r2 = keep (is_named r2) (map (λ (p : Pair). p.role) o.tables.sensitive ++ map (λ (c : Credential). c.head) o.tables.subject_stored)

  unfoldable pub opponent_rules : ℕ → Node → Expression → Plan
  opponent_rules i n (E.Entity a) = then_mark []
  opponent_rules i n (E.Role a) = cond (eqb n.subject o.tables.own) (own_rules i n a o.known) (then_mark (to_subject n (simp_frontier (E.Role a ∷ []))))
  opponent_rules i n (E.Linked a r2) = link_rules i n a r2
  opponent_rules i n (E.Intersection p) = then_mark (part_edges n (roles_of p))
  opponent_rules i n (E.Goal r2) = then_mark (ordered (map (λ (a : Role). child_for 3 n (E.Role a) n.subject) (solution_roles r2)))
