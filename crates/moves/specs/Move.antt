-- A move: an edge with the credentials that it needs, or a mark (document 01, "The reply"). Assumes nothing.
use Rattle.std.specs.Prelude.{ℕ, suc, not, cond, List, [], ◌∷◌, ◌++◌, map, eqb}
use Rattle.expression.specs.declared.Credential.{Credential}
use Rattle.expression.specs.declared.Expression.{Expression}
use Rattle.expression.specs.declared.Expression.TheVariants as E
use Rattle.needed.specs.Needed.{needed}
use Rattle.tables.specs.Lookup.{direct_of}
use Rattle.tables.specs.Public.{keep}
use Rattle.graph.specs.declared.Node.{Node}
use Rattle.message.specs.declared.Command.{Command}
use Rattle.message.specs.declared.Command.TheVariants.{Show, Bring, Join, Mark}
use Rattle.rt0.specs.Shown.{is_shown}
use Rattle.graph.specs.Processed.{processed_by}
use Rattle.moves.specs.Initial.{initial_state}
use Rattle.moves.specs.declared.Candidate.{Candidate}
use Rattle.moves.specs.declared.Choice.{Choice}
use Rattle.moves.specs.declared.Choice.TheVariants as K
use Rattle.moves.specs.Candidates.{Plan, chosen_in, child_number, child_stands, is_done}
use Rattle.moves.specs.Rules.{End, verifier_rules, opponent_rules}

-- the commands of a move; none where no move is left
abbrev pub Move : Type 0
Move = List Command

module _ (o : End) where
  abbrev pub side : ℕ
  side = o.state.header.side

  -- "less .. those already shown"
  abbrev pub unshown : List Credential → List Credential
  unshown cs = keep (λ c. not (is_shown o.state.shown c)) cs

  -- "For rule (3) only the direct credential is sent, unless shown"
  abbrev pub direct_for : Expression → List Credential
  direct_for (E.Entity a) = []
  direct_for (E.Role a) = unshown (direct_of o.tables.own a ∷ [])
  direct_for (E.Linked a r) = []
  direct_for (E.Intersection p) = []
  direct_for (E.Goal r) = []

  -- "from the own set for that side, less direct credentials of sensitive roles and those already shown"
  abbrev pub side_set : Node → List Credential
  side_set n = cond (eqb n.verifier side) o.tables.issuer_stored o.tables.subject_stored

  -- "Before a kind 1 edge go the credentials it needs"
  unfoldable pub credentials_for : Node → Candidate → List Credential
  credentials_for n w =
      cond (eqb w.kind 1)
      (cond w.direct (direct_for n.expression) (needed o.state.shown n.expression w.expression (unshown (side_set n))))
      []

  -- "An old child is joined by 0x04"
  abbrev pub edge_command : ℕ → Candidate → Command
  edge_command i w =
      cond (child_stands o.state.nodes w)
      (Join (record { kind = w.kind; parent = i; child = child_number o.state.nodes w }))
      (Bring (record {
        kind = w.kind;
        parent = i;
        expression = w.expression;
        subject = w.subject;
        state = initial_state o.tables.names
            (eqb w.verifier side) w.expression;
      }))

  -- an edge goes out behind the credentials it needs
  abbrev pub move_for : ℕ → Node → Choice → Move
  move_for i n (K.Edge w) = map Show (credentials_for n w) ++ (edge_command i w ∷ [])
  move_for i n K.Mark = Mark i ∷ []
  move_for i n K.Nothing = []

  -- the rules of our side for node i
  abbrev pub plan_at : ℕ → Node → Plan
  plan_at i n = cond (eqb n.verifier side) (verifier_rules o i n n.expression) (opponent_rules o i n n.expression)

  -- at node i, if our side has not processed it
  unfoldable pub choice_at : ℕ → Node → Choice
  choice_at i n = cond (processed_by side n) K.Nothing (chosen_in (is_done o.state.nodes o.state.edges i) (plan_at i n))

  abbrev pub or_next : Move → Move → Move
  or_next [] next = next
  or_next (c ∷ cs) next = c ∷ cs

  -- "Nodes are tried by rising number"
  unfoldable pub moves_from : ℕ → List Node → Move
  moves_from i [] = []
  moves_from i (n ∷ ns) = or_next (move_for i n (choice_at i n)) (moves_from (suc i) ns)

  unfoldable pub next_move : Move
  next_move = moves_from 0 o.state.nodes
