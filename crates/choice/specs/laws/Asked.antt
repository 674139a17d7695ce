-- A role about us that is sensitive: what is asked at its node, and the choice there (section 5.4). Assumes nothing.
use Rattle.std.specs.Prelude.{ℕ, ◌≡◌, refl, Bool, false, not, List, Some}
use Rattle.std.proofs.Common.{sym, ◌∙◌}
use Rattle.expression.specs.declared.Role.{Role}
use Rattle.expression.specs.declared.Expression.{Expression}
use Rattle.expression.specs.declared.Expression.TheVariants as E
use Rattle.expression.specs.Kinds.{is_entity}
use Rattle.tables.specs.Tables.{Tables}
use Rattle.tables.specs.Lookup.{other_of}
use Rattle.tables.specs.Public.{public_of, hidden_of, keep}
use Rattle.graph.specs.declared.Node.{Node}
use Rattle.graph.specs.Graph.{node_in}
use Rattle.negotiation.specs.State.{State}
use Rattle.graph.specs.Processed.{processed_by}
use Rattle.moves.specs.declared.Candidate.{Candidate}
use Rattle.moves.specs.declared.Choice.{Choice}
use Rattle.moves.specs.declared.Choice.TheVariants as C
use Rattle.moves.specs.declared.Known.{Known}
use Rattle.moves.specs.Frontiers.{bodies_of, frontier_of, sens}
use Rattle.moves.specs.Candidates.{first_not, chosen_in, is_done}
use Rattle.moves.specs.Rules.{end_in, implications, own_rules, opponent_rules}
use Rattle.moves.specs.Move.{choice_at}
use Rattle.candidates.specs.laws.Least.{or_else}
use Rattle.choice.specs.laws.Known.{known_as}
use Rattle.choice.specs.laws.Sensitive.{alone, control_for, known_choice}
use Rattle.choice.specs.laws.RuleChoice.{opponent-as, about-us, sensitive-choice, at-opponent}

-- rule (4) for the role a at node n
abbrev pub rest_edges : Tables → Node → Role → List Candidate
rest_edges T n a =
    implications n (keep (λ x. not (is_entity x)) (frontier_of (sens T.sensitive) (public_of T).subject_stored
    (bodies_of (public_of T).subject_stored (E.Role a))))

-- node i is n, for e; the other side is its verifier, and our side has not processed it
pub record Asked (S : State) (i : ℕ) (n : Node) (e : Expression) : Type 0 where
  pub number : n ≡ node_in S.nodes i
  pub expression : n.expression ≡ e
  pub unprocessed : processed_by S.header.side n ≡ false
  pub opponent : n.verifier ≡ S.header.side → ⊥

pub asked-as : {S : State} {i : ℕ} {n : Node} {e f : Expression} → Asked S i n e → e ≡ f → Asked S i n f
asked-as q h = record { number = q.number; expression = q.expression ∙ h; unprocessed = q.unprocessed; opponent = q.opponent }

module _ (T : Tables) (S : State) (i : ℕ) (n : Node) (a ack : Role) where
  abbrev done : Candidate → Bool
  done = is_done S.nodes S.edges i

  -- the edges of rule (4)
  abbrev pub rest_at : Choice
  rest_at = first_not done C.Nothing (rest_edges T n a)

  -- the Ack target, then by what is known of the role
  abbrev pub sensitive_at : Choice
  sensitive_at = or_else (alone done (control_for S n ack)) (known_choice S done i n rest_at (known_as S (hidden_of T) a ack))

  pub sensitive-at : Asked S i n (E.Role a) → n.subject ≡ T.own → other_of T.sensitive a ≡ Some ack → sensitive_at ≡ choice_at (end_in T S) i n
  sensitive-at q s f =
      let k : Known = known_as S (hidden_of T) a ack in
      let own : sensitive_at ≡ chosen_in done (own_rules (end_in T S) i n a (end_in T S).known) = sensitive-choice T S done i n a {c = sensitive_at}
      {r = other_of T.sensitive a} {ack = ack} refl f {rest = rest_at} {k = k} {b = known_choice S done i n rest_at k} refl refl refl refl in
      let role : sensitive_at ≡ chosen_in done (opponent_rules (end_in T S) i n n.expression) = opponent-as T S done i n {c = sensitive_at}
      q.expression (about-us T S done i n a {c = sensitive_at} s own) in
      at-opponent T S i n {p = false} (sym q.unprocessed) refl {c = sensitive_at} q.opponent role
