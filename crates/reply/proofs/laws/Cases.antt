-- The marked cases (a) to (j) hold: one computed proof. Assumes nothing.
use Rattle.std.specs.Prelude.{◌≡◌, refl, true, false, [], ◌∷◌, map, length}
use Rattle.rt0.specs.Decide.{role_from, reaches, pass, close, closure, from?}
use Rattle.expression.specs.Same.{same_role, same}
use Rattle.expression.specs.Order.{before_of, before_credential}
use Rattle.expression.specs.Credential.{well_formed_credential, read_credential}
use Rattle.class.specs.laws.Names.{names_of}
use Rattle.class.specs.Names.{class_of}
use Rattle.class.specs.Typing.{linked as linked_type, together, type_of, credential_number}
use Rattle.tables.specs.Lookup.{holds, is_sensitive, other_of, is_direct}
use Rattle.tables.specs.Public.{less_direct, held_of, public_of, hidden_of}
use Rattle.propagation.specs.laws.Flags.{cnt}
use Rattle.propagation.specs.Least.{rounds, least}
use Rattle.rt0.specs.laws.Pool.{expression_in}
use Rattle.graph.specs.laws.Graph.{nodes_of, edges_of}
use Rattle.graph.specs.Find.{find_node, has_edge}
use Rattle.graph.specs.Form.{has_role, form, legal_state}
use Rattle.graph.specs.Propagated.{satisfied_b, failed_b, complete_b, propagated_state as propagated}
use Rattle.justification.specs.Justified.{solves, solved, monitors, monitored, implied, implied_if, monitored_if, justified}
use Rattle.message.specs.Command.{command_bytes}
use Rattle.negotiation.specs.Messages.{counted}
use Rattle.negotiation.specs.State.{fresh_state, with_node, with_edge, with_shown, with_mark, with_header, within}
use Rattle.damage.specs.Header.{wanted_sound, header_sound, empty_sound, count_sound, end_sound}
use Rattle.negotiation.specs.Ends.{requester, entity_of}
use Rattle.damage.specs.Records.{node_sound, node_fits, primary_sound, credential_sound, credential_fits}
use Rattle.rt0.specs.Shown.{is_shown}
use Rattle.needed.specs.Needed.{kept, needed}
use Rattle.needed.specs.laws.Needed.{first_of, rest_of}
use Rattle.graph.specs.Processed.{processed_by, marked_state}
use Rattle.applied.specs.Step.{primary_of, verifier_of, child_of, stepped, has_room}
use Rattle.legal.specs.Number.{refuse, first, is_fresh, is_absent, formed_as, show_number, open_number, mark_number, end_number, join_wrong, justified_by}
use Rattle.legal.specs.Number.{justified_for, join_number, bring_wrong, bring_number, justified_in, legal_by, legal_number}
use Rattle.applied.specs.After.{end_of, is_stalled, idle_of, header_after, after_message}
use Rattle.moves.specs.Known.{holding_of, is_acknowledged, known_of}
use Rattle.moves.specs.Initial.{traced, initial_state}
use Rattle.moves.specs.Frontiers.{spread, frontier_of}
use Rattle.moves.specs.Candidates.{ordered, first_not, chosen_in, is_done}
use Rattle.moves.specs.Rules.{end_in, verifier_rules, sensitive_rules, opponent_rules}
use Rattle.moves.specs.Move.{credentials_for, choice_at, moves_from, next_move}
use Rattle.reply.specs.Reply.{reply_from, reply_in, replied_state, reply_bytes}
use Rattle.reply.specs.Cases.{turn, outcome, table, answer, turns, first_message, second_message, third_message, fourth_message}
use Rattle.negotiation.specs.Layout.{zeros}

pub marked-cases : map outcome table
    ≡ answer true ∷ answer false ∷ answer true ∷ answer false ∷ answer true ∷ answer false ∷ answer false ∷ answer true
    ∷ turns (turn first_message 0 2 ∷ turn second_message 0 3 ∷ turn third_message 0 4 ∷ turn fourth_message 1 5 ∷ [])
    ∷ turns (turn first_message 0 2 ∷ turn second_message 0 3 ∷ turn third_message 0 4 ∷ turn (5 ∷ 1 ∷ 6 ∷ []) 2 4 ∷ [])
    ∷ turns (turn first_message 0 2 ∷ turn second_message 0 3 ∷ turn third_message 0 4 ∷ turn fourth_message 1 5 ∷ [])
    ∷ turns (turn first_message 0 2 ∷ turn second_message 0 3 ∷ turn third_message 0 4 ∷ turn (5 ∷ 1 ∷ 6 ∷ []) 2 4 ∷ []) ∷ []
unfolding role_from reaches pass close closure from? same_role same before_of before_credential well_formed_credential read_credential names_of class_of
    linked_type together type_of credential_number holds is_sensitive other_of is_direct less_direct held_of public_of hidden_of cnt rounds least
    expression_in nodes_of edges_of find_node has_edge has_role form legal_state satisfied_b failed_b complete_b propagated solves solved monitors monitored
    implied implied_if monitored_if justified command_bytes fresh_state with_node with_edge with_shown with_mark with_header within wanted_sound header_sound
    requester entity_of empty_sound count_sound end_sound node_sound node_fits primary_sound credential_sound is_shown credential_fits kept needed first_of
    rest_of processed_by marked_state primary_of verifier_of child_of stepped has_room refuse first is_fresh is_absent formed_as show_number open_number
    mark_number end_number join_wrong justified_by justified_for join_number bring_wrong bring_number justified_in legal_by legal_number end_of is_stalled idle_of
    counted header_after after_message holding_of is_acknowledged known_of traced initial_state spread frontier_of ordered verifier_rules sensitive_rules opponent_rules
    first_not chosen_in is_done credentials_for choice_at moves_from next_move end_in reply_from reply_in replied_state reply_bytes zeros
marked-cases = refl

-- "Four messages of 56, 25, 50 and 48 bytes"
pub message-lengths : map length (first_message ∷ second_message ∷ third_message ∷ fourth_message ∷ []) ≡ 56 ∷ 25 ∷ 50 ∷ 48 ∷ []
unfolding zeros
message-lengths = refl
