-- Cases (i) and (j) as two runs: the hypothesis of two runs is met up to the third message, and the fourth parts them. Assumes nothing.
use Rattle.std.specs.Prelude.{ℕ, ◌*◌, ◌≤◌, ◌≡◌, refl, true, false, ◌&&◌, leb}
use Rattle.std.proofs.Common.{sym, ◌∙◌, ⊎_elim, le-leb}
use Rattle.std.proofs.Math.Path.{ap, subst}
use Rattle.std.proofs.Math.Bool.{cond}
use mathlib.Core.List.Memᴰ
use mathlib.Core.List.{List, [], ◌∷◌}
use Rattle.std.proofs.Math.Dec.{eqb}
use Rattle.std.proofs.Math.ListN.{length}
use Rattle.expression.specs.declared.Role.{Role}
use Rattle.expression.specs.declared.Credential.{Credential}
use Rattle.word.specs.laws.Bools.{false-true}
use Rattle.numbers.specs.Refusals.{LENGTH}
use Rattle.numbers.specs.Sizes.{LEAST-REPLY-BYTES, SCRATCH-BYTES, NEGOTIATION-BYTES}
use Rattle.numbers.specs.Answer.{refused, accepted, answer_of, no_value}
use Rattle.record.specs.declared.Pair.{Pair}
use Rattle.tables.specs.Tables.{Tables}
use Rattle.tables.specs.Check.{read_tables, stored_number, pair_number, class_number, in_order, above, room, order_number, judge, records_from, sized}
use Rattle.tables.specs.Bytes.{tables_bytes}
use Rattle.tables.specs.Lookup.{holds, is_direct, is_sensitive, other_of}
use Rattle.tables.specs.Public.{DifferOnly, less_direct, held_of, public_of, hidden_of}
use Rattle.negotiation.specs.Messages.{message_count, counted}
use Rattle.negotiation.specs.State.{State, within, fresh_state, with_node, with_edge, with_shown, with_mark, with_header}
use Rattle.negotiation.specs.Layout.{zeros, state_bytes}
use Rattle.damage.specs.Damage.{sound, records_sound, edges_justified, graph_sound}
use Rattle.damage.specs.laws.Proved.{sound-graph-formed}
use Rattle.standing.specs.Standing.{restore_of}
use Rattle.standing.specs.laws.Exactly.{restored-exactly}
use Rattle.begin.specs.Begin as B
use Rattle.take.specs.Take as K
use Rattle.reply.specs.Reply as A
use Rattle.moves.specs.Known.{is_acknowledged, holding_of, known_of}
use Rattle.message.specs.declared.Command.{Command}
use Rattle.message.specs.declared.Command.TheVariants.{Show, Open, Bring, Mark}
use Rattle.expression.specs.declared.Expression.TheVariants as E
use Rattle.rt0.specs.From.{role_of}
use Rattle.applied.specs.After.{after_message, end_of, is_stalled, idle_of, header_after}
use Rattle.moves.specs.Carried.{carried}
use Rattle.reply.specs.Cases.{house, first_message, second_message, third_message, fourth_message}
use Rattle.runs.specs.Runs.{Call, take, reply, left_by, left_by_take, left_by_reply, run, taken_to, given_to, after_call, after}
use Rattle.runs.specs.Runs.{Differing, held, NoneSatisfied, AckSatisfied}
use Rattle.runs.specs.Cases.{holding, lacking, sensitive_role, ack_role, begun, to_second, to_third, to_fourth, answers, Parted}
use Rattle.runs.proofs.laws.Runs.{left_after}
use Rattle.runs.specs.laws.Acknowledged.{acknowledged-stands, stands-acknowledged}
use Rattle.expression.specs.Credential.{well_formed_credential, read_credential}
use Rattle.expression.specs.Same.{same_role, same}
use Rattle.rt0.specs.Decide.{role_from, reaches, pass, close, closure, from?}
use Rattle.rt0.specs.Shown.{is_shown}
use Rattle.class.specs.Names.{class_of}
use Rattle.class.specs.Typing.{type_of, credential_number}
use Rattle.record.specs.Record.{formed as formed_record, own_at, name_at, stored_at, pair_at, record_at, record_bytes}
use Rattle.propagation.specs.Least.{rounds, least}
use Rattle.graph.specs.Find.{find_node, has_edge}
use Rattle.graph.specs.Form.{has_role, form, legal_state}
use Rattle.graph.specs.Processed.{processed_by, marked_state}
use Rattle.graph.specs.Propagated.{satisfied_b, failed_b, complete_b, propagated_state}
use Rattle.message.specs.Command.{formed_command, show_at, open_at, bring_at, join_at, mark_at, end_at, command_at, command_bytes}
use Rattle.justification.specs.InTurn.{in_turn}
use Rattle.justification.specs.Justified.{implied, implied_if, monitored_if, justified}
use Rattle.negotiation.specs.Ends.{requester, entity_of}
use Rattle.standing.specs.Turn.{sends}
use Rattle.damage.specs.Edges.{brought_from, brought, placed, formed as formed_edge, edge_fits, all_brought}
use Rattle.damage.specs.Header.{wanted_sound, header_sound, counts_agree, empty_sound, count_sound, end_sound}
use Rattle.damage.specs.Records.{node_sound, node_fits, primary_sound, credential_sound, credential_fits}
use Rattle.applied.specs.Step.{primary_of, verifier_of, child_of, stepped, has_room}
use Rattle.legal.specs.Number.{refuse, first as first_number, is_fresh, is_absent, formed_as, show_number, open_number, mark_number, end_number, join_wrong}
use Rattle.legal.specs.Number.{justified_by, justified_for, join_number, bring_wrong, bring_number, justified_in, legal_by, legal_number}
use Rattle.moves.specs.Candidates.{ordered, first_not, chosen_in, is_done}
use Rattle.moves.specs.Frontiers.{spread, frontier_of}
use Rattle.moves.specs.Initial.{traced, initial_state}
use Rattle.moves.specs.Move.{credentials_for, choice_at, moves_from, next_move}
use Rattle.moves.specs.Rules.{end_in, verifier_rules, sensitive_rules, opponent_rules}
use Rattle.take.specs.Commands.{commands_from}
use Rattle.needed.specs.Needed.{kept, needed}

-- A call in a state that stands

-- it leads to the state N and answers k
record Leads (s : List ℕ) (S : State) (c : Call) (k : ℕ) (N : State) : Type 0 where
  pub answer : (left_by s (state_bytes S) c).answer ≡ k
  pub state : after_call s S c ≡ N

-- a state that is not damaged, within the sizes
record Usable (T : Tables) (S : State) : Type 0 where
  pub sizes : within S ≡ true
  pub undamaged : sound T S ≡ true

module _ (s : List ℕ) (T : Tables) (h : read_tables s ≡ accepted T) (scratch : List ℕ) (z : length scratch ≡ SCRATCH-BYTES) (S : State) (u : Usable T S) where
  stands : restore_of s (state_bytes S) ≡ accepted (T, S)
  stands = (restored-exactly s (state_bytes S) T S).1 (record { house = h; bytes = refl; sizes = u.sizes; undamaged = u.undamaged })

  take-leads : (m : List ℕ) {N : State} → K.message_size (length m) SCRATCH-BYTES ≡ true → K.taken_in m T S ≡ accepted N
      → Leads s S (take m scratch) 0 N
  unfolding left_by left_by_take after_call K.take_of
  take-leads m {N} l q =
      let e : K.take_of s (state_bytes S) m scratch ≡ accepted N = (λ i. cond (K.message_size (length m) (z i)) (K.behind_standing m (stands i)) (refused LENGTH))
      ∙ (λ i. cond (l i) (q i) (refused LENGTH)) in
      record { answer = ap (answer_of no_value) e; state = ap (taken_to S) e }

  reply-leads : (buffer m : List ℕ) {N : State} → LEAST-REPLY-BYTES ≤ length buffer → A.replied_in T S ≡ accepted (m, N)
      → Leads s S (reply buffer scratch) (length m * 256) N
  unfolding left_by left_by_reply after_call A.reply_of A.reply_size
  reply-leads buffer m {N} l q =
      let e : A.reply_of s (state_bytes S) buffer scratch ≡ accepted (m, N)
      = (λ i. cond (le-leb LEAST-REPLY-BYTES (length buffer) l i && eqb (z i) SCRATCH-BYTES) (A.behind_standing (stands i)) (refused LENGTH)) ∙ q in
      record { answer = ap (answer_of A.length_of) e; state = ap (given_to S) e }

-- the answers of a run, call by call
answers_next : {s : List ℕ} {S N : State} {c : Call} {k : ℕ} → Leads s S c k N → (cs : List Call) {ks : List ℕ}
    → answers (run s (state_bytes N) cs) ≡ ks → answers (run s (state_bytes S) (c ∷ cs)) ≡ k ∷ ks
unfolding run
answers_next {s} {S} {N} {c} l cs {ks} e =
    let more : answers (run s (left_by s (state_bytes S) c).negotiation cs) ≡ ks
    = ap (λ (b : List ℕ). answers (run s b cs)) (left_after s S c ∙ ap state_bytes l.state) ∙ e in
    λ i. l.answer i ∷ more i

after_next : {s : List ℕ} {S N : State} {c : Call} {k : ℕ} → Leads s S c k N → (cs : List Call) → after s S (c ∷ cs) ≡ after s N cs
unfolding after
after_next {s} l cs = ap (λ (x : State). after s x cs) l.state

-- The two runs, computed

first_commands : List Command
first_commands =
    Open (record { role = role_of 3 1; state = 2 })
    ∷ Show (record { head = role_of 3 1; body = E.Role (role_of 4 3) })
    ∷ Bring (record { kind = 1; parent = 0; expression = E.Role (role_of 4 3); subject = 2; state = 1 })
    ∷ Mark 0 ∷ []

second_commands : List Command
second_commands = Bring (record { kind = 6; parent = 1; expression = E.Role (role_of 1 2); subject = 3; state = 1 }) ∷ []

third_commands : List Command
third_commands =
    Show (record { head = role_of 1 2; body = E.Entity 3 })
    ∷ Bring (record { kind = 1; parent = 2; expression = E.Entity 3; subject = 3; state = 3 })
    ∷ Mark 2 ∷ []

-- the negotiation behind the first, the second and the third message
first_state : State
first_state = after_message 0 (carried 0 begun first_commands) true false

second_state : State
second_state = after_message 1 (carried 1 first_state second_commands) true false

third_state : State
third_state = after_message 0 (carried 0 second_state third_commands) true false

-- what House does with tables T, which give the fourth message m
record Gives (T : Tables) (m : List ℕ) : Type 0 where
  pub read : read_tables (tables_bytes T) ≡ accepted T
  pub begins : B.behind_tables 3 0 0 (accepted T) ≡ accepted begun
  pub gives-second : A.replied_in T first_state ≡ accepted (second_message, second_state)
  pub gives-fourth : A.replied_in T third_state ≡ accepted (m, A.replied_state (A.reply_in T third_state))

-- what it does whatever it holds
record Takes (T : Tables) : Type 0 where
  pub start : Usable T begun
  pub takes_first : K.taken_in first_message T begun ≡ accepted first_state
  pub behind-first : Usable T first_state
  pub behind-second : Usable T second_state
  pub takes-third : K.taken_in third_message T second_state ≡ accepted third_state
  pub behind-third : Usable T third_state

record Computed : Type 0 where
  pub takes : (stored : List Credential) → Takes (house stored)
  pub waits : is_acknowledged second_state ack_role ≡ false
  pub acknowledged : is_acknowledged third_state ack_role ≡ true
  pub with-holding : Gives holding fourth_message
  pub with-lacking : Gives lacking (5 ∷ 1 ∷ 6 ∷ [])

computed : Computed
unfolding well_formed_credential read_credential same_role same role_from reaches pass close closure from? is_shown class_of type_of
    credential_number formed_record own_at name_at stored_at pair_at record_at record_bytes tables_bytes stored_number pair_number class_number in_order above room
    order_number judge records_from sized read_tables holds is_sensitive other_of is_direct less_direct held_of public_of hidden_of rounds least find_node
    has_edge has_role form legal_state processed_by marked_state satisfied_b failed_b complete_b propagated_state formed_command show_at open_at bring_at join_at
    mark_at end_at command_at command_bytes in_turn implied implied_if monitored_if justified requester entity_of fresh_state with_node with_edge with_shown
    message_count counted with_mark with_header within sends records_sound edges_justified graph_sound sound brought_from brought placed formed_edge edge_fits all_brought
    wanted_sound header_sound counts_agree empty_sound count_sound end_sound node_sound node_fits primary_sound credential_sound credential_fits end_of is_stalled idle_of
    header_after after_message primary_of verifier_of child_of stepped has_room refuse first_number is_fresh is_absent formed_as show_number open_number
    mark_number end_number join_wrong justified_by justified_for join_number bring_wrong bring_number justified_in legal_by legal_number ordered first_not
    chosen_in is_done spread frontier_of traced initial_state holding_of is_acknowledged known_of credentials_for choice_at moves_from next_move end_in
    verifier_rules sensitive_rules opponent_rules commands_from K.taken_in A.reply_from A.reply_in A.replied_state A.reply_bytes A.replied_in kept needed
    B.role_number B.other_number B.begin_number B.begun_state zeros first_state first_commands second_state second_commands third_state third_commands
computed =
    record {
      takes =
          λ stored. record {
            start = record { sizes = refl; undamaged = refl };
            takes_first = refl;
            behind-first = record { sizes = refl; undamaged = refl };
            behind-second = record { sizes = refl; undamaged = refl };
            takes-third = refl;
            behind-third = record { sizes = refl; undamaged = refl };
          };
      waits = refl;
      acknowledged = refl;
      with-holding = record { read = refl; begins = refl; gives-second = refl; gives-fourth = refl };
      with-lacking = record { read = refl; begins = refl; gives-second = refl; gives-fourth = refl };
    }

-- The tables differ in 4.3 alone

differ : DifferOnly holding lacking
unfolding is_direct is_sensitive same_role same
differ =
    record {
      own = refl;
      names = refl;
      issuer_stored = refl;
      sensitive = refl;
      subject_stored = λ c d. (
        λ m. absurd
            (⊎_elim (λ e. false-true (sym d ∙ ap (is_direct 2 holding.sensitive) e)) (λ k. Memᴰ.not-nil k) (Memᴰ.cases_cons m)),
        λ m. absurd (Memᴰ.not-nil m),
      );
    }

differing : Differing holding lacking sensitive_role
unfolding holds same_role same
differing = held (λ e. false-true (sym e))

none-satisfied : NoneSatisfied holding lacking second_state
none-satisfied p m d t =
    let formed = sound-graph-formed holding second_state (computed.takes holding.subject_stored).behind-second.undamaged in
    ⊎_elim
    (λ e. false-true (sym computed.waits ∙ ap (λ (q : Pair). is_acknowledged second_state q.other) (sym e)
    ∙ stands-acknowledged second_state p.other formed t))
    (λ k. Memᴰ.not-nil k) (Memᴰ.cases_cons m)

size-first : K.message_size (length first_message) SCRATCH-BYTES ≡ true
unfolding K.message_size zeros
size-first = refl

size-third : K.message_size (length third_message) SCRATCH-BYTES ≡ true
unfolding K.message_size zeros
size-third = refl

second-length : length second_message * 256 ≡ 25 * 256
unfolding zeros
second-length = refl

-- The promise

module _ (negotiation buffer scratch : List ℕ) (n : length negotiation ≡ NEGOTIATION-BYTES) (b : LEAST-REPLY-BYTES ≤ length buffer)
    (z : length scratch ≡ SCRATCH-BYTES) where
  module _ (stored : List Credential) {m : List ℕ} (g : Gives (house stored) m) where
    abbrev T : Tables
    T = house stored

    begins-so : B.begin_of (tables_bytes T) negotiation 3 0 0 ≡ accepted begun
    unfolding B.begin_of
    begins-so =
        (λ i. cond (eqb (n i) NEGOTIATION-BYTES) (B.behind_tables 3 0 0 (g.read i)) (refused LENGTH)) ∙ g.begins

    one : Leads (tables_bytes T) begun (take first_message scratch) 0 first_state
    one = take-leads (tables_bytes T) T g.read scratch z begun (computed.takes stored).start first_message size-first (computed.takes stored).takes_first

    two : Leads (tables_bytes T) first_state (reply buffer scratch) (length second_message * 256) second_state
    two = reply-leads (tables_bytes T) T g.read scratch z first_state (computed.takes stored).behind-first buffer second_message b g.gives-second

    three : Leads (tables_bytes T) second_state (take third_message scratch) 0 third_state
    three =
        take-leads (tables_bytes T) T g.read scratch z second_state (computed.takes stored).behind-second third_message size-third
        (computed.takes stored).takes-third

    four : Leads (tables_bytes T) third_state (reply buffer scratch) (length m * 256) (A.replied_state (A.reply_in T third_state))
    four = reply-leads (tables_bytes T) T g.read scratch z third_state (computed.takes stored).behind-third buffer m b g.gives-fourth

    to-second : (cs : List Call) → after (tables_bytes T) begun (take first_message scratch ∷ reply buffer scratch ∷ cs) ≡ after (tables_bytes T) second_state cs
    to-second cs = after_next one (reply buffer scratch ∷ cs) ∙ after_next two cs

    behind-second : after (tables_bytes T) begun (to_second buffer scratch) ≡ second_state
    unfolding after
    behind-second = to-second []

    behind-third : after (tables_bytes T) begun (to_third buffer scratch) ≡ third_state
    unfolding after
    behind-third = to-second (take third_message scratch ∷ []) ∙ after_next three []

    satisfied-so : AckSatisfied (after (tables_bytes T) begun (to_third buffer scratch)) ack_role
    satisfied-so =
        subst (λ (S : State). AckSatisfied S ack_role) (sym behind-third)
        (acknowledged-stands third_state ack_role (computed.takes stored).behind-third.sizes computed.acknowledged)

    answers-so : answers (run (tables_bytes T) (state_bytes begun) (to_fourth buffer scratch)) ≡ 0 ∷ 25 * 256 ∷ 0 ∷ length m * 256 ∷ []
    unfolding run
    answers-so =
        let last : List Call = reply buffer scratch ∷ [] in
        let rest : List Call = take third_message scratch ∷ last in
        answers_next one (reply buffer scratch ∷ rest) (answers_next two rest (answers_next three last (answers_next four [] refl)))
        ∙ ap (λ (k : ℕ). 0 ∷ k ∷ 0 ∷ length m * 256 ∷ []) second-length

  -- cases (i) and (j) as two runs: begun alike, alike up to the third message, and parted by the fourth
  pub marked-runs : Parted negotiation buffer scratch
  unfolding zeros
  marked-runs =
      let T : List Credential = holding.subject_stored in
      record {
        differ = differ;
        differing = differing;
        begun-holding = begins-so T computed.with-holding;
        begun-lacking = begins-so [] computed.with-lacking;
        unsatisfied = subst (NoneSatisfied holding lacking) (sym (behind-second T computed.with-holding)) none-satisfied;
        satisfied-holding = satisfied-so T computed.with-holding;
        satisfied-lacking = satisfied-so [] computed.with-lacking;
        answers-holding = answers-so T computed.with-holding;
        answers-lacking = answers-so [] computed.with-lacking;
      }
