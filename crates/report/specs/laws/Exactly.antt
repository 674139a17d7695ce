-- A report says what the lent bytes hold, and a reported success is proved by the credentials shown. Assumes nothing.
use Rattle.std.specs.Prelude.{ℕ, ◌<◌, ◌≡◌, ◌↔◌, ◌⊎◌, ◌&&◌, eqb, length}
use Rattle.std.proofs.Common.{arith, ◌∙◌}
use Rattle.std.proofs.Math.Path.{refl, sym, ap, subst}
use Rattle.std.proofs.Math.Logic.{inl, inr, ⊎_elim}
use Rattle.std.proofs.Math.Bool.{Bool, true, false, cond}
use mathlib.Core.List.{List, []}
use borrow.Author.Tests.{eq-eqb, lt-ltb, le-ltb, ltb-true, ltb-false}
use Rattle.std.proofs.Math.Dec.{ltb}
use Rattle.word.specs.laws.Bools.{false-true, and_parts}
use Rattle.numbers.specs.Refusals.{ABSENT}
use Rattle.numbers.specs.Answer.{Answer, refused, accepted}
use Rattle.numbers.specs.laws.Answer.{is_accepted, is_refused, number_of, value_or}
use Rattle.expression.specs.declared.Expression.{Expression}
use Rattle.expression.specs.declared.Expression.TheVariants as E
use Rattle.expression.specs.Kinds.{is_role_expression}
use Rattle.expression.specs.Same.{same}
use Rattle.expression.specs.laws.Same.{same-eq}
use Rattle.rt0.specs.From.{From}
use Rattle.graph.specs.declared.Node.{Node}
use Rattle.graph.specs.Graph.{node_in}
use Rattle.graph.specs.States.{Complete}
use Rattle.graph.specs.Propagated.{propagated_state}
use Rattle.graph.specs.laws.Propagated.{state-one}
use Rattle.tables.specs.Tables.{Tables}
use Rattle.negotiation.specs.declared.Header.{Header}
use Rattle.negotiation.specs.State.{State}
use Rattle.negotiation.specs.Ends.{requester}
use Rattle.damage.specs.Damage.{sound, records_sound}
use Rattle.justification.specs.InTurn.{in_turn}
use Rattle.damage.specs.Records.{node_fits, primary_sound, credential_fits}
use Rattle.damage.specs.laws.Damage.{graph-parts, sound-some}
use Rattle.damage.specs.laws.Proved.{satisfied-proved, primary-proved}
use Rattle.standing.specs.Standing.{restore_of}
use Rattle.standing.specs.Holds.{Holds}
use Rattle.standing.specs.laws.Exactly.{restored-exactly}
use Rattle.standing.specs.laws.Unrestored.{unrestored-exactly}
use Rattle.report.specs.Report.{Report, report_on, behind_negotiation, report_of, packed, unpacked}
use Rattle.report.specs.Reported.{Reported, ReportRefused, unrestored, absent, Success}
use Rattle.report.specs.laws.Report.{report-numbers}

module _ (tables negotiation : List ℕ) (i : ℕ) (r : Report) where
  to-reported : report_of tables negotiation i ≡ accepted r → Reported tables negotiation i r
  unfolding report_of
  to-reported h = by-standing (restore_of tables negotiation) refl h
    where
      by-node : (T : Tables) (S : State) → restore_of tables negotiation ≡ accepted (T, S) → (b : Bool) → ltb i (length S.nodes) ≡ b
          → cond b (accepted (report_on S i)) (refused ABSENT) ≡ accepted r → Reported tables negotiation i r
      by-node T S e true x q =
          record {
            house = T;
            state = S;
            held = (restored-exactly tables negotiation T S).0 e;
            stands = ltb-true i (length S.nodes) x;
            numbers = sym (ap (value_or r) q);
          }
      by-node T S e false x q = absurd (false-true (ap is_accepted q))

      by-standing : (a : Answer (Tables × State)) → restore_of tables negotiation ≡ a → behind_negotiation i a ≡ accepted r → Reported tables negotiation i r
      by-standing (refused k) e q = absurd (false-true (ap is_accepted q))
      by-standing (accepted (T, S)) e q = by-node T S e (ltb i (length S.nodes)) refl q

  from-reported : Reported tables negotiation i r → report_of tables negotiation i ≡ accepted r
  unfolding report_of
  from-reported w =
      ap (behind_negotiation i) ((restored-exactly tables negotiation w.house w.state).1 w.held)
      ∙ ap (λ (b : Bool). cond b (accepted (report_on w.state i)) (refused ABSENT)) (lt-ltb i (length w.state.nodes) w.stands)
      ∙ ap accepted (sym w.numbers)

  -- a report is given exactly where the lent bytes hold a state in which the node stands, and it says what this state has
  pub report-exactly : (report_of tables negotiation i ≡ accepted r) ↔ Reported tables negotiation i r
  report-exactly = (to-reported, from-reported)

  -- its numbers are those that its value, taken apart, gives
  pub report-unpacked : report_of tables negotiation i ≡ accepted r → unpacked (packed r) ≡ r
  report-unpacked h =
      let w : Reported tables negotiation i r = to-reported h in
      ap (λ (x : Report). unpacked (packed x)) w.numbers
      ∙ report-numbers w.house w.state w.held.sizes w.held.undamaged i w.stands ∙ sym w.numbers

module _ (tables negotiation : List ℕ) (i k : ℕ) where
  to-report-refused : report_of tables negotiation i ≡ refused k → ReportRefused tables negotiation i k
  unfolding report_of
  to-report-refused h = by-standing (restore_of tables negotiation) refl h
    where
      by-node : (T : Tables) (S : State) → Holds tables negotiation T S → (b : Bool) → ltb i (length S.nodes) ≡ b
          → cond b (accepted (report_on S i)) (refused ABSENT) ≡ refused k → ReportRefused tables negotiation i k
      by-node T S w true x q = absurd (false-true (ap is_refused q))
      by-node T S w false x q = absent w (ltb-false i (length S.nodes) x) (sym (ap number_of q))

      by-standing : (a : Answer (Tables × State)) → restore_of tables negotiation ≡ a → behind_negotiation i a ≡ refused k → ReportRefused tables negotiation i k
      by-standing (refused j) e q = unrestored ((unrestored-exactly tables negotiation k).0 (e ∙ ap refused (ap number_of q)))
      by-standing (accepted (T, S)) e q = by-node T S ((restored-exactly tables negotiation T S).0 e) (ltb i (length S.nodes)) refl q

  from-report-refused : ReportRefused tables negotiation i k → report_of tables negotiation i ≡ refused k
  unfolding report_of
  from-report-refused (unrestored u) = ap (behind_negotiation i) ((unrestored-exactly tables negotiation k).1 u)
  from-report-refused (absent {T} {S} w l e) =
      ap (behind_negotiation i) ((restored-exactly tables negotiation T S).1 w)
      ∙ ap (λ (b : Bool). cond b (accepted (report_on S i)) (refused ABSENT)) (le-ltb i (length S.nodes) l)
      ∙ ap refused (sym e)

  -- a report is refused with a number exactly where its reason holds and no earlier one does
  pub report-refused-exactly : (report_of tables negotiation i ≡ refused k) ↔ ReportRefused tables negotiation i k
  report-refused-exactly = (to-report-refused, from-report-refused)

-- the mediator's primary is the wanted role
mediator-primary : (h : Header) (n : Node) → primary_sound h n ≡ true → h.side ≡ 0 → n.expression ≡ E.Role h.wanted
unfolding primary_sound
mediator-primary h n p z =
    let a : Bool = eqb n.verifier 0 && eqb n.subject (requester h) in
    let c : Bool = same n.expression (E.Role h.wanted) in
    let q = (and_parts a (cond (eqb h.side 0) c (is_role_expression n.expression)) p).1 in
    same-eq n.expression (E.Role h.wanted) (sym (ap (λ (b : Bool). cond b c (is_role_expression n.expression)) (eq-eqb h.side 0 z)) ∙ q)

-- and its requester is the other end
mediator-requester : (h : Header) → h.side ≡ 0 → requester h ≡ h.other
unfolding requester
mediator-requester h z = ap (λ (b : Bool). cond b h.other h.own) (eq-eqb h.side 0 z)

module _ (T : Tables) (S : State) (s : sound T S ≡ true) (i : ℕ) (l : i < length S.nodes) where
  primary-sound : primary_sound S.header (node_in S.nodes 0) ≡ true
  unfolding records_sound
  primary-sound =
      let p = graph-parts T.names S (sound-some T S s (λ z. omega (arith, l, z))) in
      let nodes : Bool = in_turn (node_fits T.names) [] S.nodes in
      let primary : Bool = primary_sound S.header (node_in S.nodes 0) in
      (and_parts nodes primary (and_parts (nodes && primary) (in_turn (credential_fits T.names) [] S.shown) p.1).0).1

module _ (tables negotiation : List ℕ) (i : ℕ) (r : Report) (h : report_of tables negotiation i ≡ accepted r) where
  -- where a report answers end 1, the credentials shown prove it
  pub success-proved : r.end ≡ 1 → Success tables negotiation
  unfolding report_on
  success-proved e =
      let w : Reported tables negotiation i r = (report-exactly tables negotiation i r).0 h in
      let S : State = w.state in
      let one : S.header.end ≡ 1 = sym (ap (λ (x : Report). x.end) w.numbers) ∙ e in
      let p = primary-proved w.house S w.held.undamaged one in
      record {
        house = w.house;
        state = S;
        held = w.held;
        primary = p;
        wanted = λ z.
            subst (λ (x : Expression). From S.shown x (E.Entity S.header.other))
            (mediator-primary S.header (node_in S.nodes 0) (primary-sound w.house S w.held.undamaged i w.stands) z)
            (subst (λ (b : ℕ). From S.shown (node_in S.nodes 0).expression (E.Entity b)) (mediator-requester S.header z) p);
      }

  -- where it answers a node's propagated state as 1, the node is a goal that is complete, or the credentials shown prove it
  pub node-proved : r.propagated ≡ 1
      → (w : Reported tables negotiation i r)
      × (Complete w.state.nodes w.state.edges i
      ⊎ From w.state.shown (node_in w.state.nodes i).expression (E.Entity (node_in w.state.nodes i).subject))
  unfolding report_on
  node-proved e =
      let w : Reported tables negotiation i r = (report-exactly tables negotiation i r).0 h in
      let S : State = w.state in
      let one : propagated_state S.nodes S.edges i ≡ 1 = sym (ap (λ (x : Report). x.propagated) w.numbers) ∙ e in
      (w, ⊎_elim (λ s. inr (satisfied-proved w.house S w.held.undamaged i s)) (λ c. inl c) ((state-one S.nodes S.edges i).0 one))
