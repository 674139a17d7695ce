-- An accepted message leaves a negotiation that is not damaged. Assumes nothing.
use Rattle.std.specs.Prelude.{ℕ, ◌<◌, ◌≡◌, refl, Bool, true, false, not, cond, List, eqb, length}
use Rattle.std.proofs.Common.{arith, sym, ◌∙◌, subst, ⊎_elim, eqb-true}
use Rattle.std.proofs.Math.Path.{ap}
use Rattle.std.proofs.lemmas.Bool.{eqb-false}
use Rattle.word.specs.laws.Bools.{false-true}
use Rattle.propagation.specs.laws.Flags.{decided}
use Rattle.class.specs.declared.Name.{Name}
use Rattle.graph.specs.laws.Graph.{nodes_of, edges_of}
use Rattle.graph.specs.Propagated.{propagated_state as propagated}
use Rattle.states.specs.laws.Brings.{EdgesFormed}
use Rattle.tables.specs.Tables.{Tables}
use Rattle.negotiation.specs.declared.Header.{Header}
use Rattle.negotiation.specs.declared.Negotiation.{Negotiation}
use Rattle.negotiation.specs.Messages.{message_count, counted}
use Rattle.negotiation.specs.State.{State, within, with_header}
use Rattle.negotiation.specs.laws.State.{state_of}
use Rattle.damage.specs.Header.{header_sound, counts_agree, end_sound}
use Rattle.damage.specs.Damage.{sound}
use Rattle.damage.specs.laws.Damage.{sound-parts, graph-parts, sound-some, edges-formed, brought-fit}
use Rattle.negotiation.specs.Ends.{other_side}
use Rattle.applied.specs.After.{after_message}
use Rattle.legal.specs.laws.AfterKept.{after-sound}
use Rattle.legal.specs.laws.Kept.{GraphKept}
use Rattle.take.specs.Commands as C
use Rattle.take.specs.laws.CommandsKept.{Led, commands-led, opening-led}
use Rattle.standing.specs.Turn.{sends, sender_to}
use Rattle.standing.specs.laws.Turn.{first-side, agree-next}
use Rattle.take.specs.Take.{behind_commands, taken_in}
use Rattle.damage.specs.laws.Going.{header-parts, empty-parts, by-nodes, no-nodes, going_on}
use Rattle.numbers.specs.Answer.{Answer, refused, accepted}
use Rattle.numbers.specs.laws.Answer.{is_accepted, value_or}
use Rattle.numbers.specs.Refusals.{TURN, ENDED}
use Rattle.numbers.specs.Sizes.{MOST-MESSAGES}

-- the mediator is the other side of the requester
first-sender : (v : ℕ) → v < 2 → other_side v ≡ 0 → v ≡ 1
first-sender v l z = go (eqb v 0) refl
  where
    go : (b : Bool) → eqb v 0 ≡ b → v ≡ 1
    go true e = absurd (let q : ◌≡◌ {A = ℕ} 1 0 = sym (ap {B = ℕ} (λ (b : Bool). cond b 1 0) e) ∙ z in omega arith)
    go false e = omega (arith, l, eqb-false v 0 e)

module _ (T : Tables) (S : State) (h : sound T S ≡ true) where
  sound-kept : (length S.nodes ≡ 0 → ⊥) → GraphKept T.names S
  sound-kept z = let p = graph-parts T.names S (sound-some T S h z) in record { records = p.1; edges = p.2; justified = p.3 }

  -- what the commands of a message in turn lead to
  module _ (wi : within S ≡ true) (own : 0 < T.own) (m : List ℕ) (turn : sends (sender_to S) S.header.messages ≡ true) where
    pub turn-led : (U : State) (moved : Bool) → C.commands_from (length m) T.names (sender_to S) m 0 S false ≡ accepted (U, moved)
        → Led T.names S false U moved × (length S.nodes ≡ 0 → moved ≡ true)
    turn-led U moved q =
        ⊎_elim (λ z. first (eqb-true (length S.nodes) 0 z))
        (λ z. let some = eqb-false (length S.nodes) 0 z in
        (commands-led T.names (sender_to S) m (length m) U moved 0 S false (sound-kept some) some wi q, λ y. absurd (some y)))
        (decided (eqb (length S.nodes) 0))
      where
        first : length S.nodes ≡ 0 → Led T.names S false U moved × (length S.nodes ≡ 0 → moved ≡ true)
        first z =
            let e = empty-parts S.header (length S.edges) (length S.shown) (no-nodes T S h z) in
            let p = header-parts T.own S.header (by-nodes T S h) in
            let f : sender_to S ≡ 0 = first-side (sender_to S) S.header.messages turn e.0 in
            let l = opening-led T.names m S (first-sender S.header.side p.0 f) (λ y. omega (arith, own, p.1)) z e.2 e.3 wi (length m)
            0 false U moved (sym (ap (λ (s : ℕ). C.commands_from (length m) T.names s m 0 S false) f) ∙ q) in
            (l.0, λ y. l.1)

-- its edges have their forms
pub led-edges : (ns : List Name) (S : State) (v : Bool) (n : Negotiation) (w : Bool) → Led ns S v (state_of n) w → 0 < n.nodes.count
    → EdgesFormed (nodes_of n.nodes) (edges_of n.edges)
unfolding state_of
led-edges ns S v n w l some = edges-formed n.header n.nodes n.edges some (brought-fit n.header n.nodes n.edges (sym l.graph.edges) refl)

-- What an accepted message was

pub record Took (m : List ℕ) (T : Tables) (S A : State) : Type 0 where
  pub going : S.header.end ≡ 0
  pub turn : sends (sender_to S) S.header.messages ≡ true
  pub led : State
  pub moved : Bool
  pub commands : C.commands_from (length m) T.names (sender_to S) m 0 S false ≡ accepted (led, moved)
  pub after : A ≡ after_message (sender_to S) led moved false

pub took : (m : List ℕ) (T : Tables) (S A : State) → taken_in m T S ≡ accepted A → Took m T S A
unfolding taken_in
took m T S A h = by_end (eqb S.header.end 0) refl h
  where
    by-commands : S.header.end ≡ 0 → sends (sender_to S) S.header.messages ≡ true → (t : Answer (State × Bool))
        → C.commands_from (length m) T.names (sender_to S) m 0 S false ≡ t → behind_commands (sender_to S) t ≡ accepted A → Took m T S A
    by-commands x y (refused k) e q = absurd (false-true (ap is_accepted q))
    by-commands x y (accepted (U, moved)) e q = record { going = x; turn = y; led = U; moved = moved; commands = e; after = sym (ap (value_or S) q) }

    by_turn : S.header.end ≡ 0 → (b : Bool) → sends (sender_to S) S.header.messages ≡ b
        → cond (not b) (refused TURN) (behind_commands (sender_to S) (C.commands_from (length m) T.names (sender_to S) m 0 S false)) ≡ accepted A → Took m T S A
    by_turn x true e q = by-commands x e (C.commands_from (length m) T.names (sender_to S) m 0 S false) refl q
    by_turn x false e q = absurd (false-true (ap is_accepted q))

    by_end : (b : Bool) → eqb S.header.end 0 ≡ b
        → cond (not b) (refused ENDED) (cond (not (sends (sender_to S) S.header.messages)) (refused TURN)
        (behind_commands (sender_to S) (C.commands_from (length m) T.names (sender_to S) m 0 S false))) ≡ accepted A → Took m T S A
    by_end true e q = by_turn (eqb-true S.header.end 0 e) (sends (sender_to S) S.header.messages) refl q
    by_end false e q = absurd (false-true (ap is_accepted q))

-- kept-sound for take: an accepted message leaves a negotiation that is not damaged, where the count stays within its bound
module _ (T : Tables) (S : State) (h : sound T S ≡ true) (wi : within S ≡ true) (own : 0 < T.own) (m : List ℕ) (A : State)
    (k : taken_in m T S ≡ accepted A) where
  was : Took m T S A
  was = took m T S A k

  by-led : Led T.names S false was.led was.moved × (length S.nodes ≡ 0 → was.moved ≡ true)
  by-led = turn-led T S h wi own m was.turn was.led was.moved was.commands

  -- without a move the graph is as it was
  unmoved : was.moved ≡ false → (propagated was.led.nodes was.led.edges 0 ≡ 1 → ⊥) × (propagated was.led.nodes was.led.edges 0 ≡ 2 → ⊥)
  unmoved e =
      let q = by-led.0.still e in
      let n : length S.nodes ≡ 0 → ⊥ = λ z. false-true (sym e ∙ by-led.1 z) in
      going_on (propagated was.led.nodes was.led.edges 0) S.header.end S.header.idle was.going
      ((λ i. end_sound (propagated (q.0 i) (q.1 i) 0) S.header.end S.header.idle) ∙ (graph-parts T.names S (sound-some T S h n)).4)

  pub taken-sound : message_count S.header.messages < MOST-MESSAGES → sound T A ≡ true
  taken-sound few =
      let l = by-led.0 in
      let v : ℕ = sender_to S in
      ap (sound T) was.after
      ∙ after-sound T v was.led was.moved false (ap (header_sound T.own) l.header ∙ by-nodes T S h) l.graph l.some
      (ap (λ (x : Header). counts_agree (counted v x.messages)) l.header
      ∙ agree-next v S.header.messages was.turn (sound-parts T S h).1)
      (subst (λ (x : Header). message_count x.messages < MOST-MESSAGES) (sym l.header) few) unmoved

  pub taken-within : within A ≡ true
  unfolding after_message with_header within
  taken-within = ap within was.after ∙ by-led.0.sizes
