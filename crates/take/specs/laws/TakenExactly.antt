-- A message is taken exactly where it consists of legal commands and an end, and leads where they lead. Assumes nothing.
use Prim.Native.Nat.{ℕ, zero, suc, ◌+◌, ◌≤◌, ◌<◌}
use Rattle.std.proofs.Common.{arith, sym, ◌∙◌, subst, eq-eqb, eqb-true, ne_eqb, length-drop, take-append-drop, drop-drop, take_all}
use Rattle.std.specs.Prelude.{◌↔◌, ◌≡◌, Bool, true, false, not, ◌||◌, eqb, length, get_or, drop, Result, Ok, Err}
use Rattle.std.proofs.Math.Path.{refl, ap}
use Rattle.std.proofs.Math.Bool.{cond, or-false, or_assoc}
use mathlib.Core.List.{List, [], ◌∷◌, ◌++◌, append-nil}
use Rattle.std.proofs.Math.ListN.{length-append}
use Rattle.std.proofs.Math.Seq.{drop_at}
use Rattle.word.specs.laws.Bools.{false-true}
use Rattle.class.specs.declared.Name.{Name}
use Rattle.message.specs.declared.Command.{Command}
use Rattle.message.specs.declared.Command.TheVariants.{Show, Open, Bring, Join, Mark, End}
use Rattle.message.specs.Command.{command_at, size_of, formed_command, command_bytes}
use Rattle.message.specs.laws.CommandExact.{command-length, command-formed, command-only, command-end, command-back}
use Rattle.tables.specs.Tables.{Tables}
use Rattle.negotiation.specs.State.{State}
use Rattle.standing.specs.Standing as R
use Rattle.standing.specs.laws.Exactly.{restored-exactly}
use Rattle.applied.specs.Step.{stepped, is_move, moved}
use Rattle.legal.specs.Number.{legal_number}
use Rattle.applied.specs.After.{after_message}
use Rattle.legal.specs.Legal.{Legal}
use Rattle.legal.specs.laws.Exact.{legal-exactly}
use Rattle.take.specs.Commands as C
use Rattle.message.specs.Message.{is_end, message_bytes}
use Rattle.standing.specs.Turn.{sends, sender_to}
use Rattle.take.specs.Take.{behind_commands, taken_in, behind_standing, message_size, take_of}
use Rattle.legal.specs.Updates.{Updates, none, next, Carries}
use Rattle.take.specs.Call.{Stands, InTurn, Accepted}
use Rattle.message.specs.laws.Command.{size-some}
use Rattle.numbers.specs.Answer.{Answer, refused, accepted, judged}
use Rattle.numbers.specs.laws.Answer.{is_accepted, first_of, value_or}
use Rattle.take.specs.laws.CommandsKept.{moved_taken}
use Rattle.numbers.specs.Refusals.{LENGTH, TURN, ENDED}

only_end : (c : Command) → is_end c ≡ true → c ≡ End
only_end (Show c) h = absurd (false-true h)
only_end (Open o) h = absurd (false-true h)
only_end (Bring n) h = absurd (false-true h)
only_end (Join e) h = absurd (false-true h)
only_end (Mark i) h = absurd (false-true h)
only_end End h = refl

module _ (ns : List Name) (s : ℕ) (m : List ℕ) where
  -- Legal commands are taken

  -- one command, carried out
  pub taken-one : (f at : ℕ) (S : State) (v : Bool) (c : Command) → command_at m at ≡ Ok c → Legal ns s S c
      → C.commands_from (suc f) ns s m at S v ≡ cond (is_end c) (accepted (S, v)) (C.commands_from f ns s m (at + size_of c) (stepped S s c) (v || is_move c))
  unfolding C.commands_from
  taken-one f at S v c e l =
      ap (C.on_command (λ size T w. C.commands_from f ns s m (at + size) T w) ns s S v) e
      ∙ ap (λ (k : ℕ). judged k (cond (is_end c) (accepted (S, v)) (C.commands_from f ns s m (at + size_of c) (stepped S s c) (v || is_move c))))
      ((legal-exactly ns s S c).1 l)

  -- the commands from an index on
  pub carried : {S T : State} {cs : List Command} → Updates ns s S cs T → Legal ns s T End → (f at : ℕ) (v : Bool) → drop at m ≡ message_bytes cs
      → length (message_bytes cs) ≤ f → C.commands_from f ns s m at S v ≡ accepted (T, v || moved cs)
  unfolding command_bytes formed_command
  carried (none {S}) l zero at v h few = absurd (omega arith)
  carried (none {S}) l (suc f) at v h few =
      taken-one f at S v End (command-back m at End [] h refl (λ q. refl)) l ∙ ap (λ (b : Bool). accepted (S, b)) (sym (or-false v))
  carried (next {S} {T} {c} {cs} e g k u) l zero at v h few =
      absurd (omega (arith, length-append (command_bytes c) (message_bytes cs), command-length c, size-some c))
  carried (next {S} {T} {c} {cs} e g k u) l (suc f) at v h few =
      taken-one f at S v c (command-back m at c (message_bytes cs) h g (λ q. absurd (false-true (sym e ∙ ap is_end q)))) k
      ∙ ap (λ (b : Bool). cond b (accepted (S, v)) (C.commands_from f ns s m (at + size_of c) (stepped S s c) (v || is_move c))) e
      ∙ carried u l f (at + size_of c) (v || is_move c)
      (sym (drop-drop (size_of c) at m) ∙ ap (drop (size_of c)) h ∙ drop_at (command_bytes c) (message_bytes cs) (size_of c) (command-length c))
      (omega (arith, few, length-append (command_bytes c) (message_bytes cs), command-length c, size-some c))
      ∙ ap (λ (b : Bool). accepted (T, b)) (or_assoc v (is_move c) (moved cs))

  -- What is taken are legal commands

  module _ (bytes : (i : ℕ) → get_or m i 0 < 256) where
    -- the bytes from an index on are those of commands that lead from S to T
    record Rest (at : ℕ) (S : State) (v : Bool) (T : State) (w : Bool) : Type 0 where
      commands : List Command
      there : drop at m ≡ message_bytes commands
      updates : Updates ns s S commands T
      end : Legal ns s T End
      moves : w ≡ (v || moved commands)

    abbrev Leads : ℕ → State → Bool → Type 0
    Leads f T w = (at : ℕ) (S : State) (v : Bool) → C.commands_from f ns s m at S v ≡ accepted (T, w) → Rest at S v T w

    -- an end, the last byte
    rest_end : (at : ℕ) (S : State) (v : Bool) → command_at m at ≡ Ok End → Legal ns s S End → Rest at S v S v
    rest_end at S v e l =
        let size : length (drop at m) ≤ 1 = omega (arith, length-drop at m, command-end m at e) in
        record {
          commands = [];
          there = sym (take_all 1 (drop at m) size) ∙ command-only m at End bytes e
              ∙ sym (append-nil (command_bytes End));
          updates = none;
          end = l;
          moves = sym (or-false v);
        }

    -- another command, and those behind it
    rest-next : (at : ℕ) (S : State) (v : Bool) (T : State) (w : Bool) (c : Command) → is_end c ≡ false → command_at m at ≡ Ok c → Legal ns s S c
        → Rest (at + size_of c) (stepped S s c) (v || is_move c) T w → Rest at S v T w
    rest-next at S v T w c b e l r =
        record {
          commands = c ∷ r.commands;
          there = sym (take-append-drop (size_of c) (drop at m)) ∙ (λ i. command-only m at c bytes e i ++ (drop-drop (size_of c) at m ∙ r.there) i);
          updates = next b (command-formed m at c e) l r.updates;
          end = r.end;
          moves = r.moves ∙ or_assoc v (is_move c) (moved r.commands);
        }

    module _ (f : ℕ) (T : State) (w : Bool) (behind : Leads f T w) (at : ℕ) (S : State) (v : Bool) where
      rest-command : (c : Command) → command_at m at ≡ Ok c → Legal ns s S c → (b : Bool) → is_end c ≡ b
          → cond b (accepted (S, v)) (C.commands_from f ns s m (at + size_of c) (stepped S s c) (v || is_move c)) ≡ accepted (T, w) → Rest at S v T w
      rest-command c e l true b q =
          let t : S ≡ T = ap (first_of S) q in
          let u : v ≡ w = ap moved_taken q in
          let z : c ≡ End = only_end c b in
          subst (λ (U : State). Rest at S v U w) t (subst (Rest at S v S) u (rest_end at S v (e ∙ ap Ok z) (subst (Legal ns s S) z l)))
      rest-command c e l false b q = rest-next at S v T w c b e l (behind (at + size_of c) (stepped S s c) (v || is_move c) q)

      rest-number : (c : Command) → command_at m at ≡ Ok c → (k : ℕ) → legal_number ns s S c ≡ k
          → judged k (cond (is_end c) (accepted (S, v)) (C.commands_from f ns s m (at + size_of c) (stepped S s c) (v || is_move c))) ≡ accepted (T, w)
          → Rest at S v T w
      rest-number c e zero l q = rest-command c e ((legal-exactly ns s S c).0 l) (is_end c) refl q
      rest-number c e (suc k) l q = absurd (false-true (ap is_accepted q))

      rest-answer : (a : Result Command ℕ) → command_at m at ≡ a
          → C.on_command (λ size U x. C.commands_from f ns s m (at + size) U x) ns s S v a ≡ accepted (T, w) → Rest at S v T w
      rest-answer (Err k) e q = absurd (false-true (ap is_accepted q))
      rest-answer (Ok c) e q = rest-number c e (legal_number ns s S c) refl q

    rest_all : (f : ℕ) (T : State) (w : Bool) → Leads f T w
    unfolding C.commands_from
    rest_all zero T w at S v h = absurd (false-true (ap is_accepted h))
    rest_all (suc f) T w at S v h = rest-answer f T w (rest_all f T w) at S v (command_at m at) refl h

    -- the commands of a message are carried out exactly where it consists of legal commands and an end
    pub commands-exactly : (S T : State) (v : Bool)
        → (C.commands_from (length m) ns s m 0 S false ≡ accepted (T, v)) ↔ ((cs : List Command) × Carries ns s m S cs T × (v ≡ moved cs))
    commands-exactly S T v = (
      λ h. let r = rest_all (length m) T v 0 S false h in (r.commands, record { bytes = r.there; updates = r.updates; end = r.end }, r.moves),
      λ r. carried r.1.updates r.1.end (length m) 0 false r.1.bytes (omega (arith, ap length r.1.bytes))
          ∙ ap (λ (b : Bool). accepted (T, b)) (sym r.2),
    )

-- The call

module _ (tables negotiation message scratch : List ℕ) (T : Tables) (S : State) (h : Stands tables negotiation message scratch T S) where
  by-standing : take_of tables negotiation message scratch ≡ taken_in message T S
  unfolding take_of
  by-standing = λ i. cond (h.sized i) (behind_standing message ((restored-exactly tables negotiation T S).1 h.held i)) (refused LENGTH)

  -- what a message in its turn leads to
  abbrev pub leads_to : Answer (State × Bool)
  leads_to = C.commands_from (length message) T.names (sender_to S) message 0 S false

  -- already ended
  pub take_ended : (S.header.end ≡ 0 → ⊥) → take_of tables negotiation message scratch ≡ refused 22
  unfolding taken_in
  take_ended e =
      by-standing ∙ ap (λ (b : Bool). cond (not b) (refused ENDED)
      (cond (not (sends (sender_to S) S.header.messages)) (refused TURN) (behind_commands (sender_to S) leads_to))) (ne_eqb S.header.end 0 e)

  by_end : S.header.end ≡ 0 → take_of tables negotiation message scratch
      ≡ cond (not (sends (sender_to S) S.header.messages)) (refused TURN) (behind_commands (sender_to S) leads_to)
  unfolding taken_in
  by_end e =
      by-standing ∙ ap (λ (b : Bool). cond (not b) (refused ENDED)
      (cond (not (sends (sender_to S) S.header.messages)) (refused TURN) (behind_commands (sender_to S) leads_to))) (eq-eqb S.header.end 0 e)

  -- not that side's turn
  pub take-out-of-turn : S.header.end ≡ 0 → sends (sender_to S) S.header.messages ≡ false → take_of tables negotiation message scratch ≡ refused 21
  take-out-of-turn e q = by_end e ∙ ap (λ (b : Bool). cond (not b) (refused TURN) (behind_commands (sender_to S) leads_to)) q

  -- else the commands decide
  pub take-commands : InTurn S → take_of tables negotiation message scratch ≡ behind_commands (sender_to S) leads_to
  take-commands t = by_end t.going ∙ ap (λ (b : Bool). cond (not b) (refused TURN) (behind_commands (sender_to S) leads_to)) t.turn

  module _ (t : InTurn S) (bytes : (i : ℕ) → get_or message i 0 < 256) (A : State) where
    accepted-of : (x : Answer (State × Bool)) → leads_to ≡ x → behind_commands (sender_to S) x ≡ accepted A → Accepted T S message A
    accepted-of (refused k) e q = absurd (false-true (ap is_accepted q))
    accepted-of (accepted (U, v)) e q =
        let r = (commands-exactly T.names (sender_to S) message bytes S U v).0 e in
        record { commands = r.0; led = U; carries = r.1; after = sym (ap (value_or A) q) ∙ ap (λ (b : Bool). after_message (sender_to S) U b false) r.2 }

    -- a message in its turn is accepted exactly where it consists of legal commands and an end
    pub taken-exactly : (take_of tables negotiation message scratch ≡ accepted A) ↔ Accepted T S message A
    taken-exactly = (
      λ q. accepted-of leads_to refl (sym (take-commands t) ∙ q),
      λ r. take-commands t ∙ ap (behind_commands (sender_to S)) ((commands-exactly T.names (sender_to S) message bytes S r.led (moved r.commands)).1
          (r.commands, r.carries, refl)) ∙ ap accepted (sym r.after),
    )

-- what was found out on the way to the commands
module _ (tables negotiation message scratch : List ℕ) (A : State) where
  abbrev Ready : Type 0
  Ready = (T : Tables) × (S : State) × Stands tables negotiation message scratch T S × InTurn S

  ready-turn : (T : Tables) (S : State) → Stands tables negotiation message scratch T S → S.header.end ≡ 0 → (b : Bool)
      → sends (sender_to S) S.header.messages ≡ b
      → cond (not b) (refused TURN) (behind_commands (sender_to S) (C.commands_from (length message) T.names (sender_to S) message 0 S false)) ≡ accepted A
      → Ready
  ready-turn T S h e true g q = (T, S, h, record { going = e; turn = g })
  ready-turn T S h e false g q = absurd (false-true (ap is_accepted q))

  ready-end : (T : Tables) (S : State) → Stands tables negotiation message scratch T S → (b : Bool) → eqb S.header.end 0 ≡ b
      → cond (not b) (refused ENDED) (cond (not (sends (sender_to S) S.header.messages)) (refused TURN)
      (behind_commands (sender_to S) (C.commands_from (length message) T.names (sender_to S) message 0 S false))) ≡ accepted A → Ready
  ready-end T S h true g q = ready-turn T S h (eqb-true S.header.end 0 g) (sends (sender_to S) S.header.messages) refl q
  ready-end T S h false g q = absurd (false-true (ap is_accepted q))

  ready-standing : message_size (length message) (length scratch) ≡ true → (x : Answer (Tables × State)) → R.restore_of tables negotiation ≡ x
      → behind_standing message x ≡ accepted A → Ready
  unfolding taken_in
  ready-standing h (refused k) e q = absurd (false-true (ap is_accepted q))
  ready-standing h (accepted (T, S)) e q =
      ready-end T S (record { sized = h; held = (restored-exactly tables negotiation T S).0 e }) (eqb S.header.end 0) refl q

  ready-size : (b : Bool) → message_size (length message) (length scratch) ≡ b
      → cond b (behind_standing message (R.restore_of tables negotiation)) (refused LENGTH) ≡ accepted A → Ready
  ready-size true h q = ready-standing h (R.restore_of tables negotiation) refl q
  ready-size false h q = absurd (false-true (ap is_accepted q))

  ready : take_of tables negotiation message scratch ≡ accepted A → Ready
  unfolding take_of
  ready q = ready-size (message_size (length message) (length scratch)) refl q

  -- a call accepts exactly where all stands, it is the sender's turn, and the message consists of legal commands and an end
  pub take-exactly : ((i : ℕ) → get_or message i 0 < 256)
      → (take_of tables negotiation message scratch ≡ accepted A)
      ↔ ((T : Tables) × (S : State) × Stands tables negotiation message scratch T S × InTurn S × Accepted T S message A)
  take-exactly bytes = (
    λ q. let r = ready q in (r.0, r.1, r.2, r.3, (taken-exactly tables negotiation message scratch r.0 r.1 r.2 r.3 bytes A).0 q),
    λ r. (taken-exactly tables negotiation message scratch r.0 r.1 r.2 r.3 bytes A).1 r.4,
  )
