-- A call is refused exactly where one of the reasons holds, in their order, and by its number. Assumes nothing.
use Prim.Native.Nat.{ℕ, zero, suc, ◌+◌, ◌≤◌, ◌<◌}
use Rattle.std.proofs.Common.{arith, sym, ◌∙◌, subst, append_assoc, eqb-true, length-append, length-drop, take-append-drop, drop_at, drop-drop}
use Rattle.std.specs.Prelude.{◌↔◌, ◌≡◌, Bool, true, false, not, ◌||◌, List, [], ◌∷◌, ◌++◌, eqb, length, get_or, drop, Result, Ok, Err}
use Rattle.std.proofs.Math.Path.{refl, ap}
use Rattle.std.proofs.Math.Bool.{cond}
use Rattle.std.proofs.lemmas.Bool.{eqb-false}
use Rattle.word.specs.laws.Bools.{false-true}
use Rattle.class.specs.declared.Name.{Name}
use Rattle.message.specs.declared.Command.{Command}
use Rattle.message.specs.Command.{command_at, size_of, command_bytes}
use Rattle.message.specs.laws.Command.{nothing, size-some}
use Rattle.message.specs.laws.CommandExact.{command-length, command-room, command-formed, command-only, command-back, unreadable-exactly}
use Rattle.tables.specs.Tables.{Tables}
use Rattle.negotiation.specs.State.{State}
use Rattle.standing.specs.Standing as R
use Rattle.standing.specs.laws.Exactly.{restored-exactly}
use Rattle.standing.specs.laws.Unrestored.{unrestored-exactly}
use Rattle.applied.specs.Step.{stepped, is_move}
use Rattle.legal.specs.Number.{legal_number}
use Rattle.legal.specs.Legal.{Legal}
use Rattle.legal.specs.laws.Exact.{legal-exactly, illegal-exactly}
use Rattle.take.specs.Commands as C
use Rattle.message.specs.Message.{is_end, bytes_of}
use Rattle.take.specs.laws.Commands.{refusal_of}
use Rattle.standing.specs.Turn.{sends, sender_to}
use Rattle.take.specs.Take.{behind_commands, taken_in, behind_standing, message_size, take_of}
use Rattle.legal.specs.Updates.{Updates, none, next, Wrong, unreadable, illegal, RefusedAt}
use Rattle.take.specs.Call.{Stands, InTurn, Refusal, size, unrestored, ended, out-of-turn, stopped}
use Rattle.take.specs.laws.TakenExactly.{taken-one, take_ended, take-out-of-turn, take-commands}
use Rattle.numbers.specs.Answer.{Answer, refused, accepted, judged}
use Rattle.numbers.specs.laws.Answer.{is_refused, number_of}
use Rattle.numbers.specs.Refusals.{LENGTH, TURN, ENDED}

-- The commands

module _ (ns : List Name) (s : ℕ) (m : List ℕ) (bytes : (i : ℕ) → get_or m i 0 < 256) where
  judged-refused : (k : ℕ) (x : Answer (State × Bool)) → (k ≡ 0 → ⊥) → judged k x ≡ refused k
  judged-refused zero x z = absurd (z refl)
  judged-refused (suc k) x z = refl

  -- a command that is refused
  refused-here : (f at : ℕ) (S : State) (v : Bool) (k : ℕ) → length m ≤ f + at → Wrong ns s m at S k → C.commands_from f ns s m at S v ≡ refused k
  unfolding C.commands_from
  refused-here zero at S v k l (unreadable u) =
      ap (λ (a : Result Command ℕ). refused (refusal_of a)) (nothing m at (omega arith) ∙ (unreadable-exactly m at bytes k).1 u)
  refused-here zero at S v k l (illegal c e r) = absurd (omega (arith, l, command-room m at c e, size-some c))
  refused-here (suc f) at S v k l (unreadable u) =
      ap (C.on_command (λ size T w. C.commands_from f ns s m (at + size) T w) ns s S v) ((unreadable-exactly m at bytes k).1 u)
  refused-here (suc f) at S v k l (illegal c e r) =
      let x : Answer (State × Bool) = cond (is_end c) (accepted (S, v)) (C.commands_from f ns s m (at + size_of c) (stepped S s c) (v || is_move c)) in
      ap (C.on_command (λ size T w. C.commands_from f ns s m (at + size) T w) ns s S v) e
      ∙ ap (λ (n : ℕ). judged n x) ((illegal-exactly ns s S c k).1 r).0 ∙ judged-refused k x ((illegal-exactly ns s S c k).1 r).1

  -- and those before it
  refused-behind : {S T : State} {cs : List Command} → Updates ns s S cs T → (f at : ℕ) (v : Bool) (rest : List ℕ) (k : ℕ)
      → drop at m ≡ bytes_of cs ++ rest → length m ≤ f + at → Wrong ns s m (at + length (bytes_of cs)) T k → C.commands_from f ns s m at S v ≡ refused k
  refused-behind (none {S}) f at v rest k h l w = let z : at + 0 ≡ at = omega arith in refused-here f at S v k l (subst (λ (n : ℕ). Wrong ns s m n S k) z w)
  refused-behind (next {S} {T} {c} {cs} b g e u) zero at v rest k h l w =
      absurd (omega (
        arith,
        l,
        length-drop at m,
        ap length h,
        length-append (command_bytes c ++ bytes_of cs) rest,
        length-append (command_bytes c)
            (bytes_of cs),
        command-length c,
        size-some c,
      ))
  refused-behind (next {S} {T} {c} {cs} b g e u) (suc f) at v rest k h l w =
      let there : drop at m ≡ command_bytes c ++ (bytes_of cs ++ rest) = h ∙ append_assoc (command_bytes c) (bytes_of cs) rest in
      let behind : at + length (command_bytes c ++ bytes_of cs)
      ≡ at + size_of c + length (bytes_of cs) = omega (arith, length-append (command_bytes c) (bytes_of cs), command-length c) in
      taken-one ns s m f at S v c (command-back m at c (bytes_of cs ++ rest) there g (λ q. absurd (false-true (sym b ∙ ap is_end q)))) e
      ∙ ap (λ (x : Bool). cond x (accepted (S, v)) (C.commands_from f ns s m (at + size_of c) (stepped S s c) (v || is_move c))) b
      ∙ refused-behind u f (at + size_of c) (v || is_move c) rest k
      (sym (drop-drop (size_of c) at m) ∙ ap (drop (size_of c)) there ∙ drop_at (command_bytes c) (bytes_of cs ++ rest) (size_of c) (command-length c))
      (omega (arith, l, size-some c)) (subst (λ (n : ℕ). Wrong ns s m n T k) behind w)

  module _ (k : ℕ) where
    -- the commands from an index on
    record Rest (at : ℕ) (S : State) : Type 0 where
      before : List Command
      led : State
      rest : List ℕ
      there : drop at m ≡ bytes_of before ++ rest
      updates : Updates ns s S before led
      wrong : Wrong ns s m (at + length (bytes_of before)) led k

    rest-here : (at : ℕ) (S : State) → Wrong ns s m at S k → Rest at S
    rest-here at S w =
        let z : at ≡ at + 0 = omega arith in record {
          before = [];
          led = S;
          rest = drop at m;
          there = refl;
          updates = none;
          wrong = subst
              (λ (n : ℕ). Wrong ns s m n S k) z w;
        }

    rest-next : (at : ℕ) (S : State) (c : Command) → is_end c ≡ false → command_at m at ≡ Ok c → Legal ns s S c → Rest (at + size_of c) (stepped S s c)
        → Rest at S
    rest-next at S c b e l r =
        let z : at + size_of c + length (bytes_of r.before)
        ≡ at + length (command_bytes c ++ bytes_of r.before) = omega (arith, length-append (command_bytes c) (bytes_of r.before), command-length c) in
        record {
          before = c ∷ r.before;
          led = r.led;
          rest = r.rest;
          there =
              sym (take-append-drop (size_of c) (drop at m)) ∙ (λ i. command-only m at c bytes e i ++ (drop-drop (size_of c) at m ∙ r.there) i)
              ∙ sym (append_assoc (command_bytes c) (bytes_of r.before) r.rest);
          updates = next b (command-formed m at c e) l r.updates;
          wrong = subst (λ (n : ℕ). Wrong ns s m n r.led k) z r.wrong;
        }

    abbrev Leads : ℕ → Type 0
    Leads f = (at : ℕ) (S : State) (v : Bool) → length m ≤ f + at → C.commands_from f ns s m at S v ≡ refused k → Rest at S

    module _ (f : ℕ) (behind : Leads f) (at : ℕ) (S : State) (v : Bool) (enough : length m ≤ suc f + at) where
      rest-command : (c : Command) → command_at m at ≡ Ok c → Legal ns s S c → (b : Bool) → is_end c ≡ b
          → cond b (accepted (S, v)) (C.commands_from f ns s m (at + size_of c) (stepped S s c) (v || is_move c)) ≡ refused k → Rest at S
      rest-command c e l true b q = absurd (false-true (ap is_refused q))
      rest-command c e l false b q = rest-next at S c b e l (behind (at + size_of c) (stepped S s c) (v || is_move c) (omega (arith, enough, size-some c)) q)

      rest-number : (c : Command) → command_at m at ≡ Ok c → (j : ℕ) → legal_number ns s S c ≡ j
          → judged j (cond (is_end c) (accepted (S, v)) (C.commands_from f ns s m (at + size_of c) (stepped S s c) (v || is_move c))) ≡ refused k → Rest at S
      rest-number c e zero l q = rest-command c e ((legal-exactly ns s S c).0 l) (is_end c) refl q
      rest-number c e (suc j) l q =
          let z : suc j ≡ k = ap number_of q in
          rest-here at S (illegal c e ((illegal-exactly ns s S c k).0 (l ∙ z, λ y. omega (arith, y, z))))

      rest-answer : (a : Result Command ℕ) → command_at m at ≡ a
          → C.on_command (λ size U x. C.commands_from f ns s m (at + size) U x) ns s S v a ≡ refused k → Rest at S
      rest-answer (Err j) e q = rest-here at S (unreadable ((unreadable-exactly m at bytes k).0 (e ∙ ap Err (ap number_of q))))
      rest-answer (Ok c) e q = rest-number c e (legal_number ns s S c) refl q

    rest_all : (f : ℕ) → Leads f
    unfolding C.commands_from
    rest_all zero at S v l h =
        rest-here at S (unreadable ((unreadable-exactly m at bytes k).0 (sym (nothing m at (omega arith)) ∙ ap Err (ap number_of h))))
    rest_all (suc f) at S v l h = rest-answer f (rest_all f) at S v l (command_at m at) refl h

    -- the commands of a message are refused exactly where one of them is, those before it being legal
    pub stops-exactly : (S : State) → (C.commands_from (length m) ns s m 0 S false ≡ refused k) ↔ RefusedAt ns s m S k
    stops-exactly S = (
      λ h.
          let r = rest_all (length m) 0 S false (omega arith) h in
          let z : 0 + length (bytes_of r.before) ≡ length (bytes_of r.before) = omega arith in
          record {
            before = r.before;
            led = r.led;
            rest = r.rest;
            bytes = r.there;
            updates = r.updates;
            wrong = subst
                (λ (n : ℕ). Wrong ns s m n r.led k) z r.wrong;
          },
      λ r.
          let z : length (bytes_of r.before) ≡ 0 + length (bytes_of r.before) = omega arith in
          refused-behind r.updates (length m) 0 false r.rest k r.bytes (omega arith) (subst (λ (n : ℕ). Wrong ns s m n r.led k) z r.wrong),
    )

-- The call

module _ (tables negotiation message scratch : List ℕ) (bytes : (i : ℕ) → get_or message i 0 < 256) (k : ℕ) where
  abbrev leads_to : Tables → State → Answer (State × Bool)
  leads_to T S = C.commands_from (length message) T.names (sender_to S) message 0 S false

  by-commands : (T : Tables) (S : State) → Stands tables negotiation message scratch T S → InTurn S → (x : Answer (State × Bool)) → leads_to T S ≡ x
      → behind_commands (sender_to S) x ≡ refused k → Refusal tables negotiation message scratch k
  by-commands T S h t (refused j) e q = stopped h t ((stops-exactly T.names (sender_to S) message bytes k S).0 (e ∙ ap refused (ap number_of q)))
  by-commands T S h t (accepted (U, v)) e q = absurd (false-true (ap is_refused q))

  by_turn : (T : Tables) (S : State) → Stands tables negotiation message scratch T S → S.header.end ≡ 0 → (b : Bool)
      → sends (sender_to S) S.header.messages ≡ b → cond (not b) (refused TURN) (behind_commands (sender_to S) (leads_to T S)) ≡ refused k
      → Refusal tables negotiation message scratch k
  by_turn T S h e true g q = by-commands T S h (record { going = e; turn = g }) (leads_to T S) refl q
  by_turn T S h e false g q = out-of-turn h e g (sym (ap number_of q))

  by_end : (T : Tables) (S : State) → Stands tables negotiation message scratch T S → (b : Bool) → eqb S.header.end 0 ≡ b
      → cond (not b) (refused ENDED) (cond (not (sends (sender_to S) S.header.messages)) (refused TURN)
      (behind_commands (sender_to S) (leads_to T S))) ≡ refused k
      → Refusal tables negotiation message scratch k
  by_end T S h true g q = by_turn T S h (eqb-true S.header.end 0 g) (sends (sender_to S) S.header.messages) refl q
  by_end T S h false g q = ended h (eqb-false S.header.end 0 g) (sym (ap number_of q))

  by-standing : message_size (length message) (length scratch) ≡ true → (x : Answer (Tables × State)) → R.restore_of tables negotiation ≡ x
      → behind_standing message x ≡ refused k → Refusal tables negotiation message scratch k
  unfolding taken_in
  by-standing h (refused j) e q = unrestored h ((unrestored-exactly tables negotiation k).0 (e ∙ ap refused (ap number_of q)))
  by-standing h (accepted (T, S)) e q = by_end T S (record { sized = h; held = (restored-exactly tables negotiation T S).0 e }) (eqb S.header.end 0) refl q

  by_size : (b : Bool) → message_size (length message) (length scratch) ≡ b
      → cond b (behind_standing message (R.restore_of tables negotiation)) (refused LENGTH) ≡ refused k → Refusal tables negotiation message scratch k
  by_size true h q = by-standing h (R.restore_of tables negotiation) refl q
  by_size false h q = size h (sym (ap number_of q))

  reason : take_of tables negotiation message scratch ≡ refused k → Refusal tables negotiation message scratch k
  unfolding take_of
  reason q = by_size (message_size (length message) (length scratch)) refl q

  refuses : Refusal tables negotiation message scratch k → take_of tables negotiation message scratch ≡ refused k
  unfolding take_of
  refuses (size h e) = ap (λ (b : Bool). cond b (behind_standing message (R.restore_of tables negotiation)) (refused LENGTH)) h ∙ ap refused (sym e)
  refuses (unrestored h u) = λ i. cond (h i) (behind_standing message ((unrestored-exactly tables negotiation k).1 u i)) (refused LENGTH)
  refuses (ended {T} {S} h z e) = take_ended tables negotiation message scratch T S h z ∙ ap refused (sym e)
  refuses (out-of-turn {T} {S} h z g e) = take-out-of-turn tables negotiation message scratch T S h z g ∙ ap refused (sym e)
  refuses (stopped {T} {S} h t r) =
      take-commands tables negotiation message scratch T S h t ∙ ap (behind_commands (sender_to S)) ((stops-exactly T.names (sender_to S) message bytes k S).1 r)

  -- a call is refused with k exactly where one of the reasons holds
  pub take-refused-exactly : (take_of tables negotiation message scratch ≡ refused k) ↔ Refusal tables negotiation message scratch k
  take-refused-exactly = (reason, refuses)
