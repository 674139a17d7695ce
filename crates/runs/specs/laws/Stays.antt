-- What stays so through a reply and through a message taken: the header, the sizes, and a satisfied Ack target of a differing role (document 01, "Two runs":
-- "The graph after a call is built by the commands of all messages accepted and replies given so far"). Assumes nothing.
use Prim.Native.Nat.{ℕ, zero, suc, ◌+◌}
use Rattle.std.proofs.Common.{arith, ◌∙◌, ap, subst, eqb-true, lt-ltb}
use Rattle.std.specs.Prelude.{◌≡◌, refl, Bool, cond, ◌||◌, List, [], ◌∷◌, ◌++◌, eqb, ltb, leb, length, Result, Ok, Err}
use Rattle.std.proofs.Math.Bool.{true, false}
use Rattle.expression.specs.declared.Expression.TheVariants as E
use Rattle.word.specs.laws.Bools.{and_parts, and_both, false-true}
use Rattle.class.specs.declared.Name.{Name}
use Rattle.tables.specs.Tables.{Tables}
use Rattle.graph.specs.Propagated.{propagated_state as propagated}
use Rattle.message.specs.declared.Command.{Command}
use Rattle.message.specs.declared.Command.TheVariants.{Open}
use Rattle.message.specs.Command.{command_at, size_of}
use Rattle.negotiation.specs.declared.Header.{Header}
use Rattle.negotiation.specs.State.{State, within}
use Rattle.applied.specs.Step.{stepped, has_room, is_move}
use Rattle.applied.specs.laws.Step.{step-header}
use Rattle.legal.specs.Number.{legal_number}
use Rattle.legal.specs.laws.Room.{legal-room, step-within}
use Rattle.message.specs.Message.{bytes_of, is_end}
use Rattle.take.specs.Commands.{on_command, commands_from}
use Rattle.moves.specs.laws.Known.{is_disclosed}
use Rattle.moves.specs.laws.KnownStays.{disclosed-step}
use Rattle.moves.specs.Initial.{initial_state}
use Rattle.moves.specs.Rules.{end_in}
use Rattle.moves.specs.Move.{Move, next_move}
use Rattle.moves.specs.Carried.{carried, has_room_for}
use Rattle.reply.specs.Reply.{Replied, stopped, with_move, reply_from, opening, reply_in}
use Rattle.numbers.specs.Answer.{Answer, refused, accepted, judged}
use Rattle.numbers.specs.laws.Answer.{first_of, is_accepted}
use Rattle.numbers.specs.Sizes.{MOST-NODES}

-- every command that has room keeps P
pub record Stays (P : State → Type 0) : Type 0 where
  pub step : (S : State) (s : ℕ) (c : Command) → has_room S c ≡ true → P S → P (stepped S s c)

pub within-kept : Stays (λ S. within S ≡ true)
within-kept = record { step = λ S s c r w. step-within S w s c r }

-- commands leave the header
pub header-kept : (h : Header) → Stays (λ S. S.header ≡ h)
header-kept h = record { step = λ S s c r e. step-header S s c ∙ e }

-- within the sizes, an Ack target of a role in which T and U differ is satisfied
pub record DisclosedIn (T U : Tables) (S : State) : Type 0 where
  pub sizes : within S ≡ true
  pub opened : is_disclosed T U S ≡ true

pub disclosed-kept : (T U : Tables) → Stays (DisclosedIn T U)
disclosed-kept T U = record { step = λ S s c r h. record { sizes = step-within S h.sizes s c r; opened = disclosed-step T U S s c h.sizes h.opened } }

-- the mediator's open has room
opening-room : (W : Tables) (S : State) → has_room_for S.header.side S (opening W S) ≡ true
unfolding has_room
opening-room W S = go (eqb (length S.nodes) 0) refl
  where
    first : Command
    first = Open (record { role = S.header.wanted; state = initial_state W.names true (E.Role S.header.wanted) })

    go : (b : Bool) → eqb (length S.nodes) 0 ≡ b → has_room_for S.header.side S (cond b (first ∷ []) []) ≡ true
    go true q =
        let z : length S.nodes ≡ 0 = eqb-true (length S.nodes) 0 q in and_both (ltb (length S.nodes) MOST-NODES) true
        (lt-ltb (length S.nodes) MOST-NODES (omega (arith, z))) refl
    go false q = refl

refused-taken : {n : ℕ} {A : State} {v : Bool} → ◌≡◌ {A = Answer (State × Bool)} (refused n) (accepted (A, v)) → ⊥
refused-taken e = false-true (ap is_accepted e)

module _ {P : State → Type 0} (k : Stays P) where
  pub carried-stays : (s : ℕ) (S : State) (cs : List Command) → has_room_for s S cs ≡ true → P S → P (carried s S cs)
  carried-stays s S [] r h = h
  carried-stays s S (c ∷ cs) r h =
      let p = and_parts (has_room S c) (has_room_for s (stepped S s c) cs) r in
      carried-stays s (stepped S s c) cs p.1 (k.step S s c p.0 h)

  -- A reply

  move-stays : (next : State → List Command → Replied) (S : State) (cs : List Command) (m : Move)
      → ((R : State) (ds : List Command) → P R → P (next R ds).state) → P S → P (with_move next S cs m).state
  move-stays next S cs [] ih h = h
  move-stays next S cs (c ∷ ms) ih h = go (has_room_for S.header.side S (c ∷ ms)) refl (leb (length (bytes_of (cs ++ (c ∷ ms))) + 1) 4096)
    where
      go : (b : Bool) → has_room_for S.header.side S (c ∷ ms) ≡ b → (d : Bool)
          → P (cond b (cond d (next (carried S.header.side S (c ∷ ms)) (cs ++ (c ∷ ms))) (stopped cs S false)) (stopped cs S true)).state
      go true e true = ih (carried S.header.side S (c ∷ ms)) (cs ++ (c ∷ ms)) (carried-stays S.header.side S (c ∷ ms) e h)
      go true e false = h
      go false e d = h

  -- by whichever tables
  pub from-stays : (f : ℕ) (W : Tables) (S : State) (cs : List Command) → P S → P (reply_from f W S cs).state
  unfolding reply_from
  from-stays zero W S cs h = h
  from-stays (suc f) W S cs h =
      go (eqb (propagated S.nodes S.edges 0) 1) (with_move (λ R ds. reply_from f W R ds) S cs (next_move (end_in W S)))
      (move-stays (λ R ds. reply_from f W R ds) S cs (next_move (end_in W S)) (λ R ds p. from-stays f W R ds p) h)
    where
      go : (b : Bool) (r : Replied) → P r.state → P (cond b (stopped cs S false) r).state
      go true r p = h
      go false r p = p

  pub opening-stays : (W : Tables) (S : State) → P S → P (carried S.header.side S (opening W S))
  opening-stays W S h = carried-stays S.header.side S (opening W S) (opening-room W S) h

  pub reply-stays : (W : Tables) (S : State) → P S → P (reply_in W S).state
  unfolding reply_in
  reply-stays W S h = from-stays 4096 W (carried S.header.side S (opening W S)) (opening W S) (opening-stays W S h)

  -- A message taken

  judged-stays : (n : ℕ) (t : Answer (State × Bool)) (A : State) (v : Bool) → (n ≡ 0 → t ≡ accepted (A, v) → P A) → judged n t ≡ accepted (A, v) → P A
  judged-stays zero t A v ih e = ih refl e
  judged-stays (suc n) t A v ih e = absurd (refused-taken e)

  command-stays : (next : ℕ → State → Bool → Answer (State × Bool)) (ns : List Name) (s : ℕ) (S : State) (moved : Bool) (a : Result Command ℕ)
      (A : State) (v : Bool)
      → ((size : ℕ) (R : State) (m : Bool) → P R → next size R m ≡ accepted (A, v) → P A)
      → P S → on_command next ns s S moved a ≡ accepted (A, v) → P A
  command-stays next ns s S moved (Err n) A v ih h e = absurd (refused-taken e)
  command-stays next ns s S moved (Ok c) A v ih h e =
      judged-stays (legal_number ns s S c) (cond (is_end c) (accepted (S, moved)) (next (size_of c) (stepped S s c) (moved || is_move c))) A v
      (λ l q. go (is_end c) (λ p. ih (size_of c) (stepped S s c) (moved || is_move c) (k.step S s c (legal-room S ns s c l) h) p) q) e
    where
      go : (b : Bool) → (next (size_of c) (stepped S s c) (moved || is_move c) ≡ accepted (A, v) → P A)
          → cond b (accepted (S, moved)) (next (size_of c) (stepped S s c) (moved || is_move c)) ≡ accepted (A, v) → P A
      go true more q = subst P (ap (first_of S) q) h
      go false more q = more q

  pub commands-stay : (f : ℕ) (ns : List Name) (s : ℕ) (m : List ℕ) (at : ℕ) (S : State) (moved : Bool) (A : State) (v : Bool) → P S
      → commands_from f ns s m at S moved ≡ accepted (A, v) → P A
  unfolding commands_from
  commands-stay zero ns s m at S moved A v h e = absurd (refused-taken e)
  commands-stay (suc f) ns s m at S moved A v h e =
      command-stays (λ size R w. commands_from f ns s m (at + size) R w) ns s S moved (command_at m at) A v
      (λ size R w p q. commands-stay f ns s m (at + size) R w A v p q) h e

-- By whichever tables a reply goes on, an Ack target of a differing role that is satisfied is so at its end
pub disclosed-stays : (T U : Tables) (f : ℕ) (W : Tables) (S : State) (cs : List Command) → within S ≡ true → is_disclosed T U S ≡ true
    → is_disclosed T U (reply_from f W S cs).state ≡ true
disclosed-stays T U f W S cs w h = (from-stays (disclosed-kept T U) f W S cs (record { sizes = w; opened = h })).opened
