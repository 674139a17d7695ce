-- A reply has a byte or more, and at most 4,096; the counter in its definition never stops it (document 01, "The reply"). Assumes nothing.
use Rattle.std.specs.Prelude.{ℕ, zero, suc, ◌+◌, ◌≤◌, ◌≡◌, refl, Bool, true, false, cond, List, [], ◌∷◌, ◌++◌, eqb, leb, length}
use Rattle.std.proofs.Common.{arith, ap, leb-true, length-append}
use Rattle.expression.specs.declared.Expression.TheVariants as E
use Rattle.tables.specs.Tables.{Tables}
use Rattle.graph.specs.Propagated.{propagated_state as propagated}
use Rattle.message.specs.declared.Opening.{Opening}
use Rattle.message.specs.declared.Command.{Command}
use Rattle.message.specs.declared.Command.TheVariants.{Open, End}
use Rattle.message.specs.Command.{command_bytes}
use Rattle.message.specs.laws.CommandExact.{command-length}
use Rattle.negotiation.specs.State.{State}
use Rattle.message.specs.Message.{bytes_of, message_bytes}
use Rattle.message.specs.laws.Command.{size-some}
use Rattle.moves.specs.Initial.{initial_state}
use Rattle.moves.specs.Rules.{end_in}
use Rattle.moves.specs.Move.{Move, next_move}
use Rattle.moves.specs.Carried.{carried, has_room_for}
use Rattle.reply.specs.Reply.{Replied, stopped, with_move, reply_from, opening, reply_in, reply_bytes}
use Rattle.reply.specs.laws.Outgoing.{bytes-append, one-length}

-- the commands' bytes, then one for the end
message-length : (cs : List Command) → length (message_bytes cs) ≡ length (bytes_of cs) + 1
message-length cs = omega (arith, ap length (bytes-append cs (End ∷ [])), length-append (bytes_of cs) (bytes_of (End ∷ [])), one-length End)

-- the commands fit before the end byte
record Fits (cs : List Command) : Type 0 where
  room : length (bytes_of cs) + 1 ≤ 4096

move-fits : (more : State → List Command → Replied) (S : State) (cs : List Command) (m : Move)
    → ((R : State) (ds : List Command) → Fits ds → Fits (more R ds).commands) → Fits cs → Fits (with_move more S cs m).commands
move-fits more S cs [] ih h = h
move-fits more S cs (c ∷ ms) ih h = go (has_room_for S.header.side S (c ∷ ms)) (leb (length (bytes_of (cs ++ (c ∷ ms))) + 1) 4096) refl
  where
    R : State
    R = carried S.header.side S (c ∷ ms)

    go : (a b : Bool) → leb (length (bytes_of (cs ++ (c ∷ ms))) + 1) 4096 ≡ b
        → Fits (cond a (cond b (more R (cs ++ (c ∷ ms))) (stopped cs S false)) (stopped cs S true)).commands
    go true true e = ih R (cs ++ (c ∷ ms)) (record { room = leb-true (length (bytes_of (cs ++ (c ∷ ms))) + 1) 4096 e })
    go true false e = h
    go false b e = h

from-fits : (f : ℕ) (T : Tables) (S : State) (cs : List Command) → Fits cs → Fits (reply_from f T S cs).commands
unfolding reply_from
from-fits zero T S cs h = h
from-fits (suc f) T S cs h =
    go (eqb (propagated S.nodes S.edges 0) 1) (with_move (λ U ds. reply_from f T U ds) S cs (next_move (end_in T S)))
    (move-fits (λ U ds. reply_from f T U ds) S cs (next_move (end_in T S)) (λ R ds k. from-fits f T R ds k) h)
  where
    go : (b : Bool) (r : Replied) → Fits r.commands → Fits (cond b (stopped cs S false) r).commands
    go true r k = h
    go false r k = k

opening-fits : (o : Opening) (b : Bool) → Fits (cond b (Open o ∷ []) [])
opening-fits o true = record { room = omega (arith, length-append (command_bytes (Open o)) [], command-length (Open o)) }
opening-fits o false = record { room = omega arith }

pub reply-length : (T : Tables) (S : State) → (1 ≤ length (reply_bytes (reply_in T S))) × (length (reply_bytes (reply_in T S)) ≤ 4096)
unfolding reply_bytes reply_in
reply-length T S =
    let o : Opening = record { role = S.header.wanted; state = initial_state T.names true (E.Role S.header.wanted) } in
    let first : List Command = cond (eqb (length S.nodes) 0) (Open o ∷ []) [] in
    let r : Replied = reply_from 4096 T (carried S.header.side S first) first in
    let n = message-length r.commands in
    let k : Fits r.commands = from-fits 4096 T (carried S.header.side S first) first (opening-fits o (eqb (length S.nodes) 0)) in
    (omega (arith, n), omega (arith, n, k.room))

-- The counter never stops a reply

-- a move has a byte or more
move-longer : (cs : List Command) (c : Command) (ms : List Command) → length (bytes_of cs) + 1 ≤ length (bytes_of (cs ++ (c ∷ ms)))
move-longer cs c ms =
    omega (
      arith,
      size-some c,
      command-length c,
      ap length (bytes-append cs (c ∷ ms)),
      length-append (bytes_of cs) (bytes_of (c ∷ ms)),
      length-append
          (command_bytes c) (bytes_of ms),
    )

with-enough : (more then : State → List Command → Replied) (S : State) (cs : List Command) (m : Move)
    → ((R : State) (ds : List Command) → Fits ds → length (bytes_of cs) + 1 ≤ length (bytes_of ds) → more R ds ≡ then R ds)
    → with_move more S cs m ≡ with_move then S cs m
with-enough more then S cs [] ih = refl
with-enough more then S cs (c ∷ ms) ih = go (has_room_for S.header.side S (c ∷ ms)) (leb (length (bytes_of (cs ++ (c ∷ ms))) + 1) 4096) refl
  where
    R : State
    R = carried S.header.side S (c ∷ ms)

    go : (a b : Bool) → leb (length (bytes_of (cs ++ (c ∷ ms))) + 1) 4096 ≡ b
        → cond a (cond b (more R (cs ++ (c ∷ ms))) (stopped cs S false)) (stopped cs S true)
        ≡ cond a (cond b (then R (cs ++ (c ∷ ms))) (stopped cs S false)) (stopped cs S true)
    go true true e = ih R (cs ++ (c ∷ ms)) (record { room = leb-true (length (bytes_of (cs ++ (c ∷ ms))) + 1) 4096 e }) (move-longer cs c ms)
    go true false e = refl
    go false b e = refl

-- two counters that are large enough give the same reply
pub reply-enough : (f g : ℕ) (T : Tables) (S : State) (cs : List Command) → length (bytes_of cs) + 1 ≤ 4096 → 4096 ≤ f + length (bytes_of cs)
    → 4096 ≤ g + length (bytes_of cs) → reply_from f T S cs ≡ reply_from g T S cs
unfolding reply_from
reply-enough zero g T S cs h k l = absurd (omega arith)
reply-enough (suc f) zero T S cs h k l = absurd (omega arith)
reply-enough (suc f) (suc g) T S cs h k l =
    ap (λ (r : Replied). cond (eqb (propagated S.nodes S.edges 0) 1) (stopped cs S false) r)
    (with-enough (λ U ds. reply_from f T U ds) (λ U ds. reply_from g T U ds) S cs (next_move (end_in T S))
    (λ R ds q m. reply-enough f g T R ds q.room (omega arith) (omega arith)))

-- so a reply stops only where the rules say: a larger counter changes nothing
pub reply-whole : (f : ℕ) (T : Tables) (S : State) → 4096 ≤ f → reply_in T S ≡ reply_from f T (carried S.header.side S (opening T S)) (opening T S)
unfolding reply_in
reply-whole f T S l =
    let o : Opening = record { role = S.header.wanted; state = initial_state T.names true (E.Role S.header.wanted) } in
    reply-enough 4096 f T (carried S.header.side S (opening T S)) (opening T S) (opening-fits o (eqb (length S.nodes) 0)).room (omega arith)
    (omega arith)
