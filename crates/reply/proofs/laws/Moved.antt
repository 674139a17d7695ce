-- Every move of a reply ends in an edge or a mark, so an open, an edge or a mark was sent as soon as a byte was. Assumes nothing.
use Rattle.std.specs.Prelude.{ℕ, zero, suc, ◌+◌, ◌≡◌, refl, ◌⊎◌, Bool, true, false, not, cond, List, [], ◌∷◌, ◌++◌, map, eqb, length}
use Rattle.std.proofs.Common.{arith, sym, ◌∙◌, ap, subst, inl, inr, ⊎_elim, ne_eqb, length-append}
use Rattle.expression.specs.declared.Credential.{Credential}
use Rattle.word.specs.laws.Bools.{false-true, or_left, or_right, or_cases}
use Rattle.tables.specs.Tables.{Tables}
use Rattle.graph.specs.declared.Node.{Node}
use Rattle.graph.specs.declared.Edge.{Edge}
use Rattle.message.specs.declared.NewEdge.{NewEdge}
use Rattle.message.specs.declared.Opening.{Opening}
use Rattle.message.specs.declared.Command.{Command}
use Rattle.message.specs.declared.Command.TheVariants.{Show, Open, Bring, Join}
use Rattle.message.specs.Command.{command_bytes}
use Rattle.message.specs.laws.CommandExact.{command-length}
use Rattle.negotiation.specs.State.{State}
use Rattle.applied.specs.Step.{is_move, moved}
use Rattle.message.specs.Message.{bytes_of}
use Rattle.moves.specs.declared.Candidate.{Candidate}
use Rattle.moves.specs.declared.Choice.{Choice}
use Rattle.moves.specs.declared.Choice.TheVariants as K
use Rattle.moves.specs.Candidates.{child_stands}
use Rattle.moves.specs.Rules.{End as OurEnd, end_in}
use Rattle.moves.specs.Move.{Move, credentials_for, edge_command, move_for, choice_at, or_next, moves_from, next_move}
use Rattle.moves.specs.Carried.{carried}
use Rattle.reply.specs.Reply.{Replied, opening, reply_in}
use Rattle.reply.specs.laws.Turns.{Next, stops, goes, next_in, behind, go_on, rest_from}
use Rattle.reply.proofs.laws.Turns.{from-rest}
use Rattle.reply.specs.laws.Writing.{next_fits}
use Rattle.message.specs.laws.Command.{size-some}

-- no command, or an open, an edge or a mark among them
abbrev Moves : List Command → Type 0
Moves cs = (cs ≡ []) ⊎ (moved cs ≡ true)

moved_front : (a b : List Command) → moved a ≡ true → moved (a ++ b) ≡ true
moved_front [] b h = absurd (false-true h)
moved_front (c ∷ a) b h =
    ⊎_elim (λ z. or_left (is_move c) (moved (a ++ b)) z) (λ z. or_right (is_move c) (moved (a ++ b)) (moved_front a b z)) (or_cases (is_move c) (moved a) h)

moves-append : (a b : List Command) → Moves a → Moves b → Moves (a ++ b)
moves-append a b (inl z) m = subst (λ (x : List Command). Moves (x ++ b)) (sym z) m
moves-append a b (inr z) m = inr (moved_front a b z)

last-moved : (cs : List Credential) (c : Command) → is_move c ≡ true → moved (map Show cs ++ (c ∷ [])) ≡ true
last-moved [] c h = or_left (is_move c) false h
last-moved (d ∷ cs) c h = last-moved cs c h

edge_moved : (o : OurEnd) (i : ℕ) (w : Candidate) → is_move (edge_command o i w) ≡ true
edge_moved o i w = go (child_stands o.state.nodes w) _ _
  where
    go : (b : Bool) (e : Edge) (n : NewEdge) → is_move (cond b (Join e) (Bring n)) ≡ true
    go true e n = refl
    go false e n = refl

for-moves : (o : OurEnd) (i : ℕ) (n : Node) (k : Choice) → Moves (move_for o i n k)
for-moves o i n (K.Edge w) = inr (last-moved (credentials_for o n w) (edge_command o i w) (edge_moved o i w))
for-moves o i n K.Mark = inr refl
for-moves o i n K.Nothing = inl refl

or-moves : (o : OurEnd) (a b : Move) → Moves a → Moves b → Moves (or_next o a b)
or-moves o [] b m k = k
or-moves o (c ∷ a) b m k = m

from-moves : (o : OurEnd) (i : ℕ) (ns : List Node) → Moves (moves_from o i ns)
unfolding moves_from
from-moves o i [] = inl refl
from-moves o i (n ∷ ns) = or-moves o (move_for o i n (choice_at o i n)) (moves_from o (suc i) ns) (for-moves o i n (choice_at o i n)) (from-moves o (suc i) ns)

next-moves : (o : OurEnd) → Moves (next_move o)
unfolding next_move
next-moves o = from-moves o 0 o.state.nodes

rest-moves : (f : ℕ) (T : Tables) (S : State) (at : ℕ) → Moves (rest_from f T S at).commands
unfolding rest_from
rest-moves zero T S at = inl refl
rest-moves (suc f) T S at = go (next_in T S at) refl (λ U k. rest-moves f T U k)
  where
    go : (n : Next) → next_in T S at ≡ n → ((U : State) (k : ℕ) → Moves (rest_from f T U k).commands)
        → Moves (go_on (λ m. behind m (rest_from f T (carried S.header.side S m) (at + length (bytes_of m)))) S n).commands
    go (stops b) e ih = inl refl
    go (goes m) e ih =
        moves-append m (rest_from f T (carried S.header.side S m) (at + length (bytes_of m))).commands
        (subst Moves (sym (next_fits T S at m e).next) (next-moves (end_in T S))) (ih (carried S.header.side S m) (at + length (bytes_of m)))

opening-moves : (T : Tables) (S : State) → Moves (opening T S)
opening-moves T S = go (eqb (length S.nodes) 0) _
  where
    go : (b : Bool) (o : Opening) → Moves (cond b (Open o ∷ []) [])
    go true o = inr refl
    go false o = inl refl

reply-moves : (T : Tables) (S : State) → Moves (reply_in T S).commands
unfolding reply_in
reply-moves T S =
    let U : State = carried S.header.side S (opening T S) in
    let k : ℕ = length (bytes_of (opening T S)) in
    subst (λ (r : Replied). Moves r.commands) (sym (from-rest 4096 T U (opening T S)))
    (moves-append (opening T S) (rest_from 4096 T U k).commands (opening-moves T S) (rest-moves 4096 T U k))

moved-bytes : (cs : List Command) → Moves cs → moved cs ≡ not (eqb (length (bytes_of cs)) 0)
moved-bytes [] m = refl
moved-bytes (c ∷ cs) (inl z) = absurd (omega (arith, ap length z))
moved-bytes (c ∷ cs) (inr z) =
    z ∙ sym (ap not (ne_eqb (length (bytes_of (c ∷ cs))) 0 (λ y. omega (arith, y, length-append (command_bytes c) (bytes_of cs), command-length c, size-some c))))

-- it was sent where the reply has bytes
pub reply-moved : (T : Tables) (S : State) {k : ℕ} → k ≡ length (bytes_of (reply_in T S).commands) → not (eqb k 0) ≡ moved (reply_in T S).commands
reply-moved T S e = ap (λ (n : ℕ). not (eqb n 0)) e ∙ sym (moved-bytes (reply_in T S).commands (reply-moves T S))
