-- A reply is what is added behind the bytes of its first commands. Assumes nothing.
use Rattle.std.specs.Prelude.{ℕ, zero, suc, ◌+◌, ◌≡◌, Bool, true, false, cond, List, [], ◌∷◌, ◌++◌, eqb, leb, length}
use Rattle.std.proofs.Common.{sym, ◌∙◌, ap, append_assoc, append-nil, length-append}
use Rattle.tables.specs.Tables.{Tables}
use Rattle.graph.specs.Propagated.{propagated_state as propagated}
use Rattle.message.specs.declared.Command.{Command}
use Rattle.negotiation.specs.State.{State}
use Rattle.message.specs.Message.{bytes_of}
use Rattle.moves.specs.Rules.{end_in}
use Rattle.moves.specs.Move.{Move, next_move}
use Rattle.moves.specs.Carried.{carried, has_room_for}
use Rattle.reply.specs.Reply.{Replied, stopped, with_move, reply_from}
use Rattle.reply.specs.laws.Outgoing.{bytes-append}
use Rattle.reply.specs.laws.Turns.{Next, stops, goes, by_room, fits_behind, behind_move, next_in, behind, go_on, rest_from, behind-behind, bytes-behind}

stopped-behind : (cs : List Command) (S : State) (full : Bool) → stopped cs S full ≡ behind cs (stopped [] S full)
stopped-behind cs S full = λ i. record { commands = sym (append-nil cs) i; state = S; full = full }

-- what is added to commands is what is added behind their bytes
pub from-rest : (f : ℕ) (T : Tables) (S : State) (cs : List Command) → reply_from f T S cs ≡ behind cs (rest_from f T S (length (bytes_of cs)))
unfolding reply_from rest_from next_in
from-rest zero T S cs = stopped-behind cs S false
from-rest (suc f) T S cs = by-primary (eqb (propagated S.nodes S.edges 0) 1) (next_move (end_in T S)) (λ U ds. from-rest f T U ds)
  where
    by-room : (m : List Command) (room fits : Bool) → ((U : State) (ds : List Command) → reply_from f T U ds ≡ behind ds (rest_from f T U (length (bytes_of ds))))
        → cond room (cond fits (reply_from f T (carried S.header.side S m) (cs ++ m)) (stopped cs S false)) (stopped cs S true)
        ≡ behind cs (go_on (λ n. behind n (rest_from f T (carried S.header.side S n) (length (bytes_of cs) + length (bytes_of n)))) S (by_room m room fits))
    by-room m true true ih =
        ih (carried S.header.side S m) (cs ++ m)
        ∙ ap (λ (k : ℕ). behind (cs ++ m) (rest_from f T (carried S.header.side S m) k)) (bytes-behind cs m)
        ∙ behind-behind cs m (rest_from f T (carried S.header.side S m) (length (bytes_of cs) + length (bytes_of m)))
    by-room m true false ih = stopped-behind cs S false
    by-room m false fits ih = stopped-behind cs S true

    by_move : (m : Move) → ((U : State) (ds : List Command) → reply_from f T U ds ≡ behind ds (rest_from f T U (length (bytes_of ds))))
        → with_move (λ U ds. reply_from f T U ds) S cs m
        ≡ behind cs (go_on (λ n. behind n (rest_from f T (carried S.header.side S n) (length (bytes_of cs) + length (bytes_of n)))) S
        (behind_move S (length (bytes_of cs)) m))
    by_move [] ih = stopped-behind cs S false
    by_move (c ∷ ms) ih =
        ap (λ (k : ℕ). cond (has_room_for S.header.side S (c ∷ ms))
        (cond (leb (k + 1) 4096) (reply_from f T (carried S.header.side S (c ∷ ms)) (cs ++ (c ∷ ms))) (stopped cs S false))
        (stopped cs S true)) (bytes-behind cs (c ∷ ms))
        ∙ by-room (c ∷ ms) (has_room_for S.header.side S (c ∷ ms)) (fits_behind (length (bytes_of cs)) (c ∷ ms)) ih

    by-primary : (b : Bool) (m : Move) → ((U : State) (ds : List Command) → reply_from f T U ds ≡ behind ds (rest_from f T U (length (bytes_of ds))))
        → cond b (stopped cs S false) (with_move (λ U ds. reply_from f T U ds) S cs m)
        ≡ behind cs (go_on (λ n. behind n (rest_from f T (carried S.header.side S n) (length (bytes_of cs) + length (bytes_of n)))) S
        (cond b (stops false) (behind_move S (length (bytes_of cs)) m)))
    by-primary true m ih = stopped-behind cs S false
    by-primary false m ih = by_move m ih
