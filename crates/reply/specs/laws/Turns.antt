-- A reply, turn by turn: what comes next behind so many bytes, and what is added from there on. Assumes nothing.
use Rattle.std.specs.Prelude.{ℕ, zero, suc, ◌+◌, ◌≡◌, Bool, true, false, cond, List, [], ◌∷◌, ◌++◌, eqb, leb, length}
use Rattle.std.proofs.Common.{sym, ◌∙◌, ap, append_assoc, append-nil, length-append}
use Rattle.tables.specs.Tables.{Tables}
use Rattle.graph.specs.Propagated.{propagated_state as propagated}
use Rattle.message.specs.declared.Command.{Command}
use Rattle.negotiation.specs.State.{State}
use Rattle.message.specs.Message.{bytes_of}
use Rattle.moves.specs.Rules.{end_in}
use Rattle.moves.specs.Move.{Move, next_move}
use Rattle.moves.specs.Carried.{carried, has_room_for}
use Rattle.reply.specs.Reply.{Replied, stopped, with_move, reply_from}
use Rattle.reply.specs.laws.Outgoing.{bytes-append}

-- the reply stops, on a size or not, or goes on by a move
pub data Next : Type 0 where
  stops : Bool → Next
  goes : List Command → Next

-- "the next move would not fit before the end byte within 4,096 bytes, or it would pass a size"
abbrev pub by_room : List Command → Bool → Bool → Next
by_room m room fits = cond room (cond fits (goes m) (stops false)) (stops true)

abbrev pub fits_behind : ℕ → List Command → Bool
fits_behind at m = leb (at + length (bytes_of m) + 1) 4096

abbrev pub behind_move : State → ℕ → Move → Next
behind_move S at [] = stops false
behind_move S at (c ∷ ms) = by_room (c ∷ ms) (has_room_for S.header.side S (c ∷ ms)) (fits_behind at (c ∷ ms))

-- "The reply stops when no move remains, the primary is satisfied, .."
unfoldable pub next_in : Tables → State → ℕ → Next
next_in T S at = cond (eqb (propagated S.nodes S.edges 0) 1) (stops false) (behind_move S at (next_move (end_in T S)))

-- a reply behind other commands
abbrev pub behind : List Command → Replied → Replied
behind cs r = record { commands = cs ++ r.commands; state = r.state; full = r.full }

abbrev pub go_on : (List Command → Replied) → State → Next → Replied
go_on more S (stops full) = stopped [] S full
go_on more S (goes m) = more m

-- what a reply adds behind so many bytes
unfoldable pub rest_from : ℕ → Tables → State → ℕ → Replied
rest_from zero T S at = stopped [] S false
rest_from (suc f) T S at = go_on (λ m. behind m (rest_from f T (carried S.header.side S m) (at + length (bytes_of m)))) S (next_in T S at)

pub behind-behind : (a b : List Command) (r : Replied) → behind (a ++ b) r ≡ behind a (behind b r)
behind-behind a b r = λ i. record { commands = append_assoc a b r.commands i; state = r.state; full = r.full }

pub bytes-behind : (a b : List Command) → length (bytes_of (a ++ b)) ≡ length (bytes_of a) + length (bytes_of b)
bytes-behind a b = ap length (bytes-append a b) ∙ length-append (bytes_of a) (bytes_of b)
