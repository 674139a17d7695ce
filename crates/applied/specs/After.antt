-- What a message leaves, once its commands are carried out (document 01, "RT0 and states" and "The reply"). Assumes nothing.
use Rattle.std.specs.Prelude.{ℕ, Bool, not, cond, ◌&&◌, eqb}
use Rattle.graph.specs.Propagated.{propagated_state}
use Rattle.negotiation.specs.declared.Header.{Header}
use Rattle.negotiation.specs.Messages.{counted}
use Rattle.negotiation.specs.State.{State, with_header}

-- "An end is judged after each message: 1 success, 2 failed (the primary's state), 3 stalled (two messages running, taken or given, with no
-- open, edge or mark), 4 full; else 0. They are judged in that order"
unfoldable pub end_of : ℕ → Bool → Bool → ℕ
end_of primary stalled full = cond (eqb primary 1) 1 (cond (eqb primary 2) 2 (cond stalled 3 (cond full 4 0)))

-- the message and the one before it had no open, edge or mark
unfoldable pub is_stalled : Bool → ℕ → Bool
is_stalled moved idle = not moved && eqb idle 1

-- 1 where the message had no open, edge or mark
unfoldable pub idle_of : Bool → ℕ
idle_of moved = cond moved 0 1

-- the message is counted for its sender
unfoldable pub header_after : ℕ → ℕ → Bool → Bool → Header → Header
header_after sender primary moved full h =
    record {
      side = h.side;
      own = h.own;
      other = h.other;
      wanted = h.wanted;
      end = end_of primary (is_stalled moved h.idle) full;
      idle = idle_of moved;
      messages = counted sender h.messages;
    }

-- moved: an open, an edge or a mark was among the commands; full: a reply stopped on a size
unfoldable pub after_message : ℕ → State → Bool → Bool → State
after_message sender S moved full = with_header S (header_after sender (propagated_state S.nodes S.edges 0) moved full S.header)
