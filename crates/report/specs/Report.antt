-- The report (document 01, "The reply"). Assumes nothing.
use Rattle.std.specs.Prelude.{ℕ, ◌+◌, ◌*◌, ◌/◌, ◌%◌, cond, List, ltb, length}
use Rattle.graph.specs.Graph.{node_in}
use Rattle.graph.specs.Propagated.{propagated_state}
use Rattle.negotiation.specs.declared.Messages.{Messages}
use Rattle.negotiation.specs.State.{State}
use Rattle.standing.specs.Standing.{restore_of}
use Rattle.numbers.specs.Answer.{Answer, refused, accepted, onward}
use Rattle.numbers.specs.Refusals.{ABSENT}
use Rattle.tables.specs.Tables.{Tables}

-- "a node's state byte and its propagated state, ..; the end, counts of nodes, edges, shown credentials, messages accepted and replies given
-- together", those of the mediator and those of the requester
pub record Report : Type 0 where
  pub state : ℕ
  pub propagated : ℕ
  pub end : ℕ
  pub nodes : ℕ
  pub edges : ℕ
  pub shown : ℕ
  pub messages : Messages

-- what stands in a negotiation, of node i
unfoldable pub report_on : State → ℕ → Report
report_on S i =
    record {
      state = (node_in S.nodes i).state;
      propagated = propagated_state S.nodes S.edges i;
      end = S.header.end;
      nodes = length S.nodes;
      edges = length S.edges;
      shown = length S.shown;
      messages = S.header.messages;
    }

-- "24 no such node"
abbrev pub behind_negotiation : ℕ → Answer (Tables × State) → Answer Report
behind_negotiation i a = onward (λ x. cond (ltb i (length x.1.nodes)) (accepted (report_on x.1 i)) (refused ABSENT)) a

-- "Report is lent the tables too and looks only at 1, tables 2 to 6, 20 and an absent node (24)"
unfoldable pub report_of : List ℕ → List ℕ → ℕ → Answer Report
report_of tables negotiation i = behind_negotiation i (restore_of tables negotiation)

-- The answer

-- from the low bits: state byte (2 bits), propagated state (2), end (3), nodes (8), edges (9), shown (7), messages of the mediator (10), of the
-- requester (10)
unfoldable pub packed : Report → ℕ
packed r =
    r.state + (r.propagated + (r.end + (r.nodes + (r.edges + (r.shown + (r.messages.mediator + r.messages.requester * 1024) * 128) * 512) * 256) * 8)
    * 4) * 4

unfoldable pub unpacked : ℕ → Report
unpacked v =
    record {
      state = v % 4;
      propagated = v / 4 % 4;
      end = v / 4 / 4 % 8;
      nodes = v / 4 / 4 / 8 % 256;
      edges = v / 4 / 4 / 8 / 256 % 512;
      shown = v / 4 / 4 / 8 / 256 / 512 % 128;
      messages = record { mediator = v / 4 / 4 / 8 / 256 / 512 / 128 % 1024; requester = v / 4 / 4 / 8 / 256 / 512 / 128 / 1024 };
    }
