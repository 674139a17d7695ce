-- What an accepted report says of the lent bytes (document 01, "The reply"). Assumes nothing.
use Rattle.std.specs.Prelude.{ℕ, ◌≤◌, ◌<◌, ◌≡◌, List, length}
use Rattle.expression.specs.declared.Expression.TheVariants as E
use Rattle.rt0.specs.From.{From}
use Rattle.graph.specs.Graph.{node_in}
use Rattle.tables.specs.Tables.{Tables}
use Rattle.negotiation.specs.State.{State}
use Rattle.negotiation.specs.Ends.{requester}
use Rattle.standing.specs.Holds.{Holds, Unrestored}
use Rattle.numbers.specs.Refusals.{ABSENT}
use Rattle.report.specs.Report.{Report, report_on}

-- the lent bytes hold tables and a state in which node i stands, and the numbers are those of this state
pub record Reported (tables negotiation : List ℕ) (i : ℕ) (r : Report) : Type 0 where
  pub house : Tables
  pub state : State
  pub held : Holds tables negotiation house state
  pub stands : i < length state.nodes
  pub numbers : r ≡ report_on state i

-- why a report is refused with k, in the order of document 01
pub data ReportRefused (tables negotiation : List ℕ) (i k : ℕ) : Type 0 where
  -- "1, tables 2 to 6, 20"
  unrestored : Unrestored tables negotiation k → ReportRefused tables negotiation i k
  -- "an absent node (24)"
  absent : {T : Tables} {S : State} → Holds tables negotiation T S → length S.nodes ≤ i → k ≡ ABSENT → ReportRefused tables negotiation i k

-- what the file server acts on: the credentials shown prove in RT0 that the requester is in the primary's role; at the mediator, that the other
-- end is in the wanted role that it began with
pub record Success (tables negotiation : List ℕ) : Type 0 where
  pub house : Tables
  pub state : State
  pub held : Holds tables negotiation house state
  pub primary : From state.shown (node_in state.nodes 0).expression (E.Entity (requester state.header))
  pub wanted : state.header.side ≡ 0 → From state.shown (E.Role state.header.wanted) (E.Entity state.header.other)
