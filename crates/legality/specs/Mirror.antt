-- The two ends of a negotiation hold the same graph and credentials, each from its own side.
use Rattle.std.specs.Prelude.{◌<◌, ◌≡◌}
use Rattle.negotiation.specs.declared.Header.{Header}
use Rattle.negotiation.specs.State.{State}
use Rattle.negotiation.specs.Ends.{other_side}

-- one header is the other's, with the sides and the ends swapped
pub record Mirrored (h k : Header) : Type 0 where
  pub side : h.side < 2
  pub other-side : k.side ≡ other_side h.side
  pub own : k.own ≡ h.other
  pub other : k.other ≡ h.own

-- the same graph and the same credentials at two ends
pub record Mirror (S R : State) : Type 0 where
  pub header : Mirrored S.header R.header
  pub nodes : R.nodes ≡ S.nodes
  pub edges : R.edges ≡ S.edges
  pub shown : R.shown ≡ S.shown
