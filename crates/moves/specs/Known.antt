-- What is known of our sensitive roles while we reply: the only reader of what is hidden in the tables (document 01, "The reply"). Assumes nothing.
use Rattle.std.specs.Prelude.{ℕ, Bool, cond, ◌&&◌, List, map, ltb, length, Option, Some, None}
use Rattle.expression.specs.declared.Role.{Role}
use Rattle.expression.specs.declared.Expression.TheVariants as E
use Rattle.expression.specs.Same.{same_role}
use Rattle.rt0.specs.Lists.{any}
use Rattle.record.specs.declared.Pair.{Pair}
use Rattle.tables.specs.Lookup.{other_of}
use Rattle.tables.specs.Public.{Hidden}
use Rattle.propagation.specs.Flags.{at}
use Rattle.graph.specs.Find.{find_node}
use Rattle.graph.specs.Propagated.{satisfied_b}
use Rattle.negotiation.specs.State.{State}
use Rattle.moves.specs.declared.Holding.{Holding}
use Rattle.moves.specs.declared.Holding.TheVariants.{Absent, Free, Guarded}
use Rattle.moves.specs.declared.Known.{Known}
use Rattle.moves.specs.declared.Known.TheVariants.{Waiting, Seen}

-- "A role is held if 0x13 has its direct credential; its access policy is its 0x15 record or none"
abbrev pub policy_of : Option Role → Holding
policy_of (Some r) = Guarded r
policy_of None = Free

unfoldable pub holding_of : Hidden → Role → Holding
holding_of H r = cond (any (same_role r) H.held) (policy_of (other_of H.access r)) Absent

-- "A role's Ack target is the node there with our end as verifier, its Ack role and the other end as subject; it is satisfied if it stands and
-- propagation satisfies it": of the role r
unfoldable pub is_acknowledged : State → Role → Bool
is_acknowledged S r =
    let i : ℕ = find_node S.nodes (E.Role r) S.header.side S.header.other in
    ltb i (length S.nodes) && at (satisfied_b S.nodes S.edges) i

pub record KnownRole : Type 0 where
  pub role : Role
  pub ack : Role
  pub known : Known

-- nothing while the Ack target is unsatisfied, then what we hold
unfoldable pub known_of : Hidden → List Pair → State → List KnownRole
known_of H sensitive S =
    map (λ (p : Pair). record { role = p.role; ack = p.other; known = cond (is_acknowledged S p.other) (Seen (holding_of H p.role)) Waiting }) sensitive
