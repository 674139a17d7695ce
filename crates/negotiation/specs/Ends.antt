-- The two ends of a negotiation: sides and their entities (document 01, "RT0 and states"). Assumes nothing.
use Rattle.std.specs.Prelude.{ℕ, cond, eqb}
use Rattle.negotiation.specs.declared.Header.{Header}

-- The two ends

unfoldable pub requester : Header → ℕ
requester h = cond (eqb h.side 0) h.other h.own

-- the entity of a verifier: our own side, or the other
unfoldable pub entity_of : Header → ℕ → ℕ
entity_of h v = cond (eqb v h.side) h.own h.other

-- the other side
abbrev pub other_side : ℕ → ℕ
other_side v = cond (eqb v 0) 1 0
