-- The header of a negotiation that is not damaged (document 01, "From the state", 20; request 1). Assumes nothing.
use Rattle.std.specs.Prelude.{ℕ, ◌+◌, Bool, not, cond, ◌&&◌, ◌||◌, eqb, ltb, leb}
use Rattle.expression.specs.declared.Role.{Role}
use Rattle.expression.specs.Form.{is_role, is_empty}
use Rattle.negotiation.specs.declared.Header.{Header}
use Rattle.negotiation.specs.declared.Messages.{Messages}
use Rattle.negotiation.specs.Messages.{message_count}
use Rattle.numbers.specs.Sizes.{MOST-MESSAGES}

-- the wanted role: of the mediator (side 0) a role, of the requester none
unfoldable pub wanted_sound : ℕ → Role → Bool
wanted_sound side r = cond (eqb side 0) (is_role r) (is_empty r)

-- the other end is neither zero nor self
abbrev pub other_sound : ℕ → ℕ → Bool
other_sound own other = not (eqb other 0) && not (eqb other own)

-- side, "a self other than the tables'", other end and wanted role
unfoldable pub header_sound : ℕ → Header → Bool
header_sound own h = ltb h.side 2 && eqb h.own own && other_sound h.own h.other && wanted_sound h.side h.wanted

-- Counts, end and idle

-- request 1: "Counts that are neither equal nor the mediator's one ahead are damage"
unfoldable pub counts_agree : Messages → Bool
counts_agree m = eqb m.mediator m.requester || eqb m.mediator (m.requester + 1)

-- without a node: count, end, idle, edges and credentials shown are none
unfoldable pub empty_sound : Header → ℕ → ℕ → Bool
empty_sound h edges shown = eqb (message_count h.messages) 0 && eqb h.end 0 && eqb h.idle 0 && eqb edges 0 && eqb shown 0

-- with one: "a count above 1,027, or zero with a node"
unfoldable pub count_sound : Messages → Bool
count_sound m = ltb 0 (message_count m) && leb (message_count m) MOST-MESSAGES

-- "an end that the node states contradict": 1 exactly where the primary is satisfied, 2 exactly where it is failed; 3 goes with idle 1,
-- 1 and 2 with idle 0, 0 and 4 with either
unfoldable pub end_sound : ℕ → ℕ → ℕ → Bool
end_sound primary end idle =
    cond (eqb primary 1) (eqb end 1 && eqb idle 0)
    (cond (eqb primary 2) (eqb end 2 && eqb idle 0)
    (((eqb end 0 || eqb end 4) && ltb idle 2) || (eqb end 3 && eqb idle 1)))
