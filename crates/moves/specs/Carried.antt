-- Commands of a reply one after another: where they lead, and whether they pass a size (document 01, "The reply"). Assumes nothing.
use Rattle.std.specs.Prelude.{ℕ, Bool, true, ◌&&◌, List, [], ◌∷◌}
use Rattle.message.specs.declared.Command.{Command}
use Rattle.negotiation.specs.State.{State}
use Rattle.applied.specs.Step.{stepped, has_room}

-- "Each command carries the negotiation to its next state"; s is the sender's side
abbrev pub carried : ℕ → State → List Command → State
carried s S [] = S
carried s S (c ∷ cs) = carried s (stepped S s c) cs

-- each command of a move has room where it stands
abbrev pub has_room_for : ℕ → State → List Command → Bool
has_room_for s S [] = true
has_room_for s S (c ∷ cs) = has_room S c && has_room_for s (stepped S s c) cs
