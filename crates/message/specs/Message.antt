-- The bytes of a message (document 01, "Bytes"). Assumes nothing.
use Rattle.std.specs.Prelude.{ℕ, Bool, true, false, List, [], ◌∷◌, ◌++◌}
use Rattle.message.specs.declared.Command.{Command}
use Rattle.message.specs.declared.Command.TheVariants.{Show, Open, Bring, Join, Mark, End}
use Rattle.message.specs.Command.{command_bytes}

abbrev pub is_end : Command → Bool
is_end (Show c) = false
is_end (Open o) = false
is_end (Bring n) = false
is_end (Join e) = false
is_end (Mark i) = false
is_end End = true

-- the commands' bytes one after another
abbrev pub bytes_of : List Command → List ℕ
bytes_of [] = []
bytes_of (c ∷ cs) = command_bytes c ++ bytes_of cs

-- then the end's: "0x06 end, 1: stands last and only there"
abbrev pub message_bytes : List Command → List ℕ
message_bytes cs = bytes_of (cs ++ (End ∷ []))
