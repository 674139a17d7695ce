-- The commands of a message and their bytes (document 01, "Bytes"). Assumes nothing.
use Rattle.std.specs.Prelude.{ℕ, ◌+◌, ◌-◌, Bool, true, cond, ◌&&◌, List, [], ◌∷◌, ◌++◌, ltb, eqb, length, get_or, Option, Some, None, Result, Ok, Err}
use Rattle.expression.specs.declared.Expression.{Expression}
use Rattle.expression.specs.declared.Expression.TheVariants as E
use Rattle.expression.specs.Bytes.{number_at, raw_bytes, number_bytes}
use Rattle.expression.specs.Form.{raw_of, read_of, is_role, well_formed}
use Rattle.expression.specs.Credential.{well_formed_credential, role_at, read_credential, role_bytes, credential_bytes}
use Rattle.graph.specs.declared.Edge.{Edge}
use Rattle.graph.specs.Form.{legal_state}
use Rattle.message.specs.declared.Opening.{Opening}
use Rattle.message.specs.declared.NewEdge.{NewEdge}
use Rattle.message.specs.declared.Command.{Command}
use Rattle.message.specs.declared.Command.TheVariants.{Show, Open, Bring, Join, Mark, End}
use Rattle.numbers.specs.Refusals.{COMMAND, OPERAND}
use Rattle.numbers.specs.Bytes.{CREDENTIAL-BYTES, OPEN-BYTES, NEW-EDGE-BYTES, OLD-EDGE-BYTES, MARK-BYTES, END-BYTES}
use Rattle.expression.specs.declared.Credential.{Credential}

-- "Edge kinds: 1 implication, .., 6 control"
abbrev pub edge_kind : ℕ → Bool
edge_kind k = ltb 0 k && ltb k 7

-- entities and names "run from 1"; "an illegal initial state"
abbrev pub formed_opening : Opening → Bool
formed_opening o = is_role o.role && legal_state (E.Role o.role) o.state

-- the operands but for the child's expression
abbrev pub formed_new : NewEdge → Bool
formed_new n = edge_kind n.kind && ltb 0 n.subject && legal_state n.expression n.state

-- the operands have right form
unfoldable pub formed_command : Command → Bool
formed_command (Show c) = well_formed_credential c
formed_command (Open o) = formed_opening o
formed_command (Bring n) = well_formed n.expression && formed_new n
formed_command (Join g) = edge_kind g.kind
formed_command (Mark n) = true
formed_command End = true

-- "2 .. cut command" ("From the input"), whatever its bytes
abbrev pub whole : ℕ → List ℕ → ℕ → Result Command ℕ → Result Command ℕ
whole size s at r = cond (ltb (length s - at) size) (Err COMMAND) r

-- "3 an operand of wrong form, an illegal initial state"
abbrev pub checked : Bool → Command → Result Command ℕ
checked b c = cond b (Ok c) (Err OPERAND)

abbrev pub shown : Option Credential → Result Command ℕ
shown (Some c) = Ok (Show c)
shown None = Err OPERAND

-- "0x01 credential, 23 bytes: issuer, name, body"
unfoldable pub show_at : List ℕ → ℕ → Result Command ℕ
show_at s at = whole CREDENTIAL-BYTES s at (shown (read_credential s (at + 1)))

abbrev pub opening_of : List ℕ → ℕ → Opening
opening_of s at = record { role = role_at s (at + 1); state = get_or s (at + 5) 0 }

-- "0x02 open, 6: role, state"
unfoldable pub open_at : List ℕ → ℕ → Result Command ℕ
open_at s at = whole OPEN-BYTES s at (checked (formed_opening (opening_of s at)) (Open (opening_of s at)))

abbrev pub new_of : List ℕ → ℕ → Expression → NewEdge
new_of s at child =
    record { kind = get_or s (at + 1) 0; parent = get_or s (at + 2) 0; expression = child; subject = number_at s (at + 21); state = get_or s (at + 23) 0 }

abbrev pub brought : List ℕ → ℕ → Option Expression → Result Command ℕ
brought s at (Some child) = checked (formed_new (new_of s at child)) (Bring (new_of s at child))
brought s at None = Err OPERAND

-- "0x03 edge with a new child, 24: edge kind, parent, child's expression, child's subject, state"
unfoldable pub bring_at : List ℕ → ℕ → Result Command ℕ
bring_at s at = whole NEW-EDGE-BYTES s at (brought s at (read_of s (at + 3)))

abbrev pub edge_of : List ℕ → ℕ → Edge
edge_of s at = record { kind = get_or s (at + 1) 0; parent = get_or s (at + 2) 0; child = get_or s (at + 3) 0 }

-- "0x04 edge between old nodes, 4: edge kind, parent, child"
unfoldable pub join_at : List ℕ → ℕ → Result Command ℕ
join_at s at = whole OLD-EDGE-BYTES s at (checked (edge_kind (get_or s (at + 1) 0)) (Join (edge_of s at)))

-- "0x05 mark, 2: node"
unfoldable pub mark_at : List ℕ → ℕ → Result Command ℕ
mark_at s at = whole MARK-BYTES s at (Ok (Mark (get_or s (at + 1) 0)))

-- "0x06 end, 1: stands last and only there"; "2 .. bytes after end"
unfoldable pub end_at : List ℕ → ℕ → Result Command ℕ
end_at s at = cond (eqb (length s - at) END-BYTES) (Ok End) (Err COMMAND)

-- the command by its first byte; "2 unknown command"
abbrev pub by_code : ℕ → List ℕ → ℕ → Result Command ℕ
by_code code s at =
    cond (eqb code 1) (show_at s at)
    (cond (eqb code 2) (open_at s at)
    (cond (eqb code 3) (bring_at s at)
    (cond (eqb code 4) (join_at s at)
    (cond (eqb code 5) (mark_at s at)
    (cond (eqb code 6) (end_at s at)
    (Err COMMAND))))))

-- the command at an index; "2 .. missing end" where nothing stands there
unfoldable pub command_at : List ℕ → ℕ → Result Command ℕ
command_at s at = whole 1 s at (by_code (get_or s at 0) s at)

abbrev pub opening_bytes : Opening → List ℕ
opening_bytes o = role_bytes o.role ++ (o.state ∷ [])

abbrev pub new_bytes : NewEdge → List ℕ
new_bytes n = n.kind ∷ n.parent ∷ (raw_bytes (raw_of n.expression) ++ (number_bytes n.subject ++ (n.state ∷ [])))

abbrev pub edge_bytes : Edge → List ℕ
edge_bytes g = g.kind ∷ g.parent ∷ g.child ∷ []

-- the bytes of a command
unfoldable pub command_bytes : Command → List ℕ
command_bytes (Show c) = 1 ∷ credential_bytes c
command_bytes (Open o) = 2 ∷ opening_bytes o
command_bytes (Bring n) = 3 ∷ new_bytes n
command_bytes (Join g) = 4 ∷ edge_bytes g
command_bytes (Mark n) = 5 ∷ n ∷ []
command_bytes End = 6 ∷ []

-- how many they are
abbrev pub size_of : Command → ℕ
size_of (Show c) = CREDENTIAL-BYTES
size_of (Open o) = OPEN-BYTES
size_of (Bring n) = NEW-EDGE-BYTES
size_of (Join g) = OLD-EDGE-BYTES
size_of (Mark n) = MARK-BYTES
size_of End = END-BYTES
