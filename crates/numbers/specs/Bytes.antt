-- How many bytes commands and records have (document 01, "Bytes"). Assumes nothing.
use Rattle.std.specs.Prelude.{ℕ}

-- "An expression is 18 bytes"
abbrev pub EXPRESSION-BYTES : ℕ
EXPRESSION-BYTES = 18

-- "0x01 credential, 23 bytes"; 0x12 and 0x13 have its operands
abbrev pub CREDENTIAL-BYTES : ℕ
CREDENTIAL-BYTES = 23

-- "0x02 open, 6"
abbrev pub OPEN-BYTES : ℕ
OPEN-BYTES = 6

-- "0x03 edge with a new child, 24"
abbrev pub NEW-EDGE-BYTES : ℕ
NEW-EDGE-BYTES = 24

-- "0x04 edge between old nodes, 4"
abbrev pub OLD-EDGE-BYTES : ℕ
OLD-EDGE-BYTES = 4

-- "0x05 mark, 2"
abbrev pub MARK-BYTES : ℕ
MARK-BYTES = 2

-- "0x06 end, 1"
abbrev pub END-BYTES : ℕ
END-BYTES = 1

-- "0x10 self (one number ..)"
abbrev pub SELF-BYTES : ℕ
SELF-BYTES = 3

-- "0x11 name, class byte"
abbrev pub NAME-BYTES : ℕ
NAME-BYTES = 4

-- "0x14 sensitive role, its Ack role; 0x15 sensitive role, its AC role"
abbrev pub PAIR-BYTES : ℕ
PAIR-BYTES = 9
