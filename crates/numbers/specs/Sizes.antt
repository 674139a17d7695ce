-- The sizes (document 01, "Bytes", "RT0 and states", "From the state"), named as in include/lavutremo.h. Assumes nothing.
use Rattle.std.specs.Prelude.{ℕ}

-- "64 names"
abbrev pub MOST-NAMES : ℕ
MOST-NAMES = 64

-- "64 credentials of each storage"
abbrev pub MOST-STORED : ℕ
MOST-STORED = 64

-- "32 sensitive roles"
abbrev pub MOST-SENSITIVE : ℕ
MOST-SENSITIVE = 32

-- "32 AC records"
abbrev pub MOST-ACCESS : ℕ
MOST-ACCESS = 32

-- "tables 1 to 4,096 bytes"
abbrev pub MOST-TABLES-BYTES : ℕ
MOST-TABLES-BYTES = 4096

-- "message 1 to 4,096"
abbrev pub MOST-MESSAGE-BYTES : ℕ
MOST-MESSAGE-BYTES = 4096

-- "reply buffer 4,096 or more"
abbrev pub LEAST-REPLY-BYTES : ℕ
LEAST-REPLY-BYTES = 4096

-- "negotiation 5,120 exactly"
abbrev pub NEGOTIATION-BYTES : ℕ
NEGOTIATION-BYTES = 5120

-- "scratch 4,096 exactly"
abbrev pub SCRATCH-BYTES : ℕ
SCRATCH-BYTES = 4096

-- "A graph has at most 128 nodes"
abbrev pub MOST-NODES : ℕ
MOST-NODES = 128

-- "and 256 edges"
abbrev pub MOST-EDGES : ℕ
MOST-EDGES = 256

-- "and a negotiation at most 64 credentials shown so far"
abbrev pub MOST-SHOWN : ℕ
MOST-SHOWN = 64

-- "a count above 1,027" is damage
abbrev pub MOST-MESSAGES : ℕ
MOST-MESSAGES = 1027

-- "up to 64 credential commands" ("RT0 and states")
abbrev pub MOST-CREDENTIALS : ℕ
MOST-CREDENTIALS = 64

-- these "and an end (1 to 1,473 bytes ..)"
abbrev pub MOST-CREDENTIALS-BYTES : ℕ
MOST-CREDENTIALS-BYTES = 1473
