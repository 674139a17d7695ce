-- Why a call is refused (document 01, "From the input" and "From the state"; document 02), named as in include/lavutremo.h. Assumes nothing.
use Rattle.std.specs.Prelude.{ℕ}

-- "1 a lent length outside the sizes"
abbrev pub LENGTH : ℕ
LENGTH = 1

-- "2 unknown command, cut command, missing end, bytes after end"
abbrev pub COMMAND : ℕ
COMMAND = 2

-- "3 an operand of wrong form, an illegal initial state, or at begin just one zero in the role"
abbrev pub OPERAND : ℕ
OPERAND = 3

-- "4 a name without class"; request 2: "Refusal 4 no longer occurs"
abbrev pub NAME : ℕ
NAME = 4

-- "5 a class rule broken"
abbrev pub CLASS : ℕ
CLASS = 5

-- "6 tables out of order, repeated, self missing, or a size passed"
abbrev pub ORDER : ℕ
ORDER = 6

-- "7 at begin: other end is zero or self"
abbrev pub OTHER : ℕ
OTHER = 7

-- "20 negotiation damaged"
abbrev pub DAMAGED : ℕ
DAMAGED = 20

-- "21 not that side's turn"
abbrev pub TURN : ℕ
TURN = 21

-- "22 already ended"
abbrev pub ENDED : ℕ
ENDED = 22

-- "23 any command but open while no node stands, or open later"
abbrev pub OPENING : ℕ
OPENING = 23

-- "24 no such node"
abbrev pub ABSENT : ℕ
ABSENT = 24

-- "25 edge form wrong, or node, edge or credential already present"
abbrev pub PRESENT : ℕ
PRESENT = 25

-- "26 not justified"
abbrev pub UNJUSTIFIED : ℕ
UNJUSTIFIED = 26

-- "27 already processed by the sender"
abbrev pub PROCESSED : ℕ
PROCESSED = 27

-- "28 a size passed"
abbrev pub FULL : ℕ
FULL = 28

-- request 3: "30, an output buffer shorter than the tables to be written"
abbrev pub OUTPUT : ℕ
OUTPUT = 30
