-- Which side has processed a node (document 01, "Bytes": "Bit 0 of a state byte is verifier-processed, bit 1 opponent-processed"). Assumes nothing.
use Rattle.std.specs.Prelude.{ℕ, ◌/◌, ◌%◌, Bool, cond, eqb}
use Rattle.std.specs.Int.Bits.{bit_or}
use Rattle.graph.specs.declared.Node.{Node}

-- "Bit 0 of a state byte is verifier-processed, bit 1 opponent-processed": whether side s has processed the node
unfoldable pub processed_by : ℕ → Node → Bool
processed_by s x = cond (eqb x.verifier s) (eqb (x.state % 2) 1) (eqb (x.state / 2 % 2) 1)

-- its state with the bit of side s set
unfoldable pub marked_state : ℕ → Node → ℕ
marked_state s x = cond (eqb x.verifier s) (bit_or x.state 1) (bit_or x.state 2)
