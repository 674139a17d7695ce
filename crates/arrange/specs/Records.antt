-- Records as bytes, their operands of right form or not (document 01, "Bytes"; request 3: "takes the records of document 01 in any order").
-- Assumes nothing.
use Rattle.std.specs.Prelude.{ℕ, zero, suc, cond, List, [], ◌∷◌, ◌++◌, leb, length, get_or, take, drop}
use Rattle.numbers.specs.Answer.{Answer, refused, accepted, onward}
use Rattle.numbers.specs.Refusals.{COMMAND}
use Rattle.record.specs.Record.{size_by}

-- how many bytes the first record has; zero: it is unknown or cut
unfoldable pub first_size : List ℕ → ℕ
first_size s = cond (leb (size_by (get_or s 0 0)) (length s)) (size_by (get_or s 0 0)) 0

-- some records, and those behind them
abbrev pub behind : List (List ℕ) → Answer (List (List ℕ)) → Answer (List (List ℕ))
behind L rest = onward (λ M. accepted (L ++ M)) rest

-- the first record, so long, and those behind it; "A record that cannot be read is refused 2"
abbrev pub cut_by : (List ℕ → Answer (List (List ℕ))) → List ℕ → ℕ → Answer (List (List ℕ))
cut_by others s zero = refused COMMAND
cut_by others s (suc k) = behind (take (suc k) s ∷ []) (others (drop (suc k) s))

-- no record where no byte is left
abbrev pub unless_empty : List ℕ → Answer (List (List ℕ)) → Answer (List (List ℕ))
unless_empty [] rest = accepted []
unless_empty (b ∷ s) rest = rest

-- the records of bytes, read from the front. The first number is at least that of the bytes.
unfoldable pub split_of : ℕ → List ℕ → Answer (List (List ℕ))
split_of zero s = unless_empty s (refused COMMAND)
split_of (suc n) s = unless_empty s (cut_by (λ t. split_of n t) s (first_size s))

unfoldable pub records_of : List ℕ → Answer (List (List ℕ))
records_of s = split_of (length s) s

-- the bytes of records, one after another
unfoldable pub joined : List (List ℕ) → List ℕ
joined [] = []
joined (p ∷ L) = p ++ joined L
