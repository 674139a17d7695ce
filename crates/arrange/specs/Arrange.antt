-- The tables that records in any order make (request 3). Assumes nothing.
use Rattle.std.specs.Prelude.{ℕ, cond, List, ◌++◌, leb, length, drop}
use Rattle.numbers.specs.Answer.{Answer, refused, accepted, judged, onward, buffer_after}
use Rattle.numbers.specs.Refusals.{LENGTH, OUTPUT}
use Rattle.tables.specs.Check.{sized, check_of}
use Rattle.arrange.specs.Records.{records_of, joined}
use Rattle.arrange.specs.Arranged.{arranged}

-- "30, an output buffer shorter than the tables to be written; checked last"
abbrev pub in_space : ℕ → List ℕ → Answer (List ℕ)
in_space space tables = cond (leb (length tables) space) (accepted tables) (refused OUTPUT)

-- "any other unfit input gets the number that its sorted records, without repeats, get from the table check"
abbrev pub checked_in : ℕ → List ℕ → Answer (List ℕ)
checked_in space tables = judged (check_of tables) (in_space space tables)

-- the tables of the records, "1 to 4,096 bytes and repeats included", for an output buffer of so many bytes
unfoldable pub arrange_of : List ℕ → ℕ → Answer (List ℕ)
arrange_of records space =
    cond (sized (length records)) (onward (λ L. checked_in space (joined (arranged L))) (records_of records)) (refused LENGTH)

-- "Output bytes after the tables keep their content."
abbrev pub tables_left : List ℕ → Answer (List ℕ) → List ℕ
tables_left before a = buffer_after (λ tables. tables ++ drop (length tables) before) before a
