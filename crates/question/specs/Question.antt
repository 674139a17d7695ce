-- The answer to an RT0 question (document 01, "RT0 and states", "From the input"). Assumes nothing.
use Rattle.std.specs.Prelude.{ℕ, Bool, cond, ◌&&◌, List, ltb, eqb, leb, length, Option, Some, None}
use Rattle.numbers.specs.Sizes.{MOST-CREDENTIALS-BYTES}
use Rattle.numbers.specs.Bytes.{EXPRESSION-BYTES}
use Rattle.expression.specs.Form.{read_of}
use Rattle.expression.specs.Credential.{is_body}
use Rattle.expression.specs.declared.Credential.{Credential}
use Rattle.rt0.specs.Decide.{from?}
use Rattle.question.specs.Credentials.{credentials_of}
use Rattle.numbers.specs.Answer.{Answer, refused, accepted}
use Rattle.numbers.specs.Refusals.{LENGTH, OPERAND}
use Rattle.expression.specs.declared.Expression.{Expression}

-- credentials of "1 to 1,473 bytes", f and e of "18 bytes each" ("RT0 and states")
unfoldable pub sized : ℕ → ℕ → ℕ → Bool
sized c f e = ltb 0 c && leb c MOST-CREDENTIALS-BYTES && eqb f EXPRESSION-BYTES && eqb e EXPRESSION-BYTES

-- "two expressions of kinds 1 to 4" ("RT0 and states"): a goal is none
abbrev pub askable : Option Expression → Option Expression
askable (Some x) = cond (is_body x) (Some x) None
askable None = None

-- the expression that the bytes of f or e are
unfoldable pub operand_of : List ℕ → Option Expression
operand_of s = askable (read_of s 0)

-- "the answer is yes or no" ("RT0 and states"): the value is 1 or 0
abbrev pub yes_or_no : Bool → ℕ
yes_or_no b = cond b 1 0

-- "the commands are checked before the expressions", then f, then e: "3 an operand of wrong form";
-- a refused call "returns its number alone" ("From the state")
abbrev pub answered : Answer (List Credential) → Option Expression → Option Expression → Answer Bool
answered (refused k) f e = refused k
answered (accepted C) None e = refused OPERAND
answered (accepted C) (Some x) None = refused OPERAND
answered (accepted C) (Some x) (Some y) = accepted (from? C x y)

-- the whole call; "1 a lent length outside the sizes" ("From the input") comes before all else
unfoldable pub question_of : List ℕ → List ℕ → List ℕ → Answer Bool
question_of c f e = cond (sized (length c) (length f) (length e)) (answered (credentials_of c) (operand_of f) (operand_of e)) (refused LENGTH)
