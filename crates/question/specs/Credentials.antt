-- The credential list of an RT0 question: credential commands and an end (document 01, "RT0 and states"). Assumes nothing.
use Rattle.std.specs.Prelude.{ℕ, zero, suc, ◌+◌, ◌-◌, cond, List, [], ◌∷◌, ◌++◌, ltb, eqb, length, get_or, Option, Some, None, Result, Ok, Err}
use Rattle.numbers.specs.Bytes.{CREDENTIAL-BYTES}
use Rattle.expression.specs.declared.Credential.{Credential}
use Rattle.expression.specs.Credential.{read_credential}
use Rattle.question.specs.declared.Step.{Step}
use Rattle.question.specs.declared.Step.TheVariants.{Taken, End}
use Rattle.numbers.specs.Answer.{Answer, refused, accepted}
use Rattle.numbers.specs.Refusals.{COMMAND, OPERAND}

-- "3 an operand of wrong form" ("From the input")
abbrev pub taken : Option Credential → Result Step ℕ
taken (Some c) = Ok (Taken c)
taken None = Err OPERAND

-- 0x01 and the 22 bytes of a credential ("Bytes"); "2 .. cut command", whatever its bytes
unfoldable pub credential_step : List ℕ → ℕ → Result Step ℕ
credential_step s at = cond (ltb (length s - at) CREDENTIAL-BYTES) (Err COMMAND) (taken (read_credential s (at + 1)))

-- 0x06 "stands last and only there" ("Bytes"); "2 .. bytes after end"
unfoldable pub end_step : List ℕ → ℕ → Result Step ℕ
end_step s at = cond (eqb (at + 1) (length s)) (Ok End) (Err COMMAND)

-- the command by its first byte; "another command is refused 2" ("RT0 and states")
abbrev pub command_step : List ℕ → ℕ → ℕ → Result Step ℕ
command_step s at code = cond (eqb code 1) (credential_step s at) (cond (eqb code 6) (end_step s at) (Err COMMAND))

-- the command at an index; "2 .. missing end" where no byte is left
unfoldable pub step_at : List ℕ → ℕ → Result Step ℕ
step_at s at = cond (ltb at (length s)) (command_step s at (get_or s at 0)) (Err COMMAND)

-- "the first command that cannot be read ends the call"
abbrev pub after : (List Credential → Answer (List Credential)) → List Credential → Result Step ℕ → Answer (List Credential)
after rest C (Ok (Taken c)) = rest (C ++ (c ∷ []))
after rest C (Ok End) = accepted C
after rest C (Err k) = refused k

-- "read one command after another": those from an index on, behind the credentials C. The first number is at least that of the
-- bytes left; at zero none is left, and the end is missing.
unfoldable pub list_from : ℕ → List ℕ → ℕ → List Credential → Answer (List Credential)
list_from zero s at C = refused COMMAND
list_from (suc n) s at C = after (list_from n s (at + CREDENTIAL-BYTES)) C (step_at s at)

-- "credential commands and an end (.. repeats allowed, classes not consulted)" ("RT0 and states")
unfoldable pub credentials_of : List ℕ → Answer (List Credential)
credentials_of s = list_from (length s) s 0 []
