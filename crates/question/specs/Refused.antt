-- Why a question is refused (document 01, "RT0 and states", "From the input"). Assumes nothing.
use Rattle.std.specs.Prelude.{ℕ, ◌≤◌, ◌≡◌, ◌⊎◌, true, List, [], ◌∷◌, length, get_or, take}
use Rattle.expression.specs.declared.Credential.{Credential}
use Rattle.expression.specs.declared.Expression.{Expression}
use Rattle.expression.specs.Credential.{well_formed_credential, credential_bytes}
use Rattle.question.specs.Asked.{commands_then, commands, Formed, expression_bytes, Askable, Sized}
use Rattle.numbers.specs.Bytes.{CREDENTIAL-BYTES}
use Rattle.numbers.specs.Refusals.{LENGTH, COMMAND, OPERAND}

-- the bytes begin with "0x01 credential, 23 bytes", whatever its operands
pub record CredentialFirst (l : List ℕ) : Type 0 where
  pub code : get_or l 0 0 ≡ 1
  pub room : CREDENTIAL-BYTES ≤ length l

-- the bytes begin with a whole command of a list
pub data Whole (l : List ℕ) : Type 0 where
  credential : CredentialFirst l → Whole l
  -- 0x06 "stands last and only there"
  end : l ≡ 6 ∷ [] → Whole l

-- why no command of a list can be read from the first of the bytes on, and k is its number
pub data Unreadable (l : List ℕ) (k : ℕ) : Type 0 where
  -- "2 unknown command, cut command, missing end, bytes after end"
  cut : (Whole l → ⊥) → k ≡ COMMAND → Unreadable l k
  -- "3 an operand of wrong form"
  malformed : CredentialFirst l
      → ((d : Credential) → well_formed_credential d ≡ true → take CREDENTIAL-BYTES l ≡ 1 ∷ credential_bytes d → ⊥) → k ≡ OPERAND → Unreadable l k

-- the bytes are those of no expression of right form and of kinds 1 to 4
abbrev pub Unaskable : List ℕ → Type 0
Unaskable s = (x : Expression) → Askable x → s ≡ expression_bytes x → ⊥

-- why a question is refused, and k is the number
pub data QuestionRefused (c f e : List ℕ) (k : ℕ) : Type 0 where
  -- "1 a lent length outside the sizes"
  size : (Sized (length c) (length f) (length e) → ⊥) → k ≡ LENGTH → QuestionRefused c f e k
  -- "the first command that cannot be read ends the call"
  list : (C : List Credential) {l : List ℕ} → Sized (length c) (length f) (length e) → c ≡ commands_then C l → Formed C → Unreadable l k
      → QuestionRefused c f e k
  -- "the commands are checked before the expressions"; "3 an operand of wrong form"
  operand : (C : List Credential) → Sized (length c) (length f) (length e) → c ≡ commands C → Formed C → Unaskable f ⊎ Unaskable e → k ≡ OPERAND
      → QuestionRefused c f e k
