-- A message as the list of its commands, and where they lead (document 01, "Bytes" and "RT0 and states"). Assumes nothing.
use Rattle.std.specs.Prelude.{ℕ, ◌≡◌, true, false, List, [], ◌∷◌, ◌++◌, length, Ok}
use Rattle.class.specs.declared.Name.{Name}
use Rattle.message.specs.declared.Command.{Command}
use Rattle.message.specs.declared.Command.TheVariants.{End}
use Rattle.message.specs.Command.{formed_command, command_at}
use Rattle.negotiation.specs.State.{State}
use Rattle.applied.specs.Step.{stepped}
use Rattle.legal.specs.Legal.{Legal, Illegal}
use Rattle.message.specs.Message.{is_end, message_bytes, bytes_of}
use Rattle.message.specs.Unreadable.{Unreadable}

-- commands of side s lead from one state to another: none is an end, each has operands of right form and is legal in the state before it.
-- "Each command carries the negotiation to its next state"
pub data Updates (ns : List Name) (s : ℕ) : State → List Command → State → Type 0 where
  none : {S : State} → Updates ns s S [] S
  next : {S T : State} {c : Command} {cs : List Command} → is_end c ≡ false → formed_command c ≡ true → Legal ns s S c
      → Updates ns s (stepped S s c) cs T → Updates ns s S (c ∷ cs) T

-- the message m consists of these commands and an end, and they lead from S to T
pub record Carries (ns : List Name) (s : ℕ) (m : List ℕ) (S : State) (cs : List Command) (T : State) : Type 0 where
  pub bytes : m ≡ message_bytes cs
  pub updates : Updates ns s S cs T
  pub end : Legal ns s T End

-- the command at an index is refused with k: it cannot be read, or it is not legal
pub data Wrong (ns : List Name) (s : ℕ) (m : List ℕ) (at : ℕ) (S : State) (k : ℕ) : Type 0 where
  unreadable : Unreadable m at k → Wrong ns s m at S k
  illegal : (c : Command) → command_at m at ≡ Ok c → Illegal ns s S c k → Wrong ns s m at S k

-- the message m begins with commands that lead from S on, and the one behind them is refused with k
pub record RefusedAt (ns : List Name) (s : ℕ) (m : List ℕ) (S : State) (k : ℕ) : Type 0 where
  pub before : List Command
  pub led : State
  pub rest : List ℕ
  pub bytes : m ≡ bytes_of before ++ rest
  pub updates : Updates ns s S before led
  pub wrong : Wrong ns s m (length (bytes_of before)) led k
