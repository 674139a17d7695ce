-- Ends that give every name the same class judge a message alike, whichever names each of them lists (request 2). Assumes nothing.
use Prim.Native.Nat.{ℕ, zero, suc, ◌+◌}
use Rattle.std.specs.Prelude.{◌≡◌, Bool, ◌||◌, List, map, Result, Ok, Err}
use Rattle.std.proofs.Math.Path.{refl}
use Rattle.std.proofs.Common.{ap}
use Rattle.std.proofs.Math.Bool.{cond}
use Rattle.expression.specs.declared.Role.{Role}
use Rattle.expression.specs.declared.Credential.{Credential}
use Rattle.expression.specs.declared.Expression.{Expression}
use Rattle.expression.specs.declared.Expression.TheVariants as E
use Rattle.rt0.specs.From.{roles_of}
use Rattle.class.specs.declared.Name.{Name}
use Rattle.class.specs.declared.Typing.TheVariants.{Class}
use Rattle.class.specs.Names.{class_of}
use Rattle.class.specs.Typing.{linked, together, type_of, suits, credential_number}
use Rattle.message.specs.declared.Command.{Command}
use Rattle.message.specs.declared.Command.TheVariants.{Show, Open, Bring, Join, Mark, End}
use Rattle.message.specs.Command.{command_at, size_of}
use Rattle.message.specs.Message.{is_end}
use Rattle.negotiation.specs.State.{State}
use Rattle.applied.specs.Step.{stepped, is_move}
use Rattle.legal.specs.Number.{first, type_number, show_number, bring_number, legal_by, legal_number}
use Rattle.take.specs.Commands.{on_command, commands_from}
use Rattle.numbers.specs.Answer.{accepted, judged}
use Rattle.numbers.specs.Refusals.{CLASS}

-- a number that is judged, then the rest
first-same : {j k : ℕ} → j ≡ k → (rest : ℕ) → first j rest ≡ first k rest
first-same e rest = λ i. first (e i) rest

module _ (ns ms : List Name) (same : (m : ℕ) → class_of ns m ≡ class_of ms m) where
  type-same : (e : Expression) → type_of ns e ≡ type_of ms e
  unfolding type_of
  type-same (E.Entity b) = refl
  type-same (E.Role r) = λ i. Class (same r.name i)
  type-same (E.Linked r m) = λ i. linked (same r.name i) (same m i)
  type-same (E.Intersection p) = λ i. together (map (λ (r : Role). same r.name i) (roles_of p))
  type-same (E.Goal m) = λ i. Class (same m i)

  credential-same : (c : Credential) → credential_number ns c ≡ credential_number ms c
  unfolding credential_number
  credential-same c = λ i. cond (suits (type-same c.body i) (same c.head.name i)) 0 CLASS

  legal-same : (s : ℕ) (S : State) (c : Command) → legal_number ns s S c ≡ legal_number ms s S c
  unfolding legal_number legal_by show_number bring_number
  legal-same s S (Show c) = first-same (credential-same c) _
  legal-same s S (Open o) = refl
  legal-same s S (Bring n) = first-same (ap type_number (type-same n.expression)) _
  legal-same s S (Join e) = refl
  legal-same s S (Mark j) = refl
  legal-same s S End = refl

  pub commands-same : (s : ℕ) (m : List ℕ) (f at : ℕ) (S : State) (v : Bool) → commands_from f ns s m at S v ≡ commands_from f ms s m at S v
  unfolding commands_from
  commands-same s m zero at S v = refl
  commands-same s m (suc f) at S v = go (command_at m at) (λ j U w. commands-same s m f j U w)
    where
      go : (x : Result Command ℕ) → ((j : ℕ) (U : State) (w : Bool) → commands_from f ns s m j U w ≡ commands_from f ms s m j U w)
          → on_command (λ n U w. commands_from f ns s m (at + n) U w) ns s S v x ≡ on_command (λ n U w. commands_from f ms s m (at + n) U w) ms s S v x
      go (Err k) again = refl
      go (Ok c) again =
          λ i. judged (legal-same s S c i) (cond (is_end c) (accepted (S, v)) (again (at + size_of c) (stepped S s c) (v || is_move c) i))
