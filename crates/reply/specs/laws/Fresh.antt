-- What the commands of a move show stands behind what was shown before. Assumes nothing.
use Rattle.std.specs.Prelude.{ℕ, ◌≡◌, refl, List, [], ◌∷◌, ◌++◌}
use Rattle.std.proofs.Common.{sym, ◌∙◌, ap, subst, append-nil, append_assoc}
use Rattle.expression.specs.declared.Credential.{Credential}
use Rattle.rt0.specs.laws.Pool.{credentials}
use Rattle.message.specs.declared.Command.{Command}
use Rattle.message.specs.declared.Command.TheVariants as C
use Rattle.negotiation.specs.declared.Negotiation.{Negotiation}
use Rattle.negotiation.specs.State.{State, with_shown, with_node, with_edge, with_mark}
use Rattle.negotiation.specs.laws.State.{state_of}
use Rattle.applied.specs.Step.{stepped}
use Rattle.moves.specs.declared.Preparation.{Preparation}
use Rattle.moves.specs.Carried.{carried}
use Rattle.sending.specs.laws.Fresh.{Fresh, fresh-more}

-- the credential that a command shows, if it does
abbrev shown_by : Command → List Credential
shown_by (C.Show c) = c ∷ []
shown_by (C.Open o) = []
shown_by (C.Bring b) = []
shown_by (C.Join e) = []
shown_by (C.Mark i) = []
shown_by C.End = []

step-shown : (S : State) (s : ℕ) (c : Command) → (stepped S s c).shown ≡ S.shown ++ shown_by c
unfolding stepped with_shown with_node with_edge with_mark
step-shown S s (C.Show c) = refl
step-shown S s (C.Open o) = sym (append-nil S.shown)
step-shown S s (C.Bring b) = sym (append-nil S.shown)
step-shown S s (C.Join e) = sym (append-nil S.shown)
step-shown S s (C.Mark i) = sym (append-nil S.shown)
step-shown S s C.End = sym (append-nil S.shown)

abbrev shown_in : List Command → List Credential
shown_in [] = []
shown_in (c ∷ cs) = shown_by c ++ shown_in cs

carried-shown : (s : ℕ) (S : State) (cs : List Command) → (carried s S cs).shown ≡ S.shown ++ shown_in cs
carried-shown s S [] = sym (append-nil S.shown)
carried-shown s S (c ∷ cs) =
    carried-shown s (stepped S s c) cs ∙ ap (λ (l : List Credential). l ++ shown_in cs) (step-shown S s c)
    ∙ append_assoc S.shown (shown_by c) (shown_in cs)

-- flags that were kept before a move hold after it
pub fresh-next : {o : Preparation} {seen issuer subject : List ℕ} (n r : Negotiation) (s : ℕ) (cs : List Command) → state_of r ≡ carried s (state_of n) cs
    → Fresh (credentials n.shown) o seen issuer subject → Fresh (credentials r.shown) o seen issuer subject
unfolding state_of
fresh-next {o} {seen} {issuer} {subject} n r s cs e h =
    subst (λ (l : List Credential). Fresh l o seen issuer subject) (sym (ap (λ (S : State). S.shown) e ∙ carried-shown s (state_of n) cs))
    (fresh-more (shown_in cs) h)
