-- An edge as it is sent is the move of its node (document 01, "The reply"). Assumes nothing.
use Rattle.std.specs.Prelude.{ℕ, ◌≡◌, Bool, true, false, eqb}
use Rattle.std.proofs.Math.Path.{refl, ap, ap₂}
use Rattle.std.proofs.Common.{sym, ◌∙◌, eq-eqb, ne_eqb}
use Rattle.std.proofs.Math.Bool.{cond}
use mathlib.Core.List.{List, [], ◌∷◌, ◌++◌, map}
use Rattle.expression.specs.declared.Credential.{Credential}
use Rattle.expression.specs.declared.Expression.{Expression}
use Rattle.expression.specs.declared.Expression.TheVariants as E
use Rattle.needed.specs.Needed.{needed}
use Rattle.graph.specs.declared.Node.{Node}
use Rattle.graph.specs.Graph.{node_in}
use Rattle.message.specs.declared.Command.{Command}
use Rattle.message.specs.declared.Command.TheVariants.{Show, Mark}
use Rattle.moves.specs.declared.Candidate.{Candidate}
use Rattle.moves.specs.declared.Found.{Found}
use Rattle.moves.specs.declared.Outgoing.{Outgoing}
use Rattle.moves.specs.declared.Choice.TheVariants as K
use Rattle.moves.specs.Rules.{End}
use Rattle.moves.specs.Move.{move_for, credentials_for, direct_for, unshown, side_set}
use Rattle.moves.specs.laws.Own.{found_move, commands_of}
use Rattle.sending.specs.laws.Unshown.{unshown_of}
use Rattle.sending.specs.laws.Sent.{Sends, command_for, direct_in, side_set_of}

-- the edge w into node i, behind its credentials
pub record EdgeSent (o : End) (i : ℕ) (w : Candidate) (r : Outgoing) : Type 0 where
  pub sends : Sends (credentials_for o (node_in o.state.nodes i) w) (command_for o.tables.names o.state.header.side o.state.nodes i w) r

module _ (o : End) where
  direct_is : (f : Expression) → direct_in o.state.shown o.tables.own f ≡ direct_for o f
  unfolding direct_in unshown_of
  direct_is (E.Entity a) = refl
  direct_is (E.Role a) = refl
  direct_is (E.Linked a r) = refl
  direct_is (E.Intersection p) = refl
  direct_is (E.Goal r) = refl

  needed_at : Candidate → Node → List Credential
  needed_at w n = needed o.state.shown n.expression w.expression (unshown o (side_set o n))

  picks : (w : Candidate) (n : Node) (k d : Bool) → k ≡ eqb w.kind 1 → d ≡ w.direct
      → cond k (cond d (direct_for o n.expression) (needed_at w n)) [] ≡ credentials_for o n w
  unfolding credentials_for needed_at
  picks w n k d ke de = λ j. cond (ke j) (cond (de j) (direct_for o n.expression) (needed_at w n)) []

  needed-is : (w : Candidate) (n : Node) → needed o.state.shown n.expression w.expression
      (unshown_of o.state.shown (side_set_of o.tables o.state.header.side n)) ≡ needed_at w n
  unfolding unshown_of side_set_of needed_at
  needed-is w n = refl

  module _ (i : ℕ) (w : Candidate) {r : Outgoing} {c : Command} (ce : c ≡ command_for o.tables.names o.state.header.side o.state.nodes i w) where
    sends-edge : {cs : List Credential} → cs ≡ credentials_for o (node_in o.state.nodes i) w → Sends cs c r → EdgeSent o i w r
    sends-edge h s = record { sends = record { shows = s.shows ∙ h; command = s.command ∙ ce; few = s.few } }

    -- no credential goes before an edge of another kind
    pub edge_other : (w.kind ≡ 1 → ⊥) → Sends [] c r → EdgeSent o i w r
    edge_other h s = sends-edge (picks w (node_in o.state.nodes i) false w.direct (sym (ne_eqb w.kind 1 h)) refl) s

    module _ {x : Node} (xe : x ≡ node_in o.state.nodes i) (kind : w.kind ≡ 1) where
      pub edge-direct : w.direct ≡ true → Sends (direct_in o.state.shown o.tables.own x.expression) c r → EdgeSent o i w r
      edge-direct h s =
          sends-edge
          (direct_is x.expression
          ∙ ap (λ (n : Node). direct_for o n.expression) xe
          ∙ picks w (node_in o.state.nodes i) true true (sym (eq-eqb w.kind 1 kind)) (sym h))
          s

      pub edge-needed : w.direct ≡ false → Sends (needed o.state.shown x.expression w.expression
          (unshown_of o.state.shown (side_set_of o.tables o.state.header.side x))) c r → EdgeSent o i w r
      edge-needed h s =
          sends-edge
          (needed-is w x
          ∙ ap (needed_at w) xe
          ∙ picks w (node_in o.state.nodes i) true false (sym (eq-eqb w.kind 1 kind)) (sym h))
          s

  module _ (found : Found) {r : Outgoing} where
    pub sent-edge : {w : Candidate} → found.choice ≡ K.Edge w → EdgeSent o found.node w r → commands_of r ≡ found_move o found
    unfolding commands_of found_move command_for
    sent-edge h s =
        ap₂ (λ (cs : List Credential) (c : Command). map Show cs ++ (c ∷ [])) s.sends.shows s.sends.command
        ∙ ap (move_for o found.node (node_in o.state.nodes found.node)) (sym h)

    pub sent-mark : found.choice ≡ K.Mark → Sends [] (Mark found.node) r → commands_of r ≡ found_move o found
    unfolding commands_of found_move
    sent-mark h s =
        ap₂ (λ (cs : List Credential) (c : Command). map Show cs ++ (c ∷ [])) s.shows s.command
        ∙ ap (move_for o found.node (node_in o.state.nodes found.node)) (sym h)
