-- Nodes and credentials of a negotiation that is not damaged (document 01, "From the state", 20): "a record of wrong form or illegal state, a
-- repeat, a primary other than begun", "a class rule broken". Assumes nothing.
use Rattle.std.specs.Prelude.{Bool, true, false, not, cond, ◌&&◌, List, eqb, ltb}
use Rattle.expression.specs.declared.Credential.{Credential}
use Rattle.expression.specs.declared.Expression.TheVariants as E
use Rattle.expression.specs.Form.{well_formed}
use Rattle.expression.specs.Same.{same}
use Rattle.expression.specs.Credential.{well_formed_credential}
use Rattle.expression.specs.Kinds.{is_role_expression}
use Rattle.rt0.specs.Lists.{any}
use Rattle.class.specs.declared.Name.{Name}
use Rattle.class.specs.declared.Typing.{Typing}
use Rattle.class.specs.declared.Typing.TheVariants.{Ill, Any, Class}
use Rattle.class.specs.Typing.{type_of, credential_number}
use Rattle.graph.specs.declared.Node.{Node}
use Rattle.graph.specs.Form.{legal_state}
use Rattle.graph.specs.Find.{is_node}
use Rattle.negotiation.specs.declared.Header.{Header}
use Rattle.negotiation.specs.Ends.{requester}
use Rattle.rt0.specs.Shown.{is_shown}

-- a linked role is well typed
abbrev pub is_typed : Typing → Bool
is_typed Ill = false
is_typed Any = true
is_typed (Class a) = true

-- a node by itself
unfoldable pub node_sound : List Name → Node → Bool
node_sound ns n =
    well_formed n.expression && ltb 0 n.subject && ltb n.verifier 2 && legal_state n.expression n.state && is_typed (type_of ns n.expression)

-- and among those before it: "Nodes are unique"
unfoldable pub node_fits : List Name → List Node → Node → Bool
node_fits ns before n = node_sound ns n && not (any (is_node n.expression n.verifier n.subject) before)

-- "The primary's verifier is the mediator, its subject the requester"; the mediator knows its role
unfoldable pub primary_sound : Header → Node → Bool
primary_sound h n =
    eqb n.verifier 0 && eqb n.subject (requester h)
    && cond (eqb h.side 0) (same n.expression (E.Role h.wanted)) (is_role_expression n.expression)

-- a credential by itself
unfoldable pub credential_sound : List Name → Credential → Bool
credential_sound ns c = well_formed_credential c && eqb (credential_number ns c) 0

-- and among those before it
unfoldable pub credential_fits : List Name → List Credential → Credential → Bool
credential_fits ns before c = credential_sound ns c && not (is_shown before c)
