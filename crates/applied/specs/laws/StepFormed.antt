-- A command of right form keeps the expressions of the nodes well formed. Assumes nothing.
use Rattle.std.specs.Prelude.{ℕ, ◌<◌, ◌≡◌, refl, Bool, true, false, ◌&&◌, List, [], ◌∷◌, ◌++◌, eqb, ltb, length, set}
use Rattle.std.proofs.Common.{arith, ◌∙◌, ap, eqb-true, ltb-true, length-append, length-set, get_or-set_same, get_or-set_other}
use Rattle.std.proofs.lemmas.Bool.{eqb-false}
use Rattle.std.proofs.Math.ListN.{get_or-append}
use Rattle.std.proofs.Math.Seq.{get_or-append_seam}
use Rattle.expression.specs.declared.Expression.TheVariants as E
use Rattle.expression.specs.Form.{is_role, well_formed}
use Rattle.expression.specs.laws.Laws.{and_left, and_right}
use Rattle.graph.specs.declared.Node.{Node}
use Rattle.graph.specs.Graph.{node_in, in_state, blank}
use Rattle.graph.specs.Form.{legal_state}
use Rattle.states.specs.laws.Brings.{NodesFormed}
use Rattle.message.specs.Command.{formed_new, formed_command}
use Rattle.message.specs.declared.Command.{Command}
use Rattle.message.specs.declared.Command.TheVariants.{Show, Open, Bring, Join, Mark, End}
use Rattle.negotiation.specs.State.{State, with_shown, with_node, with_edge, with_mark}
use Rattle.applied.specs.Step.{stepped, primary_of, child_of, child_in, has_room}
use Rattle.graph.specs.Processed.{marked_state}
use Rattle.numbers.specs.Sizes.{MOST-NODES}

-- a node more
formed-more : (ns : List Node) (x : Node) → NodesFormed ns → length ns < 128 → well_formed x.expression ≡ true → NodesFormed (ns ++ (x ∷ []))
formed-more ns x f l w =
    record { few = omega (arith, length-append ns (x ∷ []), l); formed = λ i k. go i k (eqb i (length ns)) refl }
  where
    go : (i : ℕ) → i < length (ns ++ (x ∷ [])) → (b : Bool) → eqb i (length ns) ≡ b → well_formed (node_in (ns ++ (x ∷ [])) i).expression ≡ true
    go i k true e =
        ap (λ (j : ℕ). well_formed (node_in (ns ++ (x ∷ [])) j).expression) (eqb-true i (length ns) e)
        ∙ ap (λ (n : Node). well_formed n.expression) (get_or-append_seam ns x [] blank) ∙ w
    go i k false e =
        let m : i < length ns = omega (arith, length-append ns (x ∷ []), eqb-false i (length ns) e) in
        ap (λ (n : Node). well_formed n.expression) (get_or-append ns (x ∷ []) blank i m) ∙ f.formed i m

-- a node in another state
formed-marked : (ns : List Node) (i s : ℕ) → NodesFormed ns → i < length ns → NodesFormed (set ns i (in_state s (node_in ns i)))
formed-marked ns i s f l =
    let x : Node = in_state s (node_in ns i) in
    record { few = omega (arith, length-set ns i x, f.few); formed = λ j k. go j k (eqb j i) refl }
  where
    go : (j : ℕ) → j < length (set ns i (in_state s (node_in ns i))) → (b : Bool) → eqb j i ≡ b
        → well_formed (node_in (set ns i (in_state s (node_in ns i))) j).expression ≡ true
    go j k true e =
        ap (λ (m : ℕ). well_formed (node_in (set ns i (in_state s (node_in ns i))) m).expression) (eqb-true j i e)
        ∙ ap (λ (n : Node). well_formed n.expression) (get_or-set_same ns i (in_state s (node_in ns i)) blank l)
        ∙ f.formed i l
    go j k false e =
        ap (λ (n : Node). well_formed n.expression) (get_or-set_other ns i j (in_state s (node_in ns i)) blank (eqb-false j i e))
        ∙ f.formed j (omega (arith, length-set ns i (in_state s (node_in ns i))))

pub step-formed : (S : State) (s : ℕ) (c : Command) → NodesFormed S.nodes → has_room S c ≡ true → formed_command c ≡ true → NodesFormed (stepped S s c).nodes
unfolding stepped has_room formed_command with_shown with_node with_edge with_mark primary_of child_of
step-formed S s (Show c) f h w = f
step-formed S s (Open o) f h w =
    formed-more S.nodes _ f (ltb-true (length S.nodes) MOST-NODES h) (and_left (is_role o.role) (legal_state (E.Role o.role) o.state) w)
step-formed S s (Bring n) f h w =
    let p : Bool = ltb n.parent (length S.nodes) in
    let q : Bool = ltb (length S.nodes) MOST-NODES in
    formed-more S.nodes (child_in S n) f (ltb-true (length S.nodes) MOST-NODES (and_right p q (and_left (p && q) _ h)))
    (and_left (well_formed n.expression) (formed_new n) w)
step-formed S s (Join e) f h w = f
step-formed S s (Mark i) f h w = formed-marked S.nodes i (marked_state s (node_in S.nodes i)) f (ltb-true i (length S.nodes) h)
step-formed S s End f h w = f
