-- The first command builds an undamaged graph, and every other keeps it. Assumes nothing.
use Rattle.std.specs.Prelude.{ℕ, ◌≡◌, not, ◌&&◌, eqb}
use Rattle.std.proofs.Common.{arith, sym, ◌∙◌}
use Rattle.std.proofs.Math.Path.{refl, ap}
use Rattle.std.proofs.Math.Bool.{Bool, true, cond}
use mathlib.Core.List.{List, [], ◌∷◌, ◌++◌}
use borrow.Author.Tests.{lt-ltb, eq-eqb, eqb-true, not-false}
use Rattle.std.proofs.Math.Dec.{ltb}
use Rattle.std.proofs.Math.ListN.{length}
use Rattle.expression.specs.declared.Expression.TheVariants as E
use Rattle.expression.specs.Form.{is_role}
use Rattle.expression.specs.Same.{same}
use Rattle.word.specs.laws.Bools.{and_parts, and_both}
use Rattle.class.specs.declared.Name.{Name}
use Rattle.class.specs.Typing.{type_of}
use Rattle.graph.specs.declared.Node.{Node}
use Rattle.graph.specs.Graph.{node_in}
use Rattle.graph.specs.Form.{legal_state}
use Rattle.justification.specs.InTurn.{in_turn}
use Rattle.justification.specs.Justified.{justified}
use Rattle.message.specs.declared.Opening.{Opening}
use Rattle.message.specs.declared.Command.{Command}
use Rattle.message.specs.declared.Command.TheVariants.{Show, Open, Bring, Join, Mark, End}
use Rattle.message.specs.Command.{formed_command}
use Rattle.negotiation.specs.State.{State, with_node}
use Rattle.negotiation.specs.Ends.{requester}
use Rattle.damage.specs.Records.{node_sound, node_fits, primary_sound, credential_fits}
use Rattle.damage.specs.Edges.{brought_from, brought, edge_fits}
use Rattle.damage.specs.Damage.{edges_justified}
use Rattle.applied.specs.Step.{primary_of, stepped}
use Rattle.legal.specs.Number.{is_fresh, open_number, legal_by, legal_number}
use Rattle.legal.specs.laws.Number.{refuse-none}
use Rattle.legal.specs.laws.Kept.{GraphKept, records-of, brought-of, show-kept, join_kept, mark-kept}
use Rattle.legal.specs.laws.KeptBring.{bring-kept}

-- 0x02

empty : {A : Type 0} (xs : List A) → length xs ≡ 0 → xs ≡ []
empty [] z = refl
empty (x ∷ xs) z = absurd (omega arith)

module _ (ns : List Name) (S : State) (o : Opening) (side : S.header.side ≡ 1) where
  requester-own : requester S.header ≡ S.header.own
  unfolding requester
  requester-own = ap (λ (v : ℕ). cond (eqb v 0) S.header.other S.header.own) side

  -- "The primary's verifier is the mediator, its subject the requester"
  opened-primary : primary_sound S.header (primary_of S.header o) ≡ true
  unfolding primary_sound primary_of
  opened-primary =
      let b : Bool = same (E.Role o.role) (E.Role S.header.wanted) in
      and_both (eqb (requester S.header) (requester S.header)) (cond (eqb S.header.side 0) b true)
      (eq-eqb (requester S.header) (requester S.header) refl)
      (ap (λ (v : ℕ). cond (eqb v 0) b true) side)

  opened-sound : (S.header.own ≡ 0 → ⊥) → formed_command (Open o) ≡ true → node_sound ns (primary_of S.header o) ≡ true
  unfolding formed_command node_sound primary_of type_of
  opened-sound own f =
      let x = E.Role o.role in
      let a = and_parts (is_role o.role) (legal_state x o.state) f in
      let u : ltb 0 (requester S.header) ≡ true = lt-ltb 0 (requester S.header) (omega (arith, requester-own, own)) in
      and_both (is_role o.role && ltb 0 (requester S.header) && true && legal_state x o.state) true
      (and_both (is_role o.role && ltb 0 (requester S.header) && true) (legal_state x o.state)
      (and_both (is_role o.role && ltb 0 (requester S.header)) true (and_both (is_role o.role) (ltb 0 (requester S.header)) a.0 u) refl) a.1) refl

  pub open_kept : length S.nodes ≡ 0 → length S.edges ≡ 0 → length S.shown ≡ 0 → (S.header.own ≡ 0 → ⊥) → formed_command (Open o) ≡ true
      → GraphKept ns (stepped S 0 (Open o))
  unfolding stepped with_node edges_justified in_turn node_fits brought brought_from
  open_kept nz ez sz own f =
      let x : Node = primary_of S.header o in
      let no-nodes : S.nodes ≡ [] = empty S.nodes nz in
      let no_edges : S.edges ≡ [] = empty S.edges ez in
      record {
        records = records-of ns (with_node S x)
            (ap (λ (xs : List Node). in_turn (node_fits ns) [] (xs ++ (x ∷ []))) no-nodes
            ∙ and_both (node_sound ns x && true) true (and_both (node_sound ns x) true (opened-sound own f) refl) refl)
            (ap (λ (xs : List Node). primary_sound S.header (node_in (xs ++ (x ∷ [])) 0)) no-nodes ∙ opened-primary)
            (ap (in_turn (credential_fits ns) []) (empty S.shown sz));
        edges =
            brought-of S.header (S.nodes ++ (x ∷ [])) S.edges (ap (in_turn (edge_fits S.header (S.nodes ++ (x ∷ []))) []) no_edges)
            (ap brought no_edges ∙ ap (λ (xs : List Node). length (xs ++ (x ∷ []))) (sym no-nodes));
        justified = ap (in_turn (justified S.shown (S.nodes ++ (x ∷ []))) []) no_edges;
      }

-- Every other command

-- where a node stands, open is refused
open-refused : (ns : List Name) (s : ℕ) (S : State) (o : Opening) → (length S.nodes ≡ 0 → ⊥) → legal_number ns s S (Open o) ≡ 0 → ⊥
unfolding legal_number legal_by open_number is_fresh
open-refused ns s S o some l =
    some (eqb-true (length S.nodes) 0 (not-false (eqb (length S.nodes) 0) (refuse-none (not (eqb (length S.nodes) 0)) 23 _ (omega arith) l).0))

pub step_kept : (ns : List Name) (s : ℕ) (S : State) (c : Command) → GraphKept ns S → (length S.nodes ≡ 0 → ⊥) → formed_command c ≡ true
    → legal_number ns s S c ≡ 0 → GraphKept ns (stepped S s c)
unfolding stepped
step_kept ns s S (Show c) g some f l = show-kept ns s S c g f l
step_kept ns s S (Open o) g some f l = absurd (open-refused ns s S o some l)
step_kept ns s S (Bring n) g some f l = bring-kept ns s S n g some f l
step_kept ns s S (Join e) g some f l = join_kept ns s S e g l
step_kept ns s S (Mark i) g some f l = mark-kept ns s S i g some l
step_kept ns s S End g some f l = g
