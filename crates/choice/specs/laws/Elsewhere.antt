-- A move at one node adds no edge elsewhere and marks no other node. Assumes nothing.
use Rattle.std.specs.Prelude.{ℕ, ◌<◌, ◌≡◌, refl, Bool, true, false, cond, eqb, length}
use Rattle.std.proofs.Common.{arith, ◌∙◌, ap, ⊎_elim, eqb-true, eq-eqb, get_or-set_other}
use mathlib.Core.List.Memᴰ
use mathlib.Core.List.{List, [], ◌∷◌, ◌++◌, map, Memᴰ}
use Rattle.std.proofs.Math.ListN.{get_or-append}
use Rattle.expression.specs.declared.Credential.{Credential}
use Rattle.word.specs.laws.Bools.{and_parts, and_both}
use Rattle.rt0.specs.Lists.{all}
use Rattle.graph.specs.declared.Node.{Node}
use Rattle.graph.specs.declared.Edge.{Edge}
use Rattle.graph.specs.Graph.{node_in, blank, in_state}
use Rattle.message.specs.declared.Command.{Command}
use Rattle.message.specs.declared.Command.TheVariants.{Show, Open, Bring, Join, Mark, End}
use Rattle.negotiation.specs.State.{State, with_node, with_edge, with_shown, with_mark}
use Rattle.graph.specs.Processed.{marked_state}
use Rattle.applied.specs.Step.{primary_of, child_in, edge_in, stepped}
use Rattle.moves.specs.declared.Candidate.{Candidate}
use Rattle.moves.specs.declared.Choice.{Choice}
use Rattle.moves.specs.declared.Choice.TheVariants as C
use Rattle.moves.specs.declared.Found.{Found}
use Rattle.moves.specs.Candidates.{child_stands}
use Rattle.moves.specs.Rules as Q
use Rattle.moves.specs.Move.{credentials_for, edge_command, move_for}
use Rattle.moves.specs.Carried.{carried}
use Rattle.moves.specs.laws.KnownStays.{Onward, step-onward}
use Rattle.moves.specs.laws.Own.{found_move}

-- edges are added and nodes marked at node m only
pub record OnlyAt (m : ℕ) (S R : State) : Type 0 where
  pub edges : (e : Edge) → Memᴰ e R.edges → (e.parent ≡ m → ⊥) → Memᴰ e S.edges
  pub states : (i : ℕ) → i < length S.nodes → (i ≡ m → ⊥) → (node_in R.nodes i).state ≡ (node_in S.nodes i).state

-- Commands

-- an edge into node m, a mark of it, or neither
abbrev is_at : ℕ → Command → Bool
is_at m (Show c) = true
is_at m (Open o) = true
is_at m (Bring b) = eqb b.parent m
is_at m (Join e) = eqb e.parent m
is_at m (Mark k) = eqb k m
is_at m End = true

only_same : (m : ℕ) (S : State) → OnlyAt m S S
only_same m S = record { edges = λ e k o. k; states = λ i l o. refl }

only-both : {m : ℕ} {S R U : State} → Onward S R → OnlyAt m S R → OnlyAt m R U → OnlyAt m S U
only-both g f h =
    record { edges = λ e k o. f.edges e (h.edges e k o) o; states = λ i l o. h.states i (omega (arith, l, g.more)) o ∙ f.states i l o }

-- an edge more, its parent being m
added-edge : {m : ℕ} (es : List Edge) (x : Edge) → x.parent ≡ m → (e : Edge) → Memᴰ e (es ++ (x ∷ [])) → (e.parent ≡ m → ⊥) → Memᴰ e es
added-edge es x p e k o =
    ⊎_elim (λ n. n) (λ n. absurd (o (ap (λ (y : Edge). y.parent) (Memᴰ.eq_of_singleton n) ∙ p))) (Memᴰ.append_cases es k)

added-node : (ns : List Node) (x : Node) (i : ℕ) → i < length ns → (node_in (ns ++ (x ∷ [])) i).state ≡ (node_in ns i).state
added-node ns x i l = ap (λ (y : Node). y.state) (get_or-append ns (x ∷ []) blank i l)

step-only : (m : ℕ) (S : State) (s : ℕ) (c : Command) → is_at m c ≡ true → OnlyAt m S (stepped S s c)
unfolding stepped with_node with_edge with_shown with_mark
step-only m S s (Show c) h = record { edges = λ e k o. k; states = λ i l o. refl }
step-only m S s (Open x) h = record { edges = λ e k o. k; states = λ i l o. added-node S.nodes (primary_of S.header x) i l }
step-only m S s (Bring b) h =
    record {
      edges = λ e k o. added-edge S.edges (edge_in S b) (eqb-true b.parent m h) e k o;
      states = λ i l o. added-node S.nodes (child_in S b) i l;
    }
step-only m S s (Join x) h = record { edges = λ e k o. added-edge S.edges x (eqb-true x.parent m h) e k o; states = λ i l o. refl }
step-only m S s (Mark j) h =
    record {
      edges = λ e k o. k;
      states = λ i l o. ap (λ (y : Node). y.state)
          (get_or-set_other S.nodes j i (in_state (marked_state s (node_in S.nodes j)) (node_in S.nodes j)) blank (λ q. o (q ∙ eqb-true j m h)));
    }
step-only m S s End h = record { edges = λ e k o. k; states = λ i l o. refl }

carried-only : (m : ℕ) (S : State) (s : ℕ) (cs : List Command) → all (is_at m) cs ≡ true → OnlyAt m S (carried s S cs)
carried-only m S s [] h = only_same m S
carried-only m S s (c ∷ cs) h =
    let p = and_parts (is_at m c) (all (is_at m) cs) h in
    only-both (step-onward S s c) (step-only m S s c p.0) (carried-only m (stepped S s c) s cs p.1)

-- Moves

shows-at : (m : ℕ) (cs : List Credential) (c : Command) → is_at m c ≡ true → all (is_at m) (map Show cs ++ (c ∷ [])) ≡ true
shows-at m [] c h = and_both (is_at m c) true h refl
shows-at m (x ∷ cs) c h = shows-at m cs c h

edge_at : (o : Q.End) (m : ℕ) (w : Candidate) → is_at m (edge_command o m w) ≡ true
edge_at o m w = go (child_stands o.state.nodes w) _ _ (eq-eqb m m refl) (eq-eqb m m refl)
  where
    go : (b : Bool) (x y : Command) → is_at m x ≡ true → is_at m y ≡ true → is_at m (cond b x y) ≡ true
    go true x y p q = p
    go false x y p q = q

move_at : (o : Q.End) (m : ℕ) (n : Node) (c : Choice) → all (is_at m) (move_for o m n c) ≡ true
move_at o m n (C.Edge w) = shows-at m (credentials_for o n w) (edge_command o m w) (edge_at o m w)
move_at o m n C.Mark = and_both (eqb m m) true (eq-eqb m m refl) refl
move_at o m n C.Nothing = refl

-- a move that is found is made at its node
pub move-only : (o : Q.End) (f : Found) (S : State) (s : ℕ) → OnlyAt f.node S (carried s S (found_move o f))
unfolding found_move
move-only o f S s =
    let n : Node = node_in o.state.nodes f.node in
    carried-only f.node S s (move_for o f.node n f.choice) (move_at o f.node n f.choice)
