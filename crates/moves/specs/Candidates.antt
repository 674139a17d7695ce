-- The edges that a rule may add to a node, in order, and which of them are done (document 01, "The reply"). Assumes nothing.
use Rattle.std.specs.Prelude.{ℕ, Bool, false, cond, ◌&&◌, ◌||◌, List, [], ◌∷◌, eqb, ltb, length}
use Rattle.expression.specs.Same.{same}
use Rattle.expression.specs.Order.{before_of}
use Rattle.graph.specs.declared.Node.{Node}
use Rattle.graph.specs.declared.Edge.{Edge}
use Rattle.graph.specs.Find.{find_node, has_edge}
use Rattle.moves.specs.declared.Candidate.{Candidate}
use Rattle.moves.specs.declared.Choice.{Choice}
use Rattle.moves.specs.declared.Choice.TheVariants as C

-- "edges by the child's expression bytes, then subject"
abbrev pub precedes : Candidate → Candidate → Bool
precedes v w = before_of v.expression w.expression || (same v.expression w.expression && ltb v.subject w.subject)

abbrev pub equals : Candidate → Candidate → Bool
equals v w = same v.expression w.expression && eqb v.subject w.subject

abbrev pub inserted : Candidate → List Candidate → List Candidate
inserted v [] = v ∷ []
inserted v (w ∷ ws) = cond (precedes v w) (v ∷ w ∷ ws) (cond (equals v w) (w ∷ ws) (w ∷ inserted v ws))

-- in order, each once
unfoldable pub ordered : List Candidate → List Candidate
ordered [] = []
ordered (v ∷ vs) = inserted v (ordered vs)

-- what the rules for a node may add, rule by rule, and whether it may be marked once all of that stands
pub record Plan : Type 0 where
  pub wanted : List Candidate
  pub marks : Bool

-- "The first move not yet done is made": the first edge of a plan that is not done, else the mark, if it is allowed
unfoldable pub first_not : (Candidate → Bool) → Choice → List Candidate → Choice
first_not done rest [] = rest
first_not done rest (w ∷ ws) = cond (done w) (first_not done rest ws) (C.Edge w)

abbrev pub mark_if : Bool → Choice
mark_if marks = cond marks C.Mark C.Nothing

unfoldable pub chosen_in : (Candidate → Bool) → Plan → Choice
chosen_in done p = first_not done (mark_if p.marks) p.wanted

module _ (ns : List Node) where
  -- the number of the wanted child, where it stands
  abbrev pub child_number : Candidate → ℕ
  child_number w = find_node ns w.expression w.verifier w.subject

  abbrev pub child_stands : Candidate → Bool
  child_stands w = ltb (child_number w) (length ns)

  -- "An edge already there, or one to the node itself, counts as done"
  unfoldable pub is_done : List Edge → ℕ → Candidate → Bool
  is_done es i w = cond (child_stands w) (eqb i (child_number w) || has_edge es (record { kind = w.kind; parent = i; child = child_number w })) false
