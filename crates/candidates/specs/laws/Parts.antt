-- The edges to the roles of an intersection. Assumes nothing.
use Rattle.std.specs.Prelude.{◌≡◌, Bool, cond, List, [], ◌∷◌, map, eqb}
use Rattle.std.proofs.Common.{sym, ◌∙◌, ap, eq-eqb, ne_eqb}
use Rattle.expression.specs.declared.Role.{Role}
use Rattle.expression.specs.declared.Parts.{Parts}
use Rattle.expression.specs.declared.Expression.TheVariants as E
use Rattle.rt0.specs.laws.Lists.{map-find}
use Rattle.rt0.specs.From.{roles_of}
use Rattle.graph.specs.declared.Node.{Node}
use Rattle.moves.specs.declared.Candidate.{Candidate}
use Rattle.moves.specs.declared.Choice.{Choice}
use Rattle.moves.specs.declared.Choice.TheVariants as C
use Rattle.moves.specs.Candidates.{first_not}
use Rattle.moves.specs.Rules.{child_for, part_edges}
use Rattle.candidates.specs.laws.Least.{better, Uniform}
use Rattle.candidates.specs.laws.Offers.{best_of, list-first}

abbrev pub part_edge : Node → Role → Candidate
part_edge n a = child_for 5 n (E.Role a) n.subject

module _ (d : Candidate → Bool) (n : Node) (p : Parts) where
  uniform : (rs : List Role) → Uniform 5 n.verifier (map (part_edge n) rs)
  uniform rs =
      record {
        each = λ w m. let f = map-find (part_edge n) rs m in
            (ap (λ (v : Candidate). v.kind) f.2, ap (λ (v : Candidate). v.verifier) f.2, ap (λ (v : Candidate). v.direct) f.2);
      }

  listed : best_of d C.Nothing (map (part_edge n) (roles_of p)) ≡ first_not d C.Nothing (part_edges n (roles_of p))
  listed = list-first d (map (part_edge n) (roles_of p)) (uniform (roles_of p))

  abbrev two : Choice
  two = better d (better d C.Nothing (part_edge n p.first)) (part_edge n p.second)

  abbrev by_count : (a b : Bool) → Choice
  by_count a b = best_of d two (map (part_edge n) (cond a [] (p.third ∷ cond b [] (p.fourth ∷ []))))

  module _ {x y : Choice} (f : x ≡ better d C.Nothing (part_edge n p.first)) (s : y ≡ better d x (part_edge n p.second)) where
    second : y ≡ two
    second = s ∙ ap (λ (c : Choice). better d c (part_edge n p.second)) f

    pub parts-two : p.count ≡ 2 → y ≡ first_not d C.Nothing (part_edges n (roles_of p))
    parts-two h = second ∙ (sym (ap (λ (a : Bool). by_count a (eqb p.count 3)) (eq-eqb p.count 2 h)) ∙ listed)

    module _ (h : p.count ≡ 2 → ⊥) {z : Choice} (t : z ≡ better d y (part_edge n p.third)) where
      third : z ≡ better d two (part_edge n p.third)
      third = t ∙ ap (λ (c : Choice). better d c (part_edge n p.third)) second

      pub parts-three : p.count ≡ 3 → z ≡ first_not d C.Nothing (part_edges n (roles_of p))
      parts-three k = third ∙ (sym (λ i. by_count (ne_eqb p.count 2 h i) (eq-eqb p.count 3 k i)) ∙ listed)

      pub parts-four : (p.count ≡ 3 → ⊥) → {v : Choice} → v ≡ better d z (part_edge n p.fourth) → v ≡ first_not d C.Nothing (part_edges n (roles_of p))
      parts-four k u =
          u ∙ (ap (λ (c : Choice). better d c (part_edge n p.fourth)) third
          ∙ (sym (λ i. by_count (ne_eqb p.count 2 h i) (ne_eqb p.count 3 k i)) ∙ listed))
