-- The edges of the frontiers that the rules name. Assumes nothing.
use Rattle.std.specs.Prelude.{ℕ, ◌≤◌, ◌≡◌, refl, Bool, replicate}
use Rattle.std.proofs.Common.{arith, ◌∙◌}
use Rattle.std.proofs.Math.Path.{ap}
use Rattle.std.proofs.Math.Bool.{true, false, not}
use mathlib.Core.List.{List, [], ◌∷◌, map}
use Rattle.expression.specs.declared.Role.{Role}
use Rattle.expression.specs.declared.Credential.{Credential}
use Rattle.expression.specs.declared.Expression.TheVariants as E
use Rattle.expression.specs.Kinds.{is_entity}
use Rattle.rules.specs.laws.Table.{chosen}
use Rattle.relation.specs.laws.Reached.{all-on}
use Rattle.tables.specs.Tables.{Tables}
use Rattle.tables.specs.laws.Tables.{pairs_of, tables_of}
use Rattle.tables.specs.Lookup.{is_sensitive}
use Rattle.tables.specs.Public.{public_of, keep}
use Rattle.graph.specs.declared.Node.{Node}
use Rattle.moves.specs.declared.Preparation.{Preparation}
use Rattle.moves.specs.declared.Candidate.{Candidate}
use Rattle.moves.specs.declared.Choice.{Choice}
use Rattle.moves.specs.declared.Choice.TheVariants as C
use Rattle.moves.specs.Frontiers.{bodies_of, frontier_of, oppo, simp, sens}
use Rattle.moves.specs.laws.Stops.{predicate_of}
use Rattle.moves.specs.laws.Own.{Prepared}
use Rattle.moves.specs.Candidates.{ordered, first_not}
use Rattle.moves.specs.Rules.{implications, to_subject}
use Rattle.candidates.specs.laws.Members.{Extended, all-implications, no-entities, reads-bodies, reads-role, members-first}
use Rattle.candidates.specs.laws.Goals.{solution_edge, named_roles}
use Rattle.candidates.specs.laws.Subject.{SubjectLeads, subject-first}

pub issuer-few : {o : Preparation} → Prepared o → o.house.issuer.count ≤ 128
issuer-few P = let l = P.housed.issuer in omega arith

pub subject-few : {o : Preparation} → Prepared o → o.house.subject.count ≤ 128
subject-few P = let l = P.housed.subject in omega arith

module _ (o : Preparation) (R : Prepared o) (d : Candidate → Bool) (n : Node) (a : Role) where
  abbrev T : Tables
  T = tables_of o.house

  -- 0x12: the edges to the oppo frontier of the bodies
  pub issuer-first : {c : Choice} → Extended d o.house.issuer (replicate 128 1) o.oppo true n a C.Nothing c
      → c ≡ first_not d C.Nothing (implications n (frontier_of (oppo T.names) T.issuer_stored (bodies_of T.issuer_stored (E.Role a))))
  unfolding tables_of predicate_of
  issuer-first X =
      members-first (reads-bodies R.oppo X.reaches) true n d X.best
      ∙ (ap (λ (ws : List Candidate). first_not d C.Nothing ws)
      (all-implications n (frontier_of (oppo T.names) (chosen o.house.issuer (replicate 128 1))
      (bodies_of (chosen o.house.issuer (replicate 128 1)) (E.Role a))))
      ∙ ap (λ (I : List Credential). first_not d C.Nothing (implications n (frontier_of (oppo T.names) I (bodies_of I (E.Role a)))))
      (all-on o.house.issuer (issuer-few R)))

  -- 0x13: the edges to what is no entity of the sens frontier of the bodies
  pub rest-first : {c : Choice} → Extended d o.house.subject o.visible o.sens false n a C.Nothing c
      → c ≡ first_not d C.Nothing (implications n (keep (λ x. not (is_entity x))
      (frontier_of (sens T.sensitive) (public_of T).subject_stored (bodies_of (public_of T).subject_stored (E.Role a)))))
  unfolding predicate_of
  rest-first X =
      members-first (reads-bodies R.sens X.reaches) false n d X.best
      ∙ (ap (λ (ws : List Candidate). first_not d C.Nothing (ordered ws))
      (no-entities n (frontier_of (sens T.sensitive) (chosen o.house.subject o.visible)
      (bodies_of (chosen o.house.subject o.visible) (E.Role a))))
      ∙ ap (λ (K : List Credential). first_not d C.Nothing
      (implications n (keep (λ x. not (is_entity x)) (frontier_of (sens T.sensitive) K (bodies_of K (E.Role a)))))) R.visible)

  -- 0x13: the edge to the subject, or to what is no entity, of the simp frontier, and of the sens frontier of a role that is not sensitive
  pub simp-first : {c : Choice} → SubjectLeads d o.house.subject o.visible o.simp n a c
      → c ≡ first_not d C.Nothing (to_subject n (frontier_of simp (public_of T).subject_stored (E.Role a ∷ [])))
  unfolding predicate_of
  simp-first X =
      subject-first (reads-role R.simp X.reaches refl) d n X.best
      ∙ ap (λ (K : List Credential). first_not d C.Nothing (to_subject n (frontier_of simp K (E.Role a ∷ [])))) R.visible

  pub sens-first : is_sensitive T.sensitive a ≡ false → {c : Choice} → SubjectLeads d o.house.subject o.visible o.sens n a c
      → c ≡ first_not d C.Nothing (to_subject n (frontier_of (sens T.sensitive) (public_of T).subject_stored (E.Role a ∷ [])))
  unfolding predicate_of
  sens-first h X =
      subject-first (reads-role R.sens X.reaches h) d n X.best
      ∙ ap (λ (K : List Credential). first_not d C.Nothing (to_subject n (frontier_of (sens T.sensitive) K (E.Role a ∷ [])))) R.visible

-- the solutions of a goal, over the public part
pub public-solutions : (o : Preparation) → Prepared o → (n : Node) (r : ℕ) (d : Candidate → Bool) {c : Choice}
    → c ≡ first_not d C.Nothing (ordered (map (solution_edge n) (named_roles r (pairs_of o.house.sensitive) (chosen o.house.subject o.visible))))
    → c ≡ first_not d C.Nothing (ordered (map (solution_edge n) (named_roles r (tables_of o.house).sensitive (public_of (tables_of o.house)).subject_stored)))
unfolding tables_of
public-solutions o R n r d p =
    p ∙ ap (λ (K : List Credential). first_not d C.Nothing (ordered (map (solution_edge n) (named_roles r (pairs_of o.house.sensitive) K)))) R.visible
