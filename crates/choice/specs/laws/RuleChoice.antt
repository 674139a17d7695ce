-- The choice at a node is what the rules give, expression by expression. Assumes nothing.
use Rattle.std.specs.Prelude.{ℕ, ◌≡◌, refl, Bool, true, eqb, Option, Some, None}
use Rattle.std.proofs.Math.Path.{sym}
use Rattle.std.proofs.Common.{◌∙◌, ap, eq-eqb, ne_eqb}
use Rattle.std.proofs.Math.Bool.{false, not, cond}
use mathlib.Core.List.{List, [], ◌∷◌, map}
use Rattle.expression.specs.declared.Role.{Role}
use Rattle.expression.specs.declared.Parts.{Parts}
use Rattle.expression.specs.declared.Expression.{Expression}
use Rattle.expression.specs.declared.Expression.TheVariants as E
use Rattle.expression.specs.Kinds.{is_entity}
use Rattle.rt0.specs.From.{roles_of}
use Rattle.class.specs.Names.{class_of}
use Rattle.tables.specs.Tables.{Tables}
use Rattle.tables.specs.Lookup.{other_of}
use Rattle.tables.specs.Public.{public_of, hidden_of, keep}
use Rattle.graph.specs.declared.Node.{Node}
use Rattle.negotiation.specs.State.{State}
use Rattle.graph.specs.Processed.{processed_by}
use Rattle.moves.specs.declared.Candidate.{Candidate}
use Rattle.moves.specs.declared.Choice.{Choice}
use Rattle.moves.specs.declared.Choice.TheVariants as C
use Rattle.moves.specs.declared.Known.{Known}
use Rattle.moves.specs.Frontiers.{bodies_of, frontier_of, oppo, simp, sens}
use Rattle.moves.specs.Candidates.{ordered, first_not, chosen_in, is_done}
use Rattle.moves.specs.Rules.{End, end_in, implications, to_subject, part_edges, then_mark, link_rules, by_class, verifier_rules, own_rules, opponent_rules}
use Rattle.moves.specs.Move.{plan_at, choice_at}
use Rattle.candidates.specs.laws.Least.{or_else, first_rest}
use Rattle.candidates.specs.laws.Goals.{solution_edge, named_roles}
use Rattle.choice.specs.laws.Known.{known_as}
use Rattle.choice.specs.laws.Sensitive.{alone, control_for, known_choice, sensitive-rules}
use Rattle.choice.specs.laws.OwnRules.{own-plain, own-sensitive}
use Rattle.candidates.specs.laws.All.{all_edges}

-- all that stands, and a mark
pub then-mark : (d : Candidate → Bool) (ws : List Candidate) {b c : Choice} → b ≡ first_not d C.Nothing ws → c ≡ or_else b C.Mark → c ≡ chosen_in d (then_mark ws)
unfolding chosen_in
then-mark d ws p q = q ∙ (ap (λ (x : Choice). or_else x C.Mark) p ∙ sym (first_rest d C.Mark ws))

module _ (T : Tables) (S : State) (d : Candidate → Bool) (i : ℕ) (n : Node) where
  abbrev o : End
  o = end_in T S

  -- 5.3

  pub verifier-as : {c : Choice} → {x y : Expression} → x ≡ y → c ≡ chosen_in d (verifier_rules o i n y) → c ≡ chosen_in d (verifier_rules o i n x)
  verifier-as e p = p ∙ sym (ap (λ (x : Expression). chosen_in d (verifier_rules o i n x)) e)

  pub verifier-entity : {c : Choice} → (a : ℕ) → c ≡ C.Mark → c ≡ chosen_in d (verifier_rules o i n (E.Entity a))
  unfolding verifier_rules chosen_in first_not
  verifier-entity a p = p

  pub verifier-goal : {c : Choice} → (r : ℕ) → c ≡ C.Mark → c ≡ chosen_in d (verifier_rules o i n (E.Goal r))
  unfolding verifier_rules chosen_in first_not
  verifier-goal r p = p

  pub verifier-role : {c : Choice} → (a : Role) {b : Choice}
      → b ≡ first_not d C.Nothing (implications n (frontier_of (oppo T.names) T.issuer_stored (bodies_of T.issuer_stored (E.Role a)))) → c ≡ or_else b C.Mark
      → c ≡ chosen_in d (verifier_rules o i n (E.Role a))
  unfolding verifier_rules end_in public_of
  verifier-role a p q = then-mark d (implications n (frontier_of (oppo T.names) T.issuer_stored (bodies_of T.issuer_stored (E.Role a)))) p q

  pub verifier-parts : {c : Choice} → (p : Parts) {b : Choice} → b ≡ first_not d C.Nothing (part_edges n (roles_of p)) → c ≡ or_else b C.Mark
      → c ≡ chosen_in d (verifier_rules o i n (E.Intersection p))
  unfolding verifier_rules
  verifier-parts p h q = then-mark d (part_edges n (roles_of p)) h q

  module _ (a : Role) (r : ℕ) {k : ℕ} (ke : k ≡ class_of T.names a.name) where
    by-class : (b e : Bool) → eqb k 1 ≡ b → eqb k 2 ≡ e
        → chosen_in d (cond b (link_rules o i n a r) (cond e (then_mark (all_edges T n a r)) (then_mark []))) ≡ chosen_in d (verifier_rules o i n (E.Linked a r))
    unfolding verifier_rules end_in public_of
    by-class b e p q =
        sym (ap (chosen_in d)
        (ap (λ (m : ℕ). by_class o m (link_rules o i n a r) (then_mark (all_edges T n a r)) (then_mark [])) (sym ke)
        ∙ (λ t. cond (p t) (link_rules o i n a r) (cond (q t) (then_mark (all_edges T n a r)) (then_mark [])))))

    pub link-def : {c : Choice} → k ≡ 1 → c ≡ chosen_in d (link_rules o i n a r) → c ≡ chosen_in d (verifier_rules o i n (E.Linked a r))
    link-def h p = p ∙ by-class true (eqb k 2) (eq-eqb k 1 h) refl

    pub link-all : {c : Choice} → (k ≡ 1 → ⊥) → k ≡ 2 → {b : Choice} → b ≡ first_not d C.Nothing (all_edges T n a r) → c ≡ or_else b C.Mark
        → c ≡ chosen_in d (verifier_rules o i n (E.Linked a r))
    link-all h z p q = then-mark d (all_edges T n a r) p q ∙ by-class false true (ne_eqb k 1 h) (eq-eqb k 2 z)

    pub link-subject : {c : Choice} → (k ≡ 1 → ⊥) → (k ≡ 2 → ⊥) → c ≡ C.Mark → c ≡ chosen_in d (verifier_rules o i n (E.Linked a r))
    unfolding chosen_in first_not
    link-subject h z p = p ∙ by-class false false (ne_eqb k 1 h) (ne_eqb k 2 z)

  -- 5.4

  pub opponent-as : {c : Choice} → {x y : Expression} → x ≡ y → c ≡ chosen_in d (opponent_rules o i n y) → c ≡ chosen_in d (opponent_rules o i n x)
  opponent-as e p = p ∙ sym (ap (λ (x : Expression). chosen_in d (opponent_rules o i n x)) e)

  pub opponent-entity : {c : Choice} → (a : ℕ) → c ≡ C.Mark → c ≡ chosen_in d (opponent_rules o i n (E.Entity a))
  unfolding opponent_rules chosen_in first_not
  opponent-entity a p = p

  pub opponent-link : {c : Choice} → (a : Role) (r : ℕ) → c ≡ chosen_in d (link_rules o i n a r) → c ≡ chosen_in d (opponent_rules o i n (E.Linked a r))
  unfolding opponent_rules
  opponent-link a r p = p

  pub opponent-parts : {c : Choice} → (p : Parts) {b : Choice} → b ≡ first_not d C.Nothing (part_edges n (roles_of p)) → c ≡ or_else b C.Mark
      → c ≡ chosen_in d (opponent_rules o i n (E.Intersection p))
  unfolding opponent_rules
  opponent-parts p h q = then-mark d (part_edges n (roles_of p)) h q

  pub opponent-goal : {c : Choice} → (r : ℕ) {b : Choice}
      → b ≡ first_not d C.Nothing (ordered (map (solution_edge n) (named_roles r T.sensitive (public_of T).subject_stored))) → c ≡ or_else b C.Mark
      → c ≡ chosen_in d (opponent_rules o i n (E.Goal r))
  unfolding opponent_rules end_in public_of
  opponent-goal r h q = then-mark d (ordered (map (solution_edge n) (named_roles r T.sensitive (public_of T).subject_stored))) h q

  module _ (a : Role) where
    about : (b : Bool) → eqb n.subject T.own ≡ b
        → chosen_in d (cond b (own_rules o i n a o.known) (then_mark (to_subject n (frontier_of simp (public_of T).subject_stored (E.Role a ∷ [])))))
        ≡ chosen_in d (opponent_rules o i n (E.Role a))
    unfolding opponent_rules end_in public_of
    about b h =
        sym (ap (λ (x : Bool). chosen_in d (cond x (own_rules o i n a o.known)
        (then_mark (to_subject n (frontier_of simp (public_of T).subject_stored (E.Role a ∷ [])))))) h)

    pub about-us : {c : Choice} → n.subject ≡ T.own → c ≡ chosen_in d (own_rules o i n a o.known) → c ≡ chosen_in d (opponent_rules o i n (E.Role a))
    about-us h p = p ∙ about true (eq-eqb n.subject T.own h)

    pub about-other : {c : Choice} → (n.subject ≡ T.own → ⊥) → {b : Choice}
        → b ≡ first_not d C.Nothing (to_subject n (frontier_of simp (public_of T).subject_stored (E.Role a ∷ []))) → c ≡ or_else b C.Mark
        → c ≡ chosen_in d (opponent_rules o i n (E.Role a))
    about-other h p q =
        then-mark d (to_subject n (frontier_of simp (public_of T).subject_stored (E.Role a ∷ []))) p q ∙ about false (ne_eqb n.subject T.own h)

    -- a role about us
    pub plain-choice : {c : Choice} → {r : Option Role} → r ≡ other_of T.sensitive a → r ≡ None → {b : Choice}
        → b ≡ first_not d C.Nothing (to_subject n (frontier_of (sens T.sensitive) (public_of T).subject_stored (E.Role a ∷ []))) → c ≡ or_else b C.Mark
        → c ≡ chosen_in d (own_rules o i n a o.known)
    unfolding end_in public_of
    plain-choice p h q u =
        then-mark d (to_subject n (frontier_of (sens T.sensitive) (public_of T).subject_stored (E.Role a ∷ []))) q u
        ∙ sym (ap (chosen_in d) (own-plain o i n a (hidden_of T) S T.sensitive (sym p ∙ h)))

    pub sensitive-choice : {c : Choice} → {r : Option Role} {ack : Role} → r ≡ other_of T.sensitive a → r ≡ Some ack
        → {rest : Choice} {k : Known} {b : Choice}
        → rest ≡ first_not d C.Nothing (implications n
        (keep (λ x. not (is_entity x)) (frontier_of (sens T.sensitive) (public_of T).subject_stored (bodies_of (public_of T).subject_stored (E.Role a)))))
        → k ≡ known_as S (hidden_of T) a ack → b ≡ known_choice S d i n rest k → c ≡ or_else (alone d (control_for S n ack)) b
        → c ≡ chosen_in d (own_rules o i n a o.known)
    unfolding end_in public_of
    sensitive-choice {ack = ack} p h u v w q =
        let ws : List Candidate = implications n (keep (λ x. not (is_entity x))
        (frontier_of (sens T.sensitive) (public_of T).subject_stored (bodies_of (public_of T).subject_stored (E.Role a)))) in
        q ∙ (ap (or_else (alone d (control_for S n ack))) (w ∙ (λ t. known_choice S d i n (u t) (v t)))
        ∙ (sensitive-rules o d i n (control_for S n ack) ws (known_as S (hidden_of T) a ack)
        ∙ sym (ap (chosen_in d) (own-sensitive o i n a (hidden_of T) S T.sensitive ack (sym p ∙ h)))))

-- At a node

module _ (T : Tables) (S : State) (i : ℕ) (n : Node) {p : Bool} (pe : p ≡ processed_by S.header.side n) where
  pub at-processed : {c : Choice} → p ≡ true → c ≡ C.Nothing → c ≡ choice_at (end_in T S) i n
  unfolding choice_at end_in
  at-processed h q = q ∙ sym (ap (λ (b : Bool). cond b C.Nothing (chosen_in (is_done S.nodes S.edges i) (plan_at (end_in T S) i n))) (sym pe ∙ h))

  module _ (h : p ≡ false) where
    by_side : (b : Bool) → eqb n.verifier S.header.side ≡ b
        → chosen_in (is_done S.nodes S.edges i)
        (cond b (verifier_rules (end_in T S) i n n.expression) (opponent_rules (end_in T S) i n n.expression)) ≡ choice_at (end_in T S) i n
    unfolding choice_at end_in
    by_side b k =
        sym (λ t. cond ((sym pe ∙ h) t) C.Nothing (chosen_in (is_done S.nodes S.edges i)
        (cond (k t) (verifier_rules (end_in T S) i n n.expression) (opponent_rules (end_in T S) i n n.expression))))

    pub at-verifier : {c : Choice} → n.verifier ≡ S.header.side
        → c ≡ chosen_in (is_done S.nodes S.edges i) (verifier_rules (end_in T S) i n n.expression) → c ≡ choice_at (end_in T S) i n
    at-verifier k q = q ∙ by_side true (eq-eqb n.verifier S.header.side k)

    pub at-opponent : {c : Choice} → (n.verifier ≡ S.header.side → ⊥)
        → c ≡ chosen_in (is_done S.nodes S.edges i) (opponent_rules (end_in T S) i n n.expression) → c ≡ choice_at (end_in T S) i n
    at-opponent k q = q ∙ by_side false (ne_eqb n.verifier S.header.side k)
