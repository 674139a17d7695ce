-- The edge to the subject where a frontier has it, else those to what is no entity (section 5.4). Assumes nothing.
use Rattle.std.specs.Prelude.{ℕ, ◌≡◌, refl, Bool, false, not, cond, ◌&&◌, ◌||◌, List, [], ◌∷◌, eqb, get_or}
use Rattle.std.proofs.Math.Path.{sym, ap}
use Rattle.std.proofs.Common.{◌∙◌}
use Rattle.std.proofs.Math.Bool.{true}
use Rattle.expression.specs.declared.Role.{Role}
use Rattle.expression.specs.declared.Expression.{Expression}
use Rattle.expression.specs.declared.Expression.TheVariants as E
use Rattle.expression.specs.Same.{same}
use Rattle.expression.specs.laws.Same.{same-eq, eq-same}
use Rattle.expression.specs.Kinds.{is_entity}
use Rattle.rt0.specs.declared.Pool.{Pool}
use Rattle.rt0.specs.Pool.{up_to}
use Rattle.rt0.specs.laws.Pool.{body_at}
use Rattle.rt0.specs.Lists.{any}
use Rattle.rt0.specs.laws.Lists.{any-find, any_here}
use Rattle.word.specs.laws.Bools.{and_parts, and_both, bool_iff}
use Rattle.tables.specs.Public.{keep}
use Rattle.propagation.specs.laws.Flags.{flag}
use Rattle.frontier.specs.laws.Frontier.{Reaches}
use Rattle.graph.specs.declared.Node.{Node}
use Rattle.needed.specs.laws.Column.{up_to-mem, up_to-find}
use Rattle.moves.specs.declared.Candidate.{Candidate}
use Rattle.moves.specs.declared.Choice.{Choice}
use Rattle.moves.specs.declared.Choice.TheVariants as C
use Rattle.moves.specs.Candidates.{ordered, first_not}
use Rattle.moves.specs.Rules.{child_for, implications, to_subject}
use Rattle.candidates.specs.laws.Least.{better}
use Rattle.candidates.specs.laws.Offers.{folded, offer}
use Rattle.candidates.specs.laws.Members.{no-entities, is_member, member_edge, Reads, members-first}
use Rattle.candidates.specs.laws.MembersLaws.{flags-none, flags-both}

-- credential k was found, and its body is a stop and the entity s
unfoldable pub is_subject_at : Pool → List ℕ → List ℕ → ℕ → ℕ → Bool
is_subject_at P stop r s k = flag r k && flag stop k && same (body_at P k) (E.Entity s)

unfoldable pub has_subject : Pool → List ℕ → List ℕ → ℕ → Bool
has_subject P stop r s = any (is_subject_at P stop r s) (up_to P.count (λ k. k))

module _ (P : Pool) (stop found : List ℕ) (s k : ℕ) where
  pub subject-none : (not (eqb (get_or found k 0) 1) || not (eqb (get_or stop k 0) 1)) ≡ true → false ≡ is_subject_at P stop found s k
  unfolding is_subject_at
  subject-none h = sym (flags-none (flag found k) (flag stop k) (same (body_at P k) (E.Entity s)) h)

  pub subject-same : (not (eqb (get_or found k 0) 1) || not (eqb (get_or stop k 0) 1)) ≡ false → {x : Expression} {r : Bool} → x ≡ body_at P k
      → r ≡ same x (E.Entity s) → r ≡ is_subject_at P stop found s k
  unfolding is_subject_at
  subject-same h p q = q ∙ (ap (λ (y : Expression). same y (E.Entity s)) p ∙ sym (flags-both (flag found k) (flag stop k) (same (body_at P k) (E.Entity s)) h))

-- the choice among the edges of a frontier
pub record SubjectLeads (d : Candidate → Bool) (P : Pool) (on stop : List ℕ) (n : Node) (e : Role) (r : Choice) : Type 0 where
  pub found : List ℕ
  pub reaches : Reaches P on stop e found
  pub best : r
      ≡ cond (has_subject P stop found n.subject) (better d C.Nothing (child_for 1 n (E.Entity n.subject) n.subject))
      (folded P.count (offer d (is_member P stop found false n) (member_edge P n)) C.Nothing)

module _ {P : Pool} {stop found : List ℕ} {xs : List Expression} (D : Reads P stop found xs) where
  subject-read : (s : ℕ) → has_subject P stop found s ≡ any (same (E.Entity s)) xs
  unfolding has_subject is_subject_at
  subject-read s = bool_iff (any (is_subject_at P stop found s) (up_to P.count (λ k. k))) (any (same (E.Entity s)) xs) to fro
    where
      to : any (is_subject_at P stop found s) (up_to P.count (λ k. k)) ≡ true → any (same (E.Entity s)) xs ≡ true
      to h =
          let w = any-find (is_subject_at P stop found s) (up_to P.count (λ k. k)) h in
          let u = up_to-find P.count (λ k. k) w.0 w.1 in
          let p = and_parts (flag found w.0 && flag stop w.0) (same (body_at P w.0) (E.Entity s)) w.2 in
          let q = and_parts (flag found w.0) (flag stop w.0) p.0 in
          let z : w.0 ≡ u.0 = u.2 in
          let b : body_at P w.0 ≡ E.Entity s = same-eq (body_at P w.0) (E.Entity s) p.1 in
          any_here (same (E.Entity s))
          (D.fro (E.Entity s) (record {
            at = u.0;
            below = u.1;
            flagged = ap (flag found) (sym z) ∙ q.0;
            ends = ap (flag stop) (sym z)
                ∙ q.1;
            body = ap (body_at P) (sym z) ∙ b;
          }))
          (eq-same (E.Entity s) (E.Entity s) refl)

      fro : any (same (E.Entity s)) xs ≡ true → any (is_subject_at P stop found s) (up_to P.count (λ k. k)) ≡ true
      fro h =
          let w = any-find (same (E.Entity s)) xs h in
          let m = D.to w.0 w.1 in
          any_here (is_subject_at P stop found s) (up_to-mem P.count (λ k. k) m.at m.below)
          (and_both (flag found m.at && flag stop m.at) (same (body_at P m.at) (E.Entity s))
          (and_both (flag found m.at) (flag stop m.at) m.flagged m.ends)
          (eq-same (body_at P m.at) (E.Entity s) (m.body ∙ sym (same-eq (E.Entity s) w.0 w.2))))

  -- the first edge of "If S ∈ ..", "When S ∉ .." that is not done
  pub subject-first : (d : Candidate → Bool) (n : Node) {r : Choice}
      → r ≡ cond (has_subject P stop found n.subject) (better d C.Nothing (child_for 1 n (E.Entity n.subject) n.subject))
      (folded P.count (offer d (is_member P stop found false n) (member_edge P n)) C.Nothing)
      → r ≡ first_not d C.Nothing (to_subject n xs)
  unfolding better first_not
  subject-first d n h = h ∙ go (has_subject P stop found n.subject) (any (same (E.Entity n.subject)) xs) (subject-read n.subject)
    where
      one : Candidate
      one = child_for 1 n (E.Entity n.subject) n.subject

      others : Choice
      others = folded P.count (offer d (is_member P stop found false n) (member_edge P n)) C.Nothing

      go : (a b : Bool) → a ≡ b → cond a (better d C.Nothing one) others
          ≡ first_not d C.Nothing (cond b (one ∷ []) (implications n (keep (λ x. not (is_entity x)) xs)))
      go a true e = ap (λ (x : Bool). cond x (better d C.Nothing one) others) e
      go a false e =
          ap (λ (x : Bool). cond x (better d C.Nothing one) others) e
          ∙ (members-first D false n d refl ∙ ap (λ (ws : List Candidate). first_not d C.Nothing (ordered ws)) (no-entities n xs))

-- by whether the subject is a member
module _ (d : Candidate → Bool) {P : Pool} {on stop found : List ℕ} (n : Node) {e : Role} (R : Reaches P on stop e found) {h : Bool}
    (p : h ≡ has_subject P stop found n.subject) where
  chosen_by : (b : Bool) → h ≡ b → {r : Choice}
      → r ≡ cond b (better d C.Nothing (child_for 1 n (E.Entity n.subject) n.subject))
      (folded P.count (offer d (is_member P stop found false n) (member_edge P n)) C.Nothing) → SubjectLeads d P on stop n e r
  chosen_by b k q =
      record {
        found = found;
        reaches = R;
        best =
            q ∙ sym (ap (λ (x : Bool). cond x (better d C.Nothing (child_for 1 n (E.Entity n.subject) n.subject))
            (folded P.count (offer d (is_member P stop found false n) (member_edge P n)) C.Nothing)) (sym p ∙ k));
      }

  pub subject-found : h ≡ true → {w : Candidate} {r : Choice} → w ≡ child_for 1 n (E.Entity n.subject) n.subject → r ≡ better d C.Nothing w
      → SubjectLeads d P on stop n e r
  subject-found k f q = chosen_by true k (q ∙ ap (better d C.Nothing) f)

  pub subject-others : h ≡ false → {r : Choice} → r ≡ folded P.count (offer d (is_member P stop found false n) (member_edge P n)) C.Nothing
      → SubjectLeads d P on stop n e r
  subject-others k q = chosen_by false k q
