-- What the loop over a frontier's columns finds. Assumes nothing.
use Rattle.std.specs.Prelude.{ℕ, ◌≡◌, refl, Bool, true, false, ◌&&◌, ◌||◌, List, eqb, get_or}
use Rattle.std.proofs.Math.Path.{sym, ap}
use Rattle.std.proofs.Common.{◌∙◌}
use Rattle.std.proofs.Math.Bool.{not, cond}
use borrow.Author.Tests.{not-true, not-false}
use Rattle.expression.specs.declared.Expression.{Expression}
use Rattle.expression.specs.declared.Expression.TheVariants as E
use Rattle.expression.specs.Same.{same}
use Rattle.expression.specs.Kinds.{is_entity}
use Rattle.rt0.specs.declared.Pool.{Pool}
use Rattle.rt0.specs.laws.Pool.{body_at}
use Rattle.word.specs.laws.Bools.{false-true}
use Rattle.propagation.specs.laws.Flags.{flag}
use Rattle.graph.specs.declared.Node.{Node}
use Rattle.moves.specs.declared.Candidate.{Candidate}
use Rattle.moves.specs.declared.Choice.{Choice}
use Rattle.moves.specs.Rules.{child_for}
use Rattle.candidates.specs.laws.Least.{better}
use Rattle.candidates.specs.laws.Offers.{offer, offer-taken, offer-left}
use Rattle.candidates.specs.laws.Members.{admits, is_stopped, is_member, member_edge}

module _ (entities : Bool) (n : Node) (x : Expression) {e : Bool} (p : e ≡ is_entity x) where
  pub admits-other : not e ≡ true → true ≡ admits entities n x
  unfolding admits
  admits-other h = sym (ap (λ (b : Bool). not b || (entities && same x (E.Entity n.subject))) (sym p ∙ not-true e h))

  module _ (h : not e ≡ false) where
    entity : (b : Bool) → entities ≡ b → (b && same x (E.Entity n.subject)) ≡ admits entities n x
    unfolding admits
    entity b k = sym (λ i. not ((sym p ∙ not-false e h) i) || (k i && same x (E.Entity n.subject)))

    pub admits-none : not entities ≡ true → false ≡ admits entities n x
    admits-none k = entity false (not-true entities k)

    pub admits-same : not entities ≡ false → {r : Bool} → r ≡ same x (E.Entity n.subject) → r ≡ admits entities n x
    admits-same k q = q ∙ entity true (not-false entities k)

-- neither flag, or both
pub flags-none : (a b c : Bool) → (not a || not b) ≡ true → (a && b && c) ≡ false
flags-none true true c h = absurd (false-true h)
flags-none true false c h = refl
flags-none false b c h = refl

pub flags-both : (a b c : Bool) → (not a || not b) ≡ false → (a && b && c) ≡ c
flags-both true true c h = refl
flags-both true false c h = absurd (false-true (sym h))
flags-both false b c h = absurd (false-true (sym h))

module _ (d : Candidate → Bool) (P : Pool) (stop found : List ℕ) (entities : Bool) (n : Node) (b : Choice) (k : ℕ) where
  pub member-none : (not (eqb (get_or found k 0) 1) || not (eqb (get_or stop k 0) 1)) ≡ true → b ≡ offer d (is_member P stop found entities n) (member_edge P n) b k
  unfolding is_member
  member-none h =
      offer-left d (is_member P stop found entities n) (member_edge P n) b k (flags-none (flag found k) (flag stop k) (admits entities n (body_at P k)) h)

  module _ (h : (not (eqb (get_or found k 0) 1) || not (eqb (get_or stop k 0) 1)) ≡ false) {x : Expression} (p : x ≡ body_at P k) {a : Bool}
      (q : a ≡ admits entities n x) where
    is-admitted : is_member P stop found entities n k ≡ a
    unfolding is_member
    is-admitted = flags-both (flag found k) (flag stop k) (admits entities n (body_at P k)) h ∙ sym (q ∙ ap (admits entities n) p)

    pub member-other : not a ≡ true → b ≡ offer d (is_member P stop found entities n) (member_edge P n) b k
    member-other z = offer-left d (is_member P stop found entities n) (member_edge P n) b k (is-admitted ∙ not-true a z)

    pub member-edge : not a ≡ false → {w : Candidate} {r : Choice} → w ≡ child_for 1 n x n.subject → r ≡ better d b w
        → r ≡ offer d (is_member P stop found entities n) (member_edge P n) b k
    unfolding member_edge
    member-edge z {w} {r} e f =
        offer-taken d (is_member P stop found entities n) (member_edge P n) b k (is-admitted ∙ not-false a z)
        (f ∙ ap (better d b) (e ∙ ap (λ (y : Expression). child_for 1 n y n.subject) p))

-- what is found at a stop is offered, if it is admitted
pub member-here : (d : Candidate → Bool) (P : Pool) (stop found : List ℕ) (entities : Bool) (n : Node) (b : Choice) (k : ℕ)
    → is_stopped stop found k ≡ true → {x : Expression} {r : Choice} → x ≡ body_at P k
    → r ≡ cond (admits entities n x) (better d b (child_for 1 n x n.subject)) b → r ≡ offer d (is_member P stop found entities n) (member_edge P n) b k
unfolding offer is_stopped is_member member_edge
member-here d P stop found entities n b k h p q =
    q ∙ (ap (λ (y : Expression). cond (admits entities n y) (better d b (child_for 1 n y n.subject)) b) p
    ∙ sym (ap (λ (t : Bool). cond (t && admits entities n (body_at P k)) (better d b (child_for 1 n (body_at P k) n.subject)) b) h))

-- what is not found, or no stop, is passed over
pub member-skip : (d : Candidate → Bool) (P : Pool) (stop found : List ℕ) (entities : Bool) (n : Node) (k : ℕ) → is_stopped stop found k ≡ false
    → (b : Choice) → offer d (is_member P stop found entities n) (member_edge P n) b k ≡ b
unfolding is_stopped is_member
member-skip d P stop found entities n k h b =
    sym (offer-left d (is_member P stop found entities n) (member_edge P n) b k (ap (λ (x : Bool). x && admits entities n (body_at P k)) h))
