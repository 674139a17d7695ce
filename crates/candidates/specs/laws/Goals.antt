-- The edges to the solutions of a goal: "any A.r2 ∈ sensitiveRoles or A.r2 defined by a credential" (section 5.4). Assumes nothing.
use Rattle.std.specs.Prelude.{ℕ, ◌≡◌, ◌⊎◌, Bool, false, ◌&&◌, get_or}
use Rattle.std.proofs.Common.{sym, ◌∙◌}
use Rattle.std.proofs.Math.Path.{ap, subst}
use Rattle.std.proofs.Math.Logic.{inl, inr, ⊎_elim}
use Rattle.std.proofs.Math.Bool.{true, cond}
use mathlib.Core.List.Memᴰ
use mathlib.Core.List.{List, ◌++◌, map, Memᴰ}
use borrow.Author.Tests.{eqb-true, eq-eqb, ne_eqb}
use Rattle.std.proofs.Math.Dec.{eqb}
use Rattle.expression.specs.declared.Role.{Role}
use Rattle.expression.specs.declared.Credential.{Credential}
use Rattle.expression.specs.declared.Expression.TheVariants as E
use Rattle.rt0.specs.declared.Pool.{Pool}
use Rattle.rt0.specs.laws.Pool.{head_at}
use Rattle.rt0.specs.laws.Lists.{map-find, map-mem}
use Rattle.word.specs.laws.Bools.{and_parts, and_both}
use Rattle.rules.specs.laws.Table.{chosen}
use Rattle.rules.specs.laws.Exact.{chosen-mem, chosen-find}
use Rattle.record.specs.declared.Pair.{Pair}
use Rattle.tables.specs.declared.Pairs.{Pairs}
use Rattle.tables.specs.laws.Tables.{pair_at, pairs_of}
use Rattle.tables.specs.Public.{keep}
use Rattle.tables.specs.laws.Public.{keep-find, keep-mem}
use Rattle.propagation.specs.laws.Flags.{flag}
use Rattle.graph.specs.declared.Node.{Node}
use Rattle.needed.specs.laws.Column.{up_to-mem, up_to-find}
use Rattle.moves.specs.declared.Candidate.{Candidate}
use Rattle.moves.specs.declared.Choice.{Choice}
use Rattle.moves.specs.declared.Choice.TheVariants as C
use Rattle.moves.specs.Candidates.{ordered, first_not}
use Rattle.moves.specs.Rules.{child_for}
use Rattle.candidates.specs.laws.Least.{better, Uniform, Best, best-start, best-same, best-first}
use Rattle.candidates.specs.laws.Offers.{folded, offer, offer-taken, offer-left, Among, Is, offers-best}

abbrev pub solution_edge : Node → Role → Candidate
solution_edge n a = child_for 3 n (E.Role a) n.subject

-- sensitive role k has the name r
unfoldable pub is_named_pair : Pairs → ℕ → ℕ → Bool
is_named_pair Q r k = eqb (pair_at Q k).role.name r

unfoldable pub pair_edge : Pairs → Node → ℕ → Candidate
pair_edge Q n k = solution_edge n (pair_at Q k).role

-- credential k is on, and its head has the name r
unfoldable pub is_named_head : Pool → List ℕ → ℕ → ℕ → Bool
is_named_head P on r k = flag on k && eqb (head_at P k).name r

unfoldable pub head_edge : Pool → Node → ℕ → Candidate
head_edge P n k = solution_edge n (head_at P k)

-- What one turn of a loop finds

module _ (d : Candidate → Bool) (Q : Pairs) (n : Node) (r : ℕ) (b : Choice) (k : ℕ) {a : Role} (p : a ≡ (pair_at Q k).role) where
  pub pair-other : (a.name ≡ r → ⊥) → b ≡ offer d (is_named_pair Q r) (pair_edge Q n) b k
  unfolding is_named_pair
  pair-other h = offer-left d (is_named_pair Q r) (pair_edge Q n) b k (ne_eqb (pair_at Q k).role.name r (λ z. h (ap (λ (x : Role). x.name) p ∙ z)))

  pub pair-edge : a.name ≡ r → {w : Candidate} {c : Choice} → w ≡ solution_edge n a → c ≡ better d b w → c ≡ offer d (is_named_pair Q r) (pair_edge Q n) b k
  unfolding is_named_pair pair_edge
  pair-edge h f q =
      offer-taken d (is_named_pair Q r) (pair_edge Q n) b k (eq-eqb (pair_at Q k).role.name r (sym (ap (λ (x : Role). x.name) p) ∙ h))
      (q ∙ ap (better d b) (f ∙ ap (solution_edge n) p))

pub pair-named : (d : Candidate → Bool) (Q : Pairs) (n : Node) (r : ℕ) (b : Choice) (k : ℕ) {a : Role} {c : Choice} → a ≡ (pair_at Q k).role
    → c ≡ cond (eqb a.name r) (better d b (solution_edge n a)) b → c ≡ offer d (is_named_pair Q r) (pair_edge Q n) b k
unfolding offer is_named_pair pair_edge
pair-named d Q n r b k p q = q ∙ ap (λ (x : Role). cond (eqb x.name r) (better d b (solution_edge n x)) b) p

module _ (d : Candidate → Bool) (P : Pool) (on : List ℕ) (n : Node) (r : ℕ) (b : Choice) (k : ℕ) where
  pub head-off : (get_or on k 0 ≡ 1 → ⊥) → b ≡ offer d (is_named_head P on r) (head_edge P n) b k
  unfolding is_named_head
  head-off h = offer-left d (is_named_head P on r) (head_edge P n) b k (ap (λ (x : Bool). x && eqb (head_at P k).name r) (ne_eqb (get_or on k 0) 1 h))

  module _ (h : get_or on k 0 ≡ 1) {a : Role} (p : a ≡ head_at P k) where
    named : (x : Bool) → eqb (head_at P k).name r ≡ x → is_named_head P on r k ≡ x
    unfolding is_named_head
    named x e = λ i. eq-eqb (get_or on k 0) 1 h i && e i

    pub head-other : (a.name ≡ r → ⊥) → b ≡ offer d (is_named_head P on r) (head_edge P n) b k
    head-other z = offer-left d (is_named_head P on r) (head_edge P n) b k (named false (ne_eqb (head_at P k).name r (λ y. z (ap (λ (x : Role). x.name) p ∙ y))))

    pub head-edge : a.name ≡ r → {w : Candidate} {c : Choice} → w ≡ solution_edge n a → c ≡ better d b w → c ≡ offer d (is_named_head P on r) (head_edge P n) b k
    unfolding head_edge
    head-edge z f q =
        offer-taken d (is_named_head P on r) (head_edge P n) b k (named true (eq-eqb (head_at P k).name r (sym (ap (λ (x : Role). x.name) p) ∙ z)))
        (q ∙ ap (better d b) (f ∙ ap (solution_edge n) p))

  pub head-named : get_or on k 0 ≡ 1 → {a : Role} {c : Choice} → a ≡ head_at P k → c ≡ cond (eqb a.name r) (better d b (solution_edge n a)) b
      → c ≡ offer d (is_named_head P on r) (head_edge P n) b k
  unfolding offer is_named_head head_edge
  head-named h p q =
      q ∙ (ap (λ (x : Role). cond (eqb x.name r) (better d b (solution_edge n x)) b) p
      ∙ sym (ap (λ (t : Bool). cond (t && eqb (head_at P k).name r) (better d b (solution_edge n (head_at P k))) b) (eq-eqb (get_or on k 0) 1 h)))

-- Both loops

-- the roles of name r of 0x14 and of the credentials that are on
abbrev pub named_roles : ℕ → List Pair → List Credential → List Role
named_roles r S C = keep (λ (a : Role). eqb a.name r) (map (λ (p : Pair). p.role) S ++ map (λ (c : Credential). c.head) C)

module _ (n : Node) (r : ℕ) (Q : Pairs) (P : Pool) (on : List ℕ) where
  abbrev edges : List Candidate
  edges = map (solution_edge n) (named_roles r (pairs_of Q) (chosen P on))

  -- what the two loops offer
  abbrev Offered : Candidate → Type 0
  Offered w = Among Q.count (is_named_pair Q r) (Is (pair_edge Q n)) w ⊎ Among P.count (is_named_head P on r) (Is (head_edge P n)) w

  to : (w : Candidate) → Memᴰ w edges → Offered w
  unfolding pairs_of chosen is_named_pair pair_edge is_named_head head_edge
  to w m =
      let f = map-find (solution_edge n) (named_roles r (pairs_of Q) (chosen P on)) m in
      let k = keep-find (λ (a : Role). eqb a.name r) (map (λ (p : Pair). p.role) (pairs_of Q) ++ map (λ (c : Credential). c.head) (chosen P on)) f.1 in
      ⊎_elim
      (λ z.
      let p = map-find (λ (p : Pair). p.role) (pairs_of Q) z in
      let u = up_to-find Q.count (pair_at Q) p.0 p.1 in
      let e : f.0 ≡ (pair_at Q u.0).role = p.2 ∙ ap (λ (q : Pair). q.role) u.2 in
      inl (record {
        at = u.0;
        below = u.1;
        passes = ap (λ (a : Role). eqb a.name r) (sym e)
            ∙ k.1;
        leads = record { same = f.2 ∙ ap (solution_edge n) e };
      }))
      (λ z.
      let c = map-find (λ (c : Credential). c.head) (chosen P on) z in
      let u = chosen-find P on P.count c.0 c.1 in
      let e : f.0 ≡ head_at P u.0 = c.2 ∙ ap (λ (d : Credential). d.head) u.3 in
      inr (record {
        at = u.0;
        below = u.1;
        passes =
            and_both (flag on u.0) (eqb (head_at P u.0).name r) (eq-eqb (get_or on u.0 0) 1 u.2) (ap (λ (a : Role). eqb a.name r) (sym e) ∙ k.1);
        leads = record { same = f.2 ∙ ap (solution_edge n) e };
      }))
      (Memᴰ.append_cases (map (λ (p : Pair). p.role) (pairs_of Q)) k.0)

  fro : (w : Candidate) → Offered w → Memᴰ w edges
  unfolding pairs_of chosen is_named_pair pair_edge is_named_head head_edge
  fro w (inl a) =
      subst (λ (v : Candidate). Memᴰ v edges) (sym a.leads.same)
      (map-mem (solution_edge n) (keep-mem (λ (a : Role). eqb a.name r)
      (Memᴰ.append_left (map (λ (c : Credential). c.head) (chosen P on))
      (map-mem (λ (p : Pair). p.role) (up_to-mem Q.count (pair_at Q) a.at a.below))) a.passes))
  fro w (inr a) =
      let p = and_parts (flag on a.at) (eqb (head_at P a.at).name r) a.passes in
      subst (λ (v : Candidate). Memᴰ v edges) (sym a.leads.same)
      (map-mem (solution_edge n) (keep-mem (λ (a : Role). eqb a.name r)
      (Memᴰ.append_right (map (λ (p : Pair). p.role) (pairs_of Q))
      (map-mem (λ (c : Credential). c.head) (chosen-mem P on P.count a.at a.below (eqb-true (get_or on a.at 0) 1 p.0)))) p.1))

  uniform : Uniform 3 n.verifier edges
  uniform =
      record {
        each = λ w m. let f = map-find (solution_edge n) (named_roles r (pairs_of Q) (chosen P on)) m in
            (ap (λ (v : Candidate). v.kind) f.2, ap (λ (v : Candidate). v.verifier) f.2, ap (λ (v : Candidate). v.direct) f.2);
      }

  -- the first solution in order that is not done
  pub solutions-first : (d : Candidate → Bool) {b c : Choice} → b ≡ folded Q.count (offer d (is_named_pair Q r) (pair_edge Q n)) C.Nothing
      → c ≡ folded P.count (offer d (is_named_head P on r) (head_edge P n)) b
      → c ≡ first_not d C.Nothing (ordered (map (solution_edge n) (named_roles r (pairs_of Q) (chosen P on))))
  solutions-first d {b} {c} p q =
      q ∙ (ap (folded P.count (offer d (is_named_head P on r) (head_edge P n))) p
      ∙ sym (best-first edges uniform d (best-same (λ w x. ⊎_elim (λ y. ⊎_elim (λ z. absurd z) (λ z. fro w (inl z)) y) (λ z. fro w (inr z)) x)
      (λ w m. ⊎_elim (λ y. inl (inr y)) (λ y. inr y) (to w m)) both)))
    where
      first : Choice
      first = folded Q.count (offer d (is_named_pair Q r) (pair_edge Q n)) C.Nothing

      both : Best d (λ w. (⊥ ⊎ Among Q.count (is_named_pair Q r) (Is (pair_edge Q n)) w)
          ⊎ Among P.count (is_named_head P on r) (Is (head_edge P n)) w) (folded P.count (offer d (is_named_head P on r) (head_edge P n)) first)
      both =
          offers-best d (is_named_head P on r) (head_edge P n) (λ w. ⊥ ⊎ Among Q.count (is_named_pair Q r) (Is (pair_edge Q n)) w) first P.count
          (offers-best d (is_named_pair Q r) (pair_edge Q n) (λ w. ⊥) C.Nothing Q.count (best-start (λ v z. z)))
