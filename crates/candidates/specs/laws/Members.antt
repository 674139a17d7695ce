-- The implication edges to the members of a frontier, read off the columns. Assumes nothing.
use Rattle.std.specs.Prelude.{ℕ, ◌≡◌, Bool, true, false, not, cond, ◌&&◌, ◌||◌}
use Rattle.std.proofs.Math.Path.{refl, ap, subst}
use Rattle.std.proofs.Common.{sym, ◌∙◌, ⊎_elim}
use mathlib.Core.List.Memᴰ
use mathlib.Core.List.{List, [], ◌∷◌, map, Memᴰ}
use Rattle.expression.specs.declared.Role.{Role}
use Rattle.expression.specs.declared.Credential.{Credential}
use Rattle.expression.specs.declared.Expression.{Expression}
use Rattle.expression.specs.declared.Expression.TheVariants as E
use Rattle.expression.specs.Same.{same}
use Rattle.expression.specs.laws.Same.{same-eq, eq-same}
use Rattle.expression.specs.Kinds.{is_entity}
use Rattle.rt0.specs.declared.Pool.{Pool}
use Rattle.rt0.specs.laws.Pool.{body_at}
use Rattle.rt0.specs.laws.Lists.{map-find, map-mem}
use Rattle.word.specs.laws.Bools.{and_parts, and_both}
use Rattle.rules.specs.laws.Table.{chosen}
use Rattle.tables.specs.Public.{keep}
use Rattle.tables.specs.laws.Public.{keep-find, keep-mem}
use Rattle.propagation.specs.laws.Flags.{flag}
use Rattle.frontier.specs.Frontier.{Frontier}
use Rattle.frontier.specs.laws.Frontier.{Stops, Reaches, Member, body-stopped, stopped-body, stopped-member, member-stopped, frontier-member, role-eq}
use Rattle.graph.specs.declared.Node.{Node}
use Rattle.moves.specs.declared.Candidate.{Candidate}
use Rattle.moves.specs.declared.Choice.{Choice}
use Rattle.moves.specs.declared.Choice.TheVariants as C
use Rattle.moves.specs.Frontiers.{bodies_of, frontier_of}
use Rattle.moves.specs.laws.FrontiersExact.{frontier-find, frontier-mem}
use Rattle.moves.specs.Candidates.{ordered, first_not}
use Rattle.moves.specs.Rules.{child_for, suits_node, implications}
use Rattle.candidates.specs.laws.Least.{Uniform}
use Rattle.candidates.specs.laws.Offers.{folded, offer, Among, Is, offers-first}

-- no entity but the node's subject, and that only where entities are wanted
unfoldable pub admits : Bool → Node → Expression → Bool
admits entities n x = not (is_entity x) || (entities && same x (E.Entity n.subject))

-- the edges to the expressions that are admitted
abbrev pub edges_to : Bool → Node → List Expression → List Candidate
edges_to entities n xs = map (λ x. child_for 1 n x n.subject) (keep (admits entities n) xs)

pub all-implications : (n : Node) (xs : List Expression) → ordered (edges_to true n xs) ≡ implications n xs
unfolding admits
all-implications n xs = refl

pub no-entities : (n : Node) (xs : List Expression)
    → edges_to false n xs ≡ map (λ x. child_for 1 n x n.subject) (keep (suits_node n) (keep (λ x. not (is_entity x)) xs))
unfolding admits
no-entities n xs = ap (map (λ x. child_for 1 n x n.subject)) (twice xs)
  where
    twice : (ys : List Expression) → keep (admits false n) ys ≡ keep (suits_node n) (keep (λ x. not (is_entity x)) ys)
    twice [] = refl
    twice (y ∷ ys) = go (is_entity y) refl (twice ys)
      where
        go : (a : Bool) → is_entity y ≡ a → keep (admits false n) ys ≡ keep (suits_node n) (keep (λ x. not (is_entity x)) ys)
            → cond (not a || false) (y ∷ keep (admits false n) ys) (keep (admits false n) ys)
            ≡ keep (suits_node n) (cond (not a) (y ∷ keep (λ x. not (is_entity x)) ys) (keep (λ x. not (is_entity x)) ys))
        go true e ih = ih
        go false e ih =
            ap (λ (zs : List Expression). y ∷ zs) ih
            ∙ sym (ap (λ (b : Bool). cond (not b || same y (E.Entity n.subject)) (y ∷ keep (suits_node n) (keep (λ x. not (is_entity x)) ys))
            (keep (suits_node n) (keep (λ x. not (is_entity x)) ys))) e)

pub edges-uniform : (entities : Bool) (n : Node) (xs : List Expression) → Uniform 1 n.verifier (edges_to entities n xs)
edges-uniform entities n xs =
    record {
      each = λ w m. let f = map-find (λ x. child_for 1 n x n.subject) (keep (admits entities n) xs) m in
          (ap (λ (v : Candidate). v.kind) f.2, ap (λ (v : Candidate). v.verifier) f.2, ap (λ (v : Candidate). v.direct) f.2);
    }

-- What is read off the columns

-- credential k was found, and its body is a stop
unfoldable pub is_stopped : List ℕ → List ℕ → ℕ → Bool
is_stopped stop r k = flag r k && flag stop k

-- and it is admitted
unfoldable pub is_member : Pool → List ℕ → List ℕ → Bool → Node → ℕ → Bool
is_member P stop r entities n k = flag r k && flag stop k && admits entities n (body_at P k)

unfoldable pub member_edge : Pool → Node → ℕ → Candidate
member_edge P n k = child_for 1 n (body_at P k) n.subject

-- the best of b and the edges to the members of the frontier of e
pub record Extended (d : Candidate → Bool) (P : Pool) (on stop : List ℕ) (entities : Bool) (n : Node) (e : Role) (b r : Choice) : Type 0 where
  pub found : List ℕ
  pub reaches : Reaches P on stop e found
  pub best : r ≡ folded P.count (offer d (is_member P stop found entities n) (member_edge P n)) b

-- the expressions are the members that the columns say
pub record Reads (P : Pool) (stop found : List ℕ) (xs : List Expression) : Type 0 where
  pub to : (x : Expression) → Memᴰ x xs → Member P stop found x
  pub fro : (x : Expression) → Member P stop found x → Memᴰ x xs

module _ {P : Pool} {on stop found : List ℕ} {e : Role} {pred : Expression → Bool} (S : Stops pred P stop) (R : Reaches P on stop e found) where
  -- the frontiers of the bodies of a role's credentials
  pub reads-bodies : Reads P stop found (frontier_of pred (chosen P on) (bodies_of (chosen P on) (E.Role e)))
  reads-bodies = record { to = to; fro = fro }
    where
      K : List Credential
      K = keep (λ (c : Credential). same (E.Role c.head) (E.Role e)) (chosen P on)

      to : (x : Expression) → Memᴰ x (frontier_of pred (chosen P on) (bodies_of (chosen P on) (E.Role e))) → Member P stop found x
      to x m =
          let f = frontier-find pred (chosen P on) (bodies_of (chosen P on) (E.Role e)) m in
          let b = map-find (λ (c : Credential). c.body) K f.1 in
          let c = keep-find (λ (c : Credential). same (E.Role c.head) (E.Role e)) (chosen P on) b.1 in
          stopped-member S R (body-stopped S b.0 c.0 (role-eq (same-eq (E.Role b.0.head) (E.Role e) c.1))
          (subst (λ (y : Expression). Frontier pred (chosen P on) y x) b.2 f.2))

      fro : (x : Expression) → Member P stop found x → Memᴰ x (frontier_of pred (chosen P on) (bodies_of (chosen P on) (E.Role e)))
      fro x m =
          let b = stopped-body S (member-stopped S R m) in
          frontier-mem pred (chosen P on) (bodies_of (chosen P on) (E.Role e))
          (map-mem (λ (c : Credential). c.body) (keep-mem (λ (c : Credential). same (E.Role c.head) (E.Role e)) b.1
          (eq-same (E.Role b.0.head) (E.Role e) (ap E.Role b.2))))
          b.3

  -- the frontier of a role of which the predicate is not true
  pub reads-role : pred (E.Role e) ≡ false → Reads P stop found (frontier_of pred (chosen P on) (E.Role e ∷ []))
  reads-role n =
      record {
        to =
            λ x m. let f = frontier-find pred (chosen P on) (E.Role e ∷ []) m in (frontier-member S n R).0
            (subst (λ (y : Expression). Frontier pred (chosen P on) y x) (alone f.1) f.2);
        fro = λ x m. frontier-mem pred (chosen P on) (E.Role e ∷ []) (Memᴰ.head refl) ((frontier-member S n R).1 m);
      }
    where
      alone : {x : Expression} → Memᴰ x (E.Role e ∷ []) → x ≡ E.Role e
      alone m = ⊎_elim (λ q. q) (λ k. absurd (Memᴰ.not-nil k)) (Memᴰ.cases_cons m)

module _ {P : Pool} {stop found : List ℕ} {xs : List Expression} (D : Reads P stop found xs) (entities : Bool) (n : Node) where
  pub edges-among : (w : Candidate) → Memᴰ w (edges_to entities n xs) → Among P.count (is_member P stop found entities n) (Is (member_edge P n)) w
  unfolding is_member member_edge
  edges-among w m =
      let f = map-find (λ x. child_for 1 n x n.subject) (keep (admits entities n) xs) m in
      let k = keep-find (admits entities n) xs f.1 in
      let q = D.to f.0 k.0 in
      record {
        at = q.at;
        below = q.below;
        passes =
            and_both (flag found q.at && flag stop q.at) (admits entities n (body_at P q.at))
            (and_both (flag found q.at) (flag stop q.at) q.flagged q.ends) (ap (admits entities n) q.body ∙ k.1);
        leads = record { same = f.2 ∙ ap (λ (x : Expression). child_for 1 n x n.subject) (sym q.body) };
      }

  pub among-edges : (w : Candidate) → Among P.count (is_member P stop found entities n) (Is (member_edge P n)) w → Memᴰ w (edges_to entities n xs)
  unfolding is_member member_edge
  among-edges w a =
      let p = and_parts (flag found a.at && flag stop a.at) (admits entities n (body_at P a.at)) a.passes in
      let q = and_parts (flag found a.at) (flag stop a.at) p.0 in
      subst (λ (v : Candidate). Memᴰ v (edges_to entities n xs)) (sym a.leads.same)
      (map-mem (λ x. child_for 1 n x n.subject) (keep-mem (admits entities n)
      (D.fro (body_at P a.at) (record { at = a.at; below = a.below; flagged = q.0; ends = q.1; body = refl })) p.1))

  -- the first edge in order that is not done
  pub members-first : (d : Candidate → Bool) {r : Choice}
      → r ≡ folded P.count (offer d (is_member P stop found entities n) (member_edge P n)) C.Nothing
      → r ≡ first_not d C.Nothing (ordered (edges_to entities n xs))
  members-first d e =
      e ∙ offers-first d (is_member P stop found entities n) (member_edge P n) P.count (edges_to entities n xs) (edges-uniform entities n xs)
      edges-among among-edges
