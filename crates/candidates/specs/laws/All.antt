-- The edges of a linked target A.r1.r2 whose first name is issuer-traces-all: to the frontiers of the roles B.r2, for "each entity B such that
-- A.r1 ← B" (section 5.3). Assumes nothing.
use Rattle.std.specs.Prelude.{ℕ, ◌≤◌, ◌≡◌, refl, ◌⊎◌, Bool, false, ◌&&◌, replicate}
use Rattle.std.proofs.Common.{arith, ◌∙◌, inl}
use Rattle.std.proofs.Math.Path.{sym, ap, subst}
use Rattle.std.proofs.Math.Logic.{inr, ⊎_elim}
use Rattle.std.proofs.Math.Bool.{true, cond}
use mathlib.Core.List.{List, map, Memᴰ}
use borrow.Author.Tests.{eq-eqb, ne_eqb}
use Rattle.expression.specs.declared.Role.{Role}
use Rattle.expression.specs.declared.Credential.{Credential}
use Rattle.expression.specs.declared.Expression.{Expression}
use Rattle.expression.specs.declared.Expression.TheVariants as E
use Rattle.expression.specs.Kinds.{is_entity}
use Rattle.rt0.specs.declared.Pool.{Pool}
use Rattle.rt0.specs.From.{role_of}
use Rattle.rt0.specs.Decide.{from? as from_of}
use Rattle.rt0.specs.laws.Pool.{body_at, credential_at, credentials}
use Rattle.rt0.specs.laws.Lists.{map-find, map-mem}
use Rattle.word.specs.laws.Bools.{false-true}
use Rattle.rules.specs.laws.Table.{chosen}
use Rattle.relation.specs.laws.Reached.{all-on}
use Rattle.class.specs.laws.Names.{names_of}
use Rattle.class.specs.Names.{class_of}
use Rattle.tables.specs.Tables.{Tables}
use Rattle.tables.specs.laws.Tables.{tables_of}
use Rattle.tables.specs.Public.{keep}
use Rattle.tables.specs.laws.Public.{keep-find, keep-mem}
use Rattle.propagation.specs.laws.Flags.{flag}
use Rattle.frontier.specs.Frontier.{Frontier, here}
use Rattle.frontier.specs.laws.Frontier.{Stops, Member, frontier-here, frontier-stopped, stopped-frontier, chain-below}
use Rattle.graph.specs.declared.Node.{Node}
use Rattle.needed.specs.laws.Column.{up_to-mem, up_to-find}
use Rattle.moves.specs.declared.Preparation.{Preparation}
use Rattle.moves.specs.declared.Candidate.{Candidate}
use Rattle.moves.specs.declared.Choice.{Choice}
use Rattle.moves.specs.declared.Choice.TheVariants as C
use Rattle.moves.specs.Frontiers.{gather, frontier_of, oppo}
use Rattle.moves.specs.laws.FrontiersExact.{gather-mem, gather-find, frontier-find, frontier-mem}
use Rattle.moves.specs.laws.Stops.{predicate_of, Told}
use Rattle.moves.specs.laws.Own.{Prepared}
use Rattle.moves.specs.Candidates.{first_not}
use Rattle.moves.specs.Rules.{entities_in, child_for, implications}
use Rattle.candidates.specs.laws.Least.{better, Best, best-start, best-same, best-next, best-first}
use Rattle.candidates.specs.laws.Offers.{folded, offer, Among, among-best}
use Rattle.candidates.specs.laws.Collected.{entity-eq, other-entity, MemberTo, Collected}
use Rattle.candidates.specs.laws.Frontiers.{issuer-few}
use Rattle.candidates.specs.laws.Members.{admits, edges_to, all-implications, edges-uniform, is_member, member_edge, Reads, members-first}

-- "each entity B such that A.r1 ← B"
abbrev pub all_members : List Credential → Role → List ℕ
all_members I a = keep (λ b. from_of I (E.Role a) (E.Entity b)) (gather (λ (c : Credential). entities_in c.body) I)

abbrev pub all_edges : Tables → Node → Role → ℕ → List Candidate
all_edges T n a r = implications n (frontier_of (oppo T.names) T.issuer_stored (map (λ b. E.Role (role_of b r)) (all_members T.issuer_stored a)))

-- x is an entity, and a is from it
unfoldable pub is_from : List Credential → Role → Expression → Bool
is_from I a x = is_entity x && from_of I (E.Role a) x

module _ (I : List Credential) (a : Role) {x : Expression} where
  pub from-entity : {b : ℕ} {t : Bool} → x ≡ E.Entity b → t ≡ from_of I (E.Role a) x → t ≡ is_from I a x
  unfolding is_from
  from-entity e h = h ∙ sym (ap (λ (y : Bool). y && from_of I (E.Role a) x) (ap is_entity e))

  pub from-other : {y : Expression} → x ≡ y → is_entity y ≡ false → false ≡ is_from I a x
  unfolding is_from
  from-other e h = sym (ap (λ (z : Bool). z && from_of I (E.Role a) x) (ap is_entity e ∙ h))

pub told-on : (P : Pool) (a : Role) {k : ℕ} {F : List ℕ} → P.count ≤ 128 → Told (is_from (chosen P (replicate 128 1)) a) P k F
    → Told (is_from (credentials P) a) P k F
told-on P a {k} {F} l t = subst (λ (I : List Credential). Told (is_from I a) P k F) (all-on P l) t

pub told-count : {pred : Expression → Bool} {P : Pool} {k m : ℕ} {F : List ℕ} → Told pred P k F → m ≤ k → k ≤ m → Told pred P m F
told-count {pred} {P} {k} {m} {F} t h l = let z : k ≡ m = omega arith in subst (λ (j : ℕ). Told pred P j F) z t

entity-in : (x : Expression) {b : ℕ} → Memᴰ b (entities_in x) → x ≡ E.Entity b
entity-in (E.Entity a) m = ⊎_elim (λ e. ap E.Entity (sym e)) (λ k. absurd (mathlib.Core.List.Memᴰ.not-nil k)) (mathlib.Core.List.Memᴰ.cases_cons m)
entity-in (E.Role a) m = absurd (mathlib.Core.List.Memᴰ.not-nil m)
entity-in (E.Linked a r) m = absurd (mathlib.Core.List.Memᴰ.not-nil m)
entity-in (E.Intersection p) m = absurd (mathlib.Core.List.Memᴰ.not-nil m)
entity-in (E.Goal r) m = absurd (mathlib.Core.List.Memᴰ.not-nil m)

-- the members are the bodies of the credentials that are flagged
module _ {P : Pool} {F : List ℕ} (a : Role) (T : Told (is_from (credentials P) a) P P.count F) where
  flagged-member : {b : ℕ} → MemberTo P F P.count b → Memᴰ b (all_members (credentials P) a)
  unfolding credentials is_from
  flagged-member {b} x =
      let z : is_from (credentials P) a (E.Entity b) ≡ true = ap (is_from (credentials P) a) (sym x.body) ∙ (sym (T.says x.at x.below) ∙ x.flagged) in
      let i : Memᴰ b (entities_in (body_at P x.at)) = subst (λ (y : Expression). Memᴰ b (entities_in y)) (sym x.body) (mathlib.Core.List.Memᴰ.head refl) in
      keep-mem (λ b. from_of (credentials P) (E.Role a) (E.Entity b))
      (gather-mem (λ (c : Credential). entities_in c.body) (up_to-mem P.count (credential_at P) x.at x.below) i) z

  member-flagged : {b : ℕ} → Memᴰ b (all_members (credentials P) a) → MemberTo P F P.count b
  unfolding credentials is_from
  member-flagged {b} m =
      let q = keep-find (λ b. from_of (credentials P) (E.Role a) (E.Entity b)) (gather (λ (c : Credential). entities_in c.body) (credentials P)) m in
      let s = gather-find (λ (c : Credential). entities_in c.body) (credentials P) q.0 in
      let u = up_to-find P.count (credential_at P) s.0 s.1 in
      let e : body_at P u.0 ≡ E.Entity b = entity-in (body_at P u.0) (subst (λ (c : Credential). Memᴰ b (entities_in c.body)) u.2 s.2) in
      record { at = u.0; below = u.1; flagged = T.says u.0 u.1 ∙ (ap (is_from (credentials P) a) e ∙ q.1); body = e }

-- the roles B.r
abbrev roles_for : List Credential → Role → ℕ → List Expression
roles_for I a r = map (λ b. E.Role (role_of b r)) (all_members I a)

-- Where the frontier of each role B.r is the role itself

-- the lesser of what is chosen and the edge to B.r, if x is an entity B
unfoldable pub offer_role : (Candidate → Bool) → Node → ℕ → Choice → Expression → Choice
offer_role d n r b (E.Entity a) = better d b (child_for 1 n (E.Role (role_of a r)) n.subject)
offer_role d n r b (E.Role a) = b
offer_role d n r b (E.Linked a s) = b
offer_role d n r b (E.Intersection p) = b
offer_role d n r b (E.Goal s) = b

-- for the body of credential k, if it is flagged
unfoldable pub offer_roles : (Candidate → Bool) → Pool → List ℕ → Node → ℕ → Choice → ℕ → Choice
offer_roles d P F n r b k = cond (flag F k) (offer_role d n r b (body_at P k)) b

offer-none : (d : Candidate → Bool) (n : Node) (r : ℕ) (b : Choice) (x : Expression) → is_entity x ≡ false → offer_role d n r b x ≡ b
unfolding offer_role
offer-none d n r b (E.Entity a) z = absurd (false-true (sym z))
offer-none d n r b (E.Role a) z = refl
offer-none d n r b (E.Linked a s) z = refl
offer-none d n r b (E.Intersection p) z = refl
offer-none d n r b (E.Goal s) z = refl

module _ (d : Candidate → Bool) (n : Node) (r : ℕ) (b : Choice) {x : Expression} where
  pub offer-entity : {a : ℕ} {w : Candidate} {c : Choice} → x ≡ E.Entity a → w ≡ child_for 1 n (E.Role (role_of a r)) n.subject → c ≡ better d b w
      → c ≡ offer_role d n r b x
  unfolding offer_role
  offer-entity e f q = q ∙ (ap (better d b) f ∙ ap (offer_role d n r b) (sym e))

  pub offer-other : {y : Expression} → x ≡ y → is_entity y ≡ false → b ≡ offer_role d n r b x
  offer-other {y} e z = sym (offer-none d n r b x (ap is_entity e ∙ z))

-- w is the edge to B.r for the body B of credential k
record Leads (P : Pool) (n : Node) (r k : ℕ) (w : Candidate) : Type 0 where
  member : ℕ
  body : body_at P k ≡ E.Entity member
  edge : w ≡ child_for 1 n (E.Role (role_of member r)) n.subject

module _ (d : Candidate → Bool) (P : Pool) (F : List ℕ) (n : Node) (r : ℕ) where
  pub roles-skip : (k : ℕ) → flag F k ≡ false → (b : Choice) → offer_roles d P F n r b k ≡ b
  unfolding offer_roles
  roles-skip k h b = ap (λ (t : Bool). cond t (offer_role d n r b (body_at P k)) b) h

  pub roles-taken : (k : ℕ) (b : Choice) {c : Choice} {x : Expression} → flag F k ≡ true → x ≡ body_at P k → c ≡ offer_role d n r b x
      → c ≡ offer_roles d P F n r b k
  unfolding offer_roles
  roles-taken k b h e q = q ∙ (ap (offer_role d n r b) e ∙ sym (ap (λ (t : Bool). cond t (offer_role d n r b (body_at P k)) b) h))

  one_more : (Q : Candidate → Type 0) (b : Choice) (k : ℕ) → Best d Q b → Best d (λ w. Q w ⊎ Leads P n r k w) (offer_role d n r b (body_at P k))
  one_more Q b k B = go (body_at P k) refl
    where
      other : (x : Expression) → body_at P k ≡ x → is_entity x ≡ false → Best d (λ w. Q w ⊎ Leads P n r k w) (offer_role d n r b x)
      other x e z =
          subst (λ (c : Choice). Best d (λ w. Q w ⊎ Leads P n r k w) c) (sym (offer-none d n r b x z))
          (best-same (λ w q. inl q) (λ w y. ⊎_elim (λ q. q) (λ l. absurd (other-entity e z l.body)) y) B)

      entity : (a : ℕ) → body_at P k ≡ E.Entity a → Best d (λ w. Q w ⊎ Leads P n r k w) (better d b (child_for 1 n (E.Role (role_of a r)) n.subject))
      entity a e =
          best-next (child_for 1 n (E.Role (role_of a r)) n.subject) (λ w q. inl q) (inr (record { member = a; body = e; edge = refl }))
          (λ w y. ⊎_elim (λ q. inl q) (λ l. inr (l.edge
          ∙ ap (λ (c : ℕ). child_for 1 n (E.Role (role_of c r)) n.subject) (entity-eq (sym l.body ∙ e)))) y) B

      go : (x : Expression) → body_at P k ≡ x → Best d (λ w. Q w ⊎ Leads P n r k w) (offer_role d n r b x)
      go (E.Entity a) e = subst (λ (c : Choice). Best d (λ w. Q w ⊎ Leads P n r k w) c) (offer-entity d n r b refl refl refl) (entity a e)
      go (E.Role a) e = other (E.Role a) e refl
      go (E.Linked a s) e = other (E.Linked a s) e refl
      go (E.Intersection p) e = other (E.Intersection p) e refl
      go (E.Goal s) e = other (E.Goal s) e refl

  module _ (pred : Expression → Bool) (a : Role) (T : Told (is_from (credentials P) a) P P.count F) (h : (b : ℕ) → pred (E.Role (role_of b r)) ≡ true) where
    abbrev targets : List Expression
    targets = frontier_of pred (credentials P) (roles_for (credentials P) a r)

    edge_leads : (w : Candidate) → Memᴰ w (edges_to true n targets) → Among P.count (flag F) (Leads P n r) w
    edge_leads w m =
        let f = map-find (λ x. child_for 1 n x n.subject) (keep (admits true n) targets) m in
        let g = frontier-find pred (credentials P) (roles_for (credentials P) a r) (keep-find (admits true n) targets f.1).0 in
        let o = map-find (λ b. E.Role (role_of b r)) (all_members (credentials P) a) g.1 in
        let x = member-flagged a T o.1 in
        let z : pred g.0 ≡ true = ap pred o.2 ∙ h o.0 in
        record {
          at = x.at;
          below = x.below;
          passes = x.flagged;
          leads = record { member = o.0; body = x.body; edge = f.2 ∙ ap (λ (x : Expression). child_for 1 n x n.subject) (frontier-here z g.2 ∙ o.2) };
        }

    leads-edge : (w : Candidate) → Among P.count (flag F) (Leads P n r) w → Memᴰ w (edges_to true n targets)
    unfolding admits
    leads-edge w x =
        let l = x.leads in
        let i = flagged-member a T (record { at = x.at; below = x.below; flagged = x.passes; body = l.body }) in
        let y = frontier-mem pred (credentials P) (roles_for (credentials P) a r) (map-mem (λ b. E.Role (role_of b r)) i) (here (h l.member)) in
        subst (λ (v : Candidate). Memᴰ v (edges_to true n targets)) (sym l.edge)
        (map-mem (λ x. child_for 1 n x n.subject) (keep-mem (admits true n) y refl))

    roles-first : {c : Choice} → c ≡ folded P.count (offer_roles d P F n r) C.Nothing → c ≡ first_not d C.Nothing (implications n targets)
    unfolding offer_roles
    roles-first e =
        e
        ∙ sym (best-first (edges_to true n targets) (edges-uniform true n targets) d
        (best-same (λ w x. ⊎_elim (λ z. absurd z) (λ y. leads-edge w y) x) (λ w y. inr (edge_leads w y))
        (among-best (flag F) (Leads P n r) (λ b k. offer_role d n r b (body_at P k)) (λ Q b k f B. one_more Q b k B) (λ w. ⊥) C.Nothing P.count
        (best-start (λ v z. z)))))
        ∙ ap (first_not d C.Nothing) (all-implications n targets)

-- Where it is not: the frontiers of all of them at once

-- the best of the edges to the members of these frontiers
pub record Together (d : Candidate → Bool) (P : Pool) (on stop F : List ℕ) (n : Node) (r : ℕ) (c : Choice) : Type 0 where
  pub all : List ℕ
  pub collected : Collected P on stop F r P.count all
  pub best : c ≡ folded P.count (offer d (is_member P stop all true n) (member_edge P n)) C.Nothing

module _ {P : Pool} {on stop F : List ℕ} {r : ℕ} {pred : Expression → Bool} (a : Role)
    (S : Stops pred P stop) (T : Told (is_from (credentials P) a) P P.count F) (h : (b : ℕ) → pred (E.Role (role_of b r)) ≡ false) where
  reads-roles : {all : List ℕ} → Collected P on stop F r P.count all → Reads P stop all (frontier_of pred (chosen P on) (roles_for (credentials P) a r))
  reads-roles {all} C = record { to = to; fro = fro }
    where
      to : (x : Expression) → Memᴰ x (frontier_of pred (chosen P on) (roles_for (credentials P) a r)) → Member P stop all x
      to x m =
          let g = frontier-find pred (chosen P on) (roles_for (credentials P) a r) m in
          let o = map-find (λ b. E.Role (role_of b r)) (all_members (credentials P) a) g.1 in
          let w = frontier-stopped S (h o.0) (subst (λ (y : Expression). Frontier pred (chosen P on) y x) o.2 g.2) in
          record {
            at = w.at;
            below = chain-below w.chain;
            flagged = C.complete o.0 w.at (member-flagged a T o.1) w.chain;
            ends =
                w.ends;
            body = w.body;
          }

      fro : (x : Expression) → Member P stop all x → Memᴰ x (frontier_of pred (chosen P on) (roles_for (credentials P) a r))
      fro x m =
          let s = C.sound m.at m.flagged in
          let g = stopped-frontier S (h s.0) (record { at = m.at; chain = s.2; ends = m.ends; body = m.body }) in
          frontier-mem pred (chosen P on) (roles_for (credentials P) a r) (map-mem (λ b. E.Role (role_of b r)) (flagged-member a T s.1)) g

  together-first : (d : Candidate → Bool) (n : Node) {c : Choice} → chosen P on ≡ credentials P → Together d P on stop F n r c
      → c ≡ first_not d C.Nothing (implications n (frontier_of pred (credentials P) (roles_for (credentials P) a r)))
  together-first d n e X =
      members-first (reads-roles X.collected) true n d X.best
      ∙ ap (first_not d C.Nothing) (all-implications n (frontier_of pred (chosen P on) (roles_for (credentials P) a r)))
      ∙ ap (λ (I : List Credential). first_not d C.Nothing (implications n (frontier_of pred I (roles_for (credentials P) a r)))) e

-- Over our tables

-- by the class of the roles' name
module _ (o : Preparation) (R : Prepared o) (d : Candidate → Bool) (n : Node) (a : Role) (r : ℕ) {F : List ℕ} {c : Choice} {k : ℕ}
    (T : Told (is_from (credentials o.house.issuer) a) o.house.issuer o.house.issuer.count F) (p : k ≡ class_of (names_of o.house.names) r) where
  pub all-roles : k ≡ 3 → c ≡ folded o.house.issuer.count (offer_roles d o.house.issuer F n r) C.Nothing
      → c ≡ first_not d C.Nothing (all_edges (tables_of o.house) n a r)
  unfolding tables_of
  all-roles h e =
      roles-first d o.house.issuer F n r (oppo (names_of o.house.names)) a T (λ b. eq-eqb (class_of (names_of o.house.names) r) 3 (sym p ∙ h)) e

  pub all-frontiers : (k ≡ 3 → ⊥) → Together d o.house.issuer (replicate 128 1) o.oppo F n r c
      → c ≡ first_not d C.Nothing (all_edges (tables_of o.house) n a r)
  unfolding tables_of predicate_of
  all-frontiers h X =
      together-first a R.oppo T (λ b. ne_eqb (class_of (names_of o.house.names) r) 3 (λ z. h (p ∙ z))) d n (all-on o.house.issuer (issuer-few R)) X
