-- What the edges of a linked target A.r1.r2 come from, where its first name is issuer-traces-all (section 5.3). Assumes nothing.
use Rattle.std.specs.Prelude.{ℕ, ◌≡◌, refl, Bool, true, false, ◌&&◌, List, eqb, replicate}
use Rattle.std.proofs.Common.{sym, ◌∙◌, ap, subst, eqb-true}
use Rattle.expression.specs.declared.Role.{Role}
use Rattle.expression.specs.declared.Expression.{Expression}
use Rattle.expression.specs.declared.Expression.TheVariants as E
use Rattle.expression.specs.Same.{same_role}
use Rattle.expression.specs.laws.Same.{same_role-eq}
use Rattle.word.specs.laws.Bools.{false-true, and_parts}
use Rattle.rt0.specs.declared.Pool.{Pool}
use Rattle.rt0.specs.laws.Pool.{credentials}
use Rattle.rules.specs.laws.Columns.{is_linked}
use Rattle.class.specs.laws.Names.{names_of}
use Rattle.class.specs.Names.{class_of}
use Rattle.tables.specs.laws.Tables.{tables_of}
use Rattle.graph.specs.declared.Node.{Node}
use Rattle.moves.specs.declared.Preparation.{Preparation}
use Rattle.moves.specs.declared.Candidate.{Candidate}
use Rattle.moves.specs.declared.Choice.{Choice}
use Rattle.moves.specs.declared.Choice.TheVariants as C
use Rattle.moves.specs.Candidates.{first_not}
use Rattle.moves.specs.laws.Own.{Prepared}
use Rattle.moves.specs.laws.Stops.{Told}
use Rattle.candidates.specs.declared.LinkReach.{LinkReach}
use Rattle.candidates.specs.laws.Collected.{Collected}
use Rattle.candidates.specs.laws.Offers.{folded, offer}
use Rattle.candidates.specs.laws.Members.{is_member, member_edge}
use Rattle.candidates.specs.laws.All.{is_from, offer_roles, all_edges, all-roles, all-frontiers}

-- the credentials of the members where the frontier of a role of name r is the role itself, else those found from their roles of name r
pub record LinkFound (o : Preparation) (a : Role) (r : ℕ) (found : List ℕ) : Type 0 where
  pub members : List ℕ
  pub told : Told (is_from (credentials o.house.issuer) a) o.house.issuer o.house.issuer.count members
  pub roles : class_of (names_of o.house.names) r ≡ 3 → members ≡ found
  pub others : (class_of (names_of o.house.names) r ≡ 3 → ⊥)
      → Collected o.house.issuer (replicate 128 1) o.oppo members r o.house.issuer.count found

-- what is kept was found for the linked role that stands beside it
pub record Recalls (o : Preparation) (l : LinkReach) : Type 0 where
  pub last : l.known ≡ true → LinkFound o l.role l.name l.found

-- what is found is for e, if that is a linked role whose first name is issuer-traces-all
pub record LinkedBy (o : Preparation) (e : Expression) (found : List ℕ) : Type 0 where
  pub by : (a : Role) (r : ℕ) → e ≡ E.Linked a r → class_of (names_of o.house.names) a.name ≡ 2 → LinkFound o a r found

-- Found, and kept

module _ (o : Preparation) (a : Role) (r : ℕ) {F : List ℕ} {k : ℕ}
    (T : Told (is_from (credentials o.house.issuer) a) o.house.issuer o.house.issuer.count F) (p : k ≡ class_of (names_of o.house.names) r) where
  pub found-roles : k ≡ 3 → LinkFound o a r F
  found-roles h = record { members = F; told = T; roles = λ z. refl; others = λ z. absurd (z (sym p ∙ h)) }

  pub found-others : (k ≡ 3 → ⊥) → {found : List ℕ} → Collected o.house.issuer (replicate 128 1) o.oppo F r o.house.issuer.count found
      → LinkFound o a r found
  found-others h C = record { members = F; told = T; roles = λ z. absurd (h (p ∙ z)); others = λ z. C }

pub recalls-none : (o : Preparation) (l : LinkReach) → l.known ≡ false → Recalls o l
recalls-none o l h = record { last = λ k. absurd (false-true (sym h ∙ k)) }

pub recalls-same : (o : Preparation) (l : LinkReach) (a : Role) (r : ℕ) {s : Bool} → Recalls o l → s ≡ same_role l.role a
    → l.known && s && eqb l.name r ≡ true → LinkFound o a r l.found
recalls-same o l a r {s} K e h =
    let t = and_parts (l.known && s) (eqb l.name r) h in
    let u = and_parts l.known s t.0 in
    let role : l.role ≡ a = same_role-eq l.role a (sym e ∙ u.1) in
    let name : l.name ≡ r = eqb-true l.name r t.1 in
    subst (λ (m : ℕ). LinkFound o a m l.found) name (subst (λ (b : Role). LinkFound o b l.name l.found) role (K.last u.0))

-- Of one kind of expression

pub linked-by : (o : Preparation) {e : Expression} {b : Role} {s : ℕ} {found : List ℕ} → e ≡ E.Linked b s
    → (class_of (names_of o.house.names) b.name ≡ 2 → LinkFound o b s found) → LinkedBy o e found
linked-by o {e} {b} {s} {found} h L = record { by = by }
  where
    by : (a : Role) (r : ℕ) → e ≡ E.Linked a r → class_of (names_of o.house.names) a.name ≡ 2 → LinkFound o a r found
    by a r q k =
        let x : E.Linked b s ≡ E.Linked a r = sym h ∙ q in
        let role : b ≡ a = cc in
        let name : s ≡ r = cc in
        subst (λ (m : ℕ). LinkFound o a m found) name
        (subst (λ (c : Role). LinkFound o c s found) role (L (ap (λ (c : Role). class_of (names_of o.house.names) c.name) role ∙ k)))

pub linked-other : (o : Preparation) {e f : Expression} {found : List ℕ} → e ≡ f → is_linked f ≡ false → LinkedBy o e found
linked-other o h n = record { by = λ a r q k. absurd (false-true (sym n ∙ (ap is_linked (sym h) ∙ ap is_linked q))) }

pub linked-same : (o : Preparation) {e f : Expression} {found : List ℕ} → LinkedBy o e found → e ≡ f → LinkedBy o f found
linked-same o L h = record { by = λ a r q k. L.by a r (h ∙ q) k }

-- The edges

module _ (o : Preparation) (R : Prepared o) (d : Candidate → Bool) (n : Node) (r : ℕ) {found : List ℕ} {k : ℕ}
    (p : k ≡ class_of (names_of o.house.names) r) (a : Role) (L : LinkFound o a r found) where
  abbrev issuer : Pool
  issuer = o.house.issuer

  pub edges-roles : {c : Choice} → k ≡ 3 → c ≡ folded issuer.count (offer_roles d issuer found n r) C.Nothing
      → c ≡ first_not d C.Nothing (all_edges (tables_of o.house) n a r)
  edges-roles h e =
      all-roles o R d n a r L.told p h
      (e ∙ ap (λ (F : List ℕ). folded issuer.count (offer_roles d issuer F n r) C.Nothing) (sym (L.roles (sym p ∙ h))))

  pub edges-others : {c : Choice} → (k ≡ 3 → ⊥) → c ≡ folded issuer.count (offer d (is_member issuer o.oppo found true n) (member_edge issuer n)) C.Nothing
      → c ≡ first_not d C.Nothing (all_edges (tables_of o.house) n a r)
  edges-others h e = all-frontiers o R d n a r L.told p h (record { all = found; collected = L.others (λ z. h (p ∙ z)); best = e })
