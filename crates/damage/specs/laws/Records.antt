-- Nodes and credentials, by their tests. Assumes nothing.
use Rattle.std.specs.Prelude.{ℕ, ◌≤◌, ◌<◌, ◌≡◌, Bool, true, false, ◌&&◌, ◌||◌, List, eqb, ltb}
use Rattle.std.proofs.Common.{arith, sym, ◌∙◌, subst}
use Rattle.std.proofs.Math.Path.{refl, ap}
use Rattle.std.proofs.Math.Logic.{⊎_elim}
use Rattle.std.proofs.Math.Bool.{not, cond}
use borrow.Author.Tests.{eq-eqb, ne_eqb, not-true, not-false}
use Rattle.expression.specs.declared.Role.{Role}
use Rattle.expression.specs.declared.Credential.{Credential}
use Rattle.expression.specs.declared.Expression.{Expression}
use Rattle.expression.specs.declared.Expression.TheVariants as E
use Rattle.expression.specs.Form.{well_formed}
use Rattle.expression.specs.Same.{same}
use Rattle.expression.specs.Credential.{well_formed_credential}
use Rattle.expression.specs.Kinds.{is_role_expression}
use Rattle.rt0.specs.declared.Pool.{Pool}
use Rattle.rt0.specs.Lists.{any}
use Rattle.word.specs.laws.Bools.{false-true}
use Rattle.rt0.specs.laws.Pool.{head_at, body_at, credential_at}
use Rattle.class.specs.declared.Name.{Name}
use Rattle.class.specs.declared.Typing.{Typing}
use Rattle.class.specs.Typing.{type_of, credential_number}
use Rattle.rt0.specs.laws.Find.{any_at, any_none}
use Rattle.graph.specs.declared.Node.{Node}
use Rattle.graph.specs.declared.Nodes.{Nodes}
use Rattle.graph.specs.laws.Graph.{nodes_of, node_at}
use Rattle.graph.specs.Graph.{node_in}
use Rattle.graph.specs.laws.Columns.{nodes-length, node_in_lem}
use Rattle.graph.specs.Form.{legal_state}
use Rattle.graph.specs.Find.{is_node, find_node}
use Rattle.graph.specs.laws.FindExact.{find_cases}
use Rattle.negotiation.specs.declared.Header.{Header}
use Rattle.negotiation.specs.Ends.{requester}
use Rattle.damage.specs.Records.{is_typed, node_sound, node_fits, primary_sound, credential_sound, credential_fits}
use Rattle.rt0.specs.Shown.{is_shown}
use Rattle.numbers.specs.Sizes.{MOST-NODES}

-- Nodes

pub node-is : (ns : List Name) (n : Node) {w l y : Bool} {t : Typing} → w ≡ well_formed n.expression → l ≡ legal_state n.expression n.state
    → t ≡ type_of ns n.expression → y ≡ is_typed t
    → (w && ltb 0 n.subject && ltb n.verifier 2 && l && y) ≡ node_sound ns n
unfolding node_sound
node-is ns n e f g h = λ i. e i && ltb 0 n.subject && ltb n.verifier 2 && f i && (h ∙ ap is_typed g) i

module _ (ns : List Name) (before : List Node) (n : Node) where
  by-node : (a b : Bool) → a ≡ node_sound ns n → b ≡ any (is_node n.expression n.verifier n.subject) before → (a && not b) ≡ node_fits ns before n
  unfolding node_fits
  by-node a b e f = λ i. e i && not (f i)

-- a search for a node finds none exactly where none is it
module _ (N : Nodes) (x : Expression) (v s : ℕ) (few : N.count ≤ MOST-NODES) where
  pub found_none : eqb (find_node (nodes_of N) x v s) 128 ≡ not (any (is_node x v s) (nodes_of N))
  unfolding nodes_of
  found_none = ⊎_elim
      (λ a. eq-eqb (find_node (nodes_of N) x v s) 128 a.number
      ∙ ap not (any_none {t = is_node x v s} {g = node_at N} N.count
      (record { none = λ i l. ap (is_node x v s) (sym (node_in_lem N i l)) ∙ a.none i (omega (arith, nodes-length N)) }) (omega arith)))
      (λ f. ne_eqb (find_node (nodes_of N) x v s) 128 (λ e. omega (arith, nodes-length N, f.inside))
      ∙ ap not (any_at {t = is_node x v s} {g = node_at N} N.count
      (record { none = λ i l. ap (is_node x v s) (sym (node_in_lem N i (omega (arith, nodes-length N, f.inside)))) ∙ f.least i l })
      (omega (arith, nodes-length N, f.inside)) refl
      (ap (is_node x v s) (sym (node_in_lem N (find_node (nodes_of N) x v s) (omega (arith, nodes-length N, f.inside)))) ∙ f.here)))
      (find_cases (nodes_of N) x v s)

-- X is node i, behind those of M
module _ (ns : List Name) (N M : Nodes) {i : ℕ} {X : Node} {a : Bool} (l : i < N.count) (e : X ≡ node_in (nodes_of N) i) (s : a ≡ node_sound ns X) where
  -- it is not sound
  pub node-unsound : not a ≡ true → false ≡ node_fits ns (nodes_of M) (node_at N i)
  node-unsound h = subst (λ (n : Node). false ≡ node_fits ns (nodes_of M) n) (e ∙ node_in_lem N i l) (by-node ns (nodes_of M) X false _ (sym (not-true a h) ∙ s) refl)

  -- it is, and was looked for among them
  pub node-new : {r : ℕ} → M.count ≤ 128 → not a ≡ false → r ≡ find_node (nodes_of M) X.expression X.verifier X.subject
      → eqb r 128 ≡ node_fits ns (nodes_of M) (node_at N i)
  node-new {r} few h f = subst (λ (n : Node). eqb r 128 ≡ node_fits ns (nodes_of M) n) (e ∙ node_in_lem N i l)
      (ap (λ (k : ℕ). eqb k 128) f ∙ found_none M X.expression X.verifier X.subject few
      ∙ by-node ns (nodes_of M) X true _ (sym (not-false a h) ∙ s) refl)

-- The primary

module _ (h : Header) (n : Node) where
  by-primary : (a b c d : Bool) → a ≡ eqb n.verifier 0 → b ≡ eqb n.subject (requester h) → c ≡ eqb h.side 0
      → (a && b && cond c (same n.expression (E.Role h.wanted)) (is_role_expression n.expression)) ≡ primary_sound h n
  unfolding primary_sound
  by-primary a b c d e f g = λ i. e i && f i && cond (g i) (same n.expression (E.Role h.wanted)) (is_role_expression n.expression)

  neither : (a b : Bool) → (not a || not b) ≡ true → (z : Bool) → false ≡ (a && b && z)
  neither true true k z = absurd (false-true k)
  neither true false k z = refl
  neither false b k z = refl

  both : (a b : Bool) → (not a || not b) ≡ false → (a ≡ true) × (b ≡ true)
  both true true k = (refl, refl)
  both true false k = absurd (false-true (sym k))
  both false b k = absurd (false-true (sym k))

  module _ {q : ℕ} (qe : q ≡ requester h) where
    pub primary-other : (not (eqb n.verifier 0) || not (eqb n.subject q)) ≡ true → false ≡ primary_sound h n
    primary-other k =
        neither (eqb n.verifier 0) (eqb n.subject q) k _
        ∙ by-primary (eqb n.verifier 0) (eqb n.subject q) (eqb h.side 0) true refl (ap (eqb n.subject) qe) refl

    module _ (k : (not (eqb n.verifier 0) || not (eqb n.subject q)) ≡ false) where
      pub primary-wanted : {b : Bool} → h.side ≡ 0 → b ≡ same n.expression (E.Role h.wanted) → b ≡ primary_sound h n
      primary-wanted e f =
          let p = both (eqb n.verifier 0) (eqb n.subject q) k in f
          ∙ by-primary true true true true (sym p.0) (sym p.1 ∙ ap (eqb n.subject) qe) (sym (eq-eqb h.side 0 e))

      pub primary-role : {b : Bool} → (h.side ≡ 0 → ⊥) → b ≡ is_role_expression n.expression → b ≡ primary_sound h n
      primary-role e f =
          let p = both (eqb n.verifier 0) (eqb n.subject q) k in f
          ∙ by-primary true true false true (sym p.0) (sym p.1 ∙ ap (eqb n.subject) qe) (sym (ne_eqb h.side 0 e))

-- Credentials

pub credential-is : (ns : List Name) (c : Credential) {w : Bool} {k : ℕ} → w ≡ well_formed_credential c → k ≡ credential_number ns c
    → (w && eqb k 0) ≡ credential_sound ns c
unfolding credential_sound
credential-is ns c e f = λ i. e i && eqb (f i) 0

module _ (ns : List Name) (before : List Credential) (c : Credential) where
  by-credential : (a b : Bool) → a ≡ credential_sound ns c → b ≡ is_shown before c → (a && not b) ≡ credential_fits ns before c
  unfolding credential_fits
  by-credential a b e f = λ i. e i && not (f i)

-- the credential i of P, by its head and its body
module _ (ns : List Name) (before : List Credential) (P : Pool) (i : ℕ) {h : Role} {x : Expression} {a : Bool} (he : h ≡ head_at P i)
    (xe : x ≡ body_at P i) (s : a ≡ credential_sound ns (record { head = h; body = x })) where
  whole : record { head = h; body = x } ≡ credential_at P i
  whole = λ t. record { head = he t; body = xe t }

  pub credential-unsound : not a ≡ true → false ≡ credential_fits ns before (credential_at P i)
  credential-unsound k = by-credential ns before (credential_at P i) false _ (sym (not-true a k) ∙ s ∙ ap (credential_sound ns) whole) refl

  pub credential-new : {b : Bool} → not a ≡ false → b ≡ is_shown before (record { head = h; body = x }) → not b ≡ credential_fits ns before (credential_at P i)
  credential-new {b} k f =
      by-credential ns before (credential_at P i) true b (sym (not-false a k) ∙ s ∙ ap (credential_sound ns) whole) (f ∙ ap (is_shown before) whole)
