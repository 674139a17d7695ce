-- Refusals, by the tests made one after the other. Assumes nothing.
use Rattle.std.specs.Prelude.{ℕ, ◌≤◌, ◌<◌, ◌≡◌, refl, Bool, true, false, not, ◌&&◌, ◌||◌, List, eqb, leb, length}
use Rattle.std.proofs.Common.{arith, ◌∙◌}
use Rattle.std.proofs.Math.Path.{sym, ap}
use Rattle.std.proofs.Math.Bool.{cond, and-true}
use borrow.Author.Tests.{eq-eqb, ne_eqb, eqb-true, eqb-false, le-leb, lt-leb}
use Rattle.rt0.specs.laws.Pool.{credentials}
use Rattle.rt0.specs.laws.Added.{count-length}
use Rattle.class.specs.declared.Name.{Name}
use Rattle.graph.specs.laws.Graph.{nodes_of, edges_of}
use Rattle.graph.specs.laws.Columns.{nodes-length, edges-length}
use Rattle.message.specs.declared.Command.{Command}
use Rattle.negotiation.specs.declared.Negotiation.{Negotiation}
use Rattle.negotiation.specs.State.{State}
use Rattle.negotiation.specs.laws.State.{state_of}
use Rattle.legal.specs.Number.{refuse, first, is_fresh, is_absent, justified_by, legal_by}
use Rattle.numbers.specs.Sizes.{MOST-SHOWN}

module _ (b : Bool) (k rest : ℕ) where
  -- the test holds
  pub stops : b ≡ true → k ≡ refuse b k rest
  unfolding refuse
  stops e = ap (λ (a : Bool). cond a k rest) (sym e)

  -- it does not
  pub passes : {r : ℕ} → b ≡ false → r ≡ rest → r ≡ refuse b k rest
  unfolding refuse
  passes e h = h ∙ ap (λ (a : Bool). cond a k rest) (sym e)

module _ (n k rest : ℕ) (e : n ≡ k) where
  pub first_stops : (n ≡ 0 → ⊥) → n ≡ first k rest
  unfolding first
  first_stops h = ap (λ (a : Bool). cond a rest n) (sym (ne_eqb n 0 h)) ∙ ap (λ (m : ℕ). cond (eqb m 0) rest m) e

  pub first_passes : {r : ℕ} → n ≡ 0 → r ≡ rest → r ≡ first k rest
  unfolding first
  first_passes h q = q ∙ ap (λ (a : Bool). cond a rest n) (sym (eq-eqb n 0 h)) ∙ ap (λ (m : ℕ). cond (eqb m 0) rest m) e

-- what is not refused was not to be refused, and is not refused further on
pub refuse-none : (b : Bool) (k rest : ℕ) → 0 < k → refuse b k rest ≡ 0 → (b ≡ false) × (rest ≡ 0)
unfolding refuse
refuse-none true k rest l h = absurd (omega arith)
refuse-none false k rest l h = (refl, h)

pub first-none : (k rest : ℕ) → first k rest ≡ 0 → (k ≡ 0) × (rest ≡ 0)
unfolding first
first-none k rest h = go (eqb k 0) refl h
  where
    go : (b : Bool) → eqb k 0 ≡ b → cond b rest k ≡ 0 → (k ≡ 0) × (rest ≡ 0)
    go true e g = (eqb-true k 0 e, g)
    go false e g = absurd (eqb-false k 0 e g)

module _ (n : Negotiation) where
  pub fresh-yes : n.nodes.count ≡ 0 → is_fresh (state_of n) ≡ true
  unfolding is_fresh state_of
  fresh-yes h = eq-eqb (length (nodes_of n.nodes)) 0 (nodes-length n.nodes ∙ h)

  pub fresh-no : (n.nodes.count ≡ 0 → ⊥) → is_fresh (state_of n) ≡ false
  unfolding is_fresh state_of
  fresh-no h = ne_eqb (length (nodes_of n.nodes)) 0 (λ e. h (sym (nodes-length n.nodes) ∙ e))

  pub absent-yes : (i : ℕ) → n.nodes.count ≤ i → is_absent (state_of n) i ≡ true
  unfolding is_absent state_of
  absent-yes i h = le-leb (length (nodes_of n.nodes)) i (omega (arith, nodes-length n.nodes))

  pub absent-no : (i : ℕ) → i < n.nodes.count → is_absent (state_of n) i ≡ false
  unfolding is_absent state_of
  absent-no i h = lt-leb (length (nodes_of n.nodes)) i (omega (arith, nodes-length n.nodes))

  pub shown-full : 64 ≤ n.shown.count → leb 64 (length (credentials n.shown)) ≡ true
  shown-full h = le-leb 64 (length (credentials n.shown)) (omega (arith, count-length n.shown))

  pub shown-room : n.shown.count < MOST-SHOWN → leb 64 (length (credentials n.shown)) ≡ false
  shown-room h = lt-leb 64 (length (credentials n.shown)) (omega (arith, count-length n.shown))

  pub edges-same : leb 256 n.edges.count ≡ leb 256 (length (edges_of n.edges))
  edges-same = ap (leb 256) (sym (edges-length n.edges))

  pub sizes-same : (leb 128 n.nodes.count || leb 256 n.edges.count) ≡ (leb 128 (length (nodes_of n.nodes)) || leb 256 (length (edges_of n.edges)))
  sizes-same = λ i. leb 128 (sym (nodes-length n.nodes) i) || leb 256 (sym (edges-length n.edges) i)

  -- one of two nodes is absent
  pub both-present : (i j : ℕ) → i < n.nodes.count → j < n.nodes.count → (is_absent (state_of n) i || is_absent (state_of n) j) ≡ false
  both-present i j h g = λ t. absent-no i h t || absent-no j g t

  pub parent-absent : (i j : ℕ) → n.nodes.count ≤ i → (is_absent (state_of n) i || is_absent (state_of n) j) ≡ true
  parent-absent i j h = ap (λ (b : Bool). b || is_absent (state_of n) j) (absent-yes i h)

  pub child-absent : (i j : ℕ) → i < n.nodes.count → n.nodes.count ≤ j → (is_absent (state_of n) i || is_absent (state_of n) j) ≡ true
  child-absent i j h g = λ t. absent-no i h t || absent-yes j g t

-- Justification, by kind

same-where : (x p i : Bool) → (x ≡ true → p ≡ i) → (not x || p) ≡ (not x || i)
same-where true p i h = h refl
same-where false p i h = refl

module _ (k : ℕ) (i m : Bool) where
  -- a linking implication, and any other
  pub by-monitored : {r : Bool} → k ≡ 4 → r ≡ m → r ≡ justified_by k i m
  unfolding justified_by
  by-monitored h e = e ∙ ap (λ (n : ℕ). (not (eqb n 1) || i) && (not (eqb n 4) || m)) (sym h)

  pub by-proved : {p : Bool} → eqb k 4 ≡ false → (eqb k 1 ≡ true → p ≡ i) → (not (eqb k 1) || p) ≡ justified_by k i m
  unfolding justified_by
  by-proved {p} h e = same-where (eqb k 1) p i e ∙ sym (and-true (not (eqb k 1) || i)) ∙ ap (λ (b : Bool). (not (eqb k 1) || i) && (not b || m)) (sym h)

-- One of the commands

pub legal-for : (ns : List Name) (s : ℕ) (S : State) (c k : Command) (j : Bool) {r : ℕ} → c ≡ k → r ≡ legal_by ns s S k j → r ≡ legal_by ns s S c j
legal-for ns s S c k j h e = e ∙ ap (λ (d : Command). legal_by ns s S d j) (sym h)
