-- What is kept beside the negotiation while commands arrive: what the credentials shown prove, and which nodes are satisfied. Assumes nothing.
use Rattle.std.specs.Prelude.{ℕ, ◌≡◌, refl, ◌⊎◌, Bool, true, not, ◌&&◌, ◌||◌}
use Rattle.std.proofs.Math.Path.{sym, subst}
use Rattle.std.proofs.Common.{◌∙◌, ap, ⊎_elim}
use Rattle.std.proofs.Math.Bool.{false}
use mathlib.Core.List.{List}
use Rattle.std.proofs.lemmas.Bool.{not-true, not-false}
use Rattle.word.specs.laws.Bools.{false-true, or-neither}
use Rattle.rt0.specs.declared.Pool.{Pool}
use Rattle.rt0.specs.laws.Pool.{credentials}
use Rattle.graph.specs.declared.Node.{Node}
use Rattle.graph.specs.declared.Edge.{Edge}
use Rattle.graph.specs.laws.Graph.{nodes_of, edges_of}
use Rattle.justification.specs.laws.Justified.{Says}
use Rattle.message.specs.declared.Command.{Command}
use Rattle.message.specs.declared.Command.TheVariants.{Show, Open, Bring, Join, Mark, End}
use Rattle.negotiation.specs.declared.Negotiation.{Negotiation}
use Rattle.negotiation.specs.State.{State, with_node, with_edge, with_mark}
use Rattle.negotiation.specs.laws.State.{state_of}
use Rattle.legal.specs.declared.Proved.{Proved}
use Rattle.legal.specs.laws.Proved.{ProvedBy}
use Rattle.applied.specs.Step.{stepped, is_move}
use Rattle.legal.specs.laws.Judged.{is_implication, is_linking, ProvedFor, SaysFor}
use Rattle.applied.specs.laws.SameStates.{Inside}
use Rattle.applied.specs.laws.KeepsStates.{keeps_states, keeps-states}
use Rattle.take.specs.declared.Progress.{Progress}

abbrev pub is_credential : Command → Bool
is_credential (Show c) = true
is_credential (Open o) = false
is_credential (Bring n) = false
is_credential (Join e) = false
is_credential (Mark i) = false
is_credential End = false

-- What is kept

-- where it is not stale, it is what the pool proves
pub record Current (stale : Bool) (known : Proved) (pool : Pool) : Type 0 where
  pub knows : stale ≡ false → ProvedBy known.pool known.rules known.rows
  pub same : stale ≡ false → credentials known.pool ≡ credentials pool

-- the same where a command asks it, too
pub record CurrentFor (stale : Bool) (c : Command) (known : Proved) (pool : Pool) : Type 0 where
  pub knows : (stale && not (is_implication c)) ≡ false → ProvedBy known.pool known.rules known.rows
  pub same : (stale && not (is_implication c)) ≡ false → credentials known.pool ≡ credentials pool

-- where it is not unsettled, the column says which nodes are satisfied, and each edge leads into a node
pub record CurrentStates (unsettled : Bool) (sat : List ℕ) (ns : List Node) (es : List Edge) : Type 0 where
  pub says : unsettled ≡ false → Says ns es sat
  pub inside : unsettled ≡ false → Inside ns es

pub record Keeps (known : Proved) (k : Progress) (n : Negotiation) : Type 0 where
  pub current : Current k.stale known n.shown
  pub settled : CurrentStates k.unsettled k.sat (nodes_of n.nodes) (edges_of n.edges)

-- when a command is judged, what it asks is there
pub record Ready (k : Progress) (n : Negotiation) (c : Command) (r : Progress) : Type 0 where
  pub moved : r.moved ≡ k.moved
  pub stale : r.stale ≡ (k.stale && not (is_implication c))
  pub settled : CurrentStates r.unsettled r.sat (nodes_of n.nodes) (edges_of n.edges)
  pub says : SaysFor c (nodes_of n.nodes) (edges_of n.edges) r.sat

-- past a command
pub record Carried (k : Progress) (ns : List Node) (c : Command) (r : Progress) : Type 0 where
  pub moved : r.moved ≡ (k.moved || is_move c)
  pub stale : r.stale ≡ (k.stale || is_credential c)
  pub sat : r.sat ≡ k.sat
  pub unsettled : r.unsettled ≡ (k.unsettled || not (keeps_states ns k.sat c))

-- nothing is
pub keeps-start : (known : Proved) (k : Progress) (n : Negotiation) → k.stale ≡ true → k.unsettled ≡ true → Keeps known k n
keeps-start known k n s u =
    record {
      current = record { knows = λ e. absurd (false-true (sym e ∙ s)); same = λ e. absurd (false-true (sym e ∙ s)) };
      settled = record { says = λ e. absurd (false-true (sym e ∙ u)); inside = λ e. absurd (false-true (sym e ∙ u)) };
    }

-- Made ready

-- it was there before
unasked : (x y : Bool) → (x && y) ≡ false → y ≡ true → x ≡ false
unasked true true h e = absurd (false-true (sym h))
unasked true false h e = absurd (false-true e)
unasked false y h e = refl

unstale : (x y : Bool) → (x && y) ≡ false → (x && not y) ≡ false → x ≡ false
unstale true true h e = absurd (false-true (sym h))
unstale true false h e = absurd (false-true (sym e))
unstale false y h e = refl

-- what an implication asks
module _ (known : Proved) (stale : Bool) (c : Command) (pool : Pool) where
  pub current-left : (o : Proved) {b : Bool} → Current stale o pool → b ≡ is_implication c → (stale && b) ≡ false → known ≡ o → CurrentFor stale c known pool
  current-left o {b} h be z e =
      let old : (stale && not (is_implication c)) ≡ false → stale ≡ false = λ y. unstale stale b z (ap (λ (x : Bool). stale && not x) be ∙ y) in
      subst (λ (x : Proved). CurrentFor stale c x pool) (sym e) (record { knows = λ y. h.knows (old y); same = λ y. h.same (old y) })

  pub current-made : (r : Proved) → ProvedBy r.pool r.rules r.rows → r.pool ≡ pool → known ≡ r → CurrentFor stale c known pool
  current-made r w s e = subst (λ (x : Proved). CurrentFor stale c x pool) (sym e) (record { knows = λ y. w; same = λ y. ap credentials s })

  pub current-by : {A B : Type 0} → (A → CurrentFor stale c known pool) → (B → CurrentFor stale c known pool) → A ⊎ B → CurrentFor stale c known pool
  current-by f g h = ⊎_elim f g h

  pub proved-for : CurrentFor stale c known pool → ProvedFor c known.pool known.rules known.rows pool
  proved-for h =
      let fresh : is_implication c ≡ true → (stale && not (is_implication c)) ≡ false = λ y. ap (λ (x : Bool). stale && not x) y ∙ none stale in
      record { knows = λ y. h.knows (fresh y); same = λ y. h.same (fresh y) }
    where
      none : (x : Bool) → (x && false) ≡ false
      none true = refl
      none false = refl

-- and a linking implication
module _ (k : Progress) (n : Negotiation) (c : Command) {b : Bool} (be : b ≡ is_implication c) where
  pub ready-left : {l : Bool} → CurrentStates k.unsettled k.sat (nodes_of n.nodes) (edges_of n.edges) → l ≡ is_linking c
      → not (k.unsettled && l) ≡ true
      → Ready k n c (record { moved = k.moved; stale = k.stale && not b; sat = k.sat; unsettled = k.unsettled })
  ready-left {l} h le z =
      record {
        moved = refl;
        stale = ap (λ (x : Bool). k.stale && not x) be;
        settled = h;
        says = record { says = λ y. h.says (unasked k.unsettled l (not-true (k.unsettled && l) z) (le ∙ y)) };
      }

  pub ready_made : (sat : List ℕ) (i : Bool) → Says (nodes_of n.nodes) (edges_of n.edges) sat
      → (i ≡ true → Inside (nodes_of n.nodes) (edges_of n.edges))
      → Ready k n c (record { moved = k.moved; stale = k.stale && not b; sat = sat; unsettled = not i })
  ready_made sat i s h =
      record {
        moved = refl;
        stale = ap (λ (x : Bool). k.stale && not x) be;
        settled = record { says = λ e. s; inside = λ e. h (not-false i e) };
        says = record { says = λ y. s };
      }

-- Past a command

module _ (k : Progress) (ns : List Node) (c : Command) {v b : Bool} (ve : v ≡ is_move c) (be : b ≡ is_credential c) where
  pub carried-unsettled : k.unsettled ≡ true → Carried k ns c (record { moved = k.moved || v; stale = k.stale || b; sat = k.sat; unsettled = true })
  carried-unsettled z =
      record {
        moved = ap (λ (x : Bool). k.moved || x) ve;
        stale = ap (λ (x : Bool). k.stale || x) be;
        sat = refl;
        unsettled = sym (ap (λ (x : Bool). x || not (keeps_states ns k.sat c)) z);
      }

  pub carried-settled : {r : Bool} → k.unsettled ≡ false → r ≡ keeps_states ns k.sat c
      → Carried k ns c (record { moved = k.moved || v; stale = k.stale || b; sat = k.sat; unsettled = not r })
  carried-settled z re =
      record {
        moved = ap (λ (x : Bool). k.moved || x) ve;
        stale = ap (λ (x : Bool). k.stale || x) be;
        sat = refl;
        unsettled = ap not re ∙ sym (ap (λ (x : Bool). x || not (keeps_states ns k.sat c)) z);
      }

pub moved-next : {k q r : Progress} {ns : List Node} (n : Negotiation) (c : Command) → Ready k n c q → Carried q ns c r → r.moved ≡ (k.moved || is_move c)
moved-next n c j w = w.moved ∙ ap (λ (x : Bool). x || is_move c) j.moved

-- a command but a credential leaves the credentials shown
shown-same : (S : State) (s : ℕ) (c : Command) → is_credential c ≡ false → (stepped S s c).shown ≡ S.shown
unfolding stepped with_node with_edge with_mark
shown-same S s (Show c) h = absurd (false-true (sym h))
shown-same S s (Open o) h = refl
shown-same S s (Bring n) h = refl
shown-same S s (Join e) h = refl
shown-same S s (Mark i) h = refl
shown-same S s End h = refl

module _ {known : Proved} {k q r : Progress} (n n' : Negotiation) (s : ℕ) (c : Command) (h : CurrentFor k.stale c known n.shown)
    (j : Ready k n c q) (e : state_of n' ≡ stepped (state_of n) s c)
    (w : Carried q (nodes_of n.nodes) c r) where
  current-next : Current r.stale known n'.shown
  unfolding state_of
  current-next =
      let both : r.stale ≡ false → (q.stale ≡ false) × (is_credential c ≡ false) = λ z. or-neither q.stale (is_credential c) (sym w.stale ∙ z) in
      record {
        knows = λ z. h.knows (sym j.stale ∙ (both z).0);
        same = λ z. h.same (sym j.stale ∙ (both z).0) ∙ sym (ap (λ (S : State). S.shown) e ∙ shown-same (state_of n) s c (both z).1);
      }

  states-next : CurrentStates r.unsettled r.sat (nodes_of n'.nodes) (edges_of n'.edges)
  unfolding state_of
  states-next =
      let both : r.unsettled ≡ false → (q.unsettled ≡ false) × (not (keeps_states (nodes_of n.nodes) q.sat c) ≡ false) =
      λ z. or-neither q.unsettled (not (keeps_states (nodes_of n.nodes) q.sat c)) (sym w.unsettled ∙ z) in
      let next : r.unsettled ≡ false → Says (stepped (state_of n) s c).nodes (stepped (state_of n) s c).edges q.sat
      × Inside (stepped (state_of n) s c).nodes (stepped (state_of n) s c).edges =
      λ z. keeps-states (state_of n) s c q.sat (j.settled.says (both z).0) (j.settled.inside (both z).0)
      (not-false (keeps_states (nodes_of n.nodes) q.sat c) (both z).1) in
      record {
        says =
            λ z. subst (λ (x : List ℕ). Says (nodes_of n'.nodes) (edges_of n'.edges) x) (sym w.sat)
            (subst (λ (S : State). Says S.nodes S.edges q.sat) (sym e) (next z).0);
        inside = λ z. subst (λ (S : State). Inside S.nodes S.edges) (sym e) (next z).1;
      }

  pub keeps-next : Keeps known r n'
  keeps-next = record { current = current-next; settled = states-next }
