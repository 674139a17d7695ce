-- A legal command has room, and leads to a state within the sizes. Assumes nothing.
use Rattle.std.specs.Prelude.{ℕ, ◌≡◌, true, false, not, ◌&&◌, List, [], ◌∷◌, ◌++◌, eqb}
use Rattle.std.proofs.Common.{arith, ◌∙◌, ap, length-append, length-set}
use Rattle.std.proofs.Math.Path.{refl}
use Rattle.std.proofs.Math.Bool.{Bool}
use borrow.Author.Tests.{eqb-true, lt-ltb, ltb-true, le-leb, leb-false, not-false}
use Rattle.std.proofs.Math.Dec.{ltb, leb}
use Rattle.std.proofs.Math.ListN.{length}
use Rattle.expression.specs.laws.Laws.{and_left, and_right}
use Rattle.word.specs.laws.Bools.{and_both, or-neither}
use Rattle.class.specs.declared.Name.{Name}
use Rattle.message.specs.declared.Command.{Command}
use Rattle.message.specs.declared.Command.TheVariants.{Show, Open, Bring, Join, Mark, End}
use Rattle.graph.specs.Graph.{node_in, in_state}
use Rattle.negotiation.specs.State.{State, within, with_shown, with_node, with_edge, with_mark}
use Rattle.applied.specs.Step.{stepped, has_room}
use Rattle.graph.specs.Processed.{marked_state}
use Rattle.legal.specs.Number.{is_fresh, is_absent, show_number, open_number, mark_number, join_number, bring_number, legal_by, legal_number}
use Rattle.legal.specs.laws.Number.{refuse-none, first-none}
use Rattle.numbers.specs.Sizes.{MOST-NODES, MOST-EDGES, MOST-SHOWN}

room : (most n : ℕ) → leb most n ≡ false → ltb n most ≡ true
room most n h = lt-ltb n most (leb-false most n h)

module _ (S : State) where
  stands : (i : ℕ) → is_absent S i ≡ false → ltb i (length S.nodes) ≡ true
  unfolding is_absent
  stands i h = lt-ltb i (length S.nodes) (leb-false (length S.nodes) i h)

  none : not (is_fresh S) ≡ false → ltb (length S.nodes) MOST-NODES ≡ true
  unfolding is_fresh
  none h =
      let z : length S.nodes ≡ 0 = eqb-true (length S.nodes) 0 (not-false (eqb (length S.nodes) 0) h) in lt-ltb (length S.nodes)
      MOST-NODES (omega arith)

  pub legal-room : (ns : List Name) (s : ℕ) (c : Command) → legal_number ns s S c ≡ 0 → has_room S c ≡ true
  unfolding legal_number legal_by show_number open_number mark_number join_number bring_number has_room
  legal-room ns s (Show c) h =
      room 64 (length S.shown) (refuse-none _ _ _ (omega arith)
      (refuse-none _ _ _ (omega arith) (refuse-none _ _ _ (omega arith) (first-none _ _ h).1).1).1).0
  legal-room ns s (Open o) h = none (refuse-none _ _ _ (omega arith) h).0
  legal-room ns s (Bring n) h =
      let a = refuse-none _ _ _ (omega arith) (refuse-none _ _ _ (omega arith) (first-none _ _ h).1).1 in
      let b = refuse-none _ _ _ (omega arith) (refuse-none _ _ _ (omega arith)
      (refuse-none _ _ _ (omega arith) (refuse-none _ _ _ (omega arith) a.1).1).1).1 in
      let d = or-neither (leb 128 (length S.nodes)) (leb 256 (length S.edges)) b.0 in
      and_both _ _ (and_both _ _ (stands n.parent a.0) (room 128 (length S.nodes) d.0)) (room 256 (length S.edges) d.1)
  legal-room ns s (Join e) h =
      let a = refuse-none _ _ _ (omega arith) (refuse-none _ _ _ (omega arith) (refuse-none _ _ _ (omega arith) h).1).1 in
      room 256 (length S.edges) (refuse-none _ _ _ (omega arith) (refuse-none _ _ _ (omega arith) (refuse-none _ _ _ (omega arith) a.1).1).1).0
  legal-room ns s (Mark i) h = stands i (refuse-none _ _ _ (omega arith) (refuse-none _ _ _ (omega arith) h).1).0
  legal-room ns s End h = refl

-- one more of a list that has room
one_more : {A : Type 0} (most : ℕ) (l : List A) (x : A) → ltb (length l) most ≡ true → leb (length (l ++ (x ∷ []))) most ≡ true
one_more most l x h = le-leb (length (l ++ (x ∷ []))) most (omega (arith, length-append l (x ∷ []), ltb-true (length l) most h))

sized : {a b c : Bool} → a ≡ true → b ≡ true → c ≡ true → ((a && b) && c) ≡ true
sized {a} {b} {c} h k l = and_both (a && b) c (and_both a b h k) l

module _ (S : State) (w : within S ≡ true) where
  few-nodes : leb (length S.nodes) MOST-NODES ≡ true
  unfolding within
  few-nodes =
      and_left (leb (length S.nodes) MOST-NODES) (leb (length S.edges) MOST-EDGES)
      (and_left (leb (length S.nodes) MOST-NODES && leb (length S.edges) MOST-EDGES) (leb (length S.shown) MOST-SHOWN) w)

  few-edges : leb (length S.edges) MOST-EDGES ≡ true
  unfolding within
  few-edges =
      and_right (leb (length S.nodes) MOST-NODES) (leb (length S.edges) MOST-EDGES)
      (and_left (leb (length S.nodes) MOST-NODES && leb (length S.edges) MOST-EDGES) (leb (length S.shown) MOST-SHOWN) w)

  few-shown : leb (length S.shown) MOST-SHOWN ≡ true
  unfolding within
  few-shown = and_right (leb (length S.nodes) MOST-NODES && leb (length S.edges) MOST-EDGES) (leb (length S.shown) MOST-SHOWN) w

  pub step-within : (s : ℕ) (c : Command) → has_room S c ≡ true → within (stepped S s c) ≡ true
  unfolding within stepped has_room with_shown with_node with_edge with_mark
  step-within s (Show c) h = sized few-nodes few-edges (one_more 64 S.shown c h)
  step-within s (Open o) h = sized (one_more 128 S.nodes _ h) few-edges few-shown
  step-within s (Bring n) h =
      let p : Bool = ltb n.parent (length S.nodes) in
      let q : Bool = ltb (length S.nodes) MOST-NODES in
      let r : Bool = ltb (length S.edges) MOST-EDGES in
      sized (one_more 128 S.nodes _ (and_right p q (and_left (p && q) r h))) (one_more 256 S.edges _ (and_right (p && q) r h)) few-shown
  step-within s (Join e) h = sized few-nodes (one_more 256 S.edges e h) few-shown
  step-within s (Mark i) h =
      sized (ap (λ (n : ℕ). leb n 128) (length-set S.nodes i (in_state (marked_state s (node_in S.nodes i)) (node_in S.nodes i))) ∙ few-nodes)
      few-edges few-shown
  step-within s End h = w
