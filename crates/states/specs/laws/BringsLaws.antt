-- Edges that bring a child, and those that bring none. Assumes nothing.
use Rattle.std.specs.Prelude.{◌+◌, ◌*◌, ◌≤◌, ◌<◌, ◌≡◌, Bool, true, false, ◌&&◌, List, length}
use Rattle.std.proofs.Common.{arith, ⊎_elim}
use Rattle.std.proofs.Math.Path.{ap}
use Rattle.std.proofs.Math.Bool.{cond}
use borrow.Author.Tests.{lt-ltb, ltb-true}
use Rattle.std.proofs.Math.Dec.{ltb}
use Rattle.word.specs.laws.Bools.{and_parts, and_both}
use Rattle.graph.specs.declared.Node.{Node}
use Rattle.graph.specs.declared.Edge.{Edge}
use Rattle.propagation.specs.laws.Flags.{decided}
use Rattle.states.specs.laws.Brings.{slot_for, brings, from_of, slot_of}

module _ (ns : List Node) (e : Edge) where
  pub brings-parts : brings ns e ≡ true → (e.parent < length ns) × (e.child < length ns) × (slot_for ns e < 4)
  unfolding brings
  brings-parts h =
      let p = and_parts (ltb e.parent (length ns) && ltb e.child (length ns)) (ltb (slot_for ns e) 4) h in
      let q = and_parts (ltb e.parent (length ns)) (ltb e.child (length ns)) p.0 in
      (ltb-true e.parent (length ns) q.0, ltb-true e.child (length ns) q.1, ltb-true (slot_for ns e) 4 p.1)

  pub brings-of : e.parent < length ns → e.child < length ns → slot_for ns e < 4 → brings ns e ≡ true
  unfolding brings
  brings-of a b c =
      and_both (ltb e.parent (length ns) && ltb e.child (length ns)) (ltb (slot_for ns e) 4)
      (and_both (ltb e.parent (length ns)) (ltb e.child (length ns)) (lt-ltb e.parent (length ns) a) (lt-ltb e.child (length ns) b))
      (lt-ltb (slot_for ns e) 4 c)

  -- it leads from its child into a slot of its parent
  pub from-child : brings ns e ≡ true → from_of ns e ≡ e.child
  unfolding from_of
  from-child h = ap (λ (b : Bool). cond b e.child 128) h

  pub into-slot : brings ns e ≡ true → slot_of ns e ≡ e.parent * 4 + slot_for ns e
  unfolding slot_of
  into-slot h = ap (λ (b : Bool). cond b (e.parent * 4 + slot_for ns e) 0) h

  -- another edge leads from no node
  pub from-none : brings ns e ≡ false → from_of ns e ≡ 128
  unfolding from_of
  from-none h = ap (λ (b : Bool). cond b e.child 128) h

  pub into-none : brings ns e ≡ false → slot_of ns e ≡ 0
  unfolding slot_of
  into-none h = ap (λ (b : Bool). cond b (e.parent * 4 + slot_for ns e) 0) h

  pub slot-few : length ns ≤ 128 → slot_of ns e < 512
  slot-few l = ⊎_elim (λ h. omega (arith, into-slot h, brings-parts h)) (λ h. omega (arith, into-none h)) (decided (brings ns e))
