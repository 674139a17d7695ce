-- Which side has processed a node, by its tests. Assumes nothing.
use Rattle.std.specs.Prelude.{ℕ, ◌/◌, ◌%◌, ◌≡◌, Bool, eqb}
use Rattle.std.proofs.Common.{sym, eq-eqb, ne_eqb}
use Rattle.std.proofs.Math.Path.{ap}
use Rattle.std.proofs.Math.Bool.{cond}
use Rattle.std.specs.Int.Bits.{bit_or}
use Rattle.graph.specs.declared.Node.{Node}
use Rattle.graph.specs.Processed.{processed_by, marked_state}

-- Sides

module _ (s : ℕ) (x : Node) where
  pub processed-own : x.verifier ≡ s → eqb (x.state % 2) 1 ≡ processed_by s x
  unfolding processed_by
  processed-own e = ap (λ (b : Bool). cond b (eqb (x.state % 2) 1) (eqb (x.state / 2 % 2) 1)) (sym (eq-eqb x.verifier s e))

  pub processed-other : (x.verifier ≡ s → ⊥) → eqb (x.state / 2 % 2) 1 ≡ processed_by s x
  unfolding processed_by
  processed-other e = ap (λ (b : Bool). cond b (eqb (x.state % 2) 1) (eqb (x.state / 2 % 2) 1)) (sym (ne_eqb x.verifier s e))

  pub marked-own : x.verifier ≡ s → bit_or x.state 1 ≡ marked_state s x
  unfolding marked_state
  marked-own e = ap (λ (b : Bool). cond b (bit_or x.state 1) (bit_or x.state 2)) (sym (eq-eqb x.verifier s e))

  pub marked_other : (x.verifier ≡ s → ⊥) → bit_or x.state 2 ≡ marked_state s x
  unfolding marked_state
  marked_other e = ap (λ (b : Bool). cond b (bit_or x.state 1) (bit_or x.state 2)) (sym (ne_eqb x.verifier s e))
