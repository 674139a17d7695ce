-- Edges that join nodes. Assumes nothing.
use Rattle.std.specs.Prelude.{ℕ, ◌≤◌, ◌<◌, get_or}
use Rattle.std.proofs.Common.{arith}
use Rattle.graph.specs.declared.Edges.{Edges}

-- the ends of each edge are among n nodes
pub record Inside (n : ℕ) (E : Edges) : Type 0 where
  pub parent : (j : ℕ) → j < E.count → get_or E.parent j 0 < n
  pub child : (j : ℕ) → j < E.count → get_or E.child j 0 < n

-- they are among more
pub inside-more : {n m : ℕ} {E : Edges} → n ≤ m → Inside n E → Inside m E
inside-more l i = record { parent = λ j k. omega (arith, l, i.parent j k); child = λ j k. omega (arith, l, i.child j k) }
