-- The rule of the satisfied nodes, by its parts. Assumes nothing.
use Rattle.std.specs.Prelude.{ℕ, ◌+◌, ◌*◌, ◌≤◌, ◌<◌, ◌≡◌, Bool, true, ◌&&◌, eqb, ltb}
use Rattle.std.proofs.Common.{arith, eqb-true, eq-eqb, ltb-true, lt-ltb}
use Rattle.word.specs.laws.Bools.{and_parts, and_both}
use Rattle.propagation.specs.laws.Flags.{any_to-find, all_to-each, all_to-of}
use Rattle.propagation.specs.Flags.{at}
use Rattle.propagation.specs.laws.Least.{Monotone, least-mono}
use Rattle.propagation.specs.laws.Satisfied.{Graph, from_at, slot_at, node_at, filled_by, satisfied_rule, satisfied_of}
use Rattle.word.specs.laws.Search.{any_to-here}

pub filled-find : (m : ℕ) (G : Graph) (s : ℕ → Bool) (k : ℕ) → filled_by m G s k ≡ true → (j : ℕ) × (j < m) × (slot_at G j ≡ k) × (s (from_at G j) ≡ true)
unfolding filled_by
filled-find m G s k h =
    let r = any_to-find m (λ j. eqb (slot_at G j) k && s (from_at G j)) h in
    let p = and_parts (eqb (slot_at G r.0) k) (s (from_at G r.0)) r.2 in
    (r.0, r.1, eqb-true (slot_at G r.0) k p.0, p.1)

pub filled-here : (m : ℕ) (G : Graph) (s : ℕ → Bool) (k j : ℕ) → j < m → slot_at G j ≡ k → s (from_at G j) ≡ true → filled_by m G s k ≡ true
unfolding filled_by
filled-here m G s k j l e h = any_to-here m (λ j. eqb (slot_at G j) k && s (from_at G j)) j l (and_both _ _ (eq-eqb (slot_at G j) k e) h)

-- more edges and more nodes fill more slots
pub filled-mono : (m n : ℕ) (G : Graph) (s t : ℕ → Bool) → m ≤ n → ((i : ℕ) → s i ≡ true → t i ≡ true) → (k : ℕ) → filled_by m G s k ≡ true
    → filled_by n G t k ≡ true
filled-mono m n G s t l f k h =
    let r = filled-find m G s k h in
    let q : r.0 < m = r.1 in
    filled-here n G t k r.0 (omega arith) r.2 (f (from_at G r.0) r.3)

pub satisfied-parts : (m : ℕ) (G : Graph) (s : ℕ → Bool) (i : ℕ) → satisfied_rule m G s i ≡ true
    → (node_at G i < 5) × ((k : ℕ) → k < node_at G i → filled_by m G s (i * 4 + k) ≡ true)
unfolding satisfied_rule
satisfied-parts m G s i h = let p = and_parts (ltb (node_at G i) 5) _ h in (ltb-true (node_at G i) 5 p.0, λ k q. all_to-each (node_at G i) _ p.1 k q)

pub satisfied-of : (m : ℕ) (G : Graph) (s : ℕ → Bool) (i : ℕ) → node_at G i < 5 → ((k : ℕ) → k < node_at G i → filled_by m G s (i * 4 + k) ≡ true)
    → satisfied_rule m G s i ≡ true
unfolding satisfied_rule
satisfied-of m G s i l h = and_both _ _ (lt-ltb (node_at G i) 5 l) (all_to-of (node_at G i) _ h)

satisfied-wider : (m n : ℕ) (G : Graph) (s t : ℕ → Bool) → m ≤ n → ((i : ℕ) → s i ≡ true → t i ≡ true) → (i : ℕ) → satisfied_rule m G s i ≡ true
    → satisfied_rule n G t i ≡ true
satisfied-wider m n G s t l f i h = let p = satisfied-parts m G s i h in satisfied-of n G t i p.0 (λ k q. filled-mono m n G s t l f (i * 4 + k) (p.1 k q))

pub satisfied-mono : (m : ℕ) (G : Graph) → Monotone (satisfied_rule m G)
satisfied-mono m G = record { mono = λ s t f i h. satisfied-wider m m G s t (omega arith) f i h }

-- more edges, more satisfied nodes
pub satisfied-more : (m n : ℕ) (G : Graph) → m ≤ n → (i : ℕ) → at (satisfied_of m G) i ≡ true → at (satisfied_of n G) i ≡ true
unfolding satisfied_of
satisfied-more m n G l =
    least-mono (satisfied_rule m G) (satisfied_rule n G) 128 (satisfied-mono m G) (satisfied-mono n G) (λ s i h. satisfied-wider m n G s s l (λ j p. p) i h)
