use Prim.Native.Nat.{ℕ}
use mathlib.Core.List.{List}
use mathlib.Core.Path.{◌≡◌}
use Rattle.tables.specs.laws.Tables.{pairs_from}
use Rattle.moves.specs.declared.Choice.TheVariants as C
use Rattle.candidates.specs.laws.Place.{done_at}
use Rattle.candidates.specs.laws.Offers.{folded, offer}
use Rattle.candidates.specs.laws.Goals.{is_named_pair, pair_edge}
use Rattle.candidates.proofs.Place.with_pairs.Given as goal

abbrev pub invariant-loop-k : goal.invariant-loop-k
invariant-loop-k l = (others : List ℕ) → l.best ≡ folded l.k (offer (done_at l.self)
    (is_named_pair (pairs_from l.pairs.count l.pairs.roles others) l.r)
    (pair_edge (pairs_from l.pairs.count l.pairs.roles others) l.self.node)) C.Nothing
