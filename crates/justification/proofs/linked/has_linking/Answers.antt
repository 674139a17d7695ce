use Rattle.std.specs.Prelude.{ℕ, List, eqb, take}
use Rattle.std.proofs.Common.{arith}
use Rattle.std.proofs.lemmas.Grind.{common_steps}
use Rattle.std.proofs.lemmas.List.Folds.{list_any_at}
use Rattle.justification.proofs.linked.has_linking.Goals as goal

pub returns : goal.returns
returns c = λ e.
    let kinds : List ℕ = take c.args.edges.now.count c.args.edges.now.kind in
    record { none = λ i l. grind (arith, common_steps, list_any_at (λ k. eqb k 4) kinds i 0, e, c.contains.ensures.value) }
