use mathlib.Core.Path.{◌∙◌, ap}
use mathlib.Core.List.{List, ◌++◌}
use Rattle.expression.specs.declared.Credential.{Credential}
use Rattle.rt0.specs.laws.Pool.{credentials}
use Rattle.sending.specs.laws.Fresh.{unshown-chosen}
use Rattle.sending.proofs.unshown.fresh_pool.Goals as goal

pub returns-clause-flags : goal.returns-clause-flags
returns-clause-flags c = λ on h.
    let flags = c.refresh.ensures on h in
    (flags, c.own_pool.ensures.all ∙ ap (λ (l : List Credential). credentials c.args.shown.now ++ l) (unshown-chosen flags))
