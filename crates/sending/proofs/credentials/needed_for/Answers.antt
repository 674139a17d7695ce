use mathlib.Core.Path.{refl, ◌∙◌, ap}
use mathlib.Core.List.{List, ◌++◌}
use Rattle.expression.specs.declared.Credential.{Credential}
use Rattle.rt0.specs.laws.Pool.{credentials}
use Rattle.sending.specs.laws.Behind.{behind-count}
use Rattle.sending.specs.laws.Relevant.{sends-whole}
use Rattle.sending.specs.laws.SentLaws.{side-chosen}
use Rattle.sending.specs.laws.Unshown.{unshown_of}
use Rattle.sending.proofs.credentials.needed_for.Goals as goal

pub needed_of-requires : goal.needed_of-requires
needed_of-requires c = (behind-count _ _ _ c.side_pool-pool.ensures.all, c.side_pool-pool.ensures.few)

pub returns-clause-sent : goal.returns-clause-sent
returns-clause-sent c =
    let l = credentials c.args.n.now.shown in
    let set = side-chosen c.args.own.now c.requires.0 _ c.args.n.now.header.side c.args.x refl in
    sends-whole c.args.n.now.shown _ _ _ _ (c.side_pool-pool.ensures.all ∙ ap (λ (cs : List Credential). l ++ unshown_of l cs) set)
    c.needed_of.ensures
