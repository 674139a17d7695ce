use borrow.Author.Rules.{rules}
use mathlib.Core.Path.{sym, ◌∙◌, ap}
use mathlib.Core.Bool.{Bool}
use mathlib.Core.List.{◌++◌}
use Rattle.rt0.specs.laws.Pool.{credentials}
use Rattle.sending.specs.laws.Fresh.{fresh-within, fresh-issuer, fresh-subject}
use Rattle.sending.specs.laws.Unshown.{unshown_of}
use Rattle.sending.specs.laws.Sent.{side_chosen}
use Rattle.sending.proofs.unshown.Unshown.side_pool.Goals as goal

pub fresh_pool-requires : goal.fresh_pool-requires
fresh_pool-requires c = (c.requires.1, c.requires.0.housed.issuer, fresh-within _ _ c.requires.2.issuers)

pub returns-then-ours-clause-all : goal.returns-then-ours-clause-all
unfolding side_chosen
returns-then-ours-clause-all c =
    let shown = credentials c.args.shown.now in
    (c.fresh_pool.ensures.flags _ c.requires.2.issuers).1
    ∙ ap (λ (b : Bool). shown ++ unshown_of shown (side_chosen c.args.own.now b)) (sym c.if-ours.true)

pub returns-then-ours-clause-fresh : goal.returns-then-ours-clause-fresh
returns-then-ours-clause-fresh c =
    fresh-issuer c.args.shown.now c.requires.2 (search rules) (c.fresh_pool.ensures.flags _ c.requires.2.issuers).0

pub fresh_pool-requires-2 : goal.fresh_pool-requires-2
fresh_pool-requires-2 c = (c.requires.1, c.requires.0.housed.subject, fresh-within _ _ c.requires.2.subjects)

pub returns-clause-all : goal.returns-clause-all
unfolding side_chosen
returns-clause-all c =
    let shown = credentials c.args.shown.now in
    (c.fresh_pool-2.ensures.flags _ c.requires.2.subjects).1
    ∙ ap (λ (b : Bool). shown ++ unshown_of shown (side_chosen c.args.own.now b)) (sym c.if-ours.false)

pub returns-clause-fresh : goal.returns-clause-fresh
returns-clause-fresh c =
    fresh-subject c.args.shown.now c.requires.2 (search rules) (c.fresh_pool-2.ensures.flags _ c.requires.2.subjects).0
