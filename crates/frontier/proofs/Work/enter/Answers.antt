use mathlib.Core.List.{[]}
use native.Mathlib.Omega.{arith}
use Rattle.frontier.specs.laws.QueueLaws.{enter-next, enter-all}
use Rattle.frontier.proofs.Work.enter.Goals as goal

pub join-requires : goal.join-requires
join-requires c = (omega (arith, c.loop-i-test.true, c.requires.0), (c.loop-i.invariant c.args.p c.key_of-key.ensures [] []).base)

pub loop-i-preserved : goal.loop-i-preserved
loop-i-preserved c = λ p k K N. enter-next _ (c.loop-i.invariant p k K N) (c.join.ensures p k _ K N c.loop-i-test.true)

pub returns : goal.returns
returns c = λ K N. enter-all _ c.loop-i-test.false (c.loop-i.invariant c.args.p c.key_of-key.ensures K N)
