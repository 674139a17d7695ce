use Rattle.propagation.proofs.failing.Failures.run_queue.Goals as goal

pub drop_chain-requires : goal.drop_chain-requires
drop_chain-requires c = let chained = c.requires.1.1 in
    (c.loop-q.invariant.0, chained.next_low, (c.requires.1.0, chained.head-low _, c.loop-q.invariant.1 _ chained c.requires.1.2))

pub loop-q-preserved : goal.loop-q-preserved
loop-q-preserved c = (
  c.drop_chain.ensures.0,
  λ m chained w. c.drop_chain.ensures.1 m (chained.head-low _) (c.loop-q.invariant.1 m chained w),
)
