use Rattle.propagation.specs.laws.FailingLaws.{failing-start, failing-sound}
use Rattle.propagation.proofs.failing.fail_by_queue.Goals as goal

pub run_queue-requires : goal.run_queue-requires
run_queue-requires c = (
  c.fail_childless.ensures.0,
  (_, c.of-chains.ensures, c.fail_childless.ensures.1 _ _ _ (failing-start _ _ _ c.requires.1 c.requires.2 (c.tally.ensures _))),
)

pub returns : goal.returns
returns c =
    failing-sound (c.run_queue.ensures _ c.of-chains.ensures
    (c.fail_childless.ensures.1 _ _ _ (failing-start _ _ _ c.requires.1 c.requires.2 (c.tally.ensures _))))
