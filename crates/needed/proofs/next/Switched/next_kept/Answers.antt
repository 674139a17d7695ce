use Rattle.needed.proofs.next.Switched.next_kept.Goals as goal

pub returns-clause-related : goal.returns-clause-related
returns-clause-related c = λ l. c.switch_on.ensures.related c.args.pool.now.heads c.requires.2 c.requires.3
