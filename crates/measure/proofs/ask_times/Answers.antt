use Rattle.measure.proofs.ask_times.Goals as goal

pub ask-requires : goal.ask-requires
ask-requires c = (c.requires.0, (c.args.rules.now.words, c.requires.1), c.requires.2)
