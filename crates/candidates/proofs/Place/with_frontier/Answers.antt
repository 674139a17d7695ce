use Rattle.candidates.proofs.Place.with_frontier.Goals as goal

pub returns : goal.returns
returns c = record { found = _; reaches = c.reached-found.ensures; best = c.with_members.ensures _ }
