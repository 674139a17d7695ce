use Rattle.frontier.proofs.Work.enter_body.Goals as goal

pub returns-in-Role : goal.returns-in-Role
returns-in-Role c = λ K N. rw c.in-Role.is (c.enter.ensures K N)
