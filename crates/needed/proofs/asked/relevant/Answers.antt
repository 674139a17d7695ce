use Rattle.needed.specs.laws.Flag.{work_start, pass-start, all_closed}
use Rattle.needed.proofs.asked.relevant.Goals as goal

pub loop-init : goal.loop-init
loop-init c = pass-start _ (work_start c.flag_asked.ensures)

pub returns-else-not-pass : goal.returns-else-not-pass
returns-else-not-pass c = all_closed _ _ c.requires
