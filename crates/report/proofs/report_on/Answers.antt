use Rattle.report.specs.laws.Report.{report-is}
use Rattle.report.proofs.report_on.Goals as goal

pub returns : goal.returns
returns c = (report-is _ _ c.requires.0 c.state_of-propagated.ensures c.pack.ensures.0, c.pack.ensures.1)
