use native.Mathlib.Omega.{arith}
use Rattle.report.specs.laws.Report.{pack-is}
use Rattle.report.proofs.pack.Goals as goal

pub returns : goal.returns
returns c = (
  pack-is c.wide-3.ensures.0 c.wide-2.ensures.0 c.wide.ensures.0 c.wide_size-3.ensures
      c.wide_size-2.ensures c.wide_size.ensures c.wide16.ensures.0 c.wide16-2.ensures.0,
  omega (
    arith,
    c.wide-3.ensures.1,
    c.wide-2.ensures.1,
    c.wide.ensures.1,
    c.wide_size-3.ensures,
    c.wide_size-2.ensures,
    c.wide_size.ensures,
    c.wide16.ensures.0,
    c.wide16-2.ensures.0,
    c.requires.0,
    c.requires.1,
    c.requires.2,
    c.requires.3,
    c.requires.4,
  ),
)
