use Rattle.word.specs.laws.Bit.{others-is}
use Rattle.word.proofs.others.Goals as goal

pub returns : goal.returns
returns c = others-is c.args.m c.requires c.ranges.m.fits
