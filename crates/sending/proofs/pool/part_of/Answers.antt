use Rattle.std.proofs.Common.{◌≡◌, [], length, ap, arith}
use Rattle.rt0.specs.declared.Pool.{Pool}
use Rattle.rt0.specs.laws.Pool.{credentials}
use Rattle.rt0.specs.laws.Added.{count-length}
use Rattle.sending.specs.laws.Relevant.{part-is}
use Rattle.sending.proofs.pool.part_of.Goals as goal

none : (P : Pool) → credentials P ≡ [] → P.count ≡ 0
none P h = omega (arith, count-length P, ap length h)

pub push_range-requires : goal.push_range-requires
push_range-requires c = (omega arith, omega arith, omega (arith, none _ c.empty-part.ensures))

pub push_range-requires-2 : goal.push_range-requires-2
push_range-requires-2 c =
    let first = c.push_range.ensures c.args.shown (omega arith) in
    (c.requires.1, c.requires.0, omega (arith, first.few, none _ c.empty-part.ensures))

pub returns : goal.returns
returns c =
    part-is _ _ _ _ _ _ _ c.requires.0 c.requires.1 (omega arith) (none _ c.empty-part.ensures)
    (c.push_range.ensures c.args.pool.now.count c.requires.1) (c.push_range-2.ensures c.args.pool.now.count (omega arith))
