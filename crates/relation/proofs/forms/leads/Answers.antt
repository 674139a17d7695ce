use mathlib.Core.Path.{ap}
use mathlib.Core.Bool.{not}
use Rattle.relation.specs.laws.Reached.{leads-name, leads-bit, leads-source, leads-is}
use Rattle.relation.proofs.forms.leads.Goals as goal

pub returns-then-pool-j : goal.returns-then-pool-j
returns-then-pool-j c = leads-name c.args.pool.now c.args.mem.now c.args.vals.now c.args.z c.args.r c.args.m c.args.j c.if-pool-j.true

pub returns-then-not-bit : goal.returns-then-not-bit
returns-then-not-bit c =
    leads-bit c.args.pool.now c.args.mem.now c.args.vals.now c.args.z c.args.r c.args.m c.args.j c.bit.ensures (ap not c.if-not-bit.true)

pub returns-then-s-ge128 : goal.returns-then-s-ge128
returns-then-s-ge128 c =
    leads-source c.args.pool.now c.args.mem.now c.args.vals.now c.args.z c.args.r c.args.m c.args.j c.find_source-s.result
    c.find_source-s.ensures c.if-s-ge128.true

pub returns : goal.returns
returns c =
    leads-is c.args.pool.now c.args.mem.now c.args.vals.now c.args.z c.args.r c.args.m c.args.j c.find_source-s.result c.if-pool-j.false
    c.bit.ensures (ap not c.if-not-bit.false) c.find_source-s.ensures c.bit-2.ensures
