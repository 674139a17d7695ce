use native.Mathlib.Omega.{arith}
use Rattle.rules.specs.laws.Search.{found_at, not_at, nowhere}
use Rattle.relation.specs.laws.Question.{leads_at}
use Rattle.relation.proofs.forms.leads_on.Goals as goal

pub returns-then-leads : goal.returns-then-leads
returns-then-leads c =
    found_at {n = c.args.pool.now.count} (leads_at c.args.pool.now c.args.mem.now c.args.vals.now c.args.z c.args.r c.args.m) c.loop-j.j
    (omega arith) c.leads.ensures c.if-leads.true

pub loop-j-preserved : goal.loop-j-preserved
loop-j-preserved c =
    not_at (leads_at c.args.pool.now c.args.mem.now c.args.vals.now c.args.z c.args.r c.args.m) c.loop-j.j c.loop-j.invariant c.leads.ensures
    c.if-leads.false

pub returns : goal.returns
returns c =
    nowhere {n = c.args.pool.now.count} (leads_at c.args.pool.now c.args.mem.now c.args.vals.now c.args.z c.args.r c.args.m) c.loop-j.j
    (omega arith) (omega arith) c.loop-j.invariant
