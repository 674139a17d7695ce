use native.Mathlib.Omega.{arith}
use Rattle.reply.specs.laws.Outgoing.{size-outgoing, size_few}
use Rattle.reply.proofs.carry.size_of_outgoing.Goals as goal

pub overflow_add-result : goal.overflow_add-result
overflow_add-result c = omega (arith, size_few c.args.out.now.command c.count_on.ensures.few c.size_of.ensures)

pub returns : goal.returns
returns c = record {
  size = size-outgoing c.args.out.now c.count_on.ensures.counted c.size_of.ensures;
  few = size_few c.args.out.now.command
      c.count_on.ensures.few c.size_of.ensures;
}
