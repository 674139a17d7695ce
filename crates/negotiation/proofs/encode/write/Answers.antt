use native.Mathlib.Omega.{arith}
use Rattle.negotiation.specs.laws.Layout.{counts, negotiation-written}
use Rattle.negotiation.proofs.encode.write.Goals as goal

pub header_bytes-b-requires : goal.header_bytes-b-requires
header_bytes-b-requires c = counts c.args.n.now c.requires.0

pub write_nodes-requires : goal.write_nodes-requires
write_nodes-requires c = (
  (counts c.args.n.now c.requires.0).0,
  omega (arith, c.write_zeros.auto.buf, c.copy_in.auto.dst, c.requires.1),
)

pub write_edges-requires : goal.write_edges-requires
write_edges-requires c = (
  (counts c.args.n.now c.requires.0).1,
  omega (arith, c.write_nodes.auto.buf, c.write_zeros.auto.buf, c.copy_in.auto.dst, c.requires.1),
)

pub write_shown-requires : goal.write_shown-requires
write_shown-requires c = (
  (counts c.args.n.now c.requires.0).2,
  omega (
    arith,
    c.write_edges.auto.buf,
    c.write_nodes.auto.buf,
    c.write_zeros.auto.buf,
    c.copy_in.auto.dst,
    c.requires.1,
  ),
)

pub returns : goal.returns
returns c =
    negotiation-written c.args.n.now c.requires.0 c.args.buf.now _ _ _ _ _ _ c.requires.1 c.header_bytes-b.ensures c.copy_in.ensures
    c.write_zeros.ensures c.write_nodes.ensures c.write_edges.ensures c.write_shown.ensures
