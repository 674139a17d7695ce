use Rattle.begin.specs.laws.Begin.{begin-outside, begin-tables, begin-role, begin-other, begin-fresh, within-fresh}
use Rattle.begin.proofs.begin.Goals as goal

pub returns-then-negotiation-ne-BYTES : goal.returns-then-negotiation-ne-BYTES
returns-then-negotiation-ne-BYTES c =
    let t = begin-outside c.args.tables.now c.args.negotiation.now c.args.other c.args.entity c.args.name c.if-negotiation-ne-BYTES.true in
    record { answered = t.0; left = t.1 }

pub returns-in-Err : goal.returns-in-Err
returns-in-Err c =
    let t = begin-tables c.args.tables.now c.args.negotiation.now c.args.other c.args.entity c.args.name c.decode.result c.if-negotiation-ne-BYTES.false
    c.decode.ensures.0 c.in-Err.is in
    record { answered = t.0; left = t.1 }

pub returns-then-k-ne0 : goal.returns-then-k-ne0
returns-then-k-ne0 c =
    let t = begin-role c.args.tables.now c.args.negotiation.now c.args.other c.args.entity c.args.name c.decode.result c.if-negotiation-ne-BYTES.false
    c.decode.ensures.0 c.in-Ok.is c.role_number-k.ensures c.if-k-ne0.true in
    record { answered = t.0; left = t.1 }

pub returns-then-m-ne0 : goal.returns-then-m-ne0
returns-then-m-ne0 c =
    let t = begin-other c.args.tables.now c.args.negotiation.now c.args.other c.args.entity c.args.name c.decode.result c.if-negotiation-ne-BYTES.false
    c.decode.ensures.0 c.in-Ok.is c.role_number-k.ensures c.if-k-ne0.false c.other_number-m.ensures c.if-m-ne0.true in
    record { answered = t.0; left = t.1 }

pub write-requires : goal.write-requires
write-requires c = (within-fresh _ _ _ _ _ c.fresh-fresh.ensures, c.if-negotiation-ne-BYTES.false)

pub returns : goal.returns
returns c =
    let t = begin-fresh c.args.tables.now c.args.negotiation.now c.args.other c.args.entity c.args.name c.decode.result c.if-negotiation-ne-BYTES.false
    c.decode.ensures.0 c.in-Ok.is c.role_number-k.ensures c.if-k-ne0.false c.other_number-m.ensures c.if-m-ne0.false c.side_of.ensures
    c.fresh-fresh.ensures c.write.ensures in
    record { answered = t.0; left = t.1 }
