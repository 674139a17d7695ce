use Rattle.std.proofs.Common.{rules, refl}
use Rattle.rt0.specs.laws.Added.{Sized, Stored, stored-in}
use Rattle.rt0.proofs.Pool.push.Goals as goal

pub returns-clause-stored : goal.returns-clause-stored
returns-clause-stored c =
    let z : Sized c.args.self.now = record { heads = search rules; kinds = search rules; numbers = search rules } in
    stored-in c.args.self.now.count c.args.c c.args.self.now c.raw_of-raw.result refl c.requires z c.raw_of-raw.ensures c.store_head.ensures
    c.store_kind.ensures c.store_numbers.ensures

pub returns-clause-added : goal.returns-clause-added
returns-clause-added c =
    let z : Sized c.args.self.now = record { heads = search rules; kinds = search rules; numbers = search rules } in
    (stored-in c.args.self.now.count c.args.c c.args.self.now c.raw_of-raw.result refl c.requires z c.raw_of-raw.ensures c.store_head.ensures
    c.store_kind.ensures c.store_numbers.ensures).all
