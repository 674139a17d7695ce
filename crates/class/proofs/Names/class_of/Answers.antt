use native.Mathlib.Omega.{arith}
use Rattle.class.specs.laws.Names.{between-all, class-here, class-none}
use Rattle.class.proofs.Names.class_of.Goals as goal

pub returns-then-self-eq0 : goal.returns-then-self-eq0
returns-then-self-eq0 c = class-none c.args.self.now.class (between-all c.args.m) (omega (arith, c.if-self-eq0.true)) (λ l. absurd (omega (arith, c.if-self-eq0.true)))

pub returns-then-self-i : goal.returns-then-self-i
returns-then-self-i c = class-none c.args.self.now.class c.place-i.ensures (omega arith) (λ l. c.if-self-i.true)

pub returns : goal.returns
returns c = class-here c.args.self.now.class c.requires.1 c.place-i.result (omega (arith, c.place-i.ensures.fits)) c.if-self-i.false
