use Prim.Native.Nat.{◌+◌}
use native.Mathlib.Omega.{arith}
use mathlib.Core.Path.{refl, sym, ◌∙◌}
use Rattle.std.proofs.Common.{⊎_elim}
use borrow.Author.Tests.{eq-eqb, ltb-false}
use Rattle.word.specs.laws.Bools.{false-true, and_parts, and_both}
use Rattle.propagation.specs.laws.Flags.{decided}
use Rattle.propagation.specs.laws.WorkLaws.{insert-off, insert-past, base_more, done-bring}
use Rattle.propagation.proofs.satisfying.Settling.insert.Goals as goal

pub bring-requires : goal.bring-requires
bring-requires c = (c.args.m + 1, c.args.links.now.from, omega arith, base_more _ _ _ c.requires.0 c.requires.2.base)

pub settle-requires : goal.settle-requires
settle-requires c = let on = (and_parts _ _ (sym c.is_at.ensures ∙ c.if-is_at.true)).1 in
    let brought = c.bring.ensures (c.args.m + 1) c.args.links.now.from (omega arith) on (base_more _ _ _ c.requires.0 c.requires.2.base) c.requires.2.full in
    (c.args.m + 1, c.link.ensures, done-bring _ _ _ _ c.requires.2 brought)

pub returns-then-is_at : goal.returns-then-is_at
returns-then-is_at c = let on = (and_parts _ _ (sym c.is_at.ensures ∙ c.if-is_at.true)).1 in
    let brought = c.bring.ensures (c.args.m + 1) c.args.links.now.from (omega arith) on (base_more _ _ _ c.requires.0 c.requires.2.base) c.requires.2.full in
    let linked = c.link.ensures in
    (linked, c.settle.ensures (c.args.m + 1) linked (done-bring _ _ _ _ c.requires.2 brought))

pub returns-else-is_at : goal.returns-else-is_at
returns-else-is_at c = let off = sym c.is_at.ensures ∙ c.if-is_at.false in (
  c.link.ensures,
  ⊎_elim (λ t. insert-off _ _ _ _ c.requires.0 c.requires.2 refl (λ e. false-true (sym off ∙ and_both _ _ t (eq-eqb _ _ e))))
      (λ t. insert-past _ _ _ _ c.requires.0 c.requires.2 refl (ltb-false _ _ t)) (decided _),
)
