use Prim.Native.Nat.{ℕ, ◌+◌}
use mathlib.Core.List.{List}
use mathlib.Core.Path.{◌≡◌, sym, subst}
use native.Mathlib.Omega.{arith}
use Rattle.propagation.specs.declared.satisfying.Work.{Work}
use Rattle.propagation.specs.laws.Satisfied.{Graph}
use Rattle.propagation.specs.laws.Work.{work, Full, Marked}
use Rattle.propagation.specs.laws.WorkLaws.{mark-room, full-next, full-all, done_none}
use Rattle.propagation.proofs.satisfying.Work.seed.Goals as goal

pub mark-requires : goal.mark-requires
mark-requires c = let base = (c.loop-i.invariant c.requires.2.0 c.requires.2.1 c.requires.2.2).0 in
    (omega arith, mark-room _ _ _ _ base (omega arith))

next : (m : ℕ) (G : Graph) (W X : Work) (i : ℕ) → X.got ≡ W.got → Full i G W → Marked m G W X i → Full (i + 1) G X
next m G W X i e f =
    subst (λ (l : List ℕ). Marked m G W (work l X.sat X.queue X.tail) i → Full (i + 1) G (work l X.sat X.queue X.tail)) (sym e)
    (full-next i f)

pub loop-i-preserved : goal.loop-i-preserved
loop-i-preserved c F S base = let was = c.loop-i.invariant F S base in
    let marked = c.mark.ensures.marked _ F S was.0 in
    (marked.base, next _ _ _ _ _ c.mark.ensures.got was.1 marked)

pub returns : goal.returns
returns c F S base = let was = c.loop-i.invariant F S base in
    done_none was.0 (full-all _ _ c.loop-i-test.false c.requires.1 was.1)
