use Prim.Native.Nat.{ℕ, ◌/◌}
use mathlib.Core.List.{List}
use mathlib.Core.Path.{◌≡◌, sym, subst, refl}
use lib.ListN.{set}
use native.Mathlib.Omega.{arith}
use Rattle.propagation.specs.declared.satisfying.Work.{Work}
use Rattle.propagation.specs.laws.Satisfied.{Graph, slot_at}
use Rattle.propagation.specs.laws.Work.{work, Base, Full, Marked, Brought}
use Rattle.propagation.specs.laws.WorkLaws.{filled, fill-at, mark-room, bring-at}
use Rattle.propagation.proofs.satisfying.Work.bring.Goals as goal

pub mark-requires : goal.mark-requires
mark-requires c = let l = c.requires.3.slots c.args.j in (omega arith, mark-room _ _ _ _ c.requires.3 (omega arith))

brought : (m : ℕ) (G : Graph) (W X : Work) (j x : ℕ) → x ≡ slot_at G j → X.got ≡ set W.got x 1 → Base m G W → Full 128 G W
    → Marked m G (filled W x) X (x / 4) → Brought m G W X j
brought m G W X j x e g b f =
    subst (λ (l : List ℕ). Marked m G (filled W x) (work l X.sat X.queue X.tail) (x / 4) → Brought m G W (work l X.sat X.queue X.tail) j) (sym g)
    (bring-at m G W j x X.sat X.queue X.tail e b f)

pub returns : goal.returns
returns c m F l on base full =
    brought _ _ _ _ _ _ refl c.mark.ensures.got base full (c.mark.ensures.marked m F _ (fill-at _ _ _ _ _ refl base l on))
