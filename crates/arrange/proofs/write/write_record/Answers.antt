use Prim.Native.Nat.{ℕ, ◌+◌, ◌≤◌}
use mathlib.Core.Path.{refl, sym, ap, ◌∙◌, subst}
use mathlib.Core.List.{List}
use lib.ListN.{length}
use Rattle.expression.specs.Bytes.{pasted}
use Rattle.arrange.specs.laws.Merge.{record-cut, record-long}
use Rattle.arrange.proofs.write.write_record.Goals as goal

pub copy_in-requires : goal.copy_in-requires
copy_in-requires c = subst (λ (l : List ℕ). c.args.at + length l ≤ length c.args.out.now) (sym (record-cut c.args.s.now c.args.p _ _ c.size_by-size.ensures refl)) c.requires.1

pub returns : goal.returns
returns c = let e = c.size_by-size.ensures in
    record {
      behind = ap (λ (k : ℕ). c.args.at + k) (record-long c.args.s.now c.args.p _ c.requires.0 e);
      written = c.copy_in.ensures ∙ ap (pasted c.args.out.now c.args.at) (record-cut c.args.s.now c.args.p _ _ e refl);
    }
