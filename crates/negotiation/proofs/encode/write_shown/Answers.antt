use mathlib.Core.Path.{◌≡◌, refl, ap, ◌∙◌}
use Prim.Native.Nat.{ℕ, ◌+◌, ◌*◌, ◌-◌}
use native.Mathlib.Omega.{arith}
use native.Mathlib.Nat.{le_antisymm}
use mathlib.Core.List.{List, []}
use lib.Seq.{paste-zero}
use Rattle.expression.specs.Bytes.{pasted}
use Rattle.expression.specs.Credential.{credential_bytes}
use Rattle.rt0.specs.declared.Pool.{Pool}
use Rattle.rt0.specs.Pool.{up_to}
use Rattle.rt0.specs.laws.Pool.{credential_at, credentials}
use Rattle.negotiation.specs.Layout.{records, zeros}
use Rattle.negotiation.specs.laws.Layout.{record-next, part-written, credential-size}
use Rattle.negotiation.proofs.encode.write_shown.Goals as goal

pub loop-k-init : goal.loop-k-init
loop-k-init c = paste-zero c.args.buf.now 3712 []

pub loop-k-preserved : goal.loop-k-preserved
loop-k-preserved c = let P : Pool = c.args.shown.now in
    let k : ℕ = c.loop-k.k in
    c.write_credential.ensures
    ∙ (λ t. pasted (c.loop-k.invariant t) (3712 + k * 22) (credential_bytes (c.credential.ensures t)))
    ∙ record-next credential_bytes 22 credential-size c.args.buf.now 3712 k (credential_at P) (omega arith)

pub returns : goal.returns
unfolding credentials
returns c = let P : Pool = c.args.shown.now in
    let n : ℕ = P.count in
    let all : c.loop-k.k ≡ n = le_antisymm c.loop-k.auto.k-end c.loop-k-test.false in
    c.write_zeros.ensures
    ∙ ap (λ (l : List ℕ). pasted l (3712 + n * 22) (zeros (5120 - (3712 + n * 22))))
    (c.loop-k.invariant ∙ ap (λ (m : ℕ). pasted c.args.buf.now 3712 (records credential_bytes (up_to m (credential_at P)))) all)
    ∙ part-written credential_bytes 22 credential-size c.args.buf.now 3712 (3712 + n * 22) 5120 n (credential_at P) refl (omega arith) (omega arith)
