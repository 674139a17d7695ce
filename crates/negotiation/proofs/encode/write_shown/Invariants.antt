use Rattle.std.specs.Prelude.{◌≡◌}
use Rattle.expression.specs.Bytes.{pasted}
use Rattle.expression.specs.Credential.{credential_bytes}
use Rattle.rt0.specs.Pool.{up_to}
use Rattle.rt0.specs.laws.Pool.{credential_at}
use Rattle.negotiation.specs.Layout.{records}
use Rattle.negotiation.proofs.encode.write_shown.Given as goal

abbrev pub invariant-loop-k : goal.invariant-loop-k
invariant-loop-k l = l.buf ≡ pasted l.initial.buf 3712 (records credential_bytes (up_to l.k (credential_at l.shown)))
