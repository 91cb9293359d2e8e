use Rattle.std.proofs.Common.{◌≡◌, ℕ, Option, Some, None}
use Rattle.std.specs.Prelude.{IfNone, bit_and}
use Rattle.of_regions.{specs.Witness.IsIngressPort, proofs.WitnessLemmas.no_port}
use Rattle.of_regions.proofs.witness.port_under.Goals as goal

no_ports : (mask known : ℕ) (o : Option ℕ) → known ≡ 0 → IfNone o (bit_and 0xffffffff mask ≡ 0xffffffff) → IfNone o ((port : ℕ) → bit_and port mask ≡ known → ¬ (IsIngressPort port))
no_ports mask known None zero all = λ port under. no_port mask known port zero all under
no_ports mask known (Some p) zero all = tt

pub returns-then-known-eq0-clause-none : goal.returns-then-known-eq0-clause-none
returns-then-known-eq0-clause-none c = no_ports c.args.mask c.args.known c.port_outside.result c.if-known-eq0.true c.port_outside.ensures.none
