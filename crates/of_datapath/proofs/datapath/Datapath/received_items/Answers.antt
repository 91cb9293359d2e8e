use Rattle.std.proofs.Common.{◌≡◌, ◌∙◌, ℕ, List, ap, refl}
use Rattle.std.proofs.lemmas.Result.{err_from_is_err_and}
use Rattle.of_machine.specs.Rows.{entering}
use Rattle.of_datapath.{specs.Numbers.forwarding_of, specs.Datapath.world_of, proofs.Prefixes.front_is_prefix}
use Rattle.of_datapath.proofs.datapath.Datapath.received_items.Goals as goal

pub returns-in_err-outcome-clause-err : goal.returns-in_err-outcome-clause-err
returns-in_err-outcome-clause-err g c =
    let p = err_from_is_err_and c.from_residual.result c.from_residual.ensures.1 in
    let now = c.args.self.now in
    let w = world_of (forwarding_of now) in
    let whole : c.new.result ≡ c.args.bytes.now = c.new.ensures in
    let packet = ◌∙◌ {b = entering c.new.result c.args.number} c.new-packet.ensures (ap (λ (b : List ℕ). entering b c.args.number) whole) in
    rw p.1 (front_is_prefix w g.S.StepLog.KEEPS (entering c.args.bytes.now c.args.number) (g.S.StepLog.list c.args.log.now) (g.S.StepLog.list c.run.new.log) c.known.ensures refl (rw packet at c.in_err-outcome.ensures.err))
