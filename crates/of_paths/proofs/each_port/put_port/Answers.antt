use Rattle.std.proofs.Common.{sym, ◌∙◌}
use Rattle.of_datapath.specs.{Datapath.world_of, Numbers.forwarding_of}
use Rattle.of_paths.proofs.PortLemmas.{receiving_too}
use Rattle.of_paths.proofs.each_port.put_port.Goals as goal

pub returns : goal.returns
returns g c = λ ports so_far.
    rw (c.in_ok-append.ensures.items, c.in_ok-append-2.ensures.items)
    (receiving_too c.args.merging (world_of (forwarding_of c.args.datapath.now)) c.args.within.now c.args.steps ports c.args.port.now _ _ so_far (sym c.may_receive.ensures ∙ c.if-not-may_receive.false) c.in_ok-own.own c.in_ok-own.ensures)
