use Rattle.std.proofs.Common.{◌∙◌, List, ℕ, ap, map, sym, subst, take}
use Rattle.of_ports.specs.Ports.{number_of_port}
use Rattle.of_datapath.specs.{Datapath.world_of, Numbers.forwarding_of}
use Rattle.of_require.{specs.Deciding.IsDecisionFor, proofs.PortLemmas.all_ports, proofs.PortLemmas.no_ports, proofs.PortLemmas.one_more_port, proofs.PortLemmas.whole_list}
use Rattle.of_require.proofs.deciding.decide.Goals as goal

pub loop-port-init : goal.loop-port-init
loop-port-init g c = no_ports (world_of (forwarding_of c.args.datapath.now)) c.args.requirement.now

pub loop-port-preserved : goal.loop-port-preserved
loop-port-preserved g c =
    let w = world_of (forwarding_of c.args.datapath.now) in
    let r = c.args.requirement.now in
    let items = c.port_list-port-items.result.now in
    let both = c.joined-so_far.ensures (map number_of_port (take c.loop-port.port-index items)) _ w r c.args.steps c.loop-port.invariant c.in_ok-next.ensures in
    subst (λ (l : List ℕ). IsDecisionFor l w r c.args.steps c.joined-so_far.result) (sym (one_more_port items c.loop-port.port-index _ c.loop-port-test.true)) both

pub returns : goal.returns
returns g c =
    let w = world_of (forwarding_of c.args.datapath.now) in
    let r = c.args.requirement.now in
    let items = c.port_list-port-items.result.now in
    all_ports w r c.args.steps c.loop-port.so_far
    (subst (λ (l : List ℕ). IsDecisionFor l w r c.args.steps c.loop-port.so_far) (whole_list items c.loop-port.port-index c.loop-port-test.false ∙ ap (map number_of_port) c.port_list-port-items.ensures) c.loop-port.invariant)
