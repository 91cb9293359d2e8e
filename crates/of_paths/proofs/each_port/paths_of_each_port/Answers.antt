use Rattle.std.proofs.Common.{List, ap, subst, sym, take, ℕ, ◌∙◌}
use Rattle.of_datapath.specs.{Datapath.world_of, Numbers.forwarding_of}
use Rattle.of_paths.{specs.EachPort.ArePathsOfPorts, specs.EachPort.receiving_numbers, proofs.PortLemmas.all_numbers, proofs.PortLemmas.numbers_more}
use Rattle.of_paths.proofs.each_port.paths_of_each_port.Goals as goal

pub loop-port-preserved : goal.loop-port-preserved
loop-port-preserved g c =
    let w = world_of (forwarding_of c.args.datapath.now) in
    let items = c.port_list-port-items.result.now in
    let i = c.loop-port.port-index in
    subst (λ (l : List ℕ). ArePathsOfPorts c.args.merging w c.args.within.now c.args.steps l c.put_port.new.found.classes.items c.put_port.new.found.undecided.items)
    (sym (numbers_more items i _ c.loop-port-test.true))
    (c.in_ok-put_port.ensures (receiving_numbers (take i items)) c.loop-port.invariant)

pub returns : goal.returns
returns g c =
    let w = world_of (forwarding_of c.args.datapath.now) in
    let items = c.port_list-port-items.result.now in
    subst (λ (l : List ℕ). ArePathsOfPorts c.args.merging w c.args.within.now c.args.steps l c.loop-port.found.classes.items c.loop-port.found.undecided.items)
    (all_numbers items c.loop-port.port-index c.loop-port-test.false ∙ ap receiving_numbers c.port_list-port-items.ensures)
    c.loop-port.invariant
