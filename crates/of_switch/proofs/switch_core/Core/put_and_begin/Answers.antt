use Rattle.std.proofs.Common.{◌∙◌, sym, ap, subst}
use Rattle.of_switch.{specs.State.Core, proofs.HeldHandling.taken_back}
use Rattle.of_datapath.specs.Standing.{GroupsExist}
use Rattle.of_switch.proofs.switch_core.Core.put_and_begin.Goals as goal

pub invariant_of-self : goal.invariant_of-self
invariant_of-self g c =
    let back = taken_back c.args.flow_mod c.in_ok-before.before c.args.self.now c.put_flows.new.self c.in_ok-put_flows.field-0.items c.self-2.inside.dpid c.self-2.inside.control c.self.inside.datapath.tables c.self-2.inside.datapath.tables c.swap.new.self c.self-2.inside.datapath.groups c.self-2.inside.datapath.ports c.self-2.inside.datapath.held
    (ap (λ (k : Core). k.forwarding.tables) c.self.view_is) c.requires.delete c.requires.table c.in_ok-before.ensures.table c.in_ok-before.ensures.copy c.in_ok-put_flows.ensures.1 (c.self-2.view_is ∙ c.in-Err.ensures.err) c.swap.ensures.numbers in
    subst (λ (k : Core). GroupsExist k.forwarding) (c.self.view_is ∙ sym back) c.self.invariant

pub returns : goal.returns
returns g c =
    taken_back c.args.flow_mod c.in_ok-before.before c.args.self.now c.put_flows.new.self c.in_ok-put_flows.field-0.items c.self-2.inside.dpid c.self-2.inside.control c.self.inside.datapath.tables c.self-2.inside.datapath.tables c.swap.new.self c.self-2.inside.datapath.groups c.self-2.inside.datapath.ports c.self-2.inside.datapath.held
    (ap (λ (k : Core). k.forwarding.tables) c.self.view_is) c.requires.delete c.requires.table c.in_ok-before.ensures.table c.in_ok-before.ensures.copy c.in_ok-put_flows.ensures.1 (c.self-2.view_is ∙ c.in-Err.ensures.err) c.swap.ensures.numbers
