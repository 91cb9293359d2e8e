use Rattle.std.{specs.Prelude.codes, proofs.Common.◌++◌}
use Rattle.of_ovs_text.{specs.Flows.flag_part, specs.Flows.flags_part, proofs.PushLemmas.behind, proofs.PushLemmas.ends}
use Rattle.of_ovs_text.proofs.flows.push_flags.Goals as goal

pub returns : goal.returns
unfolding flags_part
returns c =
    let first = flag_part (codes "send_flow_rem,") c.args.flags 1 in
    let second = flag_part (codes "no_packet_counts,") c.args.flags 8 in
    let out = c.args.out.now.items in
    ends c.push_flag-3.result out (first ++ second) (flag_part (codes "no_byte_counts,") c.args.flags 16) c.push_flag-2.new.out.items c.push_flag-3.new.out.items
    (behind out first second c.push_flag.new.out.items c.push_flag-2.new.out.items c.in_ok-push_flag.ensures c.in_ok-push_flag-2.ensures) c.push_flag-3.ensures
