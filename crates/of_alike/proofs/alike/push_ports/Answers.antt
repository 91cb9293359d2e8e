use Rattle.of_alike.proofs.AlikeLemmas.{ports_more}
use Rattle.of_alike.proofs.alike.push_ports.Goals as goal

pub loop-item-preserved : goal.loop-item-preserved
loop-item-preserved c =
    let kept = c.in_ok-push_port_of.ensures.kept in
    record {
      kept = λ q h. kept q (c.loop-item.invariant.kept q h);
      all = ports_more c.loop-item.ports.items c.push_port_of.new.ports.items c.args.items.now c.loop-item.item-index c.item-item.result c.loop-item-test.true c.item-item.is kept c.in_ok-push_port_of.ensures.named c.loop-item.invariant.all;
    }
