use Rattle.std.proofs.Common.{◌<◌, ◌≤◌, length, ap, arith}
use Rattle.std.proofs.lemmas.List.{length-map}
use Rattle.of_text.specs.Views.{view, view_flows}
use Rattle.of_build.proofs.ListingLemmas.{table_next}
use Rattle.of_build.proofs.listing.push_tables.Goals as goal

pub push_flows-requires : goal.push_flows-requires
push_flows-requires c =
    let l = c.loop-table in
    let small : l.table < 16 = omega arith in
    let many : length c.flows.result.now ≤ 4096 = omega (arith, length-map c.flows.result.now view, ap length c.flows.ensures, c.known.ensures.few l.table small) in
    record {
      entries = rw c.flows.ensures (c.known.ensures.entries l.table small);
      few = omega (arith, l.invariant.few, small, many);
    }

pub loop-table-preserved : goal.loop-table-preserved
loop-table-preserved c =
    let l = c.loop-table in
    let small : l.table < 16 = omega arith in
    let within : l.table < length c.args.config.now.tables = omega (arith, c.known.ensures.sixteen, small) in
    let many : length c.flows.result.now ≤ 4096 = omega (arith, length-map c.flows.result.now view, ap length c.flows.ensures, c.known.ensures.few l.table small) in
    record {
      few = omega (arith, l.invariant.few, many, c.in_ok-xid.ensures.next);
      messages = table_next c.args.config.now.tables l.table l.xid _ (length c.flows.result.now) (view_flows c.flows.result.now) _ _ _ within c.flows.ensures (length-map c.flows.result.now view) c.in_ok-xid.ensures.next c.in_ok-xid.ensures.messages l.invariant.messages;
    }
