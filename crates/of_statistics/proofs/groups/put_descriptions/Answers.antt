use Rattle.std.proofs.Common.{arith}
use Rattle.of_statistics.{specs.Groups.group_description, proofs.Cutting.row_more, proofs.Cutting.no_rows}
use Rattle.of_statistics.proofs.groups.put_descriptions.Goals as goal

pub loop-group-init : goal.loop-group-init
loop-group-init c = no_rows c.args.out.now

pub loop-group-preserved : goal.loop-group-preserved
loop-group-preserved c =
    row_more group_description c.args.groups.now c.loop-group.group-index c.group-item.result _ c.args.out.now c.loop-group.out c.push.new.self (omega (arith, c.loop-group-test.true)) c.group-item.is c.loop-group.invariant
    (rw (c.deref.ensures.value, c.in_ok-description_row.ensures.row) at c.in_ok-push.ensures)
