use Rattle.std.proofs.Common.{◌<◌, length, List, ap, arith}
use Rattle.of_groups.specs.declared.group.Group.{Group}
use Rattle.of_table.specs.Tables.{tables_of}
use Rattle.of_statistics.{specs.Groups.row_among, proofs.Cutting.row_more, proofs.Cutting.no_rows}
use Rattle.of_statistics.proofs.groups.put_groups.Goals as goal

pub loop-group-init : goal.loop-group-init
loop-group-init g c = no_rows c.args.out.now

pub loop-group-preserved : goal.loop-group-preserved
loop-group-preserved g c =
    let groups = c.args.groups.now in
    let there : c.loop-group.group-index < length groups = omega (arith, c.loop-group-test.true, ap (λ (gs : List Group). length gs) c.groups-group-items.ensures.groups) in
    row_more (row_among groups (tables_of c.args.tables.now)) groups c.loop-group.group-index c.group-item.result _ c.args.out.now c.loop-group.out c.put_group.new.out there (rw c.groups-group-items.ensures.groups at c.group-item.is) c.loop-group.invariant c.in_ok-put_group.ensures
