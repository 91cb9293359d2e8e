use Rattle.std.proofs.Common.{◌≡◌, ap}
use Rattle.of_table.specs.{declared.selection.Cause.TheVariants.Moment, Tables.NumberedTables, Tables.cause_at, Tables.latest_after}
use Rattle.of_table.proofs.TablesLemmas.{kept_by, left_by, command_at}
use Rattle.of_table.proofs.flow_tables.FlowTables.remove.Goals as goal

pub returns-in-Moment-clause-tables : goal.returns-in-Moment-clause-tables
returns-in-Moment-clause-tables g c =
    let old : NumberedTables = record { tables = c.self.inside.tables.items; latest = c.self.inside.latest } in
    let when : Moment c.max-now.result ≡ cause_at old.latest c.args.cause.now = rw c.in-Moment.is (ap Moment c.max-now.ensures) in
    let then : c.max-now.result ≡ latest_after c.args.cause.now old.latest = rw c.in-Moment.is c.max-now.ensures in
    rw (← c.self.view_is) (left_by c.args.cause.now (Moment c.max-now.result) c.max-now.result old c.remove_at.new.self (rw (← c.self.view_is) at c.remove_at.ensures) when then)

pub returns-in-Moment-clause-numbers : goal.returns-in-Moment-clause-numbers
returns-in-Moment-clause-numbers g c =
    let old : NumberedTables = record { tables = c.self.inside.tables.items; latest = c.self.inside.latest } in
    let when : Moment c.max-now.result ≡ cause_at old.latest c.args.cause.now = rw c.in-Moment.is (ap Moment c.max-now.ensures) in
    let then : c.max-now.result ≡ latest_after c.args.cause.now old.latest = rw c.in-Moment.is c.max-now.ensures in
    rw (← c.self.view_is) (kept_by c.args.cause.now (Moment c.max-now.result) c.max-now.result old c.remove_at.new.self (rw (← c.self.view_is) at c.remove_at.ensures) when then)

pub returns-in-Delete-clause-tables : goal.returns-in-Delete-clause-tables
returns-in-Delete-clause-tables g c =
    let old : NumberedTables = record { tables = c.self-in-Delete.inside.tables.items; latest = c.self-in-Delete.inside.latest } in
    let when = command_at c.args.cause.now old.latest c.in-Delete.is in
    rw (← c.self-in-Delete.view_is) (left_by c.args.cause.now c.args.cause.now old.latest old c.remove_at-in-Delete.new.self (rw (← c.self-in-Delete.view_is) at c.remove_at-in-Delete.ensures) when.0 when.1)

pub returns-in-Delete-clause-numbers : goal.returns-in-Delete-clause-numbers
returns-in-Delete-clause-numbers g c =
    let old : NumberedTables = record { tables = c.self-in-Delete.inside.tables.items; latest = c.self-in-Delete.inside.latest } in
    let when = command_at c.args.cause.now old.latest c.in-Delete.is in
    rw (← c.self-in-Delete.view_is) (kept_by c.args.cause.now c.args.cause.now old.latest old c.remove_at-in-Delete.new.self (rw (← c.self-in-Delete.view_is) at c.remove_at-in-Delete.ensures) when.0 when.1)
