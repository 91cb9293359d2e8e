use Rattle.std.proofs.Common.{◌≡◌, ap}
use Rattle.of_table.{specs.declared.selection.Cause.TheVariants.Moment, specs.Tables.NumberedTables, specs.Tables.cause_at, proofs.TablesLemmas.notices_ok, proofs.TablesLemmas.command_at}
use Rattle.of_table.proofs.flow_tables.FlowTables.listed.Goals as goal

pub returns-in-Moment-clause-notices : goal.returns-in-Moment-clause-notices
returns-in-Moment-clause-notices g c =
    let n : NumberedTables = record { tables = c.self.inside.tables.items; latest = c.self.inside.latest } in
    let when : Moment c.max.result ≡ cause_at c.self.inside.latest c.args.cause.now = rw c.in-Moment.is (ap Moment c.max.ensures) in
    rw (← c.self.view_is) (notices_ok c.list_all.result (λ v. v.items) c.args.cause.now (Moment c.max.result) n (rw c.deref.ensures.value at c.list_all.ensures) when)

pub returns-in-Delete-clause-notices : goal.returns-in-Delete-clause-notices
returns-in-Delete-clause-notices g c =
    notices_ok c.list_all-in-Delete.result (λ v. v.items) c.args.cause.now c.args.cause.now c.args.self.now (rw (← c.self.view_is) (rw c.deref-in-Delete.ensures.value at c.list_all-in-Delete.ensures)) (command_at c.args.cause.now _ c.in-Delete.is).0
