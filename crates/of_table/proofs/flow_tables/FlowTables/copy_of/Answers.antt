use Rattle.std.proofs.Common.{◌≡◌, ◌<◌, length, arith, ap}
use Rattle.of_table.{specs.Table.Table, specs.Entries.flows_of, proofs.CopiedLemmas.taken_sound}
use Rattle.of_table.proofs.flow_tables.FlowTables.copy_of.Goals as goal

pub invariant_of-result : goal.invariant_of-result
invariant_of-result g c =
    let ns = c.self.inside.tables.items in
    let within : c.args.table < length ns = omega (arith, c.requires, c.self.invariant.0) in
    let same : flows_of c.in_ok-copy.copy.entries ≡ flows_of c.index.result.now.entries = ap (λ (t : Table). t.flows) c.in_ok-copy.ensures in
    (c.requires, rw same (taken_sound c.args.table ns c.index.result.now _ within c.index.ensures c.self.invariant.1))
