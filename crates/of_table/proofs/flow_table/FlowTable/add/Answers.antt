use Rattle.std.proofs.Common.{◌≡◌, ◌≤◌, sym, ◌∙◌, length, false}
use Rattle.of_table.{specs.Table.is_overlapped, specs.Entries.flows_of, proofs.AddLemmas.new_flow, proofs.AddLemmas.fault_full, proofs.AddLemmas.fault_old}
use Rattle.of_table.proofs.flow_table.FlowTable.add.Goals as goal

pub returns-in-Some-clause-fault : goal.returns-in-Some-clause-fault
returns-in-Some-clause-fault g c =
    let es = c.args.self.now.entries in
    let apart : is_overlapped c.args.flow (flows_of es) ≡ false = sym (rw c.entries.ensures at c.is_overlapped.ensures) ∙ c.if-is_overlapped.false in
    sym (fault_old c.args.flow es c.in-Some.place apart (sym c.in-Some.ensures))

pub returns-then-entries-ge-MOST_ENTRIES-clause-fault : goal.returns-then-entries-ge-MOST_ENTRIES-clause-fault
returns-then-entries-ge-MOST_ENTRIES-clause-fault g c =
    let es = c.args.self.now.entries in
    let apart : is_overlapped c.args.flow (flows_of es) ≡ false = sym (rw c.entries.ensures at c.is_overlapped.ensures) ∙ c.if-is_overlapped.false in
    let many : 4096 ≤ length es = rw c.entries-2.ensures at c.if-entries-ge-MOST_ENTRIES.true in
    sym (fault_full c.args.flow es apart (sym c.in-None.ensures) many)

pub append-requires : goal.append-requires
append-requires g c = new_flow c.args.flow c.args.self.now.entries (sym c.in-None.ensures)
