use Rattle.std.proofs.Common.{None, Some, refl}
use Rattle.of_table.specs.Entries.{entry_of}
use Rattle.of_symbolic.proofs.PulledLemmas.{one_pulled}
use Rattle.of_symbolic.proofs.pulled_entry.pulled_entry.Goals as goal

pub returns-in-Never-clause-some : goal.returns-in-Never-clause-some
returns-in-Never-clause-some c =
    let e = entry_of c.args.entry.now in
    one_pulled c.args.overlay.now c.args.metadata e c.in_ok-pull.field-0 (record { priority = e.flow.priority; fields = None }) c.in-Never.is refl c.in_ok-pull.ensures.is c.in_ok-pull.ensures.conditions

pub returns-in-When-clause-some : goal.returns-in-When-clause-some
returns-in-When-clause-some c =
    let e = entry_of c.args.entry.now in
    one_pulled c.args.overlay.now c.args.metadata e c.in_ok-pull.field-0 (record { priority = e.flow.priority; fields = Some c.in-When.fields }) c.in-When.is refl c.in_ok-pull.ensures.is c.in_ok-pull.ensures.conditions
