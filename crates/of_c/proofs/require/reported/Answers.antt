use Rattle.of_c.proofs.AskedLemmas.{required}
use Rattle.of_c.proofs.require.reported.Goals as goal

pub returns-in-Ok-read_tables : goal.returns-in-Ok-read_tables
returns-in-Ok-read_tables c =
    let found = c.in-Ok-read_tables.found in
    required c.args.file.now c.args.requirements.now c.args.steps c.args.words c.in-Ok.lines.items c.deref.result.now found.of.switch found.missing.items found.of.tables c.report_on.result.status c.report_on.result.line c.report_on.new.out.bytes.items
    c.in-Ok.ensures.is c.in-Ok-read_tables.ensures.tables c.deref.ensures.value c.report_on.ensures
