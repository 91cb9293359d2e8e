use Rattle.std.proofs.Common.{◌∙◌, ap, List, ℕ}
use Rattle.of_c.{specs.Calls.status_with, proofs.GivingLemmas.checked}
use Rattle.of_c.proofs.check.reported.Goals as goal

pub returns-in-Ok : goal.returns-in-Ok
returns-in-Ok c =
    checked c.args.file.now c.args.steps c.args.words c.in-Ok.found.of.switch c.in-Ok.found.missing.items c.in-Ok.found.of.tables c.deref.result.now c.form_of.result c.write_report-result.result c.status_with.result c.args.out.now.bytes.items _
    c.in-Ok.ensures.tables c.write_report-result.ensures.output c.form_of.ensures c.deref.ensures.value c.requires.fresh (c.status_with.ensures ∙ ap (λ (m : List ℕ). status_with m c.status_of_found.result) c.deref-in-Ok.ensures.value ∙ ap (status_with c.in-Ok.found.missing.items) c.status_of_found.ensures)
