use Rattle.std.proofs.Common.{◌∙◌, ap, List, ℕ}
use Rattle.of_c.{specs.Calls.status_with, specs.Requiring.further_text, specs.Requiring.status_of_both, proofs.GivingLemmas.answered_by}
use Rattle.of_require.specs.{declared.deciding.Verdict.Verdict, Answers.worst_of}
use Rattle.of_c.proofs.require.report_on.Goals as goal

pub returns : goal.returns
returns c =
    answered_by c.args.found.now.of.switch c.args.found.now.of.tables c.args.found.now.missing.items c.args.lines.items c.args.steps c.args.words c.in-Ok.answers.items c.form_of.result c.deref-3.result.now c.deref-2.result.now c.write_report-result.result c.status_with.result c.args.out.now.bytes.items _
    c.datapath.result.now c.datapath.ensures c.in-Ok.ensures.lines c.in-Ok.ensures.right c.write_report-result.ensures.output c.form_of.ensures
    (c.deref-3.ensures.value ∙ c.in-Ok-further_of.ensures ∙ ap (further_text c.args.words) c.deref.ensures.value) c.deref-2.ensures.value c.requires.fresh
    (c.status_with.ensures ∙ ap (λ (m : List ℕ). status_with m c.status_of_both.result) c.deref-4.ensures.value
    ∙ ap (status_with c.args.found.now.missing.items) (c.status_of_both.ensures ∙ ap (λ (v : Verdict). status_of_both c.write_report-result.result v) (c.worst.ensures ∙ ap worst_of c.deref-5.ensures.value)))
