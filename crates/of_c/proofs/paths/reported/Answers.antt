use Rattle.std.proofs.Common.{◌∙◌, ap, List, ℕ}
use Rattle.of_c.{specs.Calls.status_with, proofs.AskedLemmas.no_match, proofs.GivingLemmas.paths_told}
use Rattle.of_c.proofs.paths.reported.Goals.{in-Ok-asked_of, in-Err-asked_of+in-Refused-1, in-Err-asked_of+in-NoMemory-1}
use Rattle.of_c.proofs.paths.reported.Goals as goal

pub returns : goal.returns
returns c =
    let a = c.args in
    elim c.match-asked_of.branch [
      | in-Ok-asked_of w ↦ rw (w.status-is, w.out-is) (paths_told a.file.now a.port a.within.now a.to a.each a.steps a.words c.in-Ok.described.switch c.in-Ok.described.missing.items w.in-Ok-asked_of.asked w.form_of.result w.write_paths-found.result w.status_with-status.result a.out.now.bytes.items _
          c.in-Ok.ensures.described w.in-Ok-asked_of.ensures.asked w.write_paths-found.ensures.output w.form_of.ensures c.requires.fresh
          (w.status_with-status.ensures ∙ ap (λ (m : List ℕ). status_with m w.status_of_paths.result) w.deref.ensures.value ∙ ap (status_with c.in-Ok.described.missing.items) w.status_of_paths.ensures))
      | in-Err-asked_of+in-Refused-1 w ↦ rw (w.status-is, w.out-is) (no_match a.file.now a.port a.within.now a.to a.each a.steps a.words w.in-Err-asked_of.why _ _ w.in-Err-asked_of.ensures.stopped w.status_of_no_words-status.ensures c.requires.fresh)
      | in-Err-asked_of+in-NoMemory-1 w ↦ rw (w.status-is, w.out-is) (no_match a.file.now a.port a.within.now a.to a.each a.steps a.words w.in-Err-asked_of.why _ _ w.in-Err-asked_of.ensures.stopped w.status_of_no_words-status.ensures c.requires.fresh)
    ]
