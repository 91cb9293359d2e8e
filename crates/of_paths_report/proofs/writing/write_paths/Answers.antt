use Rattle.of_paths_report.proofs.writing.write_paths.Goals as goal

pub returns-then-write_all-clause-output : goal.returns-then-write_all-clause-output
returns-then-write_all-clause-output g c =
    let text = c.in-Ok-found_text.text.items in
    (text, (c.in-Ok.found, c.in-Ok.ensures, c.in-Ok-found_text.ensures, c.verdict_for.ensures), rw c.deref.ensures.value at c.if-write_all.ensures.all)

pub returns-clause-output : goal.returns-clause-output
returns-clause-output g c =
    let text = c.in-Ok-found_text.text.items in
    (text, (c.in-Ok.found, c.in-Ok.ensures, c.in-Ok-found_text.ensures, λ same. absurd cc), rw c.deref.ensures.value at c.if-write_all.ensures.front)
