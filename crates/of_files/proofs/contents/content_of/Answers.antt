use Rattle.std.proofs.Common.{◌≡◌, true, false, sym, ap, ◌∙◌}
use Rattle.of_text.{specs.Lines.before, specs.Lines.is_passed, proofs.LineLemmas.some_bytes, proofs.LineLemmas.no_bytes}
use Rattle.of_files.{specs.Contents.content_by, specs.Contents.content_of, proofs.LineLemmas.counted_here, proofs.LineLemmas.passed_here, proofs.LineLemmas.none_counted}
use Rattle.of_files.proofs.contents.content_of.Goals as goal

pub returns-then-not-is_passed_over : goal.returns-then-not-is_passed_over
unfolding content_of
returns-then-not-is_passed_over c =
    let some = some_bytes c.loop-rest.rest.now c.is_empty.result c.is_empty.ensures c.loop-rest-test.true in
    let test : is_passed (before 10 c.loop-rest.rest.now) ≡ false = rw (← c.cut.ensures.first) (sym c.is_passed_over.ensures ∙ c.if-not-is_passed_over.true) in
    rw (c.content_with.ensures, c.cut.ensures.first) (sym (ap content_by (c.loop-rest.invariant ∙ counted_here c.loop-rest.rest.now some test)))

pub loop-rest-preserved : goal.loop-rest-preserved
loop-rest-preserved c =
    let some = some_bytes c.loop-rest.rest.now c.is_empty.result c.is_empty.ensures c.loop-rest-test.true in
    let test : is_passed (before 10 c.loop-rest.rest.now) ≡ true = rw (← c.cut.ensures.first) (sym c.is_passed_over.ensures ∙ c.if-not-is_passed_over.false) in
    rw c.cut.ensures.rest (c.loop-rest.invariant ∙ passed_here c.loop-rest.rest.now some test)

pub returns : goal.returns
unfolding content_of content_by
returns c =
    let none = no_bytes c.loop-rest.rest.now c.is_empty.result c.is_empty.ensures c.loop-rest-test.false in
    sym (ap content_by (c.loop-rest.invariant ∙ none_counted c.loop-rest.rest.now none))
