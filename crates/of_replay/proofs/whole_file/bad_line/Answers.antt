use Rattle.std.proofs.Common.{◌≡◌, ℕ, true, false, List, sym, ap, ◌∙◌, arith}
use Rattle.of_text.{specs.Lines.lines_of, specs.Lines.before, proofs.LineLemmas.some_bytes, proofs.LineLemmas.no_bytes}
use Rattle.of_replay.{specs.Lexing.is_line, specs.WholeFiles.unreadable, proofs.FileLemmas.bad_here, proofs.FileLemmas.good_here, proofs.FileLemmas.all_good}
use Rattle.of_replay.proofs.whole_file.bad_line.Goals as goal

pub returns-then-not-is_readable : goal.returns-then-not-is_readable
returns-then-not-is_readable c =
    let some = some_bytes c.loop-rest.rest.now c.is_empty.result c.is_empty.ensures c.loop-rest-test.true in
    let test : is_line (before 10 c.loop-rest.rest.now) ≡ false = rw (← c.cut.ensures.first) (sym c.is_readable.ensures ∙ c.if-not-is_readable.true) in
    sym (c.loop-rest.invariant.line ∙ bad_here c.loop-rest.number c.loop-rest.rest.now some test)

pub loop-rest-preserved : goal.loop-rest-preserved
loop-rest-preserved c =
    let some = some_bytes c.loop-rest.rest.now c.is_empty.result c.is_empty.ensures c.loop-rest-test.true in
    let test : is_line (before 10 c.loop-rest.rest.now) ≡ true = rw (← c.cut.ensures.first) (sym c.is_readable.ensures ∙ c.if-not-is_readable.false) in
    record {
      line = rw c.cut.ensures.rest (c.loop-rest.invariant.line ∙ good_here c.loop-rest.number c.loop-rest.rest.now some test);
      count = omega (arith, some, c.loop-rest.invariant.count, c.cut.ensures.shorter);
    }

pub returns : goal.returns
returns c =
    let none = no_bytes c.loop-rest.rest.now c.is_empty.result c.is_empty.ensures c.loop-rest-test.false in
    sym (c.loop-rest.invariant.line ∙ (ap (λ (x : List ℕ). unreadable c.loop-rest.number (lines_of x)) none ∙ all_good c.loop-rest.number))
