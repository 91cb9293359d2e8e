use Rattle.std.proofs.Common.{◌≡◌, length}
use Rattle.of_text.specs.Lines.{lines_of}
use Rattle.of_files.specs.Contents.{first_counted}
use Rattle.of_files.proofs.contents.content_of.Given as goal

abbrev pub decreases-loop-rest : goal.decreases-loop-rest
decreases-loop-rest l = length l.rest

abbrev pub invariant-loop-rest : goal.invariant-loop-rest
invariant-loop-rest l = first_counted (lines_of l.text) ≡ first_counted (lines_of l.rest)
