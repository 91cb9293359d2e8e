use Rattle.std.proofs.Common.{◌≡◌, length}
use Rattle.of_serve.{specs.Turns.due, specs.Turns.left, specs.Turns.gathered, proofs.CutLemmas.DueSoFar}
use Rattle.of_serve.proofs.gathering.Gathering.due.Given as goal

abbrev pub invariant-loop-row : goal.invariant-loop-row
invariant-loop-row g l = record {
  rest : left l.now l.fn.rows ≡ left l.now l.rows;
  gathered : gathered (due l.now l.fn.rows) l.fn.self ≡ gathered (due l.now l.rows) l.self;
  so_far : DueSoFar l.now l.fn.rows l.rows l.fn.self l.self;
}

abbrev pub decreases-loop-row : goal.decreases-loop-row
decreases-loop-row g l = length l.rows
