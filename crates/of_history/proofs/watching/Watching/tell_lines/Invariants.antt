use Rattle.std.proofs.Common.{◌≡◌, ◌+◌, ◌++◌, ◌≤◌, length}
use Rattle.of_text.specs.Lines.{lines_of}
use Rattle.of_replay.specs.RowTexts.{told, told_from}
use Rattle.of_history.specs.{Changes.bad_from, Changes.history_of, Sights.sight_text}
use Rattle.of_history.proofs.watching.Watching.tell_lines.Given as goal

abbrev pub invariant-loop-rest : goal.invariant-loop-rest
invariant-loop-rest g l = record {
  view : l.self.view ≡ l.fn.self.view;
  fresh : sight_text l.self.seen ≡ g.V.View.seen l.fn.self.view l.self.switch.core.forwarding;
  few : l.number + length l.rest ≤ length l.file + 1;
  bad : bad_from l.number (lines_of l.rest) ≡ bad_from 1 (lines_of l.file);
  text : l.self.out.items ++ told_from (history_of g.T.ChangeTeller.text (g.V.View.seen l.fn.self.view) (g.V.View.expiring l.fn.self.view)) l.number (lines_of l.rest) l.self.switch
      ≡ l.fn.self.out.items ++ told l.fn.self.switch (history_of g.T.ChangeTeller.text (g.V.View.seen l.fn.self.view) (g.V.View.expiring l.fn.self.view)) (lines_of l.file);
}

abbrev pub decreases-loop-rest : goal.decreases-loop-rest
decreases-loop-rest g l = length l.rest
