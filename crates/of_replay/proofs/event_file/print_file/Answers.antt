use Rattle.of_replay.proofs.{Early.early_none, WholeRuns.nothing_read, WholeRuns.run_faults, WholeRuns.unread_faults}
use Rattle.std.proofs.Common.{◌≡◌, ◌∙◌, refl}
use Rattle.of_switch.specs.State.{start}
use Rattle.of_replay.proofs.event_file.print_file.Goals as goal

pub returns-clause-output : goal.returns-clause-output
returns-clause-output g c =
    let new : c.new-replaying.result.switch ≡ start c.args.dpid = c.new-replaying.ensures.2 ∙ c.in-Ok-new.ensures in
    rw c.ended_by.ensures (rw new at c.play.ensures.plays)

pub returns-clause-faults : goal.returns-clause-faults
returns-clause-faults g c = run_faults c.args.most c.play.result _ _ _ _ _ _ _ c.ended_by.ensures c.play.ensures.reads c.play.ensures.few c.play.ensures.writes

pub returns-in_default-new-clause-faults : goal.returns-in_default-new-clause-faults
returns-in_default-new-clause-faults g c = unread_faults _ _ _ _ _ c.requires.reads c.requires.failures

pub returns-in_default-clause-faults : goal.returns-in_default-clause-faults
returns-in_default-clause-faults g c = unread_faults _ _ _ _ _ c.requires.reads c.requires.failures

pub returns-in_default-new-clause-output : goal.returns-in_default-new-clause-output
returns-in_default-new-clause-output g c = nothing_read (start c.args.dpid) g.T.RowPrinter.tale (g.S.Source.answers c.args.reader.now) (g.S.Source.ends c.args.reader.now) (g.W.Sink.taken c.args.writer.now)

pub returns-in_default-clause-output : goal.returns-in_default-clause-output
returns-in_default-clause-output g c = nothing_read (start c.args.dpid) g.T.RowPrinter.tale (g.S.Source.answers c.args.reader.now) (g.S.Source.ends c.args.reader.now) (g.W.Sink.taken c.args.writer.now)

pub returns-clause-early : goal.returns-clause-early
returns-clause-early g c =
    let new : c.new-replaying.result.switch ≡ start c.args.dpid = c.new-replaying.ensures.2 ∙ c.in-Ok-new.ensures in
    rw new at c.play.ensures.early

pub returns-in_default-new-clause-early : goal.returns-in_default-new-clause-early
returns-in_default-new-clause-early g c = early_none _ _ _ refl

pub returns-in_default-clause-early : goal.returns-in_default-clause-early
returns-in_default-clause-early g c = early_none _ _ _ refl
