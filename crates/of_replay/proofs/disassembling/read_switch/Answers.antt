use Rattle.std.proofs.Common.{refl, ◌∙◌}
use Rattle.of_replay.{specs.FileRuns.event_file, specs.RowTexts.plain_row_text, proofs.FileLemmas.read_nothing, proofs.FileLemmas.faults_nothing, proofs.FileLemmas.faults_done}
use Rattle.of_replay.proofs.EventFileLemmas.{played_all, played_not, faults_unplayed}
use Rattle.of_replay.proofs.disassembling.read_switch.Goals as goal

pub returns-in_default-clause-played : goal.returns-in_default-clause-played
returns-in_default-clause-played g c = read_nothing event_file (g.S.Source.answers c.args.reader.now) (g.S.Source.ends c.args.reader.now)

pub returns-in_default-clause-faults : goal.returns-in_default-clause-faults
returns-in_default-clause-faults g c = faults_nothing (g.S.Source.reads c.args.reader.now) (g.S.Source.ends c.args.reader.now) (g.S.Source.failures c.args.reader.now) 0 refl

pub returns-clause-played : goal.returns-clause-played
returns-clause-played g c = rw c.ended_by.ensures (played_not _ plain_row_text c.in-Err.halt (g.S.Source.answers c.args.reader.now) (g.S.Source.answers c.play.new.reader) (g.S.Source.ends c.args.reader.now) (g.S.Source.ends c.play.new.reader) _ _ c.in-Err.ensures.plays c.in-Err.ensures.writes)

pub returns-clause-faults : goal.returns-clause-faults
returns-clause-faults g c = rw c.ended_by.ensures (faults_unplayed c.in-Err.halt (g.S.Source.reads c.play.new.reader) (g.S.Source.ends c.args.reader.now) (g.S.Source.ends c.play.new.reader) (g.S.Source.failures c.args.reader.now) (g.S.Source.failures c.play.new.reader) c.in-Err.ensures.reads c.in-Err.ensures.writes)

pub returns-in-Ok-play-clause-played : goal.returns-in-Ok-play-clause-played
returns-in-Ok-play-clause-played g c =
    rw c.into_switch.ensures (played_all c.new-replaying.result.switch (g.S.Source.answers c.args.reader.now) (g.S.Source.answers c.play.new.reader) (g.S.Source.ends c.args.reader.now) (g.S.Source.ends c.play.new.reader) c.play.new.self.switch
    (c.new-replaying.ensures.2 ∙ c.in-Ok-new.ensures) c.in-Ok-play.ensures.played c.in-Ok-play.ensures.reads.0)

pub returns-in-Ok-play-clause-faults : goal.returns-in-Ok-play-clause-faults
returns-in-Ok-play-clause-faults g c = faults_done (g.S.Source.reads c.play.new.reader) (g.S.Source.ends c.args.reader.now) (g.S.Source.ends c.play.new.reader) (g.S.Source.failures c.args.reader.now) (g.S.Source.failures c.play.new.reader) c.in-Ok-play.ensures.reads
