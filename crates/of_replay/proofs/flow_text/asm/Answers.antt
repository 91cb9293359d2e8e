use Rattle.of_build.specs.Building.{build_text}
use Rattle.of_replay.{specs.FileRuns.flow_text, specs.FileRuns.is_text, proofs.FileLemmas.runs_unread, proofs.FileLemmas.runs_read, proofs.FileLemmas.faults_written, proofs.FileLemmas.faults_same}
use Rattle.of_replay.proofs.flow_text.asm.Goals as goal

pub returns-in-Err-clause-output : goal.returns-in-Err-clause-output
returns-in-Err-clause-output g c = runs_unread flow_text (is_text build_text) c.in-Err.ended _ _ _ _ (g.W.Sink.taken c.args.writer.now) c.in-Err.ensures.config

pub returns-in-Ok-clause-output : goal.returns-in-Ok-clause-output
returns-in-Ok-clause-output g c =
    runs_read flow_text (is_text build_text) c.in-Ok.config c.write_built.result _ _ _ _ (g.W.Sink.taken c.args.writer.now) (g.W.Sink.taken c.write_built.new.writer) c.in-Ok.ensures.config c.write_built.ensures.output

pub returns-in-Err-clause-faults : goal.returns-in-Err-clause-faults
returns-in-Err-clause-faults g c =
    let r = c.read_config.new.reader in
    faults_same c.in-Err.ended (g.S.Source.reads r) (g.S.Source.ends c.args.reader.now) (g.S.Source.ends r) (g.S.Source.failures c.args.reader.now) (g.S.Source.failures r) (g.W.Sink.failures c.args.writer.now) c.requires.failures c.in-Err.ensures.faults

pub returns-in-Ok-clause-faults : goal.returns-in-Ok-clause-faults
returns-in-Ok-clause-faults g c =
    let r = c.read_config.new.reader in
    faults_written (is_text build_text c.in-Ok.config) c.write_built.result (g.W.Sink.taken c.args.writer.now) (g.W.Sink.taken c.write_built.new.writer) (g.S.Source.reads r) (g.S.Source.ends c.args.reader.now) (g.S.Source.ends r)
    (g.S.Source.failures c.args.reader.now) (g.S.Source.failures r) (g.W.Sink.failures c.write_built.new.writer) c.in-Ok.ensures.faults c.write_built.ensures.output c.write_built.ensures.write_fault
