use Rattle.of_replay.specs.{FileRuns.flow_text, FileRuns.is_text}
use Rattle.of_replay.proofs.FileLemmas.{runs_unread, runs_read, faults_same, faults_written}
use Rattle.of_trace.specs.Files.{trace_of}
use Rattle.of_trace.proofs.tracing_file.trace_file.Goals as goal

pub returns-in-Err-clause-output : goal.returns-in-Err-clause-output
returns-in-Err-clause-output g c = runs_unread flow_text (is_text (trace_of c.args.output c.args.port c.args.frame.now)) c.in-Err.ended _ _ _ _ (g.W.Sink.taken c.args.writer.now) c.in-Err.ensures.config

pub returns-in-Err-clause-faults : goal.returns-in-Err-clause-faults
returns-in-Err-clause-faults g c =
    let r = c.read_config.new.reader in
    faults_same c.in-Err.ended (g.S.Source.reads r) (g.S.Source.ends c.args.reader.now) (g.S.Source.ends r) (g.S.Source.failures c.args.reader.now) (g.S.Source.failures r) (g.W.Sink.failures c.args.writer.now) c.requires.failures c.in-Err.ensures.faults

pub returns-in-Ok-switch_of_config-clause-output : goal.returns-in-Ok-switch_of_config-clause-output
returns-in-Ok-switch_of_config-clause-output g c =
    runs_read flow_text (is_text (trace_of c.args.output c.args.port c.args.frame.now)) c.in-Ok.config c.write_trace.result _ _ _ _ (g.W.Sink.taken c.args.writer.now) (g.W.Sink.taken c.write_trace.new.writer) c.in-Ok.ensures.config
    (rw c.in-Ok-switch_of_config.ensures at c.write_trace.ensures.output)

pub returns-in-Ok-switch_of_config-clause-faults : goal.returns-in-Ok-switch_of_config-clause-faults
returns-in-Ok-switch_of_config-clause-faults g c =
    let r = c.read_config.new.reader in
    faults_written (is_text (trace_of c.args.output c.args.port c.args.frame.now) c.in-Ok.config) c.write_trace.result (g.W.Sink.taken c.args.writer.now) (g.W.Sink.taken c.write_trace.new.writer) (g.S.Source.reads r) (g.S.Source.ends c.args.reader.now) (g.S.Source.ends r)
    (g.S.Source.failures c.args.reader.now) (g.S.Source.failures r) (g.W.Sink.failures c.write_trace.new.writer) c.in-Ok.ensures.faults (rw c.in-Ok-switch_of_config.ensures at c.write_trace.ensures.output) c.write_trace.ensures.write_fault
