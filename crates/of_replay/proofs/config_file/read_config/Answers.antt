use Rattle.std.proofs.Common.{refl}
use Rattle.of_replay.proofs.FileLemmas.{read_nothing, read_stopped, read_whole, faults_nothing, faults_unread, faults_whole}
use Rattle.of_replay.specs.FileRuns.{flow_text}
use Rattle.of_replay.proofs.config_file.read_config.Goals as goal

pub returns-in_default-clause-config : goal.returns-in_default-clause-config
returns-in_default-clause-config g c = read_nothing flow_text (g.S.Source.answers c.args.reader.now) (g.S.Source.ends c.args.reader.now)

pub returns-in_default-clause-faults : goal.returns-in_default-clause-faults
returns-in_default-clause-faults g c = faults_nothing (g.S.Source.reads c.args.reader.now) (g.S.Source.ends c.args.reader.now) (g.S.Source.failures c.args.reader.now) 0 refl

pub returns-in-Err-clause-config : goal.returns-in-Err-clause-config
returns-in-Err-clause-config g c =
    let r = c.read_file in
    rw c.ended_by.ensures (read_stopped flow_text (λ file outcome is. is) c.in-Err.halt (g.S.Source.answers c.args.reader.now) (g.S.Source.answers r.new.reader) (g.S.Source.ends c.args.reader.now) (g.S.Source.ends r.new.reader) _ c.in-Err.ensures.gave)

pub returns-in-Err-clause-faults : goal.returns-in-Err-clause-faults
returns-in-Err-clause-faults g c =
    let r = c.read_file in
    rw c.ended_by.ensures (faults_unread c.in-Err.halt (g.S.Source.answers c.args.reader.now) (g.S.Source.answers r.new.reader) _ (g.S.Source.reads r.new.reader) (g.S.Source.ends c.args.reader.now) (g.S.Source.ends r.new.reader)
    (g.S.Source.failures c.args.reader.now) (g.S.Source.failures r.new.reader) 0 c.in-Err.ensures.gave c.in-Err.ensures.reads refl)

pub returns-clause-config : goal.returns-clause-config
returns-clause-config g c =
    let r = c.read_file in
    read_whole flow_text c.config_of_text.result (g.S.Source.answers c.args.reader.now) (g.S.Source.answers r.new.reader) (g.S.Source.ends c.args.reader.now) (g.S.Source.ends r.new.reader) r.new.file.items c.in-Ok-read_file.ensures.gave (rw c.deref.ensures.value at c.config_of_text.ensures)

pub returns-clause-faults : goal.returns-clause-faults
returns-clause-faults g c =
    let r = c.read_file in
    faults_whole flow_text c.config_of_text.result r.new.file.items (g.S.Source.reads r.new.reader) (g.S.Source.ends c.args.reader.now) (g.S.Source.ends r.new.reader) (g.S.Source.failures c.args.reader.now) (g.S.Source.failures r.new.reader) (rw c.deref.ensures.value at c.config_of_text.ensures) c.in-Ok-read_file.ensures.reads
