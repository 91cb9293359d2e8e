use Rattle.of_replay.{specs.FileRuns.flow_text, specs.FileRuns.is_text, proofs.WholeFiles.text_whole}
use Rattle.of_trace.specs.Files.{trace_of}
use Rattle.of_trace.proofs.laws.traces_come_whole.Goals as goal

pub returns : goal.returns
returns c = λ output port frame. text_whole flow_text (is_text (trace_of output port frame))
