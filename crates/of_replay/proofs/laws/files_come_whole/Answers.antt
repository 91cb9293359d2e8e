use Rattle.of_build.specs.Building.{build_text}
use Rattle.of_replay.{specs.FileRuns.event_file, specs.FileRuns.flow_text, specs.FileRuns.is_text, specs.FileRuns.switch_text, proofs.WholeFiles.lines_whole, proofs.WholeFiles.text_whole}
use Rattle.of_replay.proofs.laws.files_come_whole.Goals as goal

pub returns-clause-lines : goal.returns-clause-lines
returns-clause-lines c = lines_whole

pub returns-clause-asm : goal.returns-clause-asm
returns-clause-asm c = text_whole flow_text (is_text build_text)

pub returns-clause-dis : goal.returns-clause-dis
returns-clause-dis c = text_whole event_file (is_text switch_text)
