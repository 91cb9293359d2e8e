use Rattle.of_paths_report.proofs.LeadingLemmas.{all_told, only_told}
use Rattle.of_paths_report.proofs.laws.told_frames_are_those_that_go_there.Goals as goal

pub returns-clause-all : goal.returns-clause-all
returns-clause-all c = λ merging w port within to steps found are frame q small received matched leads. all_told merging w within to steps found frame q small received port are matched leads

pub returns-clause-only : goal.returns-clause-only
returns-clause-only c = λ merging w port within to steps found are d there told frame q small received inside. only_told merging w within to steps found frame q small received port are d there told inside
