-- WHAT TWO STATES BECOME for the same parts of their frames (OpenFlow 1.3.5, 5.3).
use Rattle.std.specs.Prelude.{List, map}
use Rattle.of_symbolic_run.specs.{declared.dividing.Case.Case, declared.joint.JointCase.JointCase}

-- the case of each of them
abbrev pub first_case : JointCase → Case
first_case c = record { frames = c.frames; state = c.first }

abbrev pub second_case : JointCase → Case
second_case c = record { frames = c.frames; state = c.second }

abbrev pub first_cases : List JointCase → List Case
first_cases cases = map first_case cases

abbrev pub second_cases : List JointCase → List Case
second_cases cases = map second_case cases
