-- THE NAMES OF ERRORS (OpenFlow 1.3.5, 7.4.4), from a constant of the code: a line for each type, from type 0 on, with the names of its codes, from code 0 on.
use Rattle.std.specs.Prelude.{ℕ, List, Option}
use Rattle.of_wire.specs.{declared.code_name.TheConstants.ERROR_NAMES, Parts.nth_part, Parts.part_in}

unfoldable pub error_name : ℕ → ℕ → Option (List ℕ)
error_name kind code = part_in 32 code (nth_part 10 kind ERROR_NAMES)
