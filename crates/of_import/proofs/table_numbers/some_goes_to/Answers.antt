use Rattle.std.proofs.Common.{◌∙◌, sym}
use Rattle.of_text.specs.{Flows.goes_to, Views.view_instruction}
use Rattle.of_import.proofs.ParsedLinesLemmas.{any_mapped}
use Rattle.of_import.proofs.table_numbers.some_goes_to.Goals as goal

pub returns : goal.returns
returns c = c.some_instruction.ensures ∙ sym (any_mapped view_instruction (goes_to c.args.table) c.args.instructions.now)
