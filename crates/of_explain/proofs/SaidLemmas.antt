-- The lines of flow text that a message has are within their bounds.
use Rattle.std.proofs.Common.{true, List, [], ◌∷◌, ◌++◌, length, refl, arith}
use Rattle.std.{specs.Prelude.map, specs.Prelude.nat_le, specs.Prelude.IsTrue, specs.List.AllByRecursion, specs.List.flat_map, specs.List.list_all, proofs.lemmas.Bool.and_parts}
use Rattle.of_oxm.specs.{declared.match_field.MatchField.MatchField, NormalForm.IsMatch}
use Rattle.of_actions.specs.{declared.action.Action.Action, declared.instruction.Instruction.Instruction, InstructionLists.are_kept, Supported.is_supported, Supported.are_supported}
use Rattle.of_lines.specs.declared.row.Row.TheVariants as rows
use Rattle.of_text.{specs.Rows.Fits, specs.Flows.Flow, specs.Flows.instruction_rows, specs.Kept.IsKeptFlow, proofs.KeptLemmas.actions_fit, proofs.KeptLemmas.flows_fit, proofs.TextLemmas.all_front}

-- of a match and of instructions that a table may keep
pub flow_lines_fit : (fields : List MatchField) (is : List Instruction) → IsMatch fields → IsTrue (are_kept is) → AllByRecursion Fits (map rows.Match fields ++ flat_map instruction_rows is)
flow_lines_fit fields is m k =
    let f : Flow = record { head = record { table = 0; priority = 0; cookie = 0; idle = 0; hard = 0; flags = 0 }; fields = fields; instructions = is } in
    let kept : IsKeptFlow f = record { head = (omega arith, omega arith, omega arith, omega arith, omega arith, omega arith); fields = m; instructions = k } in
    all_front Fits (map rows.Match fields ++ flat_map instruction_rows is) [] (flows_fit (f ∷ []) (kept, tt)).1

-- of a match
pub match_lines_fit : (fields : List MatchField) → IsMatch fields → AllByRecursion Fits (map rows.Match fields)
match_lines_fit fields m = all_front Fits (map rows.Match fields) [] (flow_lines_fit fields [] m refl)

-- of a PACKET_OUT's actions, which may name OFPP_TABLE
pub actions_said_fit : (xs : List Action) → IsTrue (are_supported true xs) → AllByRecursion Fits (map rows.Do xs)
actions_said_fit xs h = actions_fit true xs (and_parts (nat_le (length xs) 64) (list_all (is_supported true) xs) h).1
