-- The answer about a table.
use Rattle.std.proofs.Common.{◌≡◌, ℕ, false, List, Result, Ok, Err, inl, inr}
use Rattle.std.specs.Prelude.{IfOk, Some, None}
use Rattle.of_ovs_lines.specs.declared.mode.Mode.{Mode}
use Rattle.of_import.specs.{declared.import.Import.Import, declared.import.ImportError.ImportError, Imports.IsImport, Imports.NoImport}
use Rattle.of_import_report.specs.{declared.answer.Answer.Answer, Answers.IsAnswer, Json.import_json, Json.is_memory, Json.lines_left_out, Json.no_import_json}

pub imported : (r : Result Answer ImportError) (lines : List (List ℕ)) (mode : Mode) (d : Import) → IsImport lines mode d.text.items d.faults.items d.kept d.moves.items d.changed → IfOk r (λ a. a.json.items ≡ import_json d.text.items d.faults.items d.kept d.moves.items d.changed) → IfOk r (λ a. a.left_out ≡ Some (lines_left_out d.faults.items d.kept.refused.items d.changed)) → IfOk r (λ a. IsAnswer lines mode a.json.items a.left_out)
imported (Ok a) lines mode d i j l = inl (record { text = d.text.items; faults = d.faults.items; kept = d.kept; moves = d.moves.items; changed = d.changed; is = i; json_is = j; left_is = l })
imported (Err e) lines mode d i j l = tt

pub not_imported : (r : Result Answer ImportError) (lines : List (List ℕ)) (mode : Mode) (e : ImportError) → NoImport lines mode e → IfOk r (λ a. a.json.items ≡ no_import_json e) → IfOk r (λ a. a.left_out ≡ None) → IfOk r (λ a. is_memory e ≡ false) → IfOk r (λ a. IsAnswer lines mode a.json.items a.left_out)
not_imported (Ok a) lines mode e i j l m = inr (record { error = e; is = i; memory = m; json_is = j; left_is = l })
not_imported (Err x) lines mode e i j l m = tt
