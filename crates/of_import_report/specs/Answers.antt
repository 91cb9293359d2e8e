-- WHAT `import --json` ANSWERS ABOUT A TABLE of Open vSwitch: the document on its import, or on why there is none.
use Rattle.std.specs.Prelude.{◌≡◌, ◌⊎◌, ℕ, false, List, Option, Some, None}
use Rattle.of_ovs_lines.specs.declared.mode.Mode.{Mode}
use Rattle.of_import.specs.{declared.parsed_lines.LineFaults.LineFaults, declared.kept.KeptLines.KeptLines, declared.import.ImportError.ImportError, Imports.IsImport, Imports.NoImport}
use Rattle.of_import_report.specs.Json.{import_json, lines_left_out, is_memory, no_import_json}

-- of an import, and how many of its lines are left out or lose an action
pub record OnImport (lines : List (List ℕ)) (mode : Mode) (json : List ℕ) (left : Option ℕ) : Type 0 where
  pub text : List ℕ
  pub faults : List LineFaults
  pub kept : KeptLines
  pub moves : List (ℕ × ℕ)
  pub changed : ℕ
  pub is : IsImport lines mode text faults kept moves changed
  pub json_is : json ≡ import_json text faults kept moves changed
  pub left_is : left ≡ Some (lines_left_out faults kept.refused.items changed)

-- if there is none
pub record OnNone (lines : List (List ℕ)) (mode : Mode) (json : List ℕ) (left : Option ℕ) : Type 0 where
  pub error : ImportError
  pub is : NoImport lines mode error
  pub memory : is_memory error ≡ false
  pub json_is : json ≡ no_import_json error
  pub left_is : left ≡ None

abbrev pub IsAnswer : List (List ℕ) → Mode → List ℕ → Option ℕ → Type 0
IsAnswer lines mode json left = OnImport lines mode json left ⊎ OnNone lines mode json left
