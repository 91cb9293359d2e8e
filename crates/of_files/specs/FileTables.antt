-- WHAT A FILE IS READ AS that has groups and flows: a configuration, for each table where its flows come from, by age, and what is left out.
use Rattle.std.specs.Prelude.{◌≡◌, ℕ, true, false, List, [], None, Some}
use Rattle.of_text.specs.{Configs.EncodeConfig, Lines.lines_of}
use Rattle.of_values.specs.Origins.{view_origins}
use Rattle.of_ovs_lines.specs.declared.mode.Mode.{Mode}
use Rattle.of_import.specs.{declared.kept.KeptLines.KeptLines, Imports.IsImportConfig}
use Rattle.of_import_report.specs.FlowOrigins.{flow_origins_below}
use Rattle.of_replay.specs.FileRuns.{HasFault, IsBad, IsTextFault, IsValue, Meaning}
use Rattle.of_replay.specs.WholeFiles.{bad_line}
use Rattle.of_files.specs.{declared.tables.FileTables.FileTables, declared.tables.LeftOut.LeftOut, FlowLines.text_origins_below}

-- nothing is left out
pub record IsNothingLeftOut (l : LeftOut) : Type 0 where
  pub faults : l.faults.items ≡ []
  pub refused : l.refused.items ≡ []
  pub changed : l.changed ≡ 0

-- A FLOW TEXT: its flows come from the lines at which they begin
abbrev pub tables_of_text : Meaning FileTables
tables_of_text false file outcome = ⊥
tables_of_text true file (IsValue t) = (bad_line file ≡ None) × EncodeConfig (lines_of file) t.config × (view_origins t.origins.items ≡ text_origins_below 16 file) × IsNothingLeftOut t.left_out
tables_of_text true file (IsBad n) = bad_line file ≡ Some n
tables_of_text true file (HasFault f) = (bad_line file ≡ None) × IsTextFault file f

-- WHAT OVS-OFCTL PRINTS: its flows come from their lines, with the counters that are there; what is left out are the lines with words that are refused, those
-- that the switch refuses (without `skip` there are none), and actions of so many flows
pub record IsTableRead (mode : Mode) (file : List ℕ) (t : FileTables) : Type 0 where
  pub kept : KeptLines
  pub imported : IsImportConfig (lines_of file) mode t.config t.left_out.faults.items kept t.left_out.changed
  pub refused : t.left_out.refused ≡ kept.refused
  pub origins : view_origins t.origins.items ≡ flow_origins_below 16 kept.flows.items
