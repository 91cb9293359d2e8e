-- THE REPORT ON A SWITCH: on its flow tables, and on the groups and flows that it has.
use Rattle.std.specs.Prelude.{◌≡◌, ◌≢◌, ◌++◌, ℕ, Bool, true, false, List, filter, Result, Ok, Err, if◌then◌else◌}
use Rattle.of_text.specs.{Configs.Configuration, Flows.Flow}
use Rattle.of_table.specs.Tables.{Tables}
use Rattle.of_replay.specs.{declared.event_file.Ended.Ended, declared.event_file.Ended.TheVariants.Done}
use Rattle.of_check.specs.{declared.finding.Finding.Finding, Findings.Checks, declared.remark.Remark.Remark}
use Rattle.of_check.specs.{declared.remark.Remark.TheVariants.IngressOutput, declared.remark.Remark.TheVariants.NoBuckets, Remarks.remarks_on}
use Rattle.of_values.specs.Origins.{EntryOrigin}
use Rattle.of_report.specs.declared.reporting.Form.{Form}
use Rattle.of_report.specs.declared.reporting.Form.TheVariants.{Findings, All, AllInWords, Json}
use Rattle.of_report.specs.{Report.report_words, Report.is_found, Json.report_json}

-- in words, without the entries that win or with them, each with a packet in digits or in words, and a further text; or as JSON, with further members
abbrev pub check_report_text : Form → List (List EntryOrigin) → List (List Flow) → List Finding → List Remark → List ℕ → List ℕ
check_report_text Findings origins tables findings remarks further = report_words false false origins tables findings remarks ++ further
check_report_text All origins tables findings remarks further = report_words true false origins tables findings remarks ++ further
check_report_text AllInWords origins tables findings remarks further = report_words true true origins tables findings remarks ++ further
check_report_text Json origins tables findings remarks further = report_json origins tables findings remarks further

-- whether something was found, where that is said: where all was written
abbrev pub IsFindingResult : Result Bool Ended → Bool → Type 0
IsFindingResult (Ok found) is = found ≡ is
IsFindingResult (Err ended) is = ended ≢ Done

-- a remark on a flow entry or a group alone: of a part of a table it also holds for the whole, whatever other lines that has
abbrev pub holds_of_whole : Remark → Bool
holds_of_whole (IngressOutput table place number) = true
holds_of_whole (NoBuckets id) = true
holds_of_whole other = false

-- the remarks on a configuration, or on one that is a part of a table
abbrev pub report_remarks : Bool → Configuration → List Remark
report_remarks part c = if part then filter holds_of_whole (remarks_on c) else remarks_on c

-- the text of the report on these tables, after so many steps at most for each entry, and on this configuration, whose entries come from these lines; and whether something was found
abbrev pub IsCheckReport : Result Bool Ended → ℕ → Form → Bool → List ℕ → List (List EntryOrigin) → Tables → Configuration → List ℕ → Type 0
IsCheckReport result steps form part further origins ts c text =
    (findings : List Finding) × Checks ts steps findings × (text ≡ check_report_text form origins c.tables findings (report_remarks part c) further) × IsFindingResult result (is_found findings (report_remarks part c))
