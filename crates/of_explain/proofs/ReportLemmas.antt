-- What is printed for a row.
use Rattle.std.proofs.Common.{◌≡◌, ℕ, List, ◌++◌, Result, Ok, Err, sym, inl, inr}
use Rattle.std.specs.Prelude.{◌⊎◌, Option, OnOk}
use Rattle.smallvec.specs.SmallVec.{SmallVec}
use Rattle.of_datapath.specs.declared.effect.Effect.{Effect}
use Rattle.of_switch.specs.{declared.switch_error.SwitchError.SwitchError, Runs.Report, Runs.Gives, Runs.IsRefused, declared.event.Event.Event}
use Rattle.of_switch.specs.declared.switch_error.SwitchError.TheVariants as error
use Rattle.of_replay.specs.Stepping.{IsReport}
use Rattle.of_explain.specs.Explained.{TellsReport, report_notes}

abbrev Errors : Type 0
Errors = Result (SmallVec Effect) SwitchError

-- the report that a call gave is the one that happened, or memory ran out
report_is : (called : Errors) (result : Result (Unit {0}) SwitchError) (report : Report) (X : Type 0) (before : List ℕ) (row : Option Event) (out out' : List ℕ) → (called ≡ Err error.NoMemory) ⊎ (IsReport called report × X)
    → TellsReport called result before row out out' → OnOk result (out' ≡ out ++ report_notes before row report)
report_is (Ok es) (Ok u) report X before row out out' (inl is) t = cc
report_is (Ok es) (Ok u) (Gives effects) X before row out out' (inr i) t = rw (sym i.0) t
report_is (Ok es) (Ok u) (IsRefused refusal) X before row out out' (inr i) t = absurd i.0
report_is (Err e) (Ok u) report X before row out out' (inl is) t = absurd (t.0 (let f : ◌≡◌ {A = Errors} (Err e) (Err error.NoMemory) = is in cc))
report_is (Err e) (Ok u) (Gives effects) X before row out out' (inr i) t = absurd i.0
report_is (Err e) (Ok u) (IsRefused refusal) X before row out out' (inr i) t = rw (sym i.0) t.1
report_is called (Err e) report X before row out out' g t = tt

-- where its notes before it are these
pub notes_told : (called : Errors) (result : Result (Unit {0}) SwitchError) (report : Report) (X : Type 0) (before before' : List ℕ) (row : Option Event) (out out' : List ℕ) → (called ≡ Err error.NoMemory) ⊎ (IsReport called report × X)
    → before ≡ before' → TellsReport called result before row out out' → OnOk result (out' ≡ out ++ report_notes before' row report)
notes_told called result report X before before' row out out' g b t = report_is called result report X before' row out out' g (rw b at t)
