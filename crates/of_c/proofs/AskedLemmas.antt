-- What a call gives that is asked about words of its caller.
use Rattle.std.proofs.Common.{◌≡◌, ℕ, Bool, List, [], map, Ok, refl, subst, inl, inr}
use Rattle.std.specs.List.{flat_map}
use Rattle.of_switch.specs.State.{State}
use Rattle.of_files.specs.declared.tables.FileTables.{FileTables}
use Rattle.of_frame_words.specs.{declared.why.NoFrame.NoFrame, Conditions.conditions_in_words, Refusals.FrameStops}
use Rattle.of_require.specs.{declared.line.Line.Line, RequirementFiles.requirements_in, RequirementFiles.view_line}
use Rattle.of_c.specs.{Calls.ArePathsTold, Calls.status_of_no_words, Requiring.AreAnswered, Requiring.AreTablesWith, Requiring.IsRequired, Requiring.named_by_line}

pub no_match : (file : List ℕ) (port : ℕ) (within : List ℕ) (to : ℕ) (each : Bool) (steps : ℕ) (words : Bool) (why : NoFrame) (status : ℕ) (text : List ℕ)
    → FrameStops (conditions_in_words within) why → status ≡ status_of_no_words why → text ≡ [] → ArePathsTold file port within to each steps words status 0 text
no_match file port within to each steps words why status text h s t =
    inr (inr (inl (record { why = why; stops = h; status_is = s; line_is = refl; text_is = t })))

pub required : (file requirements : List ℕ) (steps : ℕ) (words : Bool) (lines lines' : List Line) (switch : State) (missing : List ℕ) (tables : FileTables) (status line : ℕ) (text : List ℕ)
    → requirements_in requirements ≡ Ok (map view_line lines) → AreTablesWith (flat_map named_by_line lines') file switch missing tables → lines' ≡ lines
    → AreAnswered switch tables missing lines steps words status line text → IsRequired file requirements steps words status line text
required file requirements steps words lines lines' switch missing tables status line text h f e a =
    let of_file = subst (λ (x : List Line). AreTablesWith (flat_map named_by_line x) file switch missing tables) e f in
    inl (record { lines = lines; lines_are = h; switch = switch; missing = missing; tables = tables; of_file = of_file; answered = a })
