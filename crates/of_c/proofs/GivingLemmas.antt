-- What a call gives, from what its parts say.
use Rattle.std.proofs.Common.{◌≡◌, false, ◌∙◌, ℕ, List, [], Some, None, Result, Bool, length, map, ap, sym, refl, subst, inl}
use Rattle.std.specs.{Global.Vec, List.AllByRecursion}
use Rattle.of_values.specs.{declared.origins.Origin.Origin, Origins.view_origins}
use Rattle.of_datapath.specs.{declared.datapath.Datapath.Datapath, Datapath.Forwarding, Datapath.world_of, Numbers.forwarding_of}
use Rattle.of_switch.specs.State.{State}
use Rattle.of_replay.specs.{declared.event_file.Ended.Ended, Ended.status_of, FileRuns.Writes, FileRuns.ended_as, Play.PrintsLines, Told.Known, Told.Left}
use Rattle.of_files.specs.{declared.tables.FileTables.FileTables, declared.switches.PortList.PortList, Switches.AreFlowsOf, Switches.ArePortsOfBoth, Switches.FileContents, Switches.switch_said}
use Rattle.of_report.specs.{declared.reporting.Form.Form, Files.IsCheckReport}
use Rattle.of_alike.specs.declared.alike.Compared.{Compared}
use Rattle.of_diff_report.specs.{declared.hits.FileFlows.FileFlows, declared.writing.DiffForm.DiffForm, declared.writing.DiffVerdict.DiffVerdict, DiffFiles.IsDiffReport, DiffWords.other_limits}
use Rattle.of_paths_report.specs.{declared.asked.Asked.Asked, declared.writing.PathsForm.PathsForm, declared.writing.PathsVerdict.PathsVerdict, PathsFiles.IsPathsReport}
use Rattle.of_require.specs.{declared.answers.Answer.Answer as Found, declared.line.Line.Line, Answers.IsFoundAbout, Answers.worst_of}
use Rattle.of_c.specs.Answers.{AreBetween, AreSwitchesOf, AreTablesOf, Gives, IsSwitchOf, line_at_fault, with_front}
use Rattle.of_c.specs.Calls.{AreFlowsGiven, ArePathsTold, IsChecked, IsCompared, IsPrinted, IsWanted, diff_form, paths_form, report_form, status_of_difference, status_of_found, status_of_paths, status_with}
use Rattle.of_c.specs.{declared.answer.Answer.Answer, Requiring.AreAnswered, Requiring.further_text, Requiring.status_of_both}

pub printed : (text_of : List (List ℕ) → List ℕ) (events : List ℕ) (a : Answer) (old new : List ℕ) (ended : Ended) (left : Known) (ends : ℕ) (text reader : List ℕ) (before : ℕ) (first : List ℕ) → PrintsLines text_of ended (Left (Some reader)) left before ends (Some first) (Some text)
    → reader ≡ events → before ≡ 0 → first ≡ [] → a.status ≡ status_of ended → a.line ≡ line_at_fault ended → a.length ≡ length text → new ≡ with_front text old → Gives (IsPrinted text_of events) a old new
printed text_of events a old new ended left ends text reader before first h e z f s l n b =
    let of_events = subst (λ (x : List ℕ). PrintsLines text_of ended (Left (Some x)) left before ends (Some first) (Some text)) e h in
    let from_none = subst (λ (x : ℕ). PrintsLines text_of ended (Left (Some events)) left x ends (Some first) (Some text)) z of_events in
    let prints = subst (λ (x : List ℕ). PrintsLines text_of ended (Left (Some events)) left 0 ends (Some x) (Some text)) f from_none in
    record { text = text; is = record { ended = ended; left = left; ends = ends; prints = prints; status_is = s; line_is = l }; length_is = n; buffer_is = b }

pub checked : (file : List ℕ) (steps : ℕ) (words : Bool) (switch : State) (missing : List ℕ) (tables : FileTables) (origins : List (Vec Origin)) (form : Form) (result : Result Bool Ended) (status : ℕ) (first text : List ℕ)
    → AreTablesOf file switch missing tables
    → Writes (IsCheckReport result steps form false [] (view_origins origins) switch.core.forwarding.tables tables.config) (ended_as result) (Some first) (Some text)
    → form ≡ report_form words → origins ≡ tables.origins.items → first ≡ [] → status ≡ status_with missing (status_of_found result) → IsChecked file steps words status 0 text
checked file steps words switch missing tables origins form result status first text h w m o f s =
    let W : Form → List (Vec Origin) → List ℕ → Type 0 = λ x y z. Writes (IsCheckReport result steps x false [] (view_origins y) switch.core.forwarding.tables tables.config) (ended_as result) (Some z) (Some text) in
    let in_form : W (report_form words) origins first = subst (λ (x : Form). W x origins first) m w in
    let of_tables : W (report_form words) tables.origins.items first = subst (λ (y : List (Vec Origin)). W (report_form words) y first) o in_form in
    let wrote : W (report_form words) tables.origins.items [] = subst (λ (z : List ℕ). W (report_form words) tables.origins.items z) f of_tables in
    inl (record { switch = switch; missing = missing; tables = tables; of_file = h; result = result; wrote = wrote; status_is = s; line_is = refl })

pub answered : (s : State) (tables : FileTables) (missing : List ℕ) (lines : List Line) (steps : ℕ) (words : Bool) (answers : List Found) (form : Form) (further : List ℕ) (origins : List (Vec Origin)) (result : Result Bool Ended) (status : ℕ) (first text : List ℕ)
    → map (λ (a : Found). a.line) answers ≡ lines → AllByRecursion (IsFoundAbout (world_of s.core.forwarding) steps) answers
    → Writes (IsCheckReport result steps form false further (view_origins origins) s.core.forwarding.tables tables.config) (ended_as result) (Some first) (Some text)
    → form ≡ report_form words → further ≡ further_text words answers → origins ≡ tables.origins.items → first ≡ [] → status ≡ status_with missing (status_of_both result (worst_of answers))
    → AreAnswered s tables missing lines steps words status 0 text
answered s tables missing lines steps words answers form further origins result status first text l a w m r o f st =
    let W : Form → List ℕ → List (Vec Origin) → List ℕ → Type 0 = λ x u y z. Writes (IsCheckReport result steps x false u (view_origins y) s.core.forwarding.tables tables.config) (ended_as result) (Some z) (Some text) in
    let in_form : W (report_form words) further origins first = subst (λ (x : Form). W x further origins first) m w in
    let with_further : W (report_form words) (further_text words answers) origins first = subst (λ (u : List ℕ). W (report_form words) u origins first) r in_form in
    let of_tables : W (report_form words) (further_text words answers) tables.origins.items first = subst (λ (y : List (Vec Origin)). W (report_form words) (further_text words answers) y first) o with_further in
    let wrote : W (report_form words) (further_text words answers) tables.origins.items [] = subst (λ (z : List ℕ). W (report_form words) (further_text words answers) tables.origins.items z) f of_tables in
    inl (record { answers = answers; of_lines = l; found = a; result = result; wrote = wrote; status_is = st; line_is = refl })

pub compared : (first second : List ℕ) (c c' : Compared) (steps : ℕ) (words : Bool) (s s' t t' : State) (tables others : FileTables) (missing missing' : List ℕ) (flows other_flows : FileFlows) (form : DiffForm) (result : Result DiffVerdict Ended) (status : ℕ) (begun text : List ℕ)
    → AreSwitchesOf first second s t tables others missing
    → Writes (IsDiffReport result form flows other_flows missing' (other_limits c' s'.core.control.config.miss_send_len t'.core.control.config.miss_send_len) c' steps s'.core.forwarding t'.core.forwarding) (ended_as result) (Some begun) (Some text)
    → c' ≡ c → s' ≡ s → t' ≡ t → missing' ≡ missing → form ≡ diff_form words → begun ≡ [] → AreFlowsGiven flows tables → AreFlowsGiven other_flows others → status ≡ status_of_difference result
    → IsCompared first second c steps words status 0 text
compared first second c c' steps words s s' t t' tables others missing missing' flows other_flows form result status begun text h w ec es et em ef eb fg gg st =
    let W : Compared → State → State → List ℕ → DiffForm → List ℕ → Type 0 = λ x f g m d b. Writes (IsDiffReport result d flows other_flows m (other_limits x f.core.control.config.miss_send_len g.core.control.config.miss_send_len) x steps f.core.forwarding g.core.forwarding) (ended_as result) (Some b) (Some text) in
    let of_compared : W c s' t' missing' form begun = subst (λ (x : Compared). W x s' t' missing' form begun) ec w in
    let of_first : W c s t' missing' form begun = subst (λ (x : State). W c x t' missing' form begun) es of_compared in
    let of_both : W c s t missing' form begun = subst (λ (x : State). W c s x missing' form begun) et of_first in
    let of_missing : W c s t missing form begun = subst (λ (x : List ℕ). W c s t x form begun) em of_both in
    let in_form : W c s t missing (diff_form words) begun = subst (λ (x : DiffForm). W c s t missing x begun) ef of_missing in
    let wrote : W c s t missing (diff_form words) [] = subst (λ (x : List ℕ). W c s t missing (diff_form words) x) eb in_form in
    inl (record { s = s; t = t; tables = tables; others = others; missing = missing; of_files = h; flows = flows; other_flows = other_flows; first_given = fg; second_given = gg; result = result; wrote = wrote; status_is = st; line_is = refl })

pub paths_told : (file : List ℕ) (port : ℕ) (within : List ℕ) (to : ℕ) (each : Bool) (steps : ℕ) (words : Bool) (s : State) (missing : List ℕ) (asked : Asked) (form : PathsForm) (result : Result PathsVerdict Ended) (status : ℕ) (begun text : List ℕ)
    → IsSwitchOf file s missing → IsWanted port within to each steps asked → Writes (IsPathsReport result form asked s.core.forwarding) (ended_as result) (Some begun) (Some text)
    → form ≡ paths_form words → begun ≡ [] → status ≡ status_with missing (status_of_paths result) → ArePathsTold file port within to each steps words status 0 text
paths_told file port within to each steps words s missing asked form result status begun text h a w m b st =
    let in_form = subst (λ (x : PathsForm). Writes (IsPathsReport result x asked s.core.forwarding) (ended_as result) (Some begun) (Some text)) m w in
    let wrote = subst (λ (x : List ℕ). Writes (IsPathsReport result (paths_form words) asked s.core.forwarding) (ended_as result) (Some x) (Some text)) b in_form in
    inl (record { switch = s; missing = missing; of_file = h; asked = asked; asked_is = a; result = result; wrote = wrote; status_is = st; line_is = refl })

pub between : (first second : FileContents) (list : PortList) (ports ports' : List ℕ) (s t : State) (flows others : FileTables)
    → ArePortsOfBoth None first second list → ports ≡ list.ports.items → ports' ≡ list.ports.items → s ≡ switch_said ports first → t ≡ switch_said ports' second → AreFlowsOf first flows → AreFlowsOf second others
    → AreBetween first second s t flows others list.missing.items
between first second list ports ports' s t flows others h p p' e e' f f' =
    record { ports = list; ports_are = h; missing_is = refl; first_is = e ∙ ap (λ (x : List ℕ). switch_said x first) p; second_is = e' ∙ ap (λ (x : List ℕ). switch_said x second) p'; first_flows = f; second_flows = f' }

pub answered_by : {L : Type 0} (s : State) (tables : FileTables) (missing : List ℕ) (lines : List Line) (steps : ℕ) (words : Bool) (answers : List Found) (form : Form) (further : List ℕ) (origins : List (Vec Origin)) (result : Result Bool Ended) (status : ℕ) (first text : List ℕ) (d : Datapath L)
    → s.core.forwarding ≡ forwarding_of d → map (λ (a : Found). a.line) answers ≡ lines → AllByRecursion (IsFoundAbout (world_of (forwarding_of d)) steps) answers
    → Writes (IsCheckReport result steps form false further (view_origins origins) s.core.forwarding.tables tables.config) (ended_as result) (Some first) (Some text)
    → form ≡ report_form words → further ≡ further_text words answers → origins ≡ tables.origins.items → first ≡ [] → status ≡ status_with missing (status_of_both result (worst_of answers))
    → AreAnswered s tables missing lines steps words status 0 text
answered_by s tables missing lines steps words answers form further origins result status first text d e l a w m r o f st =
    answered s tables missing lines steps words answers form further origins result status first text l (subst (λ (x : Forwarding). AllByRecursion (IsFoundAbout (world_of x) steps) answers) (sym e) a) w m r o f st
