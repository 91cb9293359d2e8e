-- A line's part in a run.
use Rattle.std.proofs.Common.{◌≡◌, ℕ, ◌+◌, ◌≤◌, suc, Bool, true, false, length, take, drop, List, [], ◌∷◌, ◌++◌, Option, Some, None, Ok, Err, refl, sym, ◌∙◌, ap, subst, append_assoc, arith, length-drop, ◌-◌, Result}
use Rattle.std.proofs.lemmas.List.{append-nil, length-append, take_all, length-take-le, drop-drop}
use Rattle.std.{specs.Prelude.nat_le, specs.Prelude.OnOk, specs.Prelude.IfErr, specs.Option.option_map, specs.Io.KnownBytes.Appends, proofs.lemmas.Bool.Decides.nat_tests}
use Rattle.of_switch.specs.{declared.event.Event.Event, State.State, Runs.happened, Runs.run}
use Rattle.of_replay.specs.Rows.{Rows, row_of_line, row_and, rows_of_lines, events_in}
use Rattle.of_replay.specs.RowTexts.{RowText, plain_row_text, row_happened, told, told_and, told_from}
use Rattle.of_replay.specs.Stepping.{LineTells, LineGoes, Prints, PrintsFirst, Going, Within, WithinChunk, Halts, ChunkGoes}
use Rattle.of_replay.proofs.Cutting.{kept_more, Parts, parts, first_end, whole_join, last_join}
use Rattle.of_replay.specs.declared.halt.Halt.{Halt}
use Rattle.of_replay.specs.declared.halt.Halt.TheVariants.{Bad, Memory, Read, Write}
use Rattle.of_replay.specs.{Transfer.WrotePrefix, Lexing.whole_from, Lexing.whole_lines, Lexing.last_from, Output.report_text, Output.printed_from, Play.lines_read}
use Rattle.of_replay.proofs.TellingLemmas.{appends-none, appends-then}

-- A LINE

-- what the events of a row print, and the state after them
row_text : (row : Option Event) (s : State) → report_text (row_happened s row).report ≡ printed_from s (events_in row)
row_text None s = refl
row_text (Some event) s = sym (append-nil _)

row_state : (row : Option Event) (s : State) → (row_happened s row).state ≡ (run (events_in row) s).state
row_state None s = refl
row_state (Some event) s = refl

-- nothing was written yet
pub line_kept : (tale : RowText) (row : Option (Option Event)) (n : ℕ) (line : List ℕ) (s held : State) (out out' : List ℕ) (taken : Option (List ℕ)) → LineTells tale (Ok tt) n line row s held out out' → LineGoes tale (Ok tt) n line row s held out out' taken taken
line_kept tale (Some row) n line s held out out' taken h = ([], appends-none taken, h.0, h.1)
line_kept tale None n line s held out out' taken h = absurd h

-- all was written
pub line_flushed : (tale : RowText) (row : Option (Option Event)) (n : ℕ) (line : List ℕ) (s held : State) (out full out' : List ℕ) (taken taken' : Option (List ℕ)) → LineTells tale (Ok tt) n line row s held out full → out' ≡ [] → Appends taken taken' full → LineGoes tale (Ok tt) n line row s held out out' taken taken'
line_flushed tale (Some row) n line s held out full out' taken taken' h o t = (full, t, ap (λ (x : List ℕ). full ++ x) o ∙ (append-nil full ∙ h.0), h.1)
line_flushed tale None n line s held out full out' taken taken' h o t = absurd h

-- the write failed
pub line_unwritten : (tale : RowText) (row : Option (Option Event)) (n : ℕ) (line : List ℕ) (s told_to held : State) (out full out' : List ℕ) (taken taken' : Option (List ℕ)) → LineTells tale (Ok tt) n line row s told_to out full → WrotePrefix taken full taken' → LineGoes tale (Err Write) n line row s held out out' taken taken'
line_unwritten tale (Some row) n line s told_to held out full out' taken taken' h w = subst (λ (x : List ℕ). WrotePrefix taken x taken') h.0 w
line_unwritten tale None n line s told_to held out full out' taken taken' h w = absurd h

-- a line that is no row may be another one
bad_goes : (tale : RowText) (r : Result (Unit {0}) Halt) (n : ℕ) (line line' : List ℕ) (s held : State) (out out' : List ℕ) (taken taken' : Option (List ℕ)) → LineGoes tale r n line None s held out out' taken taken' → LineGoes tale r n line' None s held out out' taken taken'
bad_goes tale (Ok u) n line line' s held out out' taken taken' h = h
bad_goes tale (Err (Bad m)) n line line' s held out out' taken taken' h = h
bad_goes tale (Err Memory) n line line' s held out out' taken taken' h = h
bad_goes tale (Err Read) n line line' s held out out' taken taken' h = h
bad_goes tale (Err Write) n line line' s held out out' taken taken' h = h

-- ROWS OF MORE LINES

-- rows, and then those of other lines
abbrev joined : Rows → ℕ → Rows → Rows
joined a k b = record { events = a.events ++ b.events; bad = option_map (λ m. k + m) b.bad }

same_rows : (es es' : List Event) (bad bad' : Option ℕ) → es ≡ es' → bad ≡ bad' → ◌≡◌ {A = Rows} (record { events = es; bad = bad }) (record { events = es'; bad = bad' })
same_rows es es' bad bad' e f =
    let first : ◌≡◌ {A = Rows} (record { events = es; bad = bad }) (record { events = es'; bad = bad }) = ap {B = Rows} (λ (x : List Event). record { events = x; bad = bad }) e in
    let second : ◌≡◌ {A = Rows} (record { events = es'; bad = bad }) (record { events = es'; bad = bad' }) = ap {B = Rows} (λ (x : Option ℕ). record { events = es'; bad = x }) f in
    first ∙ second

-- numbers, counted from another line
counted_on : (k : ℕ) (bad : Option ℕ) → option_map (λ n. n + 1) (option_map (λ m. k + m) bad) ≡ option_map (λ m. suc k + m) bad
counted_on k None = refl
counted_on k (Some m) = ap Some (omega arith)

counted_same : (bad : Option ℕ) → bad ≡ option_map (λ m. 0 + m) bad
counted_same None = refl
counted_same (Some m) = ap Some (omega arith)

was_good : (bad : Option ℕ) → option_map (λ n. n + 1) bad ≡ None → bad ≡ None
was_good None e = refl
was_good (Some n) e = cc

row_joined : (r : Option (Option Event)) (a b ab : Rows) (k : ℕ) → (a.bad ≡ None → ab ≡ joined a k b) → (row_and r a).bad ≡ None → row_and r ab ≡ joined (row_and r a) (suc k) b
row_joined None a b ab k ih good = cc
row_joined (Some row) a b ab k ih good =
    ap (row_and (Some row)) (ih (was_good a.bad good))
    ∙ same_rows (events_in row ++ (a.events ++ b.events)) ((events_in row ++ a.events) ++ b.events) (option_map (λ n. n + 1) (option_map (λ m. k + m) b.bad)) (option_map (λ m. suc k + m) b.bad)
    (sym (append_assoc (events_in row) a.events b.events)) (counted_on k b.bad)

-- lines of which none is bad, and then others
rows_join : (lines more : List (List ℕ)) → (rows_of_lines lines).bad ≡ None → rows_of_lines (lines ++ more) ≡ joined (rows_of_lines lines) (length lines) (rows_of_lines more)
rows_join [] more good = same_rows (rows_of_lines more).events (rows_of_lines more).events (rows_of_lines more).bad (option_map (λ m. 0 + m) (rows_of_lines more).bad) refl (counted_same (rows_of_lines more).bad)
rows_join (line ∷ lines) more good = row_joined (row_of_line line) (rows_of_lines lines) (rows_of_lines more) (rows_of_lines (lines ++ more)) (length lines) (rows_join lines more) good

-- EVENTS, ONE AFTER THE OTHER

run_state : (es fs : List Event) (s : State) → (run (es ++ fs) s).state ≡ (run fs (run es s).state).state
run_state [] fs s = refl
run_state (e ∷ es) fs s = run_state es fs (happened e s).state

pub run_text : (es fs : List Event) (s : State) → printed_from s (es ++ fs) ≡ printed_from s es ++ printed_from (run es s).state fs
run_text [] fs s = refl
run_text (e ∷ es) fs s =
    ap (λ (x : List ℕ). report_text (happened e s).report ++ x) (run_text es fs (happened e s).state)
    ∙ sym (append_assoc (report_text (happened e s).report) (printed_from (happened e s).state es) (printed_from (run es (happened e s).state).state fs))

-- WHAT IS PRINTED, line after line

tale_joined : (tale : RowText) (r : Option (Option Event)) (n : ℕ) (line : List ℕ) (lines more : List (List ℕ)) (s : State)
    → ((t : State) → (rows_of_lines lines).bad ≡ None → told_from tale (n + 1) (lines ++ more) t ≡ told_from tale (n + 1) lines t ++ told_from tale (n + suc (length lines)) more (run (rows_of_lines lines).events t).state)
    → (row_and r (rows_of_lines lines)).bad ≡ None
    → told_and tale n s line r (told_from tale (n + 1) (lines ++ more)) ≡ told_and tale n s line r (told_from tale (n + 1) lines) ++ told_from tale (n + suc (length lines)) more (run (row_and r (rows_of_lines lines)).events s).state
tale_joined tale None n line lines more s ih good = cc
tale_joined tale (Some row) n line lines more s ih good =
    let t = (row_happened s row).state in
    let es = (rows_of_lines lines).events in
    let m = n + suc (length lines) in
    let same : (run es t).state ≡ (run (events_in row ++ es) s).state = ap (λ (x : State). (run es x).state) (row_state row s) ∙ sym (run_state (events_in row) es s) in
    ap (λ (x : List ℕ). tale n s line row ++ x) (ih t (was_good (rows_of_lines lines).bad good))
    ∙ (sym (append_assoc (tale n s line row) (told_from tale (n + 1) lines t) (told_from tale m more (run es t).state))
    ∙ ap (λ (x : State). (tale n s line row ++ told_from tale (n + 1) lines t) ++ told_from tale m more x) same)

-- of lines of which none is bad, and then of others
tale_after : (tale : RowText) (n : ℕ) (lines more : List (List ℕ)) (s : State) → (rows_of_lines lines).bad ≡ None → told_from tale n (lines ++ more) s ≡ told_from tale n lines s ++ told_from tale (n + length lines) more (run (rows_of_lines lines).events s).state
tale_after tale n [] more s good = let same : n ≡ n + 0 = omega arith in ap (λ (m : ℕ). told_from tale m more s) same
tale_after tale n (line ∷ lines) more s good =
    let counted : n + 1 + length lines ≡ n + suc (length lines) = omega arith in
    tale_joined tale (row_of_line line) n line lines more s
    (λ t g. tale_after tale (n + 1) lines more t g ∙ ap (λ (m : ℕ). told_from tale (n + 1) lines t ++ told_from tale m more (run (rows_of_lines lines).events t).state) counted) good

-- where the line behind them has that number
pub tale_join : (tale : RowText) (n : ℕ) (lines more : List (List ℕ)) (s : State) → n ≡ length lines + 1 → (rows_of_lines lines).bad ≡ None → told s tale (lines ++ more) ≡ told s tale lines ++ told_from tale n more (run (rows_of_lines lines).events s).state
tale_join tale n lines more s is good =
    let counted : 1 + length lines ≡ n = omega (arith, is) in
    tale_after tale 1 lines more s good ∙ ap (λ (m : ℕ). told s tale lines ++ told_from tale m more (run (rows_of_lines lines).events s).state) counted

tale_first : (tale : RowText) (n : ℕ) (line : List ℕ) (row : Option Event) (more : List (List ℕ)) (s : State) → row_of_line line ≡ Some row → told_from tale n (line ∷ more) s ≡ tale n s line row ++ told_from tale (n + 1) more (row_happened s row).state
tale_first tale n line row more s is = ap (λ (r : Option (Option Event)). told_and tale n s line r (told_from tale (n + 1) more)) is

tale_bad : (tale : RowText) (n : ℕ) (line : List ℕ) (more : List (List ℕ)) (s : State) → row_of_line line ≡ None → told_from tale n (line ∷ more) s ≡ []
tale_bad tale n line more s is = ap (λ (r : Option (Option Event)). told_and tale n s line r (told_from tale (n + 1) more)) is

-- what `replay` prints

plain_and : (r : Option (Option Event)) (n : ℕ) (line : List ℕ) (lines : List (List ℕ)) (s : State) → ((t : State) → told_from plain_row_text (n + 1) lines t ≡ printed_from t (rows_of_lines lines).events)
    → told_and plain_row_text n s line r (told_from plain_row_text (n + 1) lines) ≡ printed_from s (row_and r (rows_of_lines lines)).events
plain_and None n line lines s ih = refl
plain_and (Some row) n line lines s ih =
    let t = (row_happened s row).state in
    let es = (rows_of_lines lines).events in
    ap (λ (x : List ℕ). report_text (row_happened s row).report ++ x) (ih t)
    ∙ (ap (λ (x : List ℕ). x ++ printed_from t es) (row_text row s)
    ∙ (ap (λ (x : State). printed_from s (events_in row) ++ printed_from x es) (row_state row s)
    ∙ sym (run_text (events_in row) es s)))

plain_from : (n : ℕ) (lines : List (List ℕ)) (s : State) → told_from plain_row_text n lines s ≡ printed_from s (rows_of_lines lines).events
plain_from n [] s = refl
plain_from n (line ∷ lines) s = plain_and (row_of_line line) n line lines s (λ t. plain_from (n + 1) lines t)

pub plain_is : (lines : List (List ℕ)) (s : State) → told s plain_row_text lines ≡ printed_from s (rows_of_lines lines).events
plain_is lines s = plain_from 1 lines s

-- A RUN

-- what was written, and more
prints_more : (begun : State) (tale : RowText) (lines lines' : List (List ℕ)) (out wrote out' text : List ℕ) (first taken taken' : Option (List ℕ)) → Prints begun tale lines out first taken → told begun tale lines' ≡ told begun tale lines ++ text → Appends taken taken' wrote → wrote ++ out' ≡ out ++ text
    → Prints begun tale lines' out' first taken'
prints_more begun tale lines lines' out wrote out' text first taken taken' p e t o = record {
  wrote = p.wrote ++ wrote;
  taken_is = appends-then first taken taken' p.wrote wrote p.taken_is t;
  text_is = append_assoc p.wrote wrote out'
      ∙ (ap (λ (x : List ℕ). p.wrote ++ x) o
      ∙ (sym (append_assoc p.wrote out text)
      ∙ (ap (λ (x : List ℕ). x ++ text) p.text_is ∙ sym e)));
}

prints_kept : (begun : State) (tale : RowText) (lines lines' : List (List ℕ)) (out out' : List ℕ) (first taken taken' : Option (List ℕ)) → out' ≡ out → taken' ≡ taken → told begun tale lines' ≡ told begun tale lines → Prints begun tale lines out first taken → Prints begun tale lines' out' first taken'
prints_kept begun tale lines lines' out out' first taken taken' o t e p = record { wrote = p.wrote; taken_is = subst (λ (k : Option (List ℕ)). Appends first k p.wrote) (sym t) p.taken_is; text_is = ap (λ (x : List ℕ). p.wrote ++ x) o ∙ (p.text_is ∙ sym e) }

-- a prefix of what was to be written
pub prints_front : (begun : State) (tale : RowText) (lines lines' : List (List ℕ)) (out more : List ℕ) (first taken taken' : Option (List ℕ)) → Prints begun tale lines out first taken → told begun tale lines' ≡ told begun tale lines ++ more → (text : List ℕ) (after : List ℕ) → text ++ after ≡ out ++ more
    → WrotePrefix taken text taken' → WrotePrefix first (told begun tale lines') taken'
prints_front begun tale lines lines' out more first taken taken' p e text after is w = (
  p.wrote ++ w.0,
  w.1 ++ after,
  append_assoc p.wrote w.0 (w.1 ++ after)
      ∙ (ap (λ (x : List ℕ). p.wrote ++ x) (sym (append_assoc w.0 w.1 after) ∙ (ap (λ (x : List ℕ). x ++ after) w.2 ∙ is))
      ∙ (sym (append_assoc p.wrote out more) ∙ (ap (λ (x : List ℕ). x ++ more) p.text_is ∙ sym e))),
  appends-then first taken taken' p.wrote w.0 p.taken_is w.3,
)

-- one more good line
good_rows : (lines : List (List ℕ)) (line : List ℕ) (row : Option Event) → (rows_of_lines lines).bad ≡ None → row_of_line line ≡ Some row → rows_of_lines (lines ++ line ∷ []) ≡ record { events = (rows_of_lines lines).events ++ events_in row; bad = None }
good_rows lines line row good is =
    rows_join lines (line ∷ []) good
    ∙ (ap (λ (r : Option (Option Event)). joined (rows_of_lines lines) (length lines) (row_and r (rows_of_lines []))) is
    ∙ ap (λ (es : List Event). record { events = (rows_of_lines lines).events ++ es; bad = None }) (append-nil (events_in row)))

going_by : (begun : State) (tale : RowText) (r : Option (Option Event)) (lines : List (List ℕ)) (line : List ℕ) (n n' : ℕ) (s held : State) (out out' : List ℕ) (first taken taken' : Option (List ℕ)) → row_of_line line ≡ r
    → Going begun tale lines n s out first taken → LineGoes tale (Ok tt) n line r s held out out' taken taken' → n' ≡ n + 1 → Going begun tale (lines ++ line ∷ []) n' held out' first taken'
going_by begun tale None lines line n n' s held out out' first taken taken' is going h e = absurd h
going_by begun tale (Some row) lines line n n' s held out out' first taken taken' is going h e =
    let rows = good_rows lines line row going.good is in
    let es = (rows_of_lines lines).events in
    let now = (run es begun).state in
    let text : h.0 ++ out' ≡ out ++ tale n now line row = h.2 ∙ ap (λ (x : State). out ++ tale n x line row) going.state in
    let all : told begun tale (lines ++ line ∷ []) ≡ told begun tale lines ++ tale n now line row =
    tale_join tale n lines (line ∷ []) begun going.number going.good ∙ ap (λ (x : List ℕ). told begun tale lines ++ x) (tale_first tale n line row [] now is ∙ append-nil (tale n now line row)) in
    record {
      good = ap (λ (r : Rows). r.bad) rows;
      number = e ∙ (ap (λ (x : ℕ). x + 1) going.number ∙ ap (λ (x : ℕ). x + 1) (sym (length-append lines (line ∷ []))));
      state = h.3 ∙ (row_state row s ∙ (ap (λ (x : State). (run (events_in row) x).state) going.state ∙ (sym (run_state es (events_in row) begun) ∙ ap (λ (r : Rows). (run r.events begun).state) (sym rows))));
      prints = prints_more begun tale lines (lines ++ line ∷ []) out h.0 out' (tale n now line row) first taken taken' going.prints all h.1 text;
    }

-- some first lines were printed, where these were played before the last read
prints_first : (begun : State) (tale : RowText) (earlier past lines others all : List (List ℕ)) (out : List ℕ) (first taken : Option (List ℕ)) → lines ≡ earlier ++ past → all ≡ lines ++ others → (rows_of_lines lines).bad ≡ None → Prints begun tale lines out first taken
    → PrintsFirst begun tale earlier all out first taken
prints_first begun tale earlier past lines others all out first taken same is good p = record {
  more = past;
  others = others;
  lines_are = is ∙ ap (λ (ls : List (List ℕ)). ls ++ others) same;
  good = subst (λ (ls : List (List ℕ)). (rows_of_lines ls).bad ≡ None) same good;
  prints = subst (λ (ls : List (List ℕ)). Prints begun tale ls out first taken) same p;
}

halts_by : (begun : State) (tale : RowText) (h : Halt) (r : Option (Option Event)) (earlier past lines : List (List ℕ)) (line : List ℕ) (more : List (List ℕ)) (n : ℕ) (s held : State) (out out' : List ℕ) (first taken taken' : Option (List ℕ)) → lines ≡ earlier ++ past → row_of_line line ≡ r
    → Going begun tale lines n s out first taken → LineGoes tale (Err h) n line r s held out out' taken taken' → Halts begun tale h earlier (lines ++ line ∷ more) out' first taken'
halts_by begun tale (Bad m) (Some row) earlier past lines line more n s held out out' first taken taken' same is going h = absurd h
halts_by begun tale (Bad m) None earlier past lines line more n s held out out' first taken taken' same is going h =
    let rows : rows_of_lines (lines ++ line ∷ more) ≡ record { events = (rows_of_lines lines).events ++ []; bad = Some (length lines + 1) } =
    rows_join lines (line ∷ more) going.good ∙ ap (λ (r : Option (Option Event)). joined (rows_of_lines lines) (length lines) (row_and r (rows_of_lines more))) is in
    let all : told begun tale (lines ++ line ∷ more) ≡ told begun tale lines =
    tale_join tale n lines (line ∷ more) begun going.number going.good ∙ (ap (λ (x : List ℕ). told begun tale lines ++ x) (tale_bad tale n line more (run (rows_of_lines lines).events begun).state is) ∙ append-nil (told begun tale lines)) in (
      ap (λ (r : Rows). r.bad) rows ∙ ap Some (sym (h.0 ∙ going.number)),
      prints_kept begun tale lines (lines ++ line ∷ more) out out' first taken taken' h.1 h.2 all going.prints,
    )
halts_by begun tale Memory r earlier past lines line more n s held out out' first taken taken' same is going h =
    prints_first begun tale earlier past lines (line ∷ more) (lines ++ line ∷ more) out' first taken' same refl going.good (prints_kept begun tale lines lines out out' first taken taken' h.0 h.1 refl going.prints)
halts_by begun tale Read r earlier past lines line more n s held out out' first taken taken' same is going h = absurd h
halts_by begun tale Write None earlier past lines line more n s held out out' first taken taken' same is going h = absurd h
halts_by begun tale Write (Some row) earlier past lines line more n s held out out' first taken taken' same is going h =
    let now = (run (rows_of_lines lines).events begun).state in
    let later = told_from tale (n + 1) more (row_happened now row).state in
    let text = out ++ tale n now line row in
    let all : told_from tale n (line ∷ more) now ≡ tale n now line row ++ later = tale_first tale n line row more now is in
    let here : WrotePrefix taken text taken' = subst (λ (x : State). WrotePrefix taken (out ++ tale n x line row) taken') going.state h in
    prints_front begun tale lines (lines ++ line ∷ more) out (told_from tale n (line ∷ more) now) first taken taken' going.prints (tale_join tale n lines (line ∷ more) begun going.number going.good) text later
    (append_assoc out (tale n now line row) later ∙ ap (λ (x : List ℕ). out ++ x) (sym all)) here

-- memory ran out before a line
halts_waiting : (begun : State) (tale : RowText) (earlier past lines more : List (List ℕ)) (n : ℕ) (s : State) (out : List ℕ) (first taken : Option (List ℕ)) → lines ≡ earlier ++ past → Going begun tale lines n s out first taken → Halts begun tale Memory earlier (lines ++ more) out first taken
halts_waiting begun tale earlier past lines more n s out first taken same going = prints_first begun tale earlier past lines more (lines ++ more) out first taken same refl going.good going.prints

-- THE ROW OF WHAT IS KEPT

too_long : (line : List ℕ) → nat_le (length line) 1048576 ≡ false → row_of_line line ≡ None
too_long line e = rw e refl

row_kept_by : (line : List ℕ) (t : Bool) → nat_le (length line) 1048576 ≡ t → row_of_line (take 1048577 line) ≡ row_of_line line
row_kept_by line true e = ap row_of_line (take_all 1048577 line (grind (arith, nat_tests, e)))
row_kept_by line false e =
    let long : 1048577 ≤ length line = grind (arith, nat_tests, e) in
    let test : nat_le (length (take 1048577 line)) 1048576 ≡ false = grind (arith, nat_tests, length-take-le 1048577 line long) in
    too_long (take 1048577 line) test ∙ sym (too_long line e)

-- it is the row of the line
row_kept : (line : List ℕ) → row_of_line (take 1048577 line) ≡ row_of_line line
row_kept line = row_kept_by line (nat_le (length line) 1048576) refl

-- so does what is printed for it
goes_by : (tale : RowText) (r : Result (Unit {0}) Halt) (line kept : List ℕ) (t : Bool) (n : ℕ) (s held : State) (out out' : List ℕ) (taken taken' : Option (List ℕ)) → nat_le (length line) 1048576 ≡ t → kept ≡ take 1048577 line
    → LineGoes tale r n kept (row_of_line kept) s held out out' taken taken' → LineGoes tale r n line (row_of_line line) s held out out' taken taken'
goes_by tale r line kept true n s held out out' taken taken' e k h =
    let same : kept ≡ line = k ∙ take_all 1048577 line (grind (arith, nat_tests, e)) in
    subst (λ (x : List ℕ). LineGoes tale r n x (row_of_line x) s held out out' taken taken') same h
goes_by tale r line kept false n s held out out' taken taken' e k h =
    let bad : row_of_line line ≡ None = too_long line e in
    let here : row_of_line kept ≡ None = ap row_of_line k ∙ (row_kept line ∙ bad) in
    let goes : LineGoes tale r n kept None s held out out' taken taken' = subst (λ (x : Option (Option Event)). LineGoes tale r n kept x s held out out' taken taken') here h in
    subst (λ (x : Option (Option Event)). LineGoes tale r n line x s held out out' taken taken') (sym bad) (bad_goes tale r n kept line s held out out' taken taken' goes)

goes_whole : (tale : RowText) (r : Result (Unit {0}) Halt) (line kept : List ℕ) (n : ℕ) (s held : State) (out out' : List ℕ) (taken taken' : Option (List ℕ)) → kept ≡ take 1048577 line
    → LineGoes tale r n kept (row_of_line kept) s held out out' taken taken' → LineGoes tale r n line (row_of_line line) s held out out' taken taken'
goes_whole tale r line kept n s held out out' taken taken' k h = goes_by tale r line kept (nat_le (length line) 1048576) n s held out out' taken taken' refl k h

-- LINES OF A CHUNK

-- nothing was read
pub within_start : (begun : State) (tale : RowText) (first : Option (List ℕ)) → Within begun tale [] [] [] 1 begun [] first first
within_start begun tale first = record {
  lines = [];
  line = [];
  going = record {
    good = refl;
    number = refl;
    state = refl;
    prints = record { wrote = []; taken_is = appends-none first; text_is = refl };
  };
  kept_is = refl;
  whole = refl;
  last = refl;
}

-- more bytes are there
pub within_more : (begun : State) (tale : RowText) (bytes chunk kept : List ℕ) (n : ℕ) (s : State) (out : List ℕ) (first taken : Option (List ℕ)) → Within begun tale bytes [] kept n s out first taken → Within begun tale (bytes ++ chunk) chunk kept n s out first taken
within_more begun tale bytes chunk kept n s out first taken w = record {
  lines = w.lines;
  line = w.line;
  going = w.going;
  kept_is = w.kept_is;
  whole = whole_join [] bytes chunk
      ∙ (ap (λ (x : List ℕ). whole_from [] bytes ++ whole_from x chunk) w.last
      ∙ ap (λ (ls : List (List ℕ)). ls ++ whole_from w.line chunk) (w.whole ∙ append-nil w.lines));
  last = last_join [] bytes chunk ∙ ap (λ (x : List ℕ). last_from x chunk) w.last;
}

-- all lines that are whole are behind
pub within_rest : (begun : State) (tale : RowText) (bytes rest part kept kept' : List ℕ) (n n' : ℕ) (s s' : State) (out out' : List ℕ) (first taken : Option (List ℕ)) → Within begun tale bytes rest kept n s out first taken
    → None ≡ first_end rest → part ≡ rest → kept' ≡ take 1048577 (kept ++ part) → n' ≡ n → s' ≡ s → out' ≡ out → Within begun tale bytes [] kept' n' s' out' first taken
within_rest begun tale bytes rest part kept kept' n n' s s' out out' first taken w none same k e f o =
    let p : Parts w.line rest None = subst (Parts w.line rest) (sym none) (parts w.line rest) in
    let going : Going begun tale w.lines n' s' out' first taken = rw (e, f, o) w.going in
    record {
      lines = w.lines;
      line = w.line ++ rest;
      going = going;
      kept_is = k ∙ (ap (λ (x : List ℕ). take 1048577 (x ++ part)) w.kept_is ∙ (kept_more 1048577 w.line part ∙ ap (λ (x : List ℕ). take 1048577 (w.line ++ x)) same));
      whole = w.whole ∙ ap (λ (ls : List (List ℕ)). w.lines ++ ls) p.0;
      last = w.last ∙ p.1;
    }

-- what was kept of the line that is whole now
kept_line : (line part kept kept' : List ℕ) → kept ≡ take 1048577 line → kept' ≡ take 1048577 (kept ++ part) → kept' ≡ take 1048577 (line ++ part)
kept_line line part kept kept' k e =
    e ∙ (ap (λ (x : List ℕ). take 1048577 (x ++ part)) k ∙ kept_more 1048577 line part)

-- a line of the chunk was played
pub within_line : (begun : State) (tale : RowText) (bytes rest rest' part kept kept' kept'' : List ℕ) (k n n' : ℕ) (s held : State) (out out' : List ℕ) (first taken taken' : Option (List ℕ)) → Within begun tale bytes rest kept n s out first taken
    → Some k ≡ first_end rest → part ≡ take k rest → rest' ≡ drop (suc k) rest → kept' ≡ take 1048577 (kept ++ part) → LineGoes tale (Ok tt) n kept' (row_of_line kept') s held out out' taken taken' → kept'' ≡ [] → n' ≡ n + 1
    → Within begun tale bytes rest' kept'' n' held out' first taken'
within_line begun tale bytes rest rest' part kept kept' kept'' k n n' s held out out' first taken taken' w some same left kept_is goes empty e =
    let p : Parts w.line rest (Some k) = subst (Parts w.line rest) (sym some) (parts w.line rest) in
    let line = w.line ++ part in
    let played : LineGoes tale (Ok tt) n line (row_of_line line) s held out out' taken taken' = goes_whole tale (Ok tt) line kept' n s held out out' taken taken' (kept_line w.line part kept kept' w.kept_is kept_is) goes in
    record {
      lines = w.lines ++ line ∷ [];
      line = [];
      going = going_by begun tale (row_of_line line) w.lines line n n' s held out out' first taken taken' refl w.going played e;
      kept_is = empty;
      whole = w.whole
          ∙ (ap (λ (ls : List (List ℕ)). w.lines ++ ls) (p.1 ∙ (ap (λ (x : List ℕ). (w.line ++ x) ∷ whole_from [] (drop (suc k) rest)) (sym same) ∙ ap (λ (x : List ℕ). line ∷ whole_from [] x) (sym left)))
          ∙ sym (append_assoc w.lines (line ∷ []) (whole_from [] rest')));
      last = w.last ∙ (p.2 ∙ ap (λ (x : List ℕ). last_from [] x) (sym left));
    }

-- the lines that are whole, with one of them first among those that were not played
open_lines : (bytes : List ℕ) → lines_read false bytes ≡ whole_lines bytes
open_lines bytes = append-nil (whole_lines bytes)

-- the run halts at a line of the chunk
pub within_halts : (begun : State) (tale : RowText) (h : Halt) (before bytes rest part kept kept' : List ℕ) (k n : ℕ) (s held : State) (out out' : List ℕ) (first taken taken' : Option (List ℕ)) → WithinChunk begun tale before bytes rest kept n s out first taken
    → Some k ≡ first_end rest → part ≡ take k rest → kept' ≡ take 1048577 (kept ++ part) → LineGoes tale (Err h) n kept' (row_of_line kept') s held out out' taken taken'
    → Halts begun tale h (whole_lines before) (lines_read false bytes) out' first taken'
within_halts begun tale h before bytes rest part kept kept' k n s held out out' first taken taken' p some same kept_is goes =
    let w = p.within in
    let cut : Parts w.line rest (Some k) = subst (Parts w.line rest) (sym some) (parts w.line rest) in
    let line = w.line ++ part in
    let more = whole_from [] (drop (suc k) rest) in
    let played : LineGoes tale (Err h) n line (row_of_line line) s held out out' taken taken' = goes_whole tale (Err h) line kept' n s held out out' taken taken' (kept_line w.line part kept kept' w.kept_is kept_is) goes in
    let lines : lines_read false bytes ≡ w.lines ++ line ∷ more =
    open_lines bytes ∙ (w.whole ∙ ap (λ (ls : List (List ℕ)). w.lines ++ ls) (cut.1 ∙ ap (λ (x : List ℕ). (w.line ++ x) ∷ more) (sym same))) in
    subst (λ (ls : List (List ℕ)). Halts begun tale h (whole_lines before) ls out' first taken') (sym lines) (halts_by begun tale h (row_of_line line) (whole_lines before) p.more w.lines line more n s held out out' first taken taken' p.lines_are refl w.going played)

-- memory ran out before the line was kept
pub within_waits : (begun : State) (tale : RowText) (before bytes rest kept : List ℕ) (n : ℕ) (s : State) (out out' : List ℕ) (first taken : Option (List ℕ)) → WithinChunk begun tale before bytes rest kept n s out first taken → out' ≡ out
    → Halts begun tale Memory (whole_lines before) (lines_read false bytes) out' first taken
within_waits begun tale before bytes rest kept n s out out' first taken p o =
    let w = p.within in
    let lines : lines_read false bytes ≡ w.lines ++ whole_from w.line rest = open_lines bytes ∙ w.whole in
    rw o (subst (λ (ls : List (List ℕ)). Halts begun tale Memory (whole_lines before) ls out first taken) (sym lines) (halts_waiting begun tale (whole_lines before) p.more w.lines (whole_from w.line rest) n s out first taken p.lines_are w.going))

-- THE END

-- the file ends, and its last line was played
pub within_ends : (begun : State) (tale : RowText) (bytes kept : List ℕ) (n : ℕ) (s held : State) (out out' : List ℕ) (first taken taken' : Option (List ℕ)) → Within begun tale bytes [] kept n s out first taken
    → LineGoes tale (Ok tt) n kept (row_of_line kept) s held out out' taken taken' → ((rows_of_lines (lines_read true bytes)).bad ≡ None) × Prints begun tale (lines_read true bytes) out' first taken'
within_ends begun tale bytes kept n s held out out' first taken taken' w goes =
    let played : LineGoes tale (Ok tt) n w.line (row_of_line w.line) s held out out' taken taken' = goes_whole tale (Ok tt) w.line kept n s held out out' taken taken' w.kept_is goes in
    let going : Going begun tale (w.lines ++ w.line ∷ []) (n + 1) held out' first taken' = going_by begun tale (row_of_line w.line) w.lines w.line n (n + 1) s held out out' first taken taken' refl w.going played refl in
    let lines : lines_read true bytes ≡ w.lines ++ w.line ∷ [] = ap (λ (ls : List (List ℕ)). ls ++ last_from [] bytes ∷ []) (w.whole ∙ append-nil w.lines) ∙ ap (λ (x : List ℕ). w.lines ++ x ∷ []) w.last in
    subst (λ (ls : List (List ℕ)). ((rows_of_lines ls).bad ≡ None) × Prints begun tale ls out' first taken') (sym lines) (going.good, going.prints)

-- and the switch is as its lines left it
pub within_played : (begun : State) (tale : RowText) (bytes kept : List ℕ) (n : ℕ) (s held : State) (out out' : List ℕ) (first taken taken' : Option (List ℕ)) → Within begun tale bytes [] kept n s out first taken
    → LineGoes tale (Ok tt) n kept (row_of_line kept) s held out out' taken taken' → ((rows_of_lines (lines_read true bytes)).bad ≡ None) × (held ≡ (run (rows_of_lines (lines_read true bytes)).events begun).state)
within_played begun tale bytes kept n s held out out' first taken taken' w goes =
    let played : LineGoes tale (Ok tt) n w.line (row_of_line w.line) s held out out' taken taken' = goes_whole tale (Ok tt) w.line kept n s held out out' taken taken' w.kept_is goes in
    let going : Going begun tale (w.lines ++ w.line ∷ []) (n + 1) held out' first taken' = going_by begun tale (row_of_line w.line) w.lines w.line n (n + 1) s held out out' first taken taken' refl w.going played refl in
    let lines : lines_read true bytes ≡ w.lines ++ w.line ∷ [] = ap (λ (ls : List (List ℕ)). ls ++ last_from [] bytes ∷ []) (w.whole ∙ append-nil w.lines) ∙ ap (λ (x : List ℕ). w.lines ++ x ∷ []) w.last in
    subst (λ (ls : List (List ℕ)). ((rows_of_lines ls).bad ≡ None) × (held ≡ (run (rows_of_lines ls).events begun).state)) (sym lines) (going.good, going.state)

pub within_end_halts : (begun : State) (tale : RowText) (h : Halt) (bytes kept : List ℕ) (n : ℕ) (s held : State) (out out' : List ℕ) (first taken taken' : Option (List ℕ)) → Within begun tale bytes [] kept n s out first taken
    → LineGoes tale (Err h) n kept (row_of_line kept) s held out out' taken taken' → Halts begun tale h (whole_lines bytes) (lines_read true bytes) out' first taken'
within_end_halts begun tale h bytes kept n s held out out' first taken taken' w goes =
    let played : LineGoes tale (Err h) n w.line (row_of_line w.line) s held out out' taken taken' = goes_whole tale (Err h) w.line kept n s held out out' taken taken' w.kept_is goes in
    let lines : lines_read true bytes ≡ w.lines ++ w.line ∷ [] = ap (λ (ls : List (List ℕ)). ls ++ last_from [] bytes ∷ []) (w.whole ∙ append-nil w.lines) ∙ ap (λ (x : List ℕ). w.lines ++ x ∷ []) w.last in
    let all : w.lines ≡ whole_lines bytes ++ [] = sym (append-nil (whole_lines bytes) ∙ (w.whole ∙ append-nil w.lines)) in
    subst (λ (ls : List (List ℕ)). Halts begun tale h (whole_lines bytes) ls out' first taken') (sym lines) (halts_by begun tale h (row_of_line w.line) (whole_lines bytes) [] w.lines w.line [] n s held out out' first taken taken' all refl w.going played)

-- the source tells no end: the line that has begun is none
pub within_open : (begun : State) (tale : RowText) (bytes kept : List ℕ) (n : ℕ) (s : State) (out : List ℕ) (first taken : Option (List ℕ)) → Within begun tale bytes [] kept n s out first taken
    → ((rows_of_lines (lines_read false bytes)).bad ≡ None) × Prints begun tale (lines_read false bytes) out first taken
within_open begun tale bytes kept n s out first taken w =
    let lines : lines_read false bytes ≡ w.lines = open_lines bytes ∙ (w.whole ∙ append-nil w.lines) in
    subst (λ (ls : List (List ℕ)). ((rows_of_lines ls).bad ≡ None) × Prints begun tale ls out first taken) (sym lines) (w.going.good, w.going.prints)

-- STEPS OF A CHUNK

-- no line ends in what is left
pub chunk_over : (begun : State) (tale : RowText) (r : Result (Unit {0}) Halt) (before bytes rest part kept kept' : List ℕ) (n n' : ℕ) (s s' : State) (out out' : List ℕ) (first taken : Option (List ℕ)) → WithinChunk begun tale before bytes rest kept n s out first taken
    → None ≡ first_end part → part ≡ rest → OnOk r (kept' ≡ take 1048577 (kept ++ part)) → IfErr r (λ halt. halt ≡ Memory) → (n' ≡ n) × (s' ≡ s) × (out' ≡ out) → ChunkGoes begun tale r before bytes kept' n' s' out' first taken
chunk_over begun tale (Ok u) before bytes rest part kept kept' n n' s s' out out' first taken p none same ok err e =
    within_rest begun tale bytes rest part kept kept' n n' s s' out out' first taken p.within (none ∙ ap first_end same) same ok e.0 e.1 e.2
chunk_over begun tale (Err h) before bytes rest part kept kept' n n' s s' out out' first taken p none same ok err e =
    subst (λ (x : Halt). Halts begun tale x (whole_lines before) (lines_read false bytes) out' first taken) (sym err) (within_waits begun tale before bytes rest kept n s out out' first taken p e.2)

-- a chunk begins
pub chunk_begun : (begun : State) (tale : RowText) (bytes chunk kept : List ℕ) (n : ℕ) (s : State) (out : List ℕ) (first taken : Option (List ℕ)) → Within begun tale bytes [] kept n s out first taken → WithinChunk begun tale bytes (bytes ++ chunk) chunk kept n s out first taken
unfolding within_more
chunk_begun begun tale bytes chunk kept n s out first taken w = record {
  within = within_more begun tale bytes chunk kept n s out first taken w;
  more = [];
  lines_are = sym (append-nil (whole_lines bytes) ∙ (w.whole ∙ append-nil w.lines));
}

pub chunk_place : (chunk rest : List ℕ) (at k : ℕ) → at ≤ length chunk → rest ≡ drop at chunk → Some k ≡ first_end rest → at + (k + 1) ≤ length chunk
chunk_place chunk rest at k le is some =
    let p : Parts [] rest (Some k) = subst (Parts [] rest) (sym some) (parts [] rest) in
    let size : length rest ≡ length chunk - at = ap length is ∙ length-drop at chunk in
    omega (arith, p.0, size, le)

pub chunk_line : (begun : State) (tale : RowText) (before bytes chunk rest part kept kept' kept'' : List ℕ) (at k n n' n'' : ℕ) (s s' held : State) (out out' out'' : List ℕ) (first taken taken' : Option (List ℕ)) → WithinChunk begun tale before bytes (drop at chunk) kept n s out first taken
    → rest ≡ drop at chunk → Some k ≡ first_end rest → part ≡ take k rest → kept' ≡ take 1048577 (kept ++ part) → (n' ≡ n) × (s' ≡ s) × (out' ≡ out)
    → LineGoes tale (Ok tt) n' kept' (row_of_line kept') s' held out' out'' taken taken' → kept'' ≡ [] → n'' ≡ n' + 1 → WithinChunk begun tale before bytes (drop (at + (k + 1)) chunk) kept'' n'' held out'' first taken'
unfolding within_line
chunk_line begun tale before bytes chunk rest part kept kept' kept'' at k n n' n'' s s' held out out' out'' first taken taken' p is some same kept_is e goes empty number =
    let here : WithinChunk begun tale before bytes (drop at chunk) kept n' s' out' first taken = rw (e.0, e.1, e.2) p in
    let left : drop (at + (k + 1)) chunk ≡ drop (suc k) (drop at chunk) = sym (drop-drop (suc k) at chunk ∙ ap (λ (m : ℕ). drop m chunk) (omega arith)) in
    let line = here.within.line ++ part in
    record {
      within = within_line begun tale bytes (drop at chunk) (drop (at + (k + 1)) chunk) part kept kept' kept'' k n' n'' s' held out' out'' first taken taken' here.within (some ∙ ap first_end is) (same ∙ ap (take k) is) left kept_is goes empty number;
      more = here.more ++ line ∷ [];
      lines_are = ap (λ (ls : List (List ℕ)). ls ++ line ∷ []) here.lines_are ∙ append_assoc (whole_lines before) here.more (line ∷ []);
    }

pub chunk_halts : (begun : State) (tale : RowText) (h : Halt) (before bytes chunk rest part kept kept' : List ℕ) (at k n n' : ℕ) (s s' held : State) (out out' out'' : List ℕ) (first taken taken' : Option (List ℕ)) → WithinChunk begun tale before bytes (drop at chunk) kept n s out first taken
    → rest ≡ drop at chunk → Some k ≡ first_end rest → part ≡ take k rest → kept' ≡ take 1048577 (kept ++ part) → (n' ≡ n) × (s' ≡ s) × (out' ≡ out)
    → LineGoes tale (Err h) n' kept' (row_of_line kept') s' held out' out'' taken taken' → Halts begun tale h (whole_lines before) (lines_read false bytes) out'' first taken'
chunk_halts begun tale h before bytes chunk rest part kept kept' at k n n' s s' held out out' out'' first taken taken' p is some same kept_is e goes =
    let here : WithinChunk begun tale before bytes (drop at chunk) kept n' s' out' first taken = rw (e.0, e.1, e.2) p in
    within_halts begun tale h before bytes (drop at chunk) part kept kept' k n' s' held out' out'' first taken taken' here (some ∙ ap first_end is) (same ∙ ap (take k) is) kept_is goes
