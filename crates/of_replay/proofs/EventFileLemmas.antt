-- The switch after an event file.
use Rattle.std.proofs.Common.{◌≡◌, ℕ, ◌+◌, Bool, true, false, List, Option, Some, None, Ok, Err, refl, sym, ◌∙◌, ap, arith}
use Rattle.std.specs.Prelude.{nat_lt}
use Rattle.of_switch.specs.{State.State, State.start, Runs.run}
use Rattle.of_replay.specs.FileRuns.{FileOutcome, IsValue, IsBad, HasFault, ReadsWhole, event_file}
use Rattle.of_replay.specs.declared.halt.Halt.{Halt}
use Rattle.of_replay.specs.declared.halt.Halt.TheVariants.{Bad, Memory, Read, Write}
use Rattle.of_replay.specs.{Told.Known, Told.given, Rows.rows_of_lines, Play.lines_read, Play.PrintsLines, RowTexts.RowText, RowTexts.told}
use Rattle.of_replay.{specs.Stepping.PlayedAll, specs.Stepping.ReadsFail, specs.Stepping.WritesFail, specs.Stepping.ended_so, specs.WholeFiles.Faults, proofs.WholeRuns.is_ended}
use Rattle.of_replay.proofs.FileLemmas.{by_read}

pub played_all : (begun : State) (answers answers' : Known) (ends ends' : ℕ) (s : State) → begun ≡ start 1 → PlayedAll begun answers answers' s → ends' ≡ ends + 1 → ReadsWhole event_file (Ok s) answers answers' ends ends'
played_all begun answers answers' ends ends' s new p e = record { more = p.more; answers_are = p.answers_are; whole = λ _. p.whole; is_read = rw (is_ended ends ends' e) (refl, p.good, p.state ∙ ap (λ (x : State). (run (rows_of_lines (lines_read true (given p.more))).events x).state) new) }

-- nothing fails to be written where nothing is
written : (h : Halt) → WritesFail (Err h) 0 → h ≡ Write → ⊥
written Write w e = omega (arith, w)
written other w e = cc

-- where a fault comes before the end, the rows so far are no switch
not_yet : (ended : Bool) (file : List ℕ) → ended ≡ false → (rows_of_lines (lines_read ended file)).bad ≡ None → (outcome : FileOutcome State) → event_file ended file outcome → ⊥
not_yet ended file early none (IsValue s) is = let e : true ≡ false = sym is.0 ∙ early in cc
not_yet ended file early none (IsBad n) is = let e : Some n ≡ None = sym is ∙ none in cc
not_yet ended file early none (HasFault f) is = is

pub played_not : (begun : State) (tale : RowText) (h : Halt) (answers answers' : Known) (ends ends' : ℕ) (taken taken' : Option (List ℕ)) → PrintsLines (told begun tale) (ended_so (Err h)) answers answers' ends ends' taken taken' → WritesFail (Err h) 0 → ReadsWhole event_file (Err (ended_so (Err h))) answers answers' ends ends'
played_not begun tale (Bad n) answers answers' ends ends' taken taken' r w = record { more = r.more; answers_are = r.answers_are; whole = r.whole; is_read = r.ends_so.0 }
played_not begun tale Memory answers answers' ends ends' taken taken' r w = record { more = r.more; answers_are = r.answers_are; whole = r.whole; is_read = tt }
played_not begun tale Read answers answers' ends ends' taken taken' r w = record { more = r.more; answers_are = r.answers_are; whole = r.whole; is_read = (r.ends_so.0, not_yet (nat_lt ends ends') (given r.more) r.ends_so.0 r.ends_so.1) }
played_not begun tale Write answers answers' ends ends' taken taken' r w = absurd (written Write w refl)

pub faults_unplayed : (h : Halt) (reads ends ends' failures failures' : ℕ) → ReadsFail 1000000 (Err h) reads ends ends' failures failures' → WritesFail (Err h) 0 → Faults (ended_so (Err h)) reads ends ends' failures failures' 0
faults_unplayed Read reads ends ends' failures failures' h w = let b = by_read reads ends ends' failures failures' h in record { done = λ e. cc; once = b.0; read_fault = λ e. b.1; failed_read = λ lt. refl; write_fault = (λ e. cc, λ lt. absurd (omega (arith, lt))) }
faults_unplayed Write reads ends ends' failures failures' h w = absurd (written Write w refl)
faults_unplayed other reads ends ends' failures failures' h w = record { done = λ e. cc; once = omega (arith, h); read_fault = λ e. cc; failed_read = λ lt. absurd (omega (arith, lt, h)); write_fault = (λ e. cc, λ lt. absurd (omega (arith, lt))) }
