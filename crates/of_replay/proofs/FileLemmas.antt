-- A file that is read whole, and how a run over it ends.
use Rattle.std.proofs.Common.{◌≡◌, ℕ, ◌+◌, ◌<◌, ◌≤◌, true, false, List, [], ◌∷◌, ◌++◌, length, Option, Some, None, Result, Ok, Err, refl, sym, ◌∙◌, ap, arith, inl, inr}
use Rattle.std.specs.Prelude.{◌⊎◌, ◌↔◌}
use Rattle.of_replay.specs.declared.event_file.Ended.TheVariants.{Done, BadRow, Text, NoMemory, ReadFault, WriteFault}
use Rattle.of_replay.specs.Told.{Answer, Gave, Known, Answers, NoneLeft, answer_bytes, given}
use Rattle.of_replay.specs.FileRuns.{Meaning, FileOutcome, IsRead, ReadsWhole, Runs, Writes, ended_as}
use Rattle.of_replay.specs.declared.halt.Halt.{Halt}
use Rattle.of_replay.specs.declared.halt.Halt.TheVariants.{Bad, Memory, Read, Write}
use Rattle.of_replay.specs.{declared.event_file.Ended.Ended, Transfer.AllAnswers, Stepping.ReadsFail, Stepping.ended_so, Lexing.is_line}
use Rattle.of_replay.specs.WholeFiles.{unreadable, ReadsFile, Faults}
use Rattle.of_replay.proofs.{TellingLemmas.answers-none, TellingLemmas.told_more, TellingLemmas.given-more, WholeRuns.given_same, WholeRuns.not_ended, WholeRuns.is_ended, WholeRuns.not_whole}
use Rattle.of_text.{specs.Lines.lines_of, specs.Lines.before, specs.Lines.behind, proofs.TextLemmas.first_line}

-- ---- reading

-- so many reads gave the file so far
pub record FileSoFar (answers answers' : Known) (file : List ℕ) : Type 0 where
  pub more : List Answer
  pub answers_are : AllAnswers answers answers' more
  pub is : file ≡ given more

pub file_begun : (answers : Known) (file : List ℕ) → file ≡ [] → FileSoFar answers answers file
file_begun answers file e = record { more = []; answers_are = answers-none answers; is = e }

pub file_idle : (answers now next : Known) (one : Answer) (file : List ℕ) → FileSoFar answers now file → Answers now next one → answer_bytes one ≡ [] → FileSoFar answers next file
file_idle answers now next one file r e none = record {
  more = r.more ++ one ∷ [];
  answers_are = told_more answers now next r.more one r.answers_are e;
  is = r.is ∙ sym (given_same r.more one none);
}

pub file_more : (answers now next : Known) (chunk file file' : List ℕ) → FileSoFar answers now file → Answers now next (Gave chunk) → file' ≡ file ++ chunk → FileSoFar answers next file'
file_more answers now next chunk file file' r e more = record {
  more = r.more ++ Gave chunk ∷ [];
  answers_are = told_more answers now next r.more (Gave chunk) r.answers_are e;
  is = more ∙ (ap (λ (x : List ℕ). x ++ chunk) r.is ∙ sym (given-more r.more (Gave chunk)));
}

pub file_ends : (answers now : Known) (ends ends' : ℕ) (file : List ℕ) → FileSoFar answers now file → NoneLeft now → ends' ≡ ends + 1 → ReadsFile (Ok tt) answers now ends ends' file
file_ends answers now ends ends' file r left e = record { more = r.more; answers_are = r.answers_are; whole = λ _. left; is = (is_ended ends ends' e, r.is) }

pub file_stops : (answers now : Known) (ends ends' : ℕ) (so_far file : List ℕ) → FileSoFar answers now so_far → ends' ≡ ends → ReadsFile (Err Read) answers now ends ends' file
file_stops answers now ends ends' so_far file r e = record { more = r.more; answers_are = r.answers_are; whole = not_whole ends ends' now e; is = not_ended ends ends' e }

pub file_unkept : (answers now : Known) (ends ends' : ℕ) (so_far file : List ℕ) → FileSoFar answers now so_far → ends' ≡ ends → ReadsFile (Err Memory) answers now ends ends' file
file_unkept answers now ends ends' so_far file r e = record { more = r.more; answers_are = r.answers_are; whole = not_whole ends ends' now e; is = tt }

-- ---- lines

pub bad_here : (n : ℕ) (rest : List ℕ) → 0 < length rest → is_line (before 10 rest) ≡ false → unreadable n (lines_of rest) ≡ Some (n + 1)
bad_here n rest h b = ap (unreadable n) (first_line rest h) ∙ rw b refl

pub good_here : (n : ℕ) (rest : List ℕ) → 0 < length rest → is_line (before 10 rest) ≡ true → unreadable n (lines_of rest) ≡ unreadable (n + 1) (lines_of (behind 10 rest))
good_here n rest h b = ap (unreadable n) (first_line rest h) ∙ rw b refl

pub all_good : (n : ℕ) → unreadable n (lines_of []) ≡ None
unfolding lines_of
all_good n = refl

-- ---- what is read of a file, and written

-- nothing was read
pub read_nothing : {A : Type 0} (is : Meaning A) (answers : Known) (ends : ℕ) → ReadsWhole is (Err NoMemory) answers answers ends ends
read_nothing is answers ends = record { more = []; answers_are = answers-none answers; whole = not_whole ends ends answers refl; is_read = tt }

-- a file that is read whole was not
pub read_stopped : {A : Type 0} (is : Meaning A) → ((file : List ℕ) (outcome : FileOutcome A) → is false file outcome → ⊥) → (h : Halt) (answers answers' : Known) (ends ends' : ℕ) (file : List ℕ) → ReadsFile (Err h) answers answers' ends ends' file → ReadsWhole is (Err (ended_so (Err h))) answers answers' ends ends'
read_stopped is none Memory answers answers' ends ends' file r = record { more = r.more; answers_are = r.answers_are; whole = r.whole; is_read = tt }
read_stopped is none Read answers answers' ends ends' file r = record { more = r.more; answers_are = r.answers_are; whole = r.whole; is_read = (r.is, λ outcome i. none (given r.more) outcome (rw r.is at i)) }
read_stopped is none other answers answers' ends ends' file r = absurd r.is

-- a file was read whole
pub read_whole : {A : Type 0} (is : Meaning A) (result : Result A Ended) (answers answers' : Known) (ends ends' : ℕ) (file : List ℕ) → ReadsFile (Ok tt) answers answers' ends ends' file → IsRead is result true file → ReadsWhole is result answers answers' ends ends'
read_whole is result answers answers' ends ends' file r b = record { more = r.more; answers_are = r.answers_are; whole = r.whole; is_read = rw r.is.0 (rw r.is.1 at b) }

-- what was not read is not written
pub runs_unread : {A : Type 0} (is : Meaning A) (IsText : A → List ℕ → Type 0) (e : Ended) (answers answers' : Known) (ends ends' : ℕ) (taken : Option (List ℕ)) → ReadsWhole is (Err e) answers answers' ends ends' → Runs is IsText e answers answers' ends ends' taken taken
runs_unread is IsText e answers answers' ends ends' taken r = record { read = Err e; reads = r; writes = (refl, refl) }

pub runs_read : {A : Type 0} (is : Meaning A) (IsText : A → List ℕ → Type 0) (value : A) (e : Ended) (answers answers' : Known) (ends ends' : ℕ) (taken taken' : Option (List ℕ)) → ReadsWhole is (Ok value) answers answers' ends ends' → Writes (IsText value) e taken taken' → Runs is IsText e answers answers' ends ends' taken taken'
runs_read is IsText value e answers answers' ends ends' taken taken' r w = record { read = Ok value; reads = r; writes = w }

-- ---- faults

pub by_read : (reads ends ends' failures failures' : ℕ) → ReadsFail 1000000 (Err Read) reads ends ends' failures failures' → (failures' ≤ failures + 1) × ((failures < failures') ⊎ ((reads ≡ 1000000) × (ends' ≡ ends)))
by_read reads ends ends' failures failures' h = by_case h.1
  where
    by_case : (failures' ≡ failures + 1) ⊎ ((failures' ≡ failures) × (reads ≡ 1000000)) → (failures' ≤ failures + 1) × ((failures < failures') ⊎ ((reads ≡ 1000000) × (ends' ≡ ends)))
    by_case (inl e) = (omega (arith, e), inl (omega (arith, e)))
    by_case (inr e) = (omega (arith, e.0), inr (e.1, h.0))

pub faults_nothing : (reads ends failures writes : ℕ) → writes ≡ 0 → Faults NoMemory reads ends ends failures failures writes
faults_nothing reads ends failures writes w = record {
  done = λ e. cc;
  once = omega arith;
  read_fault = λ e. cc;
  failed_read = λ lt. absurd (omega (arith, lt));
  write_fault = (λ e. cc, λ lt. absurd (omega (arith, w, lt)));
}

pub faults_unread : (h : Halt) (answers answers' : Known) (file : List ℕ) (reads ends ends' failures failures' writes : ℕ) → ReadsFile (Err h) answers answers' ends ends' file → ReadsFail 1000000 (Err h) reads ends ends' failures failures' → writes ≡ 0 → Faults (ended_so (Err h)) reads ends ends' failures failures' writes
faults_unread (Bad n) answers answers' file reads ends ends' failures failures' writes r h w = absurd r.is
faults_unread Memory answers answers' file reads ends ends' failures failures' writes r h w = record {
  done = λ e. cc;
  once = omega (arith, h);
  read_fault = λ e. cc;
  failed_read = λ lt. absurd (omega (arith, lt, h));
  write_fault = (λ e. cc, λ lt. absurd (omega (arith, w, lt)));
}
faults_unread Read answers answers' file reads ends ends' failures failures' writes r h w = let b = by_read reads ends ends' failures failures' h in record {
  done = λ e. cc;
  once = b.0;
  read_fault = λ e. b.1;
  failed_read = λ lt. refl;
  write_fault = (λ e. cc, λ lt. absurd (omega (arith, w, lt)));
}
faults_unread Write answers answers' file reads ends ends' failures failures' writes r h w = absurd r.is

-- a failure that is no fault of the source's: the file was read whole
faults_none : (e : Ended) (reads ends ends' failures failures' : ℕ) → (e ≡ ReadFault → ⊥) → (e ≡ WriteFault → ⊥) → ReadsFail 1000000 (Ok tt) reads ends ends' failures failures' → Faults e reads ends ends' failures failures' 0
faults_none e reads ends ends' failures failures' read write h = record {
  done = λ is. (h.1, h.0, refl);
  once = omega (arith, h.1);
  read_fault = λ is. absurd (read is);
  failed_read = λ lt. absurd (omega (arith, lt, h.1));
  write_fault = (λ is. absurd (write is), λ lt. absurd (omega (arith, lt)));
}

-- the file was read whole, and then something was read of it or not
pub faults_whole : {A : Type 0} (is : Meaning A) (result : Result A Ended) (file : List ℕ) (reads ends ends' failures failures' : ℕ) → IsRead is result true file → ReadsFail 1000000 (Ok tt) reads ends ends' failures failures' → Faults (ended_as result) reads ends ends' failures failures' 0
faults_whole is (Ok value) file reads ends ends' failures failures' r h = faults_none Done reads ends ends' failures failures' (λ e. cc) (λ e. cc) h
faults_whole is (Err Done) file reads ends ends' failures failures' r h = absurd r
faults_whole is (Err (BadRow n)) file reads ends ends' failures failures' r h = faults_none (BadRow n) reads ends ends' failures failures' (λ e. cc) (λ e. cc) h
faults_whole is (Err (Text f)) file reads ends ends' failures failures' r h = faults_none (Text f) reads ends ends' failures failures' (λ e. cc) (λ e. cc) h
faults_whole is (Err ReadFault) file reads ends ends' failures failures' r h = absurd (let e : true ≡ false = r.0 in cc)
faults_whole is (Err WriteFault) file reads ends ends' failures failures' r h = absurd r
faults_whole is (Err NoMemory) file reads ends ends' failures failures' r h = faults_none NoMemory reads ends ends' failures failures' (λ e. cc) (λ e. cc) h

pub faults_done : (reads ends ends' failures failures' : ℕ) → ReadsFail 1000000 (Ok tt) reads ends ends' failures failures' → Faults Done reads ends ends' failures failures' 0
faults_done reads ends ends' failures failures' h = faults_none Done reads ends ends' failures failures' (λ e. cc) (λ e. cc) h

no_write : (writes : ℕ) → ((0 < writes) → ⊥) → writes ≡ 0
no_write writes h = grind (arith, h)

-- a text of it is written, which fails by itself
pub faults_written : (IsText : List ℕ → Type 0) (e : Ended) (taken taken' : Option (List ℕ)) (reads ends ends' failures failures' writes : ℕ) → Faults Done reads ends ends' failures failures' 0 → Writes IsText e taken taken' → (e ≡ WriteFault) ↔ (0 < writes)
    → Faults e reads ends ends' failures failures' writes
faults_written IsText Done taken taken' reads ends ends' failures failures' writes f w iff =
    let d = f.done refl in
    record { done = λ e. (d.0, d.1, no_write writes (λ lt. let e : Done ≡ WriteFault = iff.1 lt in cc)); once = f.once; read_fault = λ e. cc; failed_read = λ lt. absurd (omega (arith, lt, d.0)); write_fault = iff }
faults_written IsText (BadRow n) taken taken' reads ends ends' failures failures' writes f w iff = absurd w
faults_written IsText (Text t) taken taken' reads ends ends' failures failures' writes f w iff = absurd w
faults_written IsText ReadFault taken taken' reads ends ends' failures failures' writes f w iff = absurd w
faults_written IsText WriteFault taken taken' reads ends ends' failures failures' writes f w iff =
    let d = f.done refl in
    record { done = λ e. cc; once = f.once; read_fault = λ e. cc; failed_read = λ lt. absurd (omega (arith, lt, d.0)); write_fault = iff }
faults_written IsText NoMemory taken taken' reads ends ends' failures failures' writes f w iff =
    let d = f.done refl in
    record { done = λ e. cc; once = f.once; read_fault = λ e. cc; failed_read = λ lt. absurd (omega (arith, lt, d.0)); write_fault = iff }

-- nothing was read, and so nothing is written
pub faults_same : (e : Ended) (reads ends ends' failures failures' writes : ℕ) → writes ≡ 0 → Faults e reads ends ends' failures failures' 0 → Faults e reads ends ends' failures failures' writes
faults_same e reads ends ends' failures failures' writes w f = rw w f
