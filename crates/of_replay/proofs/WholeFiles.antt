-- A reader's bytes that were all read, and what was written of them.
use Rattle.std.proofs.Common.{◌≡◌, ℕ, Bool, true, List, ◌++◌, Option, Some, None, Result, Ok, Err, sym, ◌∙◌, ap, subst, arith, ◌<◌}
use Rattle.std.{specs.Prelude.nat_lt, specs.Io.KnownBytes.Appends, proofs.lemmas.List.append-nil, proofs.lemmas.Bool.Decides.nat_tests}
use Rattle.of_replay.specs.declared.event_file.Ended.TheVariants.{Done, BadRow, Text, NoMemory, ReadFault, WriteFault}
use Rattle.of_replay.specs.Told.{Answer, Known, Told, Left, NoneLeft, given}
use Rattle.of_replay.specs.FileRuns.{Meaning, IsValue, ReadsWhole, Runs, WritesOf, TextOf}
use Rattle.of_replay.specs.{declared.event_file.Ended.Ended, Transfer.AllAnswers, Lexing.lines_of_file, Play.lines_read, Play.PrintsLines}

-- all that was left was given
all_given : (file : List ℕ) (known : Known) (more : List Answer) → AllAnswers (Left (Some file)) known more → NoneLeft known → given more ≡ file
all_given file (Told answers) more are none = absurd are
all_given file (Left None) more are none = absurd are
all_given file (Left (Some rest)) more are none = sym (are ∙ (ap (λ (x : List ℕ). given more ++ x) none ∙ append-nil (given more)))

pub lines_whole : (text_of : List (List ℕ) → List ℕ) (file : List ℕ) (known : Known) (ends ends' : ℕ) (old new : Option (List ℕ)) → PrintsLines text_of Done (Left (Some file)) known ends ends' old new → Appends old new (text_of (lines_of_file file))
lines_whole text_of file known ends ends' old new h =
    let all : given h.more ≡ file = all_given file known h.more h.answers_are (h.whole h.ends_so.0) in
    subst (λ (f : List ℕ). Appends old new (text_of (lines_of_file f))) all (subst (λ (t : Bool). Appends old new (text_of (lines_read t (given h.more)))) h.ends_so.0 h.ends_so.2)

-- the end was read where there are more ends
ended : (ends ends' : ℕ) → ends < ends' → nat_lt ends ends' ≡ true
ended ends ends' lt = grind (arith, nat_tests, lt)

text_whole_by : {A : Type 0} (is : Meaning A) (IsText : A → List ℕ → Type 0) (file : List ℕ) (known : Known) (ends ends' : ℕ) (old new : Option (List ℕ)) (read : Result A Ended) → ReadsWhole is read (Left (Some file)) known ends ends' → WritesOf IsText read Done old new → nat_lt ends ends' ≡ true
    → TextOf is IsText file old new
text_whole_by is IsText file known ends ends' old new (Ok value) r w t =
    let all : given r.more ≡ file = all_given file known r.more r.answers_are (r.whole t) in
    (value, subst (λ (f : List ℕ). is true f (IsValue value)) all (subst (λ (e : Bool). is e (given r.more) (IsValue value)) t r.is_read), w)
text_whole_by is IsText file known ends ends' old new (Err Done) r w t = absurd r.is_read
text_whole_by is IsText file known ends ends' old new (Err (BadRow n)) r w t = let e : Done ≡ BadRow n = w.0 in cc
text_whole_by is IsText file known ends ends' old new (Err (Text f)) r w t = let e : Done ≡ Text f = w.0 in cc
text_whole_by is IsText file known ends ends' old new (Err ReadFault) r w t = let e : Done ≡ ReadFault = w.0 in cc
text_whole_by is IsText file known ends ends' old new (Err WriteFault) r w t = let e : Done ≡ WriteFault = w.0 in cc
text_whole_by is IsText file known ends ends' old new (Err NoMemory) r w t = let e : Done ≡ NoMemory = w.0 in cc

pub text_whole : {A : Type 0} (is : Meaning A) (IsText : A → List ℕ → Type 0) (file : List ℕ) (known : Known) (ends ends' : ℕ) (old new : Option (List ℕ)) → Runs is IsText Done (Left (Some file)) known ends ends' old new → ends < ends' → TextOf is IsText file old new
text_whole is IsText file known ends ends' old new h lt = text_whole_by is IsText file known ends ends' old new h.read h.reads h.writes (ended ends ends' lt)
