-- A whole run, from what was read to what was written.
use Rattle.std.proofs.Common.{◌≡◌, ℕ, ◌+◌, Bool, true, false, List, [], ◌∷◌, ◌++◌, Option, None, Result, Ok, Err, refl, sym, ◌∙◌, ap, subst, arith, inl, inr, ◌<◌, ◌≤◌, take, length}
use Rattle.std.specs.Prelude.{nat_lt, ◌⊎◌, ◌↔◌, OnOk, OnErr, IfErr}
use Rattle.std.{specs.Io.KnownBytes.Appends, proofs.lemmas.List.append-nil, proofs.lemmas.List.length-take-le, proofs.lemmas.Bool.Decides.nat_tests}
use Rattle.of_switch.specs.State.{State}
use Rattle.of_replay.specs.declared.event_file.Ended.TheVariants.{Done, BadRow, Text, NoMemory, ReadFault, WriteFault}
use Rattle.of_replay.specs.Told.{Answer, Gave, Known, Answers, NoneLeft, answer_bytes, given}
use Rattle.of_replay.specs.Play.{lines_read, but_last, earlier_lines, EndsPrinting, PrintsLines}
use Rattle.of_replay.specs.Stepping.{LineGoes, Prints, Within, Halts, ChunkGoes, Plays, PlayedAll, PlaysRead, ReadSoFar, WritesFail, ReadsFail, ended_so}
use Rattle.of_replay.proofs.Lines.{within_start, within_ends, within_played, within_end_halts, within_open, prints_front, tale_join, plain_is}
use Rattle.of_replay.proofs.TellingLemmas.{appends-none, appends-then, answers-none, told_more, given-more}
use Rattle.of_replay.specs.{Lexing.whole_lines, declared.halt.Halt.Halt}
use Rattle.of_replay.specs.declared.halt.Halt.TheVariants.{Bad, Memory, Read, Write}
use Rattle.of_replay.specs.{declared.event_file.Ended.Ended, Transfer.AllAnswers, Transfer.WrotePrefix, Rows.row_of_line, Rows.rows_of_lines, Output.printed_from}
use Rattle.of_replay.specs.{RowTexts.RowText, RowTexts.plain_row_text, RowTexts.told, WholeFiles.RunFaults}

-- READING

pub read_nothing : (begun : State) (tale : RowText) (answers : Known) (first : Option (List ℕ)) → ReadSoFar begun tale answers answers [] 1 begun [] first first
read_nothing begun tale answers first = record { more = []; answers_are = answers-none answers; within = within_start begun tale first }

pub read_begun : (begun : State) (tale : RowText) (answers : Known) (kept : List ℕ) (n : ℕ) (s : State) (out : List ℕ) (first : Option (List ℕ)) → (kept ≡ []) × (n ≡ 1) × (s ≡ begun) × (out ≡ []) → ReadSoFar begun tale answers answers kept n s out first first
read_begun begun tale answers kept n s out first e = rw (e.0, e.1, e.2, e.3) (read_nothing begun tale answers first)

pub chunk_size : (n : ℕ) (buffer chunk : List ℕ) → chunk ≡ take n buffer → n ≤ length buffer → length buffer ≡ 65536 → length chunk ≤ 65536
chunk_size n buffer chunk is le size =
    let same : length chunk ≡ n = ap length is ∙ length-take-le n buffer le in
    omega (arith, same, le, size)

-- no read fails in a chunk
pub chunk_reads : (most : ℕ) (begun : State) (tale : RowText) (h : Halt) (earlier lines : List (List ℕ)) (out : List ℕ) (first taken : Option (List ℕ)) (reads ends ends' failures failures' : ℕ) → Halts begun tale h earlier lines out first taken → failures' ≡ failures → ReadsFail most (Err h) reads ends ends' failures failures'
chunk_reads most begun tale Read earlier lines out first taken reads ends ends' failures failures' h e = absurd h
chunk_reads most begun tale Write earlier lines out first taken reads ends ends' failures failures' h e = omega (arith, e)
chunk_reads most begun tale other earlier lines out first taken reads ends ends' failures failures' h e = e

-- a read that gave no bytes
pub given_same : (more : List Answer) (one : Answer) → answer_bytes one ≡ [] → given (more ++ one ∷ []) ≡ given more
given_same more one e = given-more more one ∙ (ap (λ (x : List ℕ). given more ++ x) e ∙ append-nil (given more))

pub read_idle : (begun : State) (tale : RowText) (answers now next : Known) (one : Answer) (kept : List ℕ) (n : ℕ) (s : State) (out : List ℕ) (first taken : Option (List ℕ)) → ReadSoFar begun tale answers now kept n s out first taken
    → Answers now next one → answer_bytes one ≡ [] → ReadSoFar begun tale answers next kept n s out first taken
read_idle begun tale answers now next one kept n s out first taken r e none = record {
  more = r.more ++ one ∷ [];
  answers_are = told_more answers now next r.more one r.answers_are e;
  within = subst (λ (x : List ℕ). Within begun tale x [] kept n s out first taken) (sym (given_same r.more one none)) r.within;
}

-- a chunk was read and played
pub read_chunk : (begun : State) (tale : RowText) (answers now next : Known) (chunk kept kept' : List ℕ) (n n' : ℕ) (s s' : State) (out out' : List ℕ) (first taken taken' : Option (List ℕ)) → (r : ReadSoFar begun tale answers now kept n s out first taken)
    → Answers now next (Gave chunk) → ChunkGoes begun tale (Ok tt) (given r.more) (given r.more ++ chunk) kept' n' s' out' first taken' → ReadSoFar begun tale answers next kept' n' s' out' first taken'
read_chunk begun tale answers now next chunk kept kept' n n' s s' out out' first taken taken' r e goes = record {
  more = r.more ++ Gave chunk ∷ [];
  answers_are = told_more answers now next r.more (Gave chunk) r.answers_are e;
  within = subst (λ (x : List ℕ). Within begun tale x [] kept' n' s' out' first taken') (sym (given-more r.more (Gave chunk))) goes;
}

pub not_ended : (ends ends' : ℕ) → ends' ≡ ends → nat_lt ends ends' ≡ false
not_ended ends ends' e = grind (arith, nat_tests, e)

pub is_ended : (ends ends' : ℕ) → ends' ≡ ends + 1 → nat_lt ends ends' ≡ true
is_ended ends ends' e = grind (arith, nat_tests, e)

-- no end was read
pub not_whole : (ends ends' : ℕ) (known : Known) → ends' ≡ ends → nat_lt ends ends' ≡ true → NoneLeft known
not_whole ends ends' known same ended = let e : true ≡ false = sym ended ∙ not_ended ends ends' same in cc

plays_halt : (begun : State) (tale : RowText) (h : Halt) (ended : Bool) (earlier lines : List (List ℕ)) (out : List ℕ) (first taken : Option (List ℕ)) → Halts begun tale h earlier lines out first taken → Plays begun tale (Err h) ended earlier lines out first taken
plays_halt begun tale Read ended earlier lines out first taken h = absurd h
plays_halt begun tale other ended earlier lines out first taken h = h

plays_read : (begun : State) (tale : RowText) (result : Result (Unit {0}) Halt) (answers answers' : Known) (ends ends' : ℕ) (more : List Answer) (earlier : List (List ℕ)) (bytes out : List ℕ) (first taken : Option (List ℕ)) (ended : Bool) → AllAnswers answers answers' more → (nat_lt ends ends' ≡ true → NoneLeft answers') → nat_lt ends ends' ≡ ended
    → given more ≡ bytes → earlier_lines more ≡ earlier → Plays begun tale result ended earlier (lines_read ended bytes) out first taken → PlaysRead begun tale result answers answers' ends ends' out first taken
plays_read begun tale result answers answers' ends ends' more earlier bytes out first taken ended is whole e g before plays = record {
  more = more;
  answers_are = is;
  whole = whole;
  plays = subst (λ (t : Bool). Plays begun tale result t (earlier_lines more) (lines_read t (given more)) out first taken) (sym e)
      (subst (λ (f : List ℕ). Plays begun tale result ended (earlier_lines more) (lines_read ended f) out first taken) (sym g)
      (subst (λ (ls : List (List ℕ)). Plays begun tale result ended ls (lines_read ended bytes) out first taken) (sym before) plays));
}

but_last_more : (more : List Answer) (one : Answer) → but_last (more ++ one ∷ []) ≡ more
but_last_more [] one = refl
but_last_more (a ∷ []) one = refl
but_last_more (a ∷ b ∷ others) one = ap (λ (x : List Answer). a ∷ x) (but_last_more (b ∷ others) one)

-- the lines that were whole before one read more
pub before_one : (more : List Answer) (one : Answer) → earlier_lines (more ++ one ∷ []) ≡ whole_lines (given more)
before_one more one = ap (λ (x : List Answer). whole_lines (given x)) (but_last_more more one)

-- the run halts in a chunk
pub read_halts : (begun : State) (tale : RowText) (h : Halt) (answers now next : Known) (ends ends' : ℕ) (chunk kept kept' : List ℕ) (n n' : ℕ) (s s' : State) (out out' : List ℕ) (first taken taken' : Option (List ℕ)) → (r : ReadSoFar begun tale answers now kept n s out first taken)
    → Answers now next (Gave chunk) → ends' ≡ ends → ChunkGoes begun tale (Err h) (given r.more) (given r.more ++ chunk) kept' n' s' out' first taken' → PlaysRead begun tale (Err h) answers next ends ends' out' first taken'
read_halts begun tale h answers now next ends ends' chunk kept kept' n n' s s' out out' first taken taken' r e same halts =
    plays_read begun tale (Err h) answers next ends ends' (r.more ++ Gave chunk ∷ []) (whole_lines (given r.more)) (given r.more ++ chunk) out' first taken' false (told_more answers now next r.more (Gave chunk) r.answers_are e) (not_whole ends ends' next same) (not_ended ends ends' same)
    (given-more r.more (Gave chunk)) (before_one r.more (Gave chunk)) (plays_halt begun tale h false (whole_lines (given r.more)) (lines_read false (given r.more ++ chunk)) out' first taken' halts)

-- the source's end was read
ends_by : (begun : State) (tale : RowText) (result : Result (Unit {0}) Halt) (bytes kept : List ℕ) (n : ℕ) (s held : State) (out out' : List ℕ) (first taken taken' : Option (List ℕ)) → Within begun tale bytes [] kept n s out first taken
    → LineGoes tale result n kept (row_of_line kept) s held out out' taken taken' → Plays begun tale result true (whole_lines bytes) (lines_read true bytes) out' first taken'
ends_by begun tale (Ok u) bytes kept n s held out out' first taken taken' w goes = let h = within_ends begun tale bytes kept n s held out out' first taken taken' w goes in (refl, h.0, h.1)
ends_by begun tale (Err h) bytes kept n s held out out' first taken taken' w goes =
    plays_halt begun tale h true (whole_lines bytes) (lines_read true bytes) out' first taken' (within_end_halts begun tale h bytes kept n s held out out' first taken taken' w goes)

pub read_ends : (begun : State) (tale : RowText) (result : Result (Unit {0}) Halt) (answers now next : Known) (one : Answer) (ends ends' : ℕ) (kept : List ℕ) (n : ℕ) (s held : State) (out out' : List ℕ) (first taken taken' : Option (List ℕ)) → ReadSoFar begun tale answers now kept n s out first taken
    → Answers now next one → answer_bytes one ≡ [] → NoneLeft next → ends' ≡ ends + 1 → LineGoes tale result n kept (row_of_line kept) s held out out' taken taken' → PlaysRead begun tale result answers next ends ends' out' first taken'
read_ends begun tale result answers now next one ends ends' kept n s held out out' first taken taken' r e none left ended goes =
    plays_read begun tale result answers next ends ends' (r.more ++ one ∷ []) (whole_lines (given r.more)) (given r.more) out' first taken' true (told_more answers now next r.more one r.answers_are e) (λ _. left) (is_ended ends ends' ended)
    (given_same r.more one none) (before_one r.more one) (ends_by begun tale result (given r.more) kept n s held out out' first taken taken' r.within goes)

-- all lines were played
pub read_played : (begun : State) (tale : RowText) (result : Result (Unit {0}) Halt) (answers now next : Known) (one : Answer) (kept : List ℕ) (n : ℕ) (s held : State) (out out' : List ℕ) (first taken taken' : Option (List ℕ)) → ReadSoFar begun tale answers now kept n s out first taken
    → Answers now next one → answer_bytes one ≡ [] → NoneLeft next → LineGoes tale result n kept (row_of_line kept) s held out out' taken taken' → OnOk result (PlayedAll begun answers next held)
read_played begun tale (Ok u) answers now next one kept n s held out out' first taken taken' r e none left goes =
    let h = within_played begun tale (given r.more) kept n s held out out' first taken taken' r.within goes in
    let same : given (r.more ++ one ∷ []) ≡ given r.more = given_same r.more one none in
    record { more = r.more ++ one ∷ []; answers_are = told_more answers now next r.more one r.answers_are e; whole = left; good = rw same h.0; state = rw same h.1 }
read_played begun tale (Err h) answers now next one kept n s held out out' first taken taken' r e none left goes = tt

-- it did not
pub read_stops : (begun : State) (tale : RowText) (answers now : Known) (ends ends' : ℕ) (kept : List ℕ) (n : ℕ) (s : State) (out : List ℕ) (first taken : Option (List ℕ)) → ReadSoFar begun tale answers now kept n s out first taken
    → ends' ≡ ends → PlaysRead begun tale (Err Read) answers now ends ends' out first taken
read_stops begun tale answers now ends ends' kept n s out first taken r same =
    let h = within_open begun tale (given r.more) kept n s out first taken r.within in
    plays_read begun tale (Err Read) answers now ends ends' r.more (earlier_lines r.more) (given r.more) out first taken false r.answers_are (not_whole ends ends' now same) (not_ended ends ends' same) refl refl (refl, h.0, h.1)

-- WRITING

wrote_all : (begun : State) (tale : RowText) (lines : List (List ℕ)) (out : List ℕ) (first taken taken' : Option (List ℕ)) → Prints begun tale lines out first taken → Appends taken taken' out → Appends first taken' (told begun tale lines)
wrote_all begun tale lines out first taken taken' p e =
    subst (Appends first taken') p.text_is (appends-then first taken taken' p.wrote out p.taken_is e)

ends_wrote : (begun : State) (tale : RowText) (result : Result (Unit {0}) Halt) (ended : Bool) (earlier lines : List (List ℕ)) (out : List ℕ) (first taken taken' : Option (List ℕ)) → Plays begun tale result ended earlier lines out first taken → (result ≡ Err Write → ⊥) → Appends taken taken' out
    → EndsPrinting (told begun tale) (ended_so result) ended earlier lines first taken'
ends_wrote begun tale (Ok u) ended earlier lines out first taken taken' p not e = (p.0, p.1, wrote_all begun tale lines out first taken taken' p.2 e)
ends_wrote begun tale (Err (Bad n)) ended earlier lines out first taken taken' p not e = (p.0, wrote_all begun tale lines out first taken taken' p.1 e)
ends_wrote begun tale (Err Memory) ended earlier lines out first taken taken' p not e = record { more = p.more; others = p.others; lines_are = p.lines_are; good = p.good; wrote = wrote_all begun tale (earlier ++ p.more) out first taken taken' p.prints e }
ends_wrote begun tale (Err Read) ended earlier lines out first taken taken' p not e = (p.0, p.1, wrote_all begun tale lines out first taken taken' p.2 e)
ends_wrote begun tale (Err Write) ended earlier lines out first taken taken' p not e = absurd (not refl)

unwritten_all : (begun : State) (tale : RowText) (lines : List (List ℕ)) (out : List ℕ) (first taken taken' : Option (List ℕ)) → Prints begun tale lines out first taken → WrotePrefix taken out taken' → WrotePrefix first (told begun tale lines) taken'
unwritten_all begun tale lines out first taken taken' p w =
    prints_front begun tale lines lines out [] first taken taken' p (sym (append-nil (told begun tale lines))) out [] refl w

-- what a chunk still had to write is written, or a write of it fails
pub flushed : (begun : State) (tale : RowText) (result : Result (Unit {0}) Halt) (before bytes kept : List ℕ) (n : ℕ) (s : State) (out out' : List ℕ) (first taken taken' : Option (List ℕ)) → Within begun tale bytes [] kept n s out first taken
    → OnOk result (Appends taken taken' out × (out' ≡ [])) → OnErr result (WrotePrefix taken out taken') → IfErr result (λ halt. halt ≡ Write) → ChunkGoes begun tale result before bytes kept n s out' first taken'
flushed begun tale (Ok u) before bytes kept n s out out' first taken taken' w all front is =
    let p = w.going.prints in
    record {
      lines = w.lines;
      line = w.line;
      going = record {
        good = w.going.good;
        number = w.going.number;
        state = w.going.state;
        prints = record {
          wrote = p.wrote ++ out;
          taken_is = appends-then first taken taken' p.wrote out p.taken_is all.0;
          text_is = ap (λ (x : List ℕ). (p.wrote ++ out) ++ x) all.1 ∙ (append-nil (p.wrote ++ out) ∙ p.text_is);
        };
      };
      kept_is = w.kept_is;
      whole = w.whole;
      last = w.last;
    }
flushed begun tale (Err h) before bytes kept n s out out' first taken taken' w all front is =
    rw is (unwritten_all begun tale (lines_read false bytes) out first taken taken' (within_open begun tale bytes kept n s out first taken w).1 front)

unwritten : (begun : State) (tale : RowText) (lines others : List (List ℕ)) (out : List ℕ) (first taken taken' : Option (List ℕ)) → (rows_of_lines lines).bad ≡ None → Prints begun tale lines out first taken → WrotePrefix taken out taken' → WrotePrefix first (told begun tale (lines ++ others)) taken'
unwritten begun tale lines others out first taken taken' good p w =
    prints_front begun tale lines (lines ++ others) out _ first taken taken' p (tale_join tale (length lines + 1) lines others begun refl good) out _ refl w

ends_unwritten : (begun : State) (tale : RowText) (result : Result (Unit {0}) Halt) (ended : Bool) (earlier lines : List (List ℕ)) (out : List ℕ) (first taken taken' : Option (List ℕ)) → Plays begun tale result ended earlier lines out first taken → (result ≡ Err Write → ⊥) → WrotePrefix taken out taken'
    → WrotePrefix first (told begun tale lines) taken'
ends_unwritten begun tale (Ok u) ended earlier lines out first taken taken' p not w = unwritten_all begun tale lines out first taken taken' p.2 w
ends_unwritten begun tale (Err (Bad n)) ended earlier lines out first taken taken' p not w = unwritten_all begun tale lines out first taken taken' p.1 w
ends_unwritten begun tale (Err Memory) ended earlier lines out first taken taken' p not w = subst (λ (x : List (List ℕ)). WrotePrefix first (told begun tale x) taken') (sym p.lines_are) (unwritten begun tale (earlier ++ p.more) p.others out first taken taken' p.good p.prints w)
ends_unwritten begun tale (Err Read) ended earlier lines out first taken taken' p not w = unwritten_all begun tale lines out first taken taken' p.2 w
ends_unwritten begun tale (Err Write) ended earlier lines out first taken taken' p not w = absurd (not refl)

-- what was still to be written was written
pub tells_wrote : (begun : State) (tale : RowText) (result : Result (Unit {0}) Halt) (answers answers' : Known) (ends ends' : ℕ) (out : List ℕ) (first taken taken' : Option (List ℕ)) → PlaysRead begun tale result answers answers' ends ends' out first taken → (result ≡ Err Write → ⊥)
    → Appends taken taken' out → PrintsLines (told begun tale) (ended_so result) answers answers' ends ends' first taken'
tells_wrote begun tale result answers answers' ends ends' out first taken taken' p not e = record {
  more = p.more;
  answers_are = p.answers_are;
  whole = p.whole;
  ends_so = ends_wrote begun tale result (nat_lt ends ends') (earlier_lines p.more) (lines_read (nat_lt ends ends') (given p.more)) out first taken taken' p.plays not e;
}

-- a write of it failed
pub tells_unwritten : (begun : State) (tale : RowText) (result : Result (Unit {0}) Halt) (answers answers' : Known) (ends ends' : ℕ) (out : List ℕ) (first taken taken' : Option (List ℕ)) → PlaysRead begun tale result answers answers' ends ends' out first taken → (result ≡ Err Write → ⊥)
    → WrotePrefix taken out taken' → PrintsLines (told begun tale) WriteFault answers answers' ends ends' first taken'
tells_unwritten begun tale result answers answers' ends ends' out first taken taken' p not w = record {
  more = p.more;
  answers_are = p.answers_are;
  whole = p.whole;
  ends_so = ends_unwritten begun tale result (nat_lt ends ends') (earlier_lines p.more) (lines_read (nat_lt ends ends') (given p.more)) out first taken taken' p.plays not w;
}

-- nothing was read or written
pub nothing_read : (begun : State) (tale : RowText) (answers : Known) (ends : ℕ) (taken : Option (List ℕ)) → PrintsLines (told begun tale) NoMemory answers answers ends ends taken taken
nothing_read begun tale answers ends taken = record {
  more = [];
  answers_are = answers-none answers;
  whole = not_whole ends ends answers refl;
  ends_so = record { more = []; others = lines_read (nat_lt ends ends) []; lines_are = refl; good = refl; wrote = appends-none taken };
}

-- WHAT `replay` PRINTS is what the events print

same_end : (f g : List (List ℕ) → List ℕ) → ((lines : List (List ℕ)) → f lines ≡ g lines) → (e : Ended) (ended : Bool) (earlier lines : List (List ℕ)) (old new : Option (List ℕ)) → EndsPrinting f e ended earlier lines old new → EndsPrinting g e ended earlier lines old new
same_end f g same (BadRow n) ended earlier lines old new h = (h.0, subst (Appends old new) (same lines) h.1)
same_end f g same (Text t) ended earlier lines old new h = absurd h
same_end f g same WriteFault ended earlier lines old new h = subst (λ (x : List ℕ). WrotePrefix old x new) (same lines) h
same_end f g same NoMemory ended earlier lines old new h = record { more = h.more; others = h.others; lines_are = h.lines_are; good = h.good; wrote = subst (Appends old new) (same (earlier ++ h.more)) h.wrote }
same_end f g same other ended earlier lines old new h = (h.0, h.1, subst (Appends old new) (same lines) h.2)

pub replays_plain : (begun : State) (e : Ended) (answers answers' : Known) (ends ends' : ℕ) (taken taken' : Option (List ℕ)) → PrintsLines (told begun plain_row_text) e answers answers' ends ends' taken taken'
    → PrintsLines (λ lines. printed_from begun (rows_of_lines lines).events) e answers answers' ends ends' taken taken'
replays_plain begun e answers answers' ends ends' taken taken' h = record {
  more = h.more;
  answers_are = h.answers_are;
  whole = h.whole;
  ends_so = same_end (told begun plain_row_text) (λ (lines : List (List ℕ)). printed_from begun (rows_of_lines lines).events) (λ (lines : List (List ℕ)). plain_is lines begun) e (nat_lt ends ends') (earlier_lines h.more) (lines_read (nat_lt ends ends') (given h.more)) taken taken' h.ends_so;
}

-- FAULTS

pub not_write : (r : Result (Unit {0}) Halt) (writes : ℕ) → WritesFail r writes → writes ≡ 0 → r ≡ Err Write → ⊥
not_write (Ok u) writes w e is = cc
not_write (Err (Bad n)) writes w e is = cc
not_write (Err Memory) writes w e is = cc
not_write (Err Read) writes w e is = cc
not_write (Err Write) writes w e is = omega (arith, w, e)

done_by : (most : ℕ) (r : Result (Unit {0}) Halt) (reads ends ends' failures failures' writes : ℕ) → ReadsFail most r reads ends ends' failures failures' → WritesFail r writes → ended_so r ≡ Done → (failures' ≡ failures) × (ends' ≡ ends + 1) × (writes ≡ 0)
done_by most (Ok u) reads ends ends' failures failures' writes h w e = (h.1, h.0, w)
done_by most (Err (Bad n)) reads ends ends' failures failures' writes h w e = cc
done_by most (Err Memory) reads ends ends' failures failures' writes h w e = cc
done_by most (Err Read) reads ends ends' failures failures' writes h w e = cc
done_by most (Err Write) reads ends ends' failures failures' writes h w e = cc

once_or : (most : ℕ) (reads failures failures' : ℕ) → (failures' ≡ failures + 1) ⊎ ((failures' ≡ failures) × (reads ≡ most)) → failures' ≤ failures + 1
once_or most reads failures failures' (inl e) = omega (arith, e)
once_or most reads failures failures' (inr h) = omega (arith, h.0)

once_by : (most : ℕ) (r : Result (Unit {0}) Halt) (reads ends ends' failures failures' : ℕ) → ReadsFail most r reads ends ends' failures failures' → failures' ≤ failures + 1
once_by most (Ok u) reads ends ends' failures failures' h = omega (arith, h.1)
once_by most (Err (Bad n)) reads ends ends' failures failures' h = omega (arith, h)
once_by most (Err Memory) reads ends ends' failures failures' h = omega (arith, h)
once_by most (Err Read) reads ends ends' failures failures' h = once_or most reads failures failures' h.1
once_by most (Err Write) reads ends ends' failures failures' h = h

failed_by : (most : ℕ) (r : Result (Unit {0}) Halt) (reads ends ends' failures failures' : ℕ) → ReadsFail most r reads ends ends' failures failures' → failures < failures' → (ended_so r ≡ ReadFault) ⊎ (ended_so r ≡ WriteFault)
failed_by most (Ok u) reads ends ends' failures failures' h lt = absurd (omega (arith, h.1, lt))
failed_by most (Err (Bad n)) reads ends ends' failures failures' h lt = absurd (omega (arith, h, lt))
failed_by most (Err Memory) reads ends ends' failures failures' h lt = absurd (omega (arith, h, lt))
failed_by most (Err Read) reads ends ends' failures failures' h lt = inl refl
failed_by most (Err Write) reads ends ends' failures failures' h lt = inr refl

unwritten_by : (r : Result (Unit {0}) Halt) (writes : ℕ) → WritesFail r writes → (ended_so r ≡ WriteFault) ↔ (0 < writes)
unwritten_by (Ok u) writes w = (λ e. cc, λ lt. absurd (omega (arith, w, lt)))
unwritten_by (Err (Bad n)) writes w = (λ e. cc, λ lt. absurd (omega (arith, w, lt)))
unwritten_by (Err Memory) writes w = (λ e. cc, λ lt. absurd (omega (arith, w, lt)))
unwritten_by (Err Read) writes w = (λ e. cc, λ lt. absurd (omega (arith, w, lt)))
unwritten_by (Err Write) writes w = (λ e. w, λ lt. refl)

limited_by : (most : ℕ) (r : Result (Unit {0}) Halt) (reads ends ends' failures failures' : ℕ) → ReadsFail most r reads ends ends' failures failures' → ended_so r ≡ ReadFault → (failures < failures') ⊎ ((reads ≡ most) × (ends' ≡ ends))
limited_by most (Ok u) reads ends ends' failures failures' h e = cc
limited_by most (Err (Bad n)) reads ends ends' failures failures' h e = cc
limited_by most (Err Memory) reads ends ends' failures failures' h e = cc
limited_by most (Err Read) reads ends ends' failures failures' h e = either h.1
  where
    either : (failures' ≡ failures + 1) ⊎ ((failures' ≡ failures) × (reads ≡ most)) → (failures < failures') ⊎ ((reads ≡ most) × (ends' ≡ ends))
    either (inl one) = inl (omega (arith, one))
    either (inr none) = inr (none.1, h.0)
limited_by most (Err Write) reads ends ends' failures failures' h e = cc

pub run_faults : (most : ℕ) (r : Result (Unit {0}) Halt) (ended : Ended) (reads ends ends' failures failures' writes : ℕ) → ended ≡ ended_so r → ReadsFail most r reads ends ends' failures failures' → reads ≤ most → WritesFail r writes
    → RunFaults most ended reads ends ends' failures failures' writes
run_faults most r ended reads ends ends' failures failures' writes is h few w = rw is (record {
  done = done_by most r reads ends ends' failures failures' writes h w;
  few = few;
  once = once_by most r reads ends ends' failures failures' h;
  read_fault = limited_by most r reads ends ends' failures failures' h;
  failed_read = failed_by most r reads ends ends' failures failures' h;
  write_fault = unwritten_by r writes w;
})

-- memory ran out before the first read
pub unread_faults : (most ends failures reads writes : ℕ) → reads ≡ 0 → writes ≡ 0 → RunFaults most NoMemory reads ends ends failures failures writes
unread_faults most ends failures reads writes r w = record {
  done = λ e. cc;
  few = omega (arith, r);
  once = omega arith;
  read_fault = λ e. cc;
  failed_read = λ lt. absurd (omega (arith, lt));
  write_fault = (λ e. cc, λ lt. absurd (omega (arith, w, lt)));
}
