-- What is written before the next read.
use Rattle.std.proofs.Common.{◌≡◌, ℕ, false, List, [], ◌∷◌, ◌++◌, Option, sym, ◌∙◌, ap, subst, append_assoc}
use Rattle.std.{specs.Io.KnownBytes.Appends, proofs.lemmas.List.append-nil}
use Rattle.of_switch.specs.State.{State}
use Rattle.of_replay.specs.{Lexing.whole_lines, Told.Answer, Told.Known, Told.Answers, Told.given, Transfer.Grows, Play.earlier_lines, Play.lines_read, Play.WrittenEarly}
use Rattle.of_replay.{specs.RowTexts.RowText, specs.RowTexts.told, specs.Stepping.ReadSoFar, proofs.Lines.within_open}
use Rattle.of_replay.proofs.{TellingLemmas.appends-none, TellingLemmas.appends-then, TellingLemmas.answers-none, TellingLemmas.told_more, WholeRuns.before_one}

pub grows_none : (k : Option (List ℕ)) → Grows k k
grows_none k = ([], appends-none k)

pub grows_grows : (a b c : Option (List ℕ)) → Grows a b → Grows b c → Grows a c
grows_grows a b c x y = (x.0 ++ y.0, appends-then a b c x.0 y.0 x.1 y.1)

-- nothing was read
pub early_none : (text_of : List (List ℕ) → List ℕ) (answers : Known) (taken : Option (List ℕ)) → text_of [] ≡ [] → WrittenEarly text_of answers answers taken taken
early_none text_of answers taken e = record {
  more = [];
  answers_are = answers-none answers;
  later = [];
  wrote = subst (λ (x : List ℕ). Appends taken taken (x ++ [])) (sym e) (appends-none taken);
}

-- more is written
pub early_more : (text_of : List (List ℕ) → List ℕ) (answers answers' : Known) (taken mid new : Option (List ℕ)) → WrittenEarly text_of answers answers' taken mid → Grows mid new → WrittenEarly text_of answers answers' taken new
early_more text_of answers answers' taken mid new e g =
    let front = text_of (earlier_lines e.more) in
    record {
      more = e.more;
      answers_are = e.answers_are;
      later = e.later ++ g.0;
      wrote = subst (Appends taken new) (append_assoc front e.later g.0) (appends-then taken mid new (front ++ e.later) g.0 e.wrote g.1);
    }

-- a read, before which all was written
pub early_read : (begun : State) (tale : RowText) (answers now next : Known) (one : Answer) (kept : List ℕ) (n : ℕ) (s : State) (out : List ℕ) (first taken taken' : Option (List ℕ)) → ReadSoFar begun tale answers now kept n s out first taken → out ≡ []
    → Answers now next one → Grows taken taken' → WrittenEarly (told begun tale) answers next first taken'
early_read begun tale answers now next one kept n s out first taken taken' r none e g =
    let p = (within_open begun tale (given r.more) kept n s out first taken r.within).1 in
    let lines : lines_read false (given r.more) ≡ whole_lines (given r.more) = append-nil (whole_lines (given r.more)) in
    let text : p.wrote ≡ told begun tale (whole_lines (given r.more)) =
    sym (append-nil p.wrote) ∙ (ap (λ (x : List ℕ). p.wrote ++ x) (sym none) ∙ (p.text_is ∙ ap (λ (ls : List (List ℕ)). told begun tale ls) lines)) in
    let before : earlier_lines (r.more ++ one ∷ []) ≡ whole_lines (given r.more) = before_one r.more one in
    record {
      more = r.more ++ one ∷ [];
      answers_are = told_more answers now next r.more one r.answers_are e;
      later = g.0;
      wrote = subst (λ (x : List ℕ). Appends first taken' (x ++ g.0)) (text ∙ ap (λ (ls : List (List ℕ)). told begun tale ls) (sym before)) (appends-then first taken taken' p.wrote g.0 p.taken_is g.1);
    }

-- the same text
pub early_as : (f g : List (List ℕ) → List ℕ) (answers answers' : Known) (taken new : Option (List ℕ)) → ((lines : List (List ℕ)) → f lines ≡ g lines) → WrittenEarly f answers answers' taken new → WrittenEarly g answers answers' taken new
early_as f g answers answers' taken new same e = record {
  more = e.more;
  answers_are = e.answers_are;
  later = e.later;
  wrote = subst (λ (x : List ℕ). Appends taken new (x ++ e.later)) (same (earlier_lines e.more)) e.wrote;
}
