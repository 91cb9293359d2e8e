-- THE REPORT ON REQUIREMENTS in words: a line for each that fails, is undecided or matches no frame, with the frame that decides it, and a summary.
use Rattle.std.specs.Prelude.{ℕ, ◌==◌, ◌||◌, Bool, not, List, [], ◌∷◌, ◌++◌, length, map, codes, decimal, if◌then◌else◌}
use Rattle.std.specs.List.{flat_map}
use Rattle.of_json.specs.{LeavingWords.frame_lines, ChangesInWords.changed_side_words}
use Rattle.of_values.specs.{Filled.filled, Origins.printable}
use Rattle.of_require.specs.{declared.answers.Answer.Answer, declared.deciding.Decision.Decision}
use Rattle.of_require.specs.declared.deciding.Decision.TheVariants.{Frame, NoFrame, NoneMatches, Undecided}
use Rattle.of_require.specs.{declared.deciding.Verdict.Verdict, Answers.count_verdicts, Answers.is_verdict, Answers.may_match, Answers.verdict_of}
use Rattle.of_require.specs.declared.deciding.Verdict.TheVariants as verdicts
use Rattle.of_require.specs.declared.words.TheConstants as line

abbrev pub verdict_begun : Verdict → List ℕ
verdict_begun verdicts.Holds = line.HOLDS
verdict_begun verdicts.Fails = line.FAILS
verdict_begun verdicts.Undecided = line.UNDECIDED

-- `requirement fails: line 2: no frame ip leaves by 2`
unfoldable pub verdict_line : Answer → List ℕ
verdict_line a = filled (verdict_begun (verdict_of a)) (decimal a.line.number ∷ []) ++ map printable a.line.text.items ++ 10 ∷ []

-- why a requirement is met or not: the frame that decides, its bytes and its words, and what leaves and changed; one about some frame may fail since there is none
unfoldable pub why_decided : Decision → Verdict → List ℕ
why_decided (Frame s) verdict = frame_lines s.in_port s.frame.items ++ changed_side_words (codes "    ") s.frame.items s.items.items
why_decided NoFrame verdicts.Fails = line.NO_FRAME
why_decided NoFrame other = []
why_decided NoneMatches verdict = line.NONE_MATCHES
why_decided (Undecided port) verdict = filled line.UNDECIDED_PORT (decimal port ∷ [])

-- ---- those that are printed: all, or those that do not hold or match no frame

abbrev pub is_told : Bool → Answer → Bool
is_told all a = all || not (is_verdict verdicts.Holds (verdict_of a)) || not (may_match a.decision)

unfoldable pub answer_words : Bool → Answer → List ℕ
answer_words all a = if is_told all a then verdict_line a ++ why_decided a.decision (verdict_of a) else []

-- ---- the summary: `6 requirements: 5 hold, 1 fails, 0 undecided`

abbrev pub plural : ℕ → List ℕ → List ℕ → List ℕ
plural n one more = if n == 1 then one else more

abbrev pub summary_of : ℕ → ℕ → ℕ → ℕ → List ℕ
summary_of all hold fail undecided =
    filled line.SUMMARY (decimal all ∷ plural all (codes "requirement") (codes "requirements") ∷ decimal hold ∷ plural hold (codes "holds") (codes "hold")
    ∷ decimal fail ∷ plural fail (codes "fails") (codes "fail") ∷ decimal undecided ∷ [])

unfoldable pub requirements_summary : List Answer → List ℕ
requirements_summary answers =
    summary_of (length answers) (count_verdicts verdicts.Holds answers) (count_verdicts verdicts.Fails answers) (count_verdicts verdicts.Undecided answers)

-- THE REPORT
unfoldable pub requirements_words : Bool → List Answer → List ℕ
requirements_words all answers = flat_map (answer_words all) answers ++ requirements_summary answers
