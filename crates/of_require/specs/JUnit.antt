-- THE REPORT ON REQUIREMENTS AS XML, as JUnit writes the results of tests: a test case for each requirement, which fails if the requirement does not hold.
use Rattle.std.specs.Prelude.{ℕ, ◌==◌, List, [], ◌∷◌, ◌++◌, length, codes, decimal, if◌then◌else◌}
use Rattle.std.specs.List.{flat_map}
use Rattle.of_values.specs.{Filled.filled, Origins.printable}
use Rattle.of_require.specs.{declared.answers.Answer.Answer, declared.deciding.Verdict.Verdict}
use Rattle.of_require.specs.declared.deciding.Verdict.TheVariants.{Fails, Holds, Undecided}
use Rattle.of_require.specs.{Answers.count_verdicts, Answers.verdict_of, Words.why_decided}
use Rattle.of_require.specs.declared.junit.TheConstants as line

-- a character of an attribute's value, which is between apostrophes
abbrev pub xml_character : ℕ → List ℕ
xml_character b =
    if b == 38 then codes "&amp;"
    else if b == 60 then codes "&lt;"
    else if b == 62 then codes "&gt;"
    else if b == 39 then codes "&apos;"
    else printable b ∷ []

-- one that fails, with why; one that is undecided is an error
abbrev pub outcome_named : List ℕ → List ℕ → List ℕ
outcome_named name why = filled line.BEGIN (name ∷ []) ++ why ++ filled line.END (name ∷ [])

abbrev pub outcome_element : Verdict → List ℕ → List ℕ
outcome_element Holds why = []
outcome_element Fails why = outcome_named (codes "failure") why
outcome_element Undecided why = outcome_named (codes "error") why

unfoldable pub test_case : Answer → List ℕ
test_case a =
    filled line.CASE (decimal a.line.number ∷ []) ++ flat_map xml_character a.line.text.items ++ codes "'>"
    ++ outcome_element (verdict_of a) (why_decided a.decision (verdict_of a)) ++ codes "</testcase>" ++ 10 ∷ []

unfoldable pub requirements_junit : List Answer → List ℕ
requirements_junit answers =
    filled line.SUITE (decimal (length answers) ∷ decimal (count_verdicts Fails answers) ∷ decimal (count_verdicts Undecided answers) ∷ [])
    ++ flat_map test_case answers ++ codes "</testsuite>" ++ 10 ∷ []
