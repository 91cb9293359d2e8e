-- WHAT IS FOUND about requirements: for each a decision, and the verdict that follows from it.
use Rattle.std.specs.Prelude.{ℕ, ◌==◌, Bool, true, false, not, List, filter, length, if◌then◌else◌}
use Rattle.of_machine.specs.TheWorld.{TheWorld}
use Rattle.of_require.specs.{declared.answers.Answer.Answer, declared.deciding.Decision.Decision, declared.deciding.Decision.TheVariants.NoneMatches, declared.deciding.Verdict.Verdict}
use Rattle.of_require.specs.declared.deciding.Verdict.TheVariants.{Fails, Holds, Undecided}
use Rattle.of_require.specs.Decisions.{IsDecision, verdict_by}

-- what is found about the requirement of its line
abbrev pub IsFoundAbout : TheWorld → ℕ → Answer → Type 0
IsFoundAbout w steps answer = IsDecision w answer.line.requirement steps answer.decision

abbrev pub verdict_of : Answer → Verdict
verdict_of answer = verdict_by answer.line.requirement.quantifier answer.decision

abbrev pub is_verdict : Verdict → Verdict → Bool
is_verdict Holds Holds = true
is_verdict Fails Fails = true
is_verdict Undecided Undecided = true
is_verdict one other = false

abbrev pub count_verdicts : Verdict → List Answer → ℕ
count_verdicts verdict answers = length (filter (λ answer. is_verdict verdict (verdict_of answer)) answers)

-- the worst verdict: one fails, or else one is undecided, or else all hold
abbrev pub worst_of : List Answer → Verdict
worst_of answers =
    if not (count_verdicts Fails answers == 0) then Fails
    else if not (count_verdicts Undecided answers == 0) then Undecided
    else Holds

-- whether some frame may match that the switch receives
abbrev pub may_match : Decision → Bool
may_match NoneMatches = false
may_match other = true
