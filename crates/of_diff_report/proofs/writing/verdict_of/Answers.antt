use Rattle.std.proofs.Common.{Some, ◌∙◌, sym}
use Rattle.of_diff_report.proofs.VerdictLemmas.{nothing_is_same, same_misses_none, verdict_means}
use Rattle.of_diff_report.proofs.writing.verdict_of.Goals as goal

pub returns-in-Some-clause-means : goal.returns-in-Some-clause-means
returns-in-Some-clause-means c = λ c' steps f g h.
    rw c.verdict_among.ensures (verdict_means c' steps f g c.args.of.now.missing.now c.args.of.now.limits (Some c.in-Some.found) (rw c.in-Some.is at h))

pub returns-in-Some-clause-none_missing : goal.returns-in-Some-clause-none_missing
returns-in-Some-clause-none_missing c = λ same. (same_misses_none c.args.of.now.missing.now c.args.of.now.limits c.in-Some.found (sym c.verdict_among.ensures ∙ same)).0

pub returns-in-Some-clause-same_limits : goal.returns-in-Some-clause-same_limits
returns-in-Some-clause-same_limits c = λ same. (same_misses_none c.args.of.now.missing.now c.args.of.now.limits c.in-Some.found (sym c.verdict_among.ensures ∙ same)).1

pub returns-in-Some-clause-nothing : goal.returns-in-Some-clause-nothing
returns-in-Some-clause-nothing c = λ nothing none same. c.verdict_among.ensures ∙ nothing_is_same c.args.of.now.missing.now c.args.of.now.limits (Some c.in-Some.found) (rw c.in-Some.is at nothing) none same
