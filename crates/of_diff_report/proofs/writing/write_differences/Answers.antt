use Rattle.std.proofs.Common.{◌∙◌}
use Rattle.of_diff_report.proofs.writing.write_differences.Goals as goal

pub returns-then-write_all-clause-verdict : goal.returns-then-write_all-clause-verdict
returns-then-write_all-clause-verdict g c = c.verdict_of.ensures.means c.args.compared c.args.steps c.args.first.now.switch.now.core.forwarding c.args.second.now.switch.now.core.forwarding c.in-Ok.ensures

pub returns-then-write_all-clause-same_switches : goal.returns-then-write_all-clause-same_switches
returns-then-write_all-clause-same_switches g c = λ same none limits. c.verdict_of.ensures.nothing (c.in-Ok.ensures.same same) none (c.limits_of.ensures ∙ limits)
