use Rattle.of_diff_report.proofs.AppendLemmas.{one_after_other}
use Rattle.of_diff_report.proofs.json.push_both_changes.Goals as goal

pub returns : goal.returns
returns c =
    one_after_other c.push_changes_member-2.result c.push_changes_member-2.new.out.items c.push_changes_member.new.out.items c.args.out.now.items _ _ c.in_ok-push_changes_member.ensures c.push_changes_member-2.ensures
