use Rattle.of_diff_report.{specs.DiffJson.both_hits_members, proofs.AppendLemmas.two_pieces}
use Rattle.of_diff_report.proofs.json.push_both_hits.Goals as goal

pub returns : goal.returns
unfolding both_hits_members
returns c = two_pieces c.push_side_hits-2.result c.push_side_hits-2.new.out.items c.push_side_hits.new.out.items c.args.out.now.items _ _ c.in_ok-push_side_hits.ensures c.push_side_hits-2.ensures
