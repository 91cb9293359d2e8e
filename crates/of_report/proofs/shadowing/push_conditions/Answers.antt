use Rattle.of_report.{specs.Shadowing.conditions_line, proofs.WordLemmas.four}
use Rattle.of_report.proofs.shadowing.push_conditions.Goals as goal

pub returns : goal.returns
unfolding conditions_line
returns c =
    four c.args.out.now.items _ _ _ _ c.extend_from_slice.new.self.items c.push.new.self.items c.push_count.new.out.items c.push-2.new.self.items c.in_ok-extend_from_slice.ensures.items c.in_ok-push.ensures.items
    (rw c.count_with_conditions.ensures at c.in_ok-push_count.ensures) c.in_ok-push-2.ensures.items
