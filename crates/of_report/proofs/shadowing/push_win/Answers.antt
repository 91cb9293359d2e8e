use Rattle.of_report.{specs.Shadowing.flow_win_words, proofs.WordLemmas.four_joined}
use Rattle.of_report.proofs.shadowing.push_win.Goals as goal

pub returns-in_ok-push-in-Wins : goal.returns-in_ok-push-in-Wins
unfolding flow_win_words
returns-in_ok-push-in-Wins c =
    rw c.in-Wins.is
    (four_joined c.args.out.now.items _ _ _ _ c.push_flow_at.new.out.items c.extend_from_slice.new.self.items c.push_packet.new.out.items c.push.new.self.items c.in_ok-push_flow_at-in-Wins.ensures c.in_ok-extend_from_slice-in-Wins.ensures.items
    (rw c.deref.ensures.value at c.in_ok-push_packet-in-Wins.ensures) c.in_ok-push-in-Wins.ensures.items)
