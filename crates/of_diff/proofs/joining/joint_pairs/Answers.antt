use Rattle.std.proofs.Common.{◌∙◌}
use Rattle.of_datapath.specs.Numbers.{forwarding_of}
use Rattle.of_symbolic_run.proofs.CopyLemmas.{same_answer}
use Rattle.of_diff.proofs.JoiningLemmas.{joint_are_pairs, joint_next}
use Rattle.of_diff.proofs.joining.joint_pairs.Goals as goal

pub returns-in_ok-pairs_of_cases-in-Some-clause-pairs : goal.returns-in_ok-pairs_of_cases-in-Some-clause-pairs
returns-in_ok-pairs_of_cases-in-Some-clause-pairs g c k =
    rw c.in_ok-pairs_of_cases-in-Some.ensures
    (joint_are_pairs k (forwarding_of c.args.first.now) (forwarding_of c.args.second.now) c.args.table c.known_world.ensures c.requires.entries c.args.pair.now c.in-Some.cases.items
    (λ w is. (rw c.in-Some.is at c.in_ok-look_up_both.ensures.first) w (rw c.entries-entries.ensures.flows is))
    (λ w is. (rw c.in-Some.is at c.in_ok-look_up_both.ensures.second) w (rw c.entries-entries.ensures.flows is)))

pub returns-in_ok-pairs_of_cases-in-Some-clause-next : goal.returns-in_ok-pairs_of_cases-in-Some-clause-next
returns-in_ok-pairs_of_cases-in-Some-clause-next g c =
    let pair = c.args.pair.now in
    rw c.in_ok-pairs_of_cases-in-Some.ensures
    (joint_next (forwarding_of c.args.first.now) (forwarding_of c.args.second.now) c.args.table c.requires.entries pair c.in-Some.cases.items (same_answer pair.first.tasks.items pair.second.tasks.items c.requires.same ∙ c.requires.lookup)
    (λ w is. (rw c.in-Some.is at c.in_ok-look_up_both.ensures.next_first) w (rw c.entries-entries.ensures.flows is))
    (λ w is. (rw c.in-Some.is at c.in_ok-look_up_both.ensures.next_second) w (rw c.entries-entries.ensures.flows is)))
