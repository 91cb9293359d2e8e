use Rattle.of_report.{specs.Report.reported_remark_words, proofs.WordLemmas.ended}
use Rattle.of_report.proofs.remarks.push_remark.Goals as goal

pub returns-in_ok-push_entry-in-EmptyGoto : goal.returns-in_ok-push_entry-in-EmptyGoto
unfolding reported_remark_words
returns-in_ok-push_entry-in-EmptyGoto c =
    rw c.in-EmptyGoto.is (ended c.push_around.result _ _ _ _ _ c.in_ok-push_entry-in-EmptyGoto.ensures (rw c.from.ensures at c.push_around.ensures))

pub returns-in_ok-push_entry-in-IngressOutput : goal.returns-in_ok-push_entry-in-IngressOutput
unfolding reported_remark_words
returns-in_ok-push_entry-in-IngressOutput c =
    rw c.in-IngressOutput.is (ended c.push_around_port.result _ _ _ _ _ c.in_ok-push_entry-in-IngressOutput.ensures (rw c.from-in-IngressOutput.ensures at c.push_around_port.ensures))

pub returns-in_ok-push_entry-in-UnseenActions : goal.returns-in_ok-push_entry-in-UnseenActions
unfolding reported_remark_words
returns-in_ok-push_entry-in-UnseenActions c =
    rw c.in-UnseenActions.is (ended c.push_around-in-UnseenActions.result _ _ _ _ _ c.in_ok-push_entry-in-UnseenActions.ensures c.push_around-in-UnseenActions.ensures)

pub returns-in-UnusedGroup : goal.returns-in-UnusedGroup
unfolding reported_remark_words
returns-in-UnusedGroup c = rw c.in-UnusedGroup.is c.push_of_group.ensures

pub returns-in-NoBuckets : goal.returns-in-NoBuckets
unfolding reported_remark_words
returns-in-NoBuckets c = rw c.in-NoBuckets.is c.push_of_group-in-NoBuckets.ensures
