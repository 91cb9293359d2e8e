use Rattle.of_laws.proofs.AnyMessage.{both_sides, no_front, no_request_is_reply, no_told_is_reply, one_xid}
use Rattle.of_laws.proofs.replies.no_message_begins_another.Goals as goal

pub returns-clause-begins : goal.returns-clause-begins
returns-clause-begins c = no_front

pub returns-clause-xid : goal.returns-clause-xid
returns-clause-xid c = one_xid

pub returns-clause-both_sides : goal.returns-clause-both_sides
returns-clause-both_sides c = both_sides

pub returns-clause-reply_or_request : goal.returns-clause-reply_or_request
returns-clause-reply_or_request c = no_request_is_reply

pub returns-clause-reply_or_told : goal.returns-clause-reply_or_told
returns-clause-reply_or_told c = no_told_is_reply
