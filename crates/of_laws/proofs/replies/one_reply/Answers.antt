use Rattle.of_laws.proofs.OneReply.{one_reply}
use Rattle.of_laws.proofs.replies.one_reply.Goals as goal

pub returns : goal.returns
returns c = one_reply
