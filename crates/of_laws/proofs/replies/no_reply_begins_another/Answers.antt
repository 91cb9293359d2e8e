use Rattle.of_laws.{specs.AnyMessage.reply, proofs.AnyMessage.no_front}
use Rattle.of_laws.proofs.replies.no_reply_begins_another.Goals as goal

pub returns : goal.returns
returns c x y more again r s bytes rest h k = no_front x y bytes rest (reply more r h) (reply again s k)
