use Rattle.of_laws.proofs.{OneMessage.one_message, OneTold.one_told}
use Rattle.of_laws.proofs.messages.one_message.Goals as goal

pub returns-clause-message : goal.returns-clause-message
returns-clause-message c = one_message

pub returns-clause-told : goal.returns-clause-told
returns-clause-told c = one_told
