use Rattle.of_laws.{specs.AnyMessage.controller, specs.AnyMessage.told, proofs.AnyMessage.no_front}
use Rattle.of_laws.proofs.messages.no_encoding_begins_another.Goals as goal

pub returns-clause-message : goal.returns-clause-message
returns-clause-message c x y v w bytes more s t = no_front x y bytes more (controller v s) (controller w t)

pub returns-clause-told : goal.returns-clause-told
returns-clause-told c x y v w bytes more s t = no_front x y bytes more (told v s) (told w t)
