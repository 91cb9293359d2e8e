use Rattle.of_laws.proofs.WrittenRequests.{group_add_encoded}
use Rattle.of_laws.proofs.written_messages.written_group_mod_is_encoded.Goals as goal

pub returns : goal.returns
returns c = group_add_encoded
