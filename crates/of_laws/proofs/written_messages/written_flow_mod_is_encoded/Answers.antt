use Rattle.of_messages.specs.{Written.flow_mod_bytes, declared.message.Message.TheVariants.FlowMod as IsFlowMod}
use Rattle.of_laws.proofs.{Only.only, WrittenRequests.flow_mod_encoded}
use Rattle.of_laws.proofs.written_messages.written_flow_mod_is_encoded.Goals as goal

pub returns-clause-encoded : goal.returns-clause-encoded
returns-clause-encoded c = flow_mod_encoded

pub returns-clause-read : goal.returns-clause-read
returns-clause-read c xid m x fits valid match kept fit none = only xid (IsFlowMod m) (flow_mod_bytes xid m) (flow_mod_encoded xid m x fits valid match kept fit none)
