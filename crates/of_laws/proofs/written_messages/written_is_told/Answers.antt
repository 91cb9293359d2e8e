use Rattle.of_messages.specs.Roles.{generation_number}
use Rattle.of_laws.proofs.WrittenTold.{hello_told, error_told, echo_told, features_told, config_told, packet_told, removed_told, port_told, barrier_told, role_told, async_told}
use Rattle.of_laws.proofs.written_messages.written_is_told.Goals as goal

pub returns-clause-hello : goal.returns-clause-hello
returns-clause-hello c = hello_told

pub returns-clause-error : goal.returns-clause-error
returns-clause-error c = error_told

pub returns-clause-echo_reply : goal.returns-clause-echo_reply
returns-clause-echo_reply c = echo_told

pub returns-clause-features_reply : goal.returns-clause-features_reply
returns-clause-features_reply c = features_told

pub returns-clause-config_reply : goal.returns-clause-config_reply
returns-clause-config_reply c = config_told

pub returns-clause-packet_in : goal.returns-clause-packet_in
returns-clause-packet_in c = packet_told

pub returns-clause-flow_removed : goal.returns-clause-flow_removed
returns-clause-flow_removed c = removed_told

pub returns-clause-port_status : goal.returns-clause-port_status
returns-clause-port_status c = port_told

pub returns-clause-barrier_reply : goal.returns-clause-barrier_reply
returns-clause-barrier_reply c = barrier_told

pub returns-clause-role_reply : goal.returns-clause-role_reply
returns-clause-role_reply c xid role generation x fits = role_told xid role (generation_number generation) x fits

pub returns-clause-async_reply : goal.returns-clause-async_reply
returns-clause-async_reply c = async_told
