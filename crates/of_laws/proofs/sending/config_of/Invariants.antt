use Rattle.std.proofs.Common.{◌≡◌, drop}
use Rattle.of_laws.specs.Sending.{IsReady, config_by, config_from}
use Rattle.of_laws.proofs.sending.config_of.Given as goal

abbrev pub invariant-loop-message : goal.invariant-loop-message
invariant-loop-message l = record {
  place : l.place ≡ l.message-index;
  ready : IsReady l.switch;
  gives : config_from l.place (drop l.message-index l.messages) l.switch ≡ config_by l.messages;
}
