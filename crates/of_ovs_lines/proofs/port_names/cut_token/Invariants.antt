use Rattle.std.proofs.Common.{◌≡◌, ◌++◌, take, drop, false}
use Rattle.of_ovs_lines.specs.PortNames.{after_token, end_in, token_in}
use Rattle.of_ovs_lines.proofs.port_names.cut_token.Given as goal

abbrev pub invariant-loop-i : goal.invariant-loop-i
invariant-loop-i l = record {
  word : token_in false l.text ≡ take l.i l.text ++ token_in l.quoted (drop l.i l.text);
  end : end_in false l.text ≡ end_in l.quoted (drop l.i l.text);
  rest : after_token false l.text ≡ after_token l.quoted (drop l.i l.text);
}
