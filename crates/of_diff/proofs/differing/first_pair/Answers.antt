use Rattle.of_diff.proofs.differing.first_pair.Goals as goal

pub returns-clause-holds : goal.returns-clause-holds
returns-clause-holds g c = λ v. record {
  at = λ frame port is within. (c.in_ok-received_state.ensures.at _ frame port, c.in_ok-received_state-2.ensures.at v frame port);
  received = c.in_ok-received_frames.ensures.received;
}
