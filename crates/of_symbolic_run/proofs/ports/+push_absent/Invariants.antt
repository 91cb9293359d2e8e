use Rattle.of_symbolic_run.proofs.ports.+push_absent.Given as goal

abbrev pub decreases-push_absent : goal.decreases-push_absent
decreases-push_absent l = l.low_bits
