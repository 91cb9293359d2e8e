use Rattle.of_switch_tests.proofs.table.modify_to.Goals as goal

pub modify-requires-clause-fit : goal.modify-requires-clause-fit
modify-requires-clause-fit g c = λ k _. c.requires k
