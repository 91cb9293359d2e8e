use Rattle.std.proofs.Common.{refl}
use Rattle.of_alike.proofs.EmittingLemmas.{both_outputs}
use Rattle.of_alike.proofs.emissions.is_same_emission.Goals as goal

pub returns-then-send_alike-clause-same : goal.returns-then-send_alike-clause-same
returns-then-send_alike-clause-same c = λ same.
    both_outputs c.args.a.now c.args.b.now c.in-Output-Output.packet c.in-Output-Output.other c.in-Output-Output.port c.in-Output-Output.by c.in-Output-Output.max_len c.in-Output-Output.most
    c.in-Output-Output.is-0 c.in-Output-Output.is-1 (c.if-send_alike.ensures.same refl) (c.is_same_output.ensures.same same)
