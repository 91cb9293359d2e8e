use Rattle.std.{specs.Prelude.nat_le, specs.Prelude.length, specs.List.list_all, proofs.Common.false, proofs.lemmas.Bool.and_parts}
use Rattle.of_actions.specs.Supported.{is_supported}
use Rattle.of_text.proofs.KeptLemmas.{actions_fit}
use Rattle.of_text.proofs.kept.bucket_text.Goals as goal

pub returns-clause-fits : goal.returns-clause-fits
returns-clause-fits c =
    let actions = c.args.bucket.now.actions in
    let served = (and_parts (nat_le (length actions) 64) (list_all (is_supported false) actions) c.requires).1 in
    (c.bucket_head.ensures.fits, rw c.in_ok-actions_of.ensures (actions_fit false actions served))
