use Rattle.of_headers.proofs.SeenLemmas.{each_seen, value_seen}
use Rattle.of_headers.proofs.key.FieldKey.is_under.Goals as goal

pub returns : goal.returns
returns c = λ is.
    let seen = c.are_seen.ensures in
    value_seen c.args.self.now c.args.key.now c.args.mask.now (seen.present is) (each_seen _ _ _ (seen.ports is) (seen.outer is) (seen.network is) (seen.others is))
