use Rattle.of_messages.{specs.Written.features_body, proofs.Appended.five_or}
use Rattle.of_messages.proofs.features.put_features.Goals as goal

pub returns : goal.returns
unfolding features_body
returns c = five_or c.put_u32-3.result _ _ _ _ _ _ _ c.in_ok-put_u64.ensures c.in_ok-put_u32.ensures c.in_ok-extend_from_slice.ensures.items c.in_ok-put_u32-2.ensures c.put_u32-3.ensures
