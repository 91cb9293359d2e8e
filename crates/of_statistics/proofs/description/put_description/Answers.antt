use Rattle.of_messages.proofs.Appended.{five_or}
use Rattle.of_statistics.specs.Descriptions.{description}
use Rattle.of_statistics.proofs.description.put_description.Goals as goal

pub returns : goal.returns
unfolding description
returns c = five_or c.put_padded-5.result _ _ _ _ _ _ _ c.in_ok-put_padded.ensures c.in_ok-put_padded-2.ensures c.in_ok-put_padded-3.ensures c.in_ok-put_padded-4.ensures c.put_padded-5.ensures
