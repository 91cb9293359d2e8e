use Rattle.of_explain.proofs.ToldLemmas.{each_told}
use Rattle.of_explain.proofs.laws.each_message_is_told.Goals as goal

pub returns : goal.returns
returns c = each_told
