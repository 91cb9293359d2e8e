use Rattle.of_hints.proofs.SentenceLemmas.{all_said}
use Rattle.of_hints.proofs.laws.refusals_have_sentences.Goals as goal

pub returns : goal.returns
returns c = all_said
