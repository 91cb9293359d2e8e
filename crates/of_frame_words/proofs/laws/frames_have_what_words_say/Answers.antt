use Rattle.of_frame_words.proofs.LawLemmas.{has_what_is_said}
use Rattle.of_frame_words.proofs.laws.frames_have_what_words_say.Goals as goal

pub returns : goal.returns
returns c = has_what_is_said
