use Rattle.std.proofs.Common.{◌∙◌}
use Rattle.of_shadowing.proofs.ListingLemmas.{among}
use Rattle.of_shadowing.proofs.listing.are_words_among.Goals as goal

pub returns : goal.returns
returns c = c.are_among.ensures ∙ among c.args.words.now c.args.others.now
